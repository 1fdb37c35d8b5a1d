-- What a server keeps of the first statement of a number counts well: so it is before a new number, and so it stays by late
-- deliveries and by each exchange that plans no other count.
use Rattle.std.proofs.Common.{◌≡◌, ℕ, Bool, true, false, List, [], ◌∷◌, ◌++◌, refl, sym, ap, subst, ◌∙◌, inl, inr, arith}
use Rattle.std.specs.Prelude.{ℤ, pos, ◌<ℤ◌, ◌≤ℤ◌, int_lt, Option, None, Some, slice_get}
use Rattle.std.specs.FinMap as finite
use Rattle.std.specs.Ordering.{nat_cmp}
use Rattle.std.proofs.lemmas.Int.{ints}
use Rattle.driver_link.specs.declared.machine.Counted.{Counted}
use Rattle.driver_link.specs.declared.machine.Failing.{Failing}
use Rattle.driver_link.specs.declared.machine.Item.{Item}
use Rattle.driver_link.specs.declared.machine.Item.TheVariants.{Serve, Lost, Late, ReplyLost, Interrupted, Refused, Reauthenticate}
use Rattle.driver_link.specs.declared.machine.KnownSession.{KnownSession}
use Rattle.driver_link.specs.declared.machine.PlacedWrite.{PlacedWrite}
use Rattle.driver_link.specs.declared.machine.Planned.{Planned}
use Rattle.driver_link.specs.declared.machine.Scheduled.{Scheduled}
use Rattle.driver_link.specs.declared.machine.Send.{Send}
use Rattle.driver_link.specs.declared.machine.Server.{Server}
use Rattle.driver_link.specs.declared.machine.Statement.{Statement}
use Rattle.driver_link.specs.declared.machine.Statement.TheVariants.{Kept, Ran, Failed}
use Rattle.driver_link.specs.declared.machine.WriteKind.{WriteKind}
use Rattle.driver_link.specs.declared.machine.WriteKind.TheVariants as kind
use Rattle.driver_link.specs.Cases.{outside, is_ordered, writes_of}
use Rattle.driver_link.specs.Exchange.{after_picks, arrived, delivered, exchanged, interrupted, met, plan_of, refused_labels, traced}
use Rattle.driver_link.specs.Interrupting.{interrupted_in, told_of_error}
use Rattle.driver_link.specs.Retried.{CountsBy, CountsFirst, CountsWell, IsGreatest, IsNewNumber, KeepsWell}
use Rattle.driver_link.specs.Serving.{Plan, usual, served, served_in}
use Rattle.driver_link.specs.Sessions.{is_below}
use Rattle.driver_link.specs.Settled.{IsEither, IsOrderly, IsPlain, IsSettled, IsUnnumbered, MayJoin}
use Rattle.driver_link.specs.Statements.{Results, code_at, counts_by_plan, front_to_run, kept_with, planned_at, statement_of, statements, usual_modified}
use Rattle.driver_link.proofs.CursorSends.{interrupted_aside, refused_aside, served_aside}
use Rattle.driver_link.proofs.KeptStatements.{kept_from}
use Rattle.driver_link.proofs.Lists.{has_last, none_is_some, some_is_some}
use Rattle.driver_link.proofs.OrderlyTraces.{last_or}
use Rattle.driver_link.proofs.Plain.{begun_done, below_nothing, error_nothing, interrupted_above, interrupted_below, interrupted_runs, known, none_known, plain_known, planned, served_above, served_runs}
use Rattle.driver_link.proofs.ServedSends.{IsTaken, Runs, id_cases, id_other, id_same, taken_is}
use Rattle.driver_link.proofs.SettledExchanges.{after_settled, less_settled, longer, orderly_front, without_waiting}
use Rattle.driver_link.proofs.Unnumbered.{begun_only, error_free, interrupted_free, interrupted_runs_only, planned_only, served_free, served_runs_only}

-- without a plan no number is negative
usual_natural : (other : WriteKind) → (pos 0 ≤ℤ pos 1) × (pos 0 ≤ℤ usual_modified other)
usual_natural kind.Insert = (omega (arith, ints), omega (arith, ints))
usual_natural kind.Update = (omega (arith, ints), omega (arith, ints))
usual_natural kind.Delete = (omega (arith, ints), omega (arith, ints))
usual_natural kind.FindAndModify = (omega (arith, ints), omega (arith, ints))

-- without a plan a first statement counts well
pub usual_counts : (does : WriteKind) → CountsFirst does []
usual_counts kind.Insert = λ other. refl
usual_counts kind.Update = usual_natural
usual_counts kind.Delete = usual_natural
usual_counts kind.FindAndModify = usual_natural

-- a first statement that ran counts well
first_ran : (does : WriteKind) (results : List Planned) (fail : List Failing) (ordered : Bool) (kept : Results) (writes : List PlacedWrite) (result : Counted) → CountsFirst does results
    → slice_get (statements results fail ordered kept 0 writes) 0 ≡ Some (Ran result) → CountsWell does result
unfolding statements
first_ran does results fail ordered kept [] result well is = absurd (none_is_some (Ran result) is)
first_ran does results fail ordered kept (write ∷ writes) result well is =
    ran_one (finite.get kept 0) (code_at fail 0) (counts_by_plan write.written.kind (planned_at results 0)) (well write.written.kind) (some_is_some _ (Ran result) is)
  where
    ran_one : (found : Option Counted) (code : Option ℤ) (now : Counted) → CountsWell does now → statement_of found code now ≡ Ran result → CountsWell does result
    ran_one (Some other) code now one is = absurd (let e : ◌≡◌ {A = Statement} (Kept other) (Ran result) = is in cc)
    ran_one None (Some code) now one is = absurd (let e : ◌≡◌ {A = Statement} (Failed code) (Ran result) = is in cc)
    ran_one None None now one is = let same : now ≡ result = cc is in subst (CountsWell does) same one

-- what is kept of a session that was taken counts well
pub taken_well : (does : WriteKind) (id : List ℕ) (number : ℤ) (server : Server) (known : KnownSession) → IsTaken number (finite.get server.sessions id) known → KeepsWell does id number server
    → (result : Counted) → finite.get known.kept 0 ≡ Some result → CountsWell does result
taken_well does id number server known is_taken keeps result is = elim is_taken.is [
  | inl before ↦ keeps known result before is_taken.greatest is
  | inr anew ↦ absurd (none_is_some result (sym (finite.get-empty nat_cmp 0) ∙ ap (λ k. finite.get k.kept 0) (sym anew.0) ∙ is))
]

module _ (does : WriteKind) (id : List ℕ) (number : ℤ) where
  -- the sessions alone decide what is kept
  same_keep : (old now : Server) → now.sessions ≡ old.sessions → KeepsWell does id number old → KeepsWell does id number now
  same_keep old now same keeps known result is = keeps known result (ap (λ sessions. finite.get sessions id) (sym same) ∙ is)

  -- statements that run under a number keep what counts well, where the first does
  runs_keep : (other : List ℕ) (sent : ℤ) (known : KnownSession) (done : List Statement) (send : Send) (old now : Server)
      → IsTaken sent (finite.get old.sessions other) known → ((result : Counted) → slice_get done 0 ≡ Some (Ran result) → CountsWell does result)
      → Runs other sent known done send old now → KeepsWell does id number old → KeepsWell does id number now
  runs_keep other sent known done send old now is_taken counts runs keeps found result is greatest kept = elim (id_cases id other) [
    | inl same ↦
        let after : finite.get now.sessions other ≡ Some runs.after
        = ap (λ sessions. finite.get sessions other) runs.sessions ∙ id_same old.sessions other runs.after in
        let here : found ≡ runs.after = some_is_some found runs.after (sym is ∙ ap (λ i. finite.get now.sessions i) same ∙ after) in
        let sent_is : sent ≡ number = sym is_taken.greatest ∙ sym runs.greatest ∙ ap (λ k. k.greatest) (sym here) ∙ greatest in
        let keeps_here : KeepsWell does other sent old = subst (λ i. KeepsWell does i sent old) same (subst (λ n. KeepsWell does id n old) (sym sent_is) keeps) in
        by_kept keeps_here (sym (ap (λ k. finite.get k 0) runs.kept) ∙ ap (λ k. finite.get k.kept 0) (sym here) ∙ kept)
    | inr differs ↦
        keeps found result (sym (ap (λ sessions. finite.get sessions id) runs.sessions ∙ id_other old.sessions other runs.after id differs) ∙ is) greatest kept
  ]
    where
      by_kept : KeepsWell does other sent old → finite.get (kept_with known.kept 0 done) 0 ≡ Some result → CountsWell does result
      by_kept keeps_here kept_now = elim (kept_from known.kept 0 done 0 result kept_now) [
        | inl before ↦ taken_well does other sent old known is_taken keeps_here result before
        | inr ran ↦
            let first : ran.0 ≡ 0 = omega (arith, ran.1) in
            counts result (ap (λ k. slice_get done k) (sym first) ∙ ran.2)
      ]

  -- what a send under a number makes of it
  module _ (send : Send) (plain : IsPlain send) (server : Server) (trace : List Send) (settled : IsSettled trace server) (keeps : KeepsWell does id number server) where
    planned_keep : (plan : Plan) → CountsFirst does plan.results → is_below plain.number (finite.get server.sessions plain.id) ≡ false → KeepsWell does id number (served plan server send)
    unfolding known planned
    planned_keep plan one above =
        let done = planned send plain server plan in
        subst (KeepsWell does id number) (sym (served_above send plain server plan above))
        (runs_keep plain.id plain.number (plain_known plain.id plain.number server) done send server (served_in outside done plan.page server send)
        (taken_is plain.number (finite.get server.sessions plain.id) above)
        (λ result ran. first_ran does plan.results plan.fail (is_ordered send.body) (plain_known plain.id plain.number server).kept (writes_of send) result one ran)
        (served_runs send plain server done plan.page (none_known send plain server trace settled above)) keeps)

    served_plain_keep : (plan : Plan) → CountsFirst does plan.results → KeepsWell does id number (served plan server send)
    served_plain_keep plan one =
        elim (is_below plain.number (finite.get server.sessions plain.id))
        as (λ b. is_below plain.number (finite.get server.sessions plain.id) ≡ b → KeepsWell does id number (served plan server send)) [
          | true ↦ λ below. subst (KeepsWell does id number) (sym (below_nothing send plain server plan below)) keeps
          | false ↦ λ above. planned_keep plan one above
        ] refl

    begun_keep : (most : ℕ) (labels : List (List ℕ)) → is_below plain.number (finite.get server.sessions plain.id) ≡ false → KeepsWell does id number (interrupted most labels server send)
    unfolding known begun_done
    begun_keep most labels above =
        let done = begun_done send plain server most in
        let kept = (plain_known plain.id plain.number server).kept in
        subst (KeepsWell does id number) (sym (interrupted_above send plain server most labels above))
        (runs_keep plain.id plain.number (plain_known plain.id plain.number server) done send server (interrupted_in outside done server send)
        (taken_is plain.number (finite.get server.sessions plain.id) above)
        (λ result ran. first_ran does [] [] false kept (front_to_run kept 0 most (writes_of send)) result (usual_counts does) ran)
        (interrupted_runs send plain server done (none_known send plain server trace settled above)) keeps)

    interrupted_plain_keep : (most : ℕ) (labels : List (List ℕ)) → KeepsWell does id number (interrupted most labels server send)
    interrupted_plain_keep most labels =
        elim (is_below plain.number (finite.get server.sessions plain.id))
        as (λ b. is_below plain.number (finite.get server.sessions plain.id) ≡ b → KeepsWell does id number (interrupted most labels server send)) [
          | true ↦ λ below. subst (KeepsWell does id number) (sym (interrupted_below send plain server most labels below)) keeps
          | false ↦ λ above. begun_keep most labels above
        ] refl

  -- and one without
  module _ (send : Send) (free : IsUnnumbered send) (server : Server) (keeps : KeepsWell does id number server) where
    served_free_keep : (plan : Plan) → KeepsWell does id number (served plan server send)
    served_free_keep plan =
        let done = planned_only send free server plan in
        let runs = served_runs_only send free server done plan.page in
        subst (KeepsWell does id number) (sym (served_free send free server plan))
        (same_keep server (served_in outside done plan.page server send) runs.sessions keeps)

    interrupted_free_keep : (most : ℕ) (labels : List (List ℕ)) → KeepsWell does id number (interrupted most labels server send)
    interrupted_free_keep most labels =
        let done = begun_only send free server most in
        let runs = interrupted_runs_only send free server done in
        subst (KeepsWell does id number) (sym (interrupted_free send free server most labels))
        (same_keep server (interrupted_in outside done server send) runs.sessions keeps)

  module _ (send : Send) (is_either : IsEither send) (server : Server) (trace : List Send) (settled : IsSettled trace server) (keeps : KeepsWell does id number server) where
    served_keep : (plan : Plan) → CountsFirst does plan.results → KeepsWell does id number (served plan server send)
    served_keep plan one = elim is_either [
      | inl plain ↦ served_plain_keep send plain server trace settled keeps plan one
      | inr other ↦ elim other [
        | inl free ↦ served_free_keep send free server keeps plan
        | inr aside ↦ same_keep server (served plan server send) (served_aside send aside server plan).sessions keeps
      ]
    ]

    interrupted_keep : (most : ℕ) (labels : List (List ℕ)) → KeepsWell does id number (interrupted most labels server send)
    interrupted_keep most labels = elim is_either [
      | inl plain ↦ interrupted_plain_keep send plain server trace settled keeps most labels
      | inr other ↦ elim other [
        | inl free ↦ interrupted_free_keep send free server keeps most labels
        | inr aside ↦ same_keep server (interrupted most labels server send) (interrupted_aside send aside server most labels).sessions keeps
      ]
    ]

    refused_keep : (labels : List (List ℕ)) → KeepsWell does id number (told_of_error labels server send)
    refused_keep labels = elim is_either [
      | inl plain ↦ subst (KeepsWell does id number) (sym (error_nothing send plain server labels server)) keeps
      | inr other ↦ elim other [
        | inl free ↦ subst (KeepsWell does id number) (sym (error_free send free server labels server)) keeps
        | inr aside ↦ same_keep server (told_of_error labels server send) (refused_aside send aside server labels).sessions keeps
      ]
    ]

    met_keep : (item : Item) → CountsBy does item → KeepsWell does id number (met server send item)
    unfolding met
    met_keep (Serve results fail concern page) one = served_keep (plan_of results fail concern page) one
    met_keep Lost one = keeps
    met_keep Late one = keeps
    met_keep ReplyLost one = served_keep usual (usual_counts does)
    met_keep (Interrupted most code labels) one = interrupted_keep most labels
    met_keep (Refused code labels) one = refused_keep (refused_labels labels server send)
    met_keep Reauthenticate one = keeps

  arrived_keep : (trace : List Send) (server : Server) (at : ℕ) (found : Option (Option Send)) → IsOrderly trace → slice_get server.waiting at ≡ found → IsSettled trace server
      → KeepsWell does id number server → KeepsWell does id number (arrived server at found)
  unfolding arrived
  arrived_keep trace server at None orderly is settled keeps = keeps
  arrived_keep trace server at (Some None) orderly is settled keeps = keeps
  arrived_keep trace server at (Some (Some send)) orderly is settled keeps =
      served_keep send (orderly.either send (settled.waiting at send is)) (without_waiting server at) trace (less_settled trace server at settled) keeps usual (usual_counts does)

  delivered_keep : (trace : List Send) (server : Server) (pick : ℕ) → IsOrderly trace → IsSettled trace server → KeepsWell does id number server → KeepsWell does id number (delivered server pick)
  unfolding delivered
  delivered_keep trace server pick orderly settled keeps = arrived_keep trace server pick (slice_get server.waiting pick) orderly refl settled keeps

  -- late deliveries keep it
  pub after_keep : (trace : List Send) (server : Server) (picks : List ℕ) → IsOrderly trace → IsSettled trace server → KeepsWell does id number server
      → KeepsWell does id number (after_picks server picks)
  unfolding after_picks
  after_keep trace server [] orderly settled keeps = keeps
  after_keep trace server (pick ∷ picks) orderly settled keeps =
      after_keep trace (delivered server pick) picks orderly (after_settled trace server (pick ∷ []) orderly settled) (delivered_keep trace server pick orderly settled keeps)

  -- so does an exchange by whose item a first statement counts well
  pub exchanged_keep : (trace : List Send) (server : Server) (send : Send) (step : Scheduled) → MayJoin trace send → IsSettled trace server → CountsBy does step.item
      → KeepsWell does id number server → KeepsWell does id number (exchanged server send step)
  unfolding exchanged
  exchanged_keep trace server send step orderly settled one keeps =
      let front = orderly_front trace send orderly in
      let came = after_settled trace server step.deliver front settled in
      met_keep send (orderly.either send (has_last trace send)) (traced (after_picks server step.deliver) send) (trace ++ send ∷ [])
      (longer trace send orderly (after_picks server step.deliver) came) (after_keep trace server step.deliver front settled keeps) step.item one

  -- nothing is kept of a number that is new
  pub new_keeps : (trace : List Send) (server : Server) → IsSettled trace server → IsNewNumber trace id number → KeepsWell does id number server
  new_keeps trace server settled new known result is greatest kept =
      let session = settled.sessions id known is in
      absurd (differ known.greatest number (new session.newest known.greatest session.sent session.under) greatest)
    where
      differ : (a b : ℤ) → a <ℤ b → a ≡ b → ⊥
      differ a b less same = omega (arith, ints)

  -- the greatest number that was sent is not too old
  pub greatest_above : (trace : List Send) (server : Server) → IsSettled trace server → IsGreatest trace id number → is_below number (finite.get server.sessions id) ≡ false
  unfolding is_below
  greatest_above trace server settled greatest = by_known (finite.get server.sessions id) refl
    where
      not_less : (a b : ℤ) → a ≤ℤ b → int_lt b a ≡ false
      not_less a b most = grind (arith, ints)

      by_known : (found : Option KnownSession) → finite.get server.sessions id ≡ found → is_below number found ≡ false
      by_known None is = refl
      by_known (Some known) is =
          let session = settled.sessions id known is in not_less known.greatest number (greatest session.newest known.greatest session.sent session.under)

-- a number that is new is the greatest once it is sent
pub new_is_greatest : (trace : List Send) (id : List ℕ) (number : ℤ) → IsNewNumber trace id number → IsGreatest trace id number
new_is_greatest trace id number new other sent has under = weaken sent number (new other sent has under)
  where
    weaken : (a b : ℤ) → a <ℤ b → a ≤ℤ b
    weaken a b less = omega (arith, ints)

pub sent_is_greatest : (trace : List Send) (send : Send) (plain : IsPlain send) → IsGreatest trace plain.id plain.number → IsGreatest (trace ++ send ∷ []) plain.id plain.number
sent_is_greatest trace send plain greatest other sent has under = elim (last_or trace send other has) [
  | inl before ↦ greatest other sent before under
  | inr same ↦ itself sent plain.number (some_is_some sent plain.number (sym under.numbered ∙ ap (λ s. s.number) (sym same) ∙ plain.numbered))
]
  where
    itself : (a b : ℤ) → a ≡ b → a ≤ℤ b
    itself a b same = omega (arith, ints)
