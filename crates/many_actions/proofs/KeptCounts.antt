-- What a server keeps under a number counts in a certain way, each document of an insert as one say: so it is before a new number, and so
-- it stays by late deliveries and by each exchange whose plan has each statement count so.
use Rattle.std.proofs.Common.{◌≡◌, ℕ, zero, suc, ◌+◌, Bool, true, false, List, [], ◌∷◌, ◌++◌, refl, sym, ap, subst, ◌∙◌, inl, inr, arith}
use Rattle.std.specs.Prelude.{ℤ, ◌<ℤ◌, ◌&&◌, Option, None, Some, slice_get, if◌then◌else◌}
use Rattle.std.specs.FinMap as finite
use Rattle.std.specs.Ordering.{nat_cmp}
use Rattle.std.proofs.lemmas.Int.{ints}
use Rattle.driver_link.specs.declared.machine.Counted.{Counted}
use Rattle.driver_link.specs.declared.machine.Failing.{Failing}
use Rattle.driver_link.specs.declared.machine.Item.{Item}
use Rattle.driver_link.specs.declared.machine.Item.TheVariants.{Serve, Lost, Late, ReplyLost, Interrupted, Refused, Reauthenticate}
use Rattle.driver_link.specs.declared.machine.KnownSession.{KnownSession}
use Rattle.driver_link.specs.declared.machine.PlacedWrite.{PlacedWrite}
use Rattle.driver_link.specs.declared.machine.Planned.{Planned}
use Rattle.driver_link.specs.declared.machine.Scheduled.{Scheduled}
use Rattle.driver_link.specs.declared.machine.Send.{Send}
use Rattle.driver_link.specs.declared.machine.Server.{Server}
use Rattle.driver_link.specs.declared.machine.Statement.{Statement}
use Rattle.driver_link.specs.declared.machine.Statement.TheVariants.{Kept, Ran, Failed}
use Rattle.driver_link.specs.declared.machine.WriteKind.{WriteKind}
use Rattle.driver_link.specs.declared.machine.WriteKind.TheVariants as kind
use Rattle.driver_link.specs.Cases.{outside, is_ordered, writes_of}
use Rattle.driver_link.specs.Exchange.{after_picks, arrived, delivered, exchanged, interrupted, met, plan_of, refused_labels, traced}
use Rattle.driver_link.specs.Interrupting.{interrupted_in, told_of_error}
use Rattle.driver_link.specs.Retried.{IsGreatest, IsNewNumber}
use Rattle.driver_link.specs.Serving.{Plan, usual, served, served_in}
use Rattle.driver_link.specs.Sessions.{is_below}
use Rattle.driver_link.specs.Settled.{IsEither, IsOrderly, IsPlain, IsSettled, IsUnnumbered, MayJoin}
use Rattle.driver_link.specs.Statements.{Results, code_at, counts_by_plan, front_to_run, is_failed, kept_with, planned_at, statement_at, statement_of, statements}
use Rattle.driver_link.proofs.CursorSends.{interrupted_aside, refused_aside, served_aside}
use Rattle.driver_link.proofs.Keeping.{greatest_above, new_is_greatest, sent_is_greatest}
use Rattle.driver_link.proofs.KeptStatements.{kept_from}
use Rattle.driver_link.proofs.Lists.{has_last, none_is_some, some_is_some}
use Rattle.driver_link.proofs.Plain.{begun_done, below_nothing, error_nothing, interrupted_above, interrupted_below, interrupted_runs, known, none_known, plain_known, planned, served_above, served_runs}
use Rattle.driver_link.proofs.OrderlyTraces.{orderly_again}
use Rattle.driver_link.proofs.Replays.{exchanged_trace}
use Rattle.driver_link.proofs.ServedSends.{IsTaken, Runs, id_cases, id_other, id_same, taken_is}
use Rattle.driver_link.proofs.SettledExchanges.{after_settled, exchanged_settled, less_settled, longer, orderly_front, without_waiting}
use Rattle.driver_link.proofs.Unnumbered.{begun_only, error_free, interrupted_free, interrupted_runs_only, planned_only, served_free, served_runs_only}

-- each result that a server keeps under a number of a session is such
abbrev pub KeepsEach : (Counted → Type 0) → List ℕ → ℤ → Server → Type 0
KeepsEach P id number server = (known : KnownSession) (at : ℕ) (result : Counted) → finite.get server.sessions id ≡ Some known → known.greatest ≡ number
    → finite.get known.kept at ≡ Some result → P result

-- by a plan each statement counts such a result, whichever kind it is of
abbrev pub PlansEach : (Counted → Type 0) → List Planned → Type 0
PlansEach P results = (does : WriteKind) (at : ℕ) → P (counts_by_plan does (planned_at results at))

-- an item by which statements that run count such results
abbrev pub RunsEach : (Counted → Type 0) → Item → Type 0
RunsEach P (Serve results fail concern page) = PlansEach P results
RunsEach P _ = Unit {0}

-- results of a kind, of which those are that statements count without a plan
module _ (P : Counted → Type 0) (by_usual : PlansEach P []) where
  -- a statement that ran counts what it was to count
  ran_such : (found : Option Counted) (code : Option ℤ) (now result : Counted) → P now → statement_of found code now ≡ Ran result → P result
  ran_such (Some other) code now result one is = absurd (let e : ◌≡◌ {A = Statement} (Kept other) (Ran result) = is in cc)
  ran_such None (Some code) now result one is = absurd (let e : ◌≡◌ {A = Statement} (Failed code) (Ran result) = is in cc)
  ran_such None None now result one is = let same : now ≡ result = cc is in subst P same one

  -- behind a statement the others stand, or none does
  behind_ran : (stops : Bool) (rest : List Statement) (at : ℕ) (result : Counted) → (slice_get rest at ≡ Some (Ran result) → P result)
      → slice_get (if stops then [] else rest) at ≡ Some (Ran result) → P result
  behind_ran true rest at result one is = absurd (none_is_some (Ran result) is)
  behind_ran false rest at result one is = one is

  -- a statement that ran counts so, at whatever position, where each statement that the plan speaks of does
  pub ran_each : (results : List Planned) (fail : List Failing) (ordered : Bool) (kept : Results) (from : ℕ) (writes : List PlacedWrite) (at : ℕ) (result : Counted) → PlansEach P results
      → slice_get (statements results fail ordered kept from writes) at ≡ Some (Ran result) → P result
  unfolding statements
  ran_each results fail ordered kept from [] at result one is = absurd (none_is_some (Ran result) is)
  ran_each results fail ordered kept from (write ∷ writes) zero result one is =
      ran_such (finite.get kept from) (code_at fail from) (counts_by_plan write.written.kind (planned_at results from)) result (one write.written.kind from) (some_is_some _ (Ran result) is)
  ran_each results fail ordered kept from (write ∷ writes) (suc at) result one is =
      behind_ran (ordered && is_failed (statement_at results fail kept from write)) (statements results fail ordered kept (from + 1) writes) at result
      (λ ran. ran_each results fail ordered kept (from + 1) writes at result one ran) is

  -- what is kept of a session that was taken counts so
  pub taken_each : (id : List ℕ) (number : ℤ) (server : Server) (known : KnownSession) → IsTaken number (finite.get server.sessions id) known → KeepsEach P id number server
      → (at : ℕ) (result : Counted) → finite.get known.kept at ≡ Some result → P result
  taken_each id number server known is_taken keeps at result is = elim is_taken.is [
    | inl before ↦ keeps known at result before is_taken.greatest is
    | inr anew ↦ absurd (none_is_some result (sym (finite.get-empty nat_cmp at) ∙ ap (λ k. finite.get k.kept at) (sym anew.0) ∙ is))
  ]

  module _ (id : List ℕ) (number : ℤ) where
    -- the sessions alone decide what is kept
    same_keep_each : (old now : Server) → now.sessions ≡ old.sessions → KeepsEach P id number old → KeepsEach P id number now
    same_keep_each old now same keeps known at result is = keeps known at result (ap (λ sessions. finite.get sessions id) (sym same) ∙ is)

    -- statements that run under a number keep what counts so, where those that ran do
    runs_keep_each : (other : List ℕ) (sent : ℤ) (known : KnownSession) (done : List Statement) (send : Send) (old now : Server)
        → IsTaken sent (finite.get old.sessions other) known → ((at : ℕ) (result : Counted) → slice_get done at ≡ Some (Ran result) → P result)
        → Runs other sent known done send old now → KeepsEach P id number old → KeepsEach P id number now
    runs_keep_each other sent known done send old now is_taken counts runs keeps found at result is greatest kept = elim (id_cases id other) [
      | inl same ↦
          let after : finite.get now.sessions other ≡ Some runs.after
          = ap (λ sessions. finite.get sessions other) runs.sessions ∙ id_same old.sessions other runs.after in
          let here : found ≡ runs.after = some_is_some found runs.after (sym is ∙ ap (λ i. finite.get now.sessions i) same ∙ after) in
          let sent_is : sent ≡ number = sym is_taken.greatest ∙ sym runs.greatest ∙ ap (λ k. k.greatest) (sym here) ∙ greatest in
          let keeps_here : KeepsEach P other sent old = subst (λ i. KeepsEach P i sent old) same (subst (λ n. KeepsEach P id n old) (sym sent_is) keeps) in
          by_kept keeps_here (sym (ap (λ k. finite.get k at) runs.kept) ∙ ap (λ k. finite.get k.kept at) (sym here) ∙ kept)
      | inr differs ↦
          keeps found at result (sym (ap (λ sessions. finite.get sessions id) runs.sessions ∙ id_other old.sessions other runs.after id differs) ∙ is) greatest kept
    ]
      where
        by_kept : KeepsEach P other sent old → finite.get (kept_with known.kept 0 done) at ≡ Some result → P result
        by_kept keeps_here kept_now = elim (kept_from known.kept 0 done at result kept_now) [
          | inl before ↦ taken_each other sent old known is_taken keeps_here at result before
          | inr ran ↦ counts ran.0 result ran.2
        ]

    -- what a send under a number makes of it
    module _ (send : Send) (plain : IsPlain send) (server : Server) (trace : List Send) (settled : IsSettled trace server) (keeps : KeepsEach P id number server) where
      -- its number is not below the greatest
      planned_keep_each : (plan : Plan) → PlansEach P plan.results → is_below plain.number (finite.get server.sessions plain.id) ≡ false → KeepsEach P id number (served plan server send)
      unfolding known planned
      planned_keep_each plan one above =
          let done = planned send plain server plan in
          let kept = (plain_known plain.id plain.number server).kept in
          subst (KeepsEach P id number) (sym (served_above send plain server plan above))
          (runs_keep_each plain.id plain.number (plain_known plain.id plain.number server) done send server (served_in outside done plan.page server send)
          (taken_is plain.number (finite.get server.sessions plain.id) above)
          (λ at result ran. ran_each plan.results plan.fail (is_ordered send.body) kept 0 (writes_of send) at result one ran)
          (served_runs send plain server done plan.page (none_known send plain server trace settled above)) keeps)

      -- it is served by a plan
      served_plain_keep_each : (plan : Plan) → PlansEach P plan.results → KeepsEach P id number (served plan server send)
      served_plain_keep_each plan one =
          elim (is_below plain.number (finite.get server.sessions plain.id))
          as (λ b. is_below plain.number (finite.get server.sessions plain.id) ≡ b → KeepsEach P id number (served plan server send)) [
            | true ↦ λ below. subst (KeepsEach P id number) (sym (below_nothing send plain server plan below)) keeps
            | false ↦ λ above. planned_keep_each plan one above
          ] refl

      -- it is interrupted, and its number is not below the greatest
      begun_keep_each : (most : ℕ) (labels : List (List ℕ)) → is_below plain.number (finite.get server.sessions plain.id) ≡ false
          → KeepsEach P id number (interrupted most labels server send)
      unfolding known begun_done
      begun_keep_each most labels above =
          let done = begun_done send plain server most in
          let kept = (plain_known plain.id plain.number server).kept in
          subst (KeepsEach P id number) (sym (interrupted_above send plain server most labels above))
          (runs_keep_each plain.id plain.number (plain_known plain.id plain.number server) done send server (interrupted_in outside done server send)
          (taken_is plain.number (finite.get server.sessions plain.id) above)
          (λ at result ran. ran_each [] [] false kept 0 (front_to_run kept 0 most (writes_of send)) at result by_usual ran)
          (interrupted_runs send plain server done (none_known send plain server trace settled above)) keeps)

      -- it is interrupted
      interrupted_plain_keep_each : (most : ℕ) (labels : List (List ℕ)) → KeepsEach P id number (interrupted most labels server send)
      interrupted_plain_keep_each most labels =
          elim (is_below plain.number (finite.get server.sessions plain.id))
          as (λ b. is_below plain.number (finite.get server.sessions plain.id) ≡ b → KeepsEach P id number (interrupted most labels server send)) [
            | true ↦ λ below. subst (KeepsEach P id number) (sym (interrupted_below send plain server most labels below)) keeps
            | false ↦ λ above. begun_keep_each most labels above
          ] refl

    -- and one without
    module _ (send : Send) (free : IsUnnumbered send) (server : Server) (keeps : KeepsEach P id number server) where
      -- it is served by a plan
      served_free_keep_each : (plan : Plan) → KeepsEach P id number (served plan server send)
      served_free_keep_each plan =
          let done = planned_only send free server plan in
          let runs = served_runs_only send free server done plan.page in
          subst (KeepsEach P id number) (sym (served_free send free server plan))
          (same_keep_each server (served_in outside done plan.page server send) runs.sessions keeps)

      -- it is interrupted
      interrupted_free_keep_each : (most : ℕ) (labels : List (List ℕ)) → KeepsEach P id number (interrupted most labels server send)
      interrupted_free_keep_each most labels =
          let done = begun_only send free server most in
          let runs = interrupted_runs_only send free server done in
          subst (KeepsEach P id number) (sym (interrupted_free send free server most labels))
          (same_keep_each server (interrupted_in outside done server send) runs.sessions keeps)

    -- what a send with a number or without one makes of it
    module _ (send : Send) (is_either : IsEither send) (server : Server) (trace : List Send) (settled : IsSettled trace server) (keeps : KeepsEach P id number server) where
      -- it is served by a plan
      served_keep_each : (plan : Plan) → PlansEach P plan.results → KeepsEach P id number (served plan server send)
      served_keep_each plan one = elim is_either [
        | inl plain ↦ served_plain_keep_each send plain server trace settled keeps plan one
        | inr other ↦ elim other [
          | inl free ↦ served_free_keep_each send free server keeps plan
          | inr aside ↦ same_keep_each server (served plan server send) (served_aside send aside server plan).sessions keeps
        ]
      ]

      -- it is interrupted
      interrupted_keep_each : (most : ℕ) (labels : List (List ℕ)) → KeepsEach P id number (interrupted most labels server send)
      interrupted_keep_each most labels = elim is_either [
        | inl plain ↦ interrupted_plain_keep_each send plain server trace settled keeps most labels
        | inr other ↦ elim other [
          | inl free ↦ interrupted_free_keep_each send free server keeps most labels
          | inr aside ↦ same_keep_each server (interrupted most labels server send) (interrupted_aside send aside server most labels).sessions keeps
        ]
      ]

      -- it is refused
      refused_keep_each : (labels : List (List ℕ)) → KeepsEach P id number (told_of_error labels server send)
      refused_keep_each labels = elim is_either [
        | inl plain ↦ subst (KeepsEach P id number) (sym (error_nothing send plain server labels server)) keeps
        | inr other ↦ elim other [
          | inl free ↦ subst (KeepsEach P id number) (sym (error_free send free server labels server)) keeps
          | inr aside ↦ same_keep_each server (told_of_error labels server send) (refused_aside send aside server labels).sessions keeps
        ]
      ]

      -- it meets an item by which statements that run count so
      met_keep_each : (item : Item) → RunsEach P item → KeepsEach P id number (met server send item)
      unfolding met
      met_keep_each (Serve results fail concern page) one = served_keep_each (plan_of results fail concern page) one
      met_keep_each Lost one = keeps
      met_keep_each Late one = keeps
      met_keep_each ReplyLost one = served_keep_each usual by_usual
      met_keep_each (Interrupted most code labels) one = interrupted_keep_each most labels
      met_keep_each (Refused code labels) one = refused_keep_each (refused_labels labels server send)
      met_keep_each Reauthenticate one = keeps

    -- a waiting send that arrives keeps it
    arrived_keep_each : (trace : List Send) (server : Server) (at : ℕ) (found : Option (Option Send)) → IsOrderly trace → slice_get server.waiting at ≡ found → IsSettled trace server
        → KeepsEach P id number server → KeepsEach P id number (arrived server at found)
    unfolding arrived
    arrived_keep_each trace server at None orderly is settled keeps = keeps
    arrived_keep_each trace server at (Some None) orderly is settled keeps = keeps
    arrived_keep_each trace server at (Some (Some send)) orderly is settled keeps =
        served_keep_each send (orderly.either send (settled.waiting at send is)) (without_waiting server at) trace (less_settled trace server at settled) keeps usual by_usual

    -- so does one late delivery
    delivered_keep_each : (trace : List Send) (server : Server) (pick : ℕ) → IsOrderly trace → IsSettled trace server → KeepsEach P id number server
        → KeepsEach P id number (delivered server pick)
    unfolding delivered
    delivered_keep_each trace server pick orderly settled keeps = arrived_keep_each trace server pick (slice_get server.waiting pick) orderly refl settled keeps

    -- late deliveries keep it
    pub after_keep_each : (trace : List Send) (server : Server) (picks : List ℕ) → IsOrderly trace → IsSettled trace server → KeepsEach P id number server
        → KeepsEach P id number (after_picks server picks)
    unfolding after_picks
    after_keep_each trace server [] orderly settled keeps = keeps
    after_keep_each trace server (pick ∷ picks) orderly settled keeps =
        after_keep_each trace (delivered server pick) picks orderly (after_settled trace server (pick ∷ []) orderly settled) (delivered_keep_each trace server pick orderly settled keeps)

    -- so does an exchange by whose item statements that run count so
    pub exchanged_keep_each : (trace : List Send) (server : Server) (send : Send) (step : Scheduled) → MayJoin trace send → IsSettled trace server → RunsEach P step.item
        → KeepsEach P id number server → KeepsEach P id number (exchanged server send step)
    unfolding exchanged
    exchanged_keep_each trace server send step orderly settled one keeps =
        let front = orderly_front trace send orderly in
        let came = after_settled trace server step.deliver front settled in
        met_keep_each send (orderly.either send (has_last trace send)) (traced (after_picks server step.deliver) send) (trace ++ send ∷ [])
        (longer trace send orderly (after_picks server step.deliver) came) (after_keep_each trace server step.deliver front settled keeps) step.item one

    -- nothing is kept of a number that is new
    pub new_keeps_each : (trace : List Send) (server : Server) → IsSettled trace server → IsNewNumber trace id number → KeepsEach P id number server
    new_keeps_each trace server settled new known at result is greatest kept =
        let session = settled.sessions id known is in
        absurd (differ known.greatest number (new session.newest known.greatest session.sent session.under) greatest)
      where
        differ : (a b : ℤ) → a <ℤ b → a ≡ b → ⊥
        differ a b less same = omega (arith, ints)

  -- a send under a number may go out, for the first time or again, to a server that keeps such results of it
  pub record MayGoUnder (send : Send) (server : Server) : Type 0 where
    pub plain : IsPlain send
    pub joins : MayJoin server.trace send
    pub settled : IsSettled server.trace server
    pub greatest : IsGreatest server.trace plain.id plain.number
    pub keeps : KeepsEach P plain.id plain.number server

  -- under a number that is new it may
  pub first_under : (server : Server) (send : Send) (plain : IsPlain send) → MayJoin server.trace send → IsSettled server.trace server → IsNewNumber server.trace plain.id plain.number
      → MayGoUnder send server
  first_under server send plain joins settled new = record {
    plain = plain;
    joins = joins;
    settled = settled;
    greatest = new_is_greatest server.trace plain.id plain.number new;
    keeps = new_keeps_each plain.id plain.number server.trace server settled new;
  }

  -- where it met an item by which statements that run count so it may again
  pub again_under : (server : Server) (send : Send) (step : Scheduled) → RunsEach P step.item → MayGoUnder send server → MayGoUnder send (exchanged server send step)
  again_under server send step runs may =
      let id = may.plain.id in
      let number = may.plain.number in
      let now = exchanged server send step in
      let is = sym (exchanged_trace server send step) in
      record {
        plain = may.plain;
        joins = subst (λ t. MayJoin t send) is (orderly_again (server.trace ++ send ∷ []) send (has_last server.trace send) may.plain may.joins);
        settled = subst (λ t. IsSettled t now) is (exchanged_settled server.trace server send step may.joins may.settled);
        greatest = subst (λ t. IsGreatest t id number) is (sent_is_greatest server.trace send may.plain may.greatest);
        keeps = exchanged_keep_each id number server.trace server send step may.joins may.settled runs may.keeps;
      }

  -- its number is not below the greatest of its session, and what is kept of it is such, where it meets its item
  pub record MeetsKept (send : Send) (server : Server) : Type 0 where
    pub plain : IsPlain send
    pub above : is_below plain.number (finite.get server.sessions plain.id) ≡ false
    pub keeps : KeepsEach P plain.id plain.number server

  pub meets_kept : (server : Server) (send : Send) (step : Scheduled) → MayGoUnder send server → MeetsKept send (traced (after_picks server step.deliver) send)
  meets_kept server send step may =
      let id = may.plain.id in
      let number = may.plain.number in
      let front = orderly_front server.trace send may.joins in
      let came = after_settled server.trace server step.deliver front may.settled in
      record {
        plain = may.plain;
        above = greatest_above kind.Insert id number server.trace (after_picks server step.deliver) came may.greatest;
        keeps = after_keep_each id number server.trace server step.deliver front may.settled may.keeps;
      }
