-- The entries of the statements of a send outside transactions: each stands in the log, and where none failed there is one for
-- each write.
use Rattle.std.proofs.Common.{◌≡◌, ℕ, zero, suc, ◌+◌, Bool, true, false, List, [], ◌∷◌, ◌++◌, refl, sym, ap, subst, ◌∙◌, inl, inr, arith}
use Rattle.std.specs.Prelude.{ℤ, ◌&&◌, Option, None, Some, ◌⊎◌, slice_get, if◌then◌else◌}
use Rattle.std.specs.FinMap as finite
use Rattle.std.specs.Ordering.{nat_cmp}
use Rattle.driver_link.specs.declared.machine.Counted.{Counted}
use Rattle.driver_link.specs.declared.machine.Entry.{Entry}
use Rattle.driver_link.specs.declared.machine.Failing.{Failing}
use Rattle.driver_link.specs.declared.machine.Item.TheVariants.{Serve}
use Rattle.driver_link.specs.declared.machine.PlacedWrite.{PlacedWrite}
use Rattle.driver_link.specs.declared.machine.Planned.{Planned}
use Rattle.driver_link.specs.declared.machine.Scheduled.{Scheduled}
use Rattle.driver_link.specs.declared.machine.Send.{Send}
use Rattle.driver_link.specs.declared.machine.Server.{Server}
use Rattle.driver_link.specs.declared.machine.Statement.{Statement}
use Rattle.driver_link.specs.declared.machine.Statement.TheVariants.{Kept, Ran, Failed}
use Rattle.driver_link.specs.Cases.{too_old, outside, case_of, known_of, results_of, is_ordered, writes_of}
use Rattle.driver_link.specs.Exchange.{after_picks, exchanged, met, traced}
use Rattle.driver_link.specs.Serving.{Plan, done_in, served, served_in}
use Rattle.driver_link.specs.Sessions.{is_below}
use Rattle.driver_link.specs.Settled.{Has, IsEither, IsOrderly, IsPlain, IsSettled, IsUnnumbered, MayJoin}
use Rattle.driver_link.specs.Statements.{Results, entry_of, has_failed, is_failed, no_results, statement_at, statements}
use Rattle.driver_link.proofs.CursorSends.{no_writes}
use Rattle.driver_link.proofs.KeptStatements.{FitsKept, Follows, entry_there, follows_statements}
use Rattle.driver_link.proofs.Lists.{has_last, has_right, none_is_some, some_is_some}
use Rattle.driver_link.proofs.Plain.{case_below, known, none_known, planned, results_here, served_above, served_runs}
use Rattle.driver_link.proofs.ServedSends.{Runs, kept_entry, taken_is}
use Rattle.driver_link.proofs.SettledExchanges.{after_settled, longer, orderly_front}
use Rattle.driver_link.proofs.Unnumbered.{planned_only, results_free, served_free, served_runs_only}
use Rattle.driver_ops.specs.Served.{AreEntries, RanOrKept, entries_counted, statements_in}
use Rattle.driver_ops.specs.lawful.Statements.{told_outside}
pub use Rattle.driver_ops.specs.lawful.Statements.{TellsStatements, reply_of_writes}

-- the truth values differ
true_is_false : ◌≡◌ {A = Bool} true false → ⊥
true_is_false is = cc

-- one statement and those after it, of which none failed
entries_by : (session : Option (List ℕ)) (number : Option ℤ) (write : PlacedWrite) (writes : List PlacedWrite) (ordered : Bool) (statement : Statement) (after : List Statement)
    → (has_failed after ≡ false → AreEntries session number writes (entries_counted session number writes after))
    → has_failed (statement ∷ (if ordered && is_failed statement then [] else after)) ≡ false
    → AreEntries session number (write ∷ writes) (entries_counted session number (write ∷ writes) (statement ∷ (if ordered && is_failed statement then [] else after)))
entries_by session number write writes ordered (Failed code) after rest unfailed = absurd (true_is_false unfailed)
entries_by session number write writes true (Kept result) after rest unfailed = (refl, rest unfailed)
entries_by session number write writes false (Kept result) after rest unfailed = (refl, rest unfailed)
entries_by session number write writes true (Ran result) after rest unfailed = (refl, rest unfailed)
entries_by session number write writes false (Ran result) after rest unfailed = (refl, rest unfailed)

-- statements of which none failed have one entry for each write
entries_of_all : (session : Option (List ℕ)) (number : Option ℤ) (results : List Planned) (fail : List Failing) (ordered : Bool) (kept : Results) (at : ℕ) (writes : List PlacedWrite)
    → has_failed (statements results fail ordered kept at writes) ≡ false
    → AreEntries session number writes (entries_counted session number writes (statements results fail ordered kept at writes))
unfolding statements
entries_of_all session number results fail ordered kept at [] unfailed = tt
entries_of_all session number results fail ordered kept at (write ∷ writes) unfailed =
    entries_by session number write writes ordered (statement_at results fail kept at write) (statements results fail ordered kept (at + 1) writes)
    (entries_of_all session number results fail ordered kept (at + 1) writes) unfailed

-- where each statement ran now or had its kept result there is one entry for each write
pub entries_are : (server : Server) (send : Send) (step : Scheduled) (entries : List Entry) → RanOrKept server send step entries
    → AreEntries send.session send.number (writes_of send) entries
unfolding statements_in
entries_are server send step entries stand =
    let before = traced (after_picks server step.deliver) send in
    let outside_of = told_outside before send step.item stand.done stand.told in
    let plan = outside_of.plan in
    let kept = results_of (known_of before send) in
    let unfailed = subst (λ done. has_failed done ≡ false) outside_of.done_is stand.unfailed in
    let all = entries_of_all send.session send.number plan.results plan.fail (is_ordered send.body) kept 0 (writes_of send) unfailed in
    subst (AreEntries send.session send.number (writes_of send)) (sym stand.entries_are)
    (subst (λ done. AreEntries send.session send.number (writes_of send) (entries_counted send.session send.number (writes_of send) done)) (sym outside_of.done_is) all)

-- an entry is that of a write by its statement, which ran now or had its kept result
record IsToldOf (session : Option (List ℕ)) (number : Option ℤ) (writes : List PlacedWrite) (done : List Statement) (entry : Entry) : Type 0 where
  at : ℕ
  write : PlacedWrite
  result : Counted
  stands : slice_get writes at ≡ Some write
  counts : (slice_get done at ≡ Some (Ran result)) ⊎ (slice_get done at ≡ Some (Kept result))
  is : entry ≡ entry_of session number write result

-- behind one more write and its statement it is so too
later_told : (session : Option (List ℕ)) (number : Option ℤ) (write : PlacedWrite) (writes : List PlacedWrite) (statement : Statement) (done : List Statement) (entry : Entry)
    → IsToldOf session number writes done entry → IsToldOf session number (write ∷ writes) (statement ∷ done) entry
later_told session number write writes statement done entry told =
    record { at = suc told.at; write = told.write; result = told.result; stands = told.stands; counts = told.counts; is = told.is }

-- the entries that are told are such
told_from : (session : Option (List ℕ)) (number : Option ℤ) (writes : List PlacedWrite) (done : List Statement) (entry : Entry)
    → Has (entries_counted session number writes done) entry → IsToldOf session number writes done entry
told_from session number [] done entry has = absurd has
told_from session number (write ∷ writes) [] entry has = absurd has
told_from session number (write ∷ writes) (Failed code ∷ done) entry has =
    later_told session number write writes (Failed code) done entry (told_from session number writes done entry has)
told_from session number (write ∷ writes) (Ran result ∷ done) entry has = elim has [
  | inl same ↦ record { at = 0; write = write; result = result; stands = refl; counts = inl refl; is = sym same }
  | inr rest ↦ later_told session number write writes (Ran result) done entry (told_from session number writes done entry rest)
]
told_from session number (write ∷ writes) (Kept result ∷ done) entry has = elim has [
  | inl same ↦ record { at = 0; write = write; result = result; stands = refl; counts = inr refl; is = sym same }
  | inr rest ↦ later_told session number write writes (Kept result) done entry (told_from session number writes done entry rest)
]

-- a statement that had its kept result had it at its position
kept_at : (kept : Results) (at : ℕ) (writes : List PlacedWrite) (done : List Statement) (k : ℕ) (result : Counted) → Follows kept at writes done
    → slice_get done k ≡ Some (Kept result) → finite.get kept (at + k) ≡ Some result
kept_at kept at writes [] k result follows is = absurd (none_is_some (Kept result) is)
kept_at kept at [] (statement ∷ done) k result follows is = absurd follows
kept_at kept at (write ∷ writes) (statement ∷ done) zero result follows is =
    let same : statement ≡ Kept result = some_is_some statement (Kept result) is in
    ap (λ p. finite.get kept p) (omega arith) ∙ found (finite.get kept at) (subst (FitsKept (finite.get kept at)) same follows.0)
  where
    found : (kept : Option Counted) → FitsKept kept (Kept result) → kept ≡ Some result
    found None fits = absurd fits
    found (Some other) fits = let same : result ≡ other = cc fits in ap (λ r. Some r) (sym same)
kept_at kept at (write ∷ writes) (statement ∷ done) (suc k) result follows is =
    ap (λ p. finite.get kept p) (omega arith) ∙ kept_at kept (at + 1) writes done k result follows.1 is

-- the entry of a statement stands once its send was served outside transactions
module _ (trace : List Send) (send : Send) (orderly : IsOrderly trace) (sent : Has trace send) (server : Server) (settled : IsSettled trace server) (plan : Plan)
    (is_outside : case_of server send ≡ outside) where
  -- under a session and a number
  module _ (plain : IsPlain send) where
    -- the cases differ
    old_or_outside : too_old ≡ outside → ⊥
    old_or_outside is = cc

    -- the number is not below the greatest
    above : is_below plain.number (finite.get server.sessions plain.id) ≡ false
    above =
        elim (is_below plain.number (finite.get server.sessions plain.id))
        as (λ b. is_below plain.number (finite.get server.sessions plain.id) ≡ b → is_below plain.number (finite.get server.sessions plain.id) ≡ false) [
          | true ↦ λ below. absurd (old_or_outside (sym (case_below send plain server below) ∙ is_outside))
          | false ↦ λ is. is
        ] refl

    -- its statements
    all : List Statement
    all = planned send plain server plan

    -- the server after them
    now : Server
    now = served_in outside all plan.page server send

    -- they run under its number
    runs : Runs plain.id plain.number (known send plain server) all send server now
    unfolding now
    runs = served_runs send plain server all plan.page (none_known send plain server trace settled above)

    -- they follow what is kept
    follows : Follows (known send plain server).kept 0 (writes_of send) all
    unfolding all planned
    follows = follows_statements plan.results plan.fail (is_ordered send.body) (known send plain server).kept 0 (writes_of send)

    -- they are those of the plan
    all_is : done_in outside plan (results_of (known_of server send)) send.body ≡ all
    unfolding all planned
    all_is = ap (λ kept. done_in outside plan kept send.body) (results_here send plain server)

    -- the send was served so
    served_is : served plan server send ≡ now
    unfolding now all
    served_is = served_above send plain server plan above

    -- the entry of a statement that ran stands
    stands_ran : (at : ℕ) (write : PlacedWrite) (result : Counted) → slice_get (writes_of send) at ≡ Some write → slice_get all at ≡ Some (Ran result)
        → Has now.log (entry_of (Some plain.id) (Some plain.number) write result)
    stands_ran at write result stands ran =
        let entry = entry_of (Some plain.id) (Some plain.number) write result in
        let new = entry_there (Some plain.id) (Some plain.number) (writes_of send) all at write result stands ran in
        subst (λ log. Has log entry) (sym runs.log) (has_right server.log _ entry new)

    -- so does that of one that had its kept result
    stands_kept : (at : ℕ) (write : PlacedWrite) (result : Counted) → slice_get (writes_of send) at ≡ Some write → slice_get all at ≡ Some (Kept result)
        → Has now.log (entry_of (Some plain.id) (Some plain.number) write result)
    unfolding known
    stands_kept at write result stands is =
        let kept = kept_at (known send plain server).kept 0 (writes_of send) all at result follows is in
        let here : finite.get (known send plain server).kept at ≡ Some result = ap (λ p. finite.get (known send plain server).kept p) (omega arith) ∙ kept in
        kept_entry trace send plain.id plain.number (known send plain server) all server now orderly sent
        (record { session = plain.session; numbered = plain.numbered })
        (taken_is plain.number (finite.get server.sessions plain.id) above) follows runs settled at write result stands here

    -- so each entry that is told stands
    plain_stands : (entry : Entry) → IsToldOf send.session send.number (writes_of send) all entry → Has (served plan server send).log entry
    plain_stands entry told =
        let is : entry ≡ entry_of (Some plain.id) (Some plain.number) told.write told.result
        = told.is ∙ ap (λ session. entry_of session send.number told.write told.result) plain.session
        ∙ ap (λ number. entry_of (Some plain.id) number told.write told.result) plain.numbered in
        subst (λ e. Has (served plan server send).log e) (sym is)
        (subst (λ s. Has s.log (entry_of (Some plain.id) (Some plain.number) told.write told.result)) (sym served_is)
        (elim told.counts [
          | inl ran ↦ stands_ran told.at told.write told.result told.stands ran
          | inr kept ↦ stands_kept told.at told.write told.result told.stands kept
        ]))

  -- without a number
  module _ (free : IsUnnumbered send) where
    -- its statements
    only : List Statement
    only = planned_only send free server plan

    -- they follow no kept result
    only_follows : Follows no_results 0 (writes_of send) only
    unfolding only planned_only
    only_follows = follows_statements plan.results plan.fail (is_ordered send.body) no_results 0 (writes_of send)

    -- they are those of the plan
    only_is : done_in outside plan (results_of (known_of server send)) send.body ≡ only
    unfolding only planned_only
    only_is = ap (λ kept. done_in outside plan kept send.body) (results_free send free server)

    -- none had a kept result
    none_kept : (at : ℕ) (result : Counted) → slice_get only at ≡ Some (Kept result) → ⊥
    none_kept at result is =
        none_is_some result (sym (finite.get-empty nat_cmp (0 + at)) ∙ kept_at no_results 0 (writes_of send) only at result only_follows is)

    -- the entry of a statement that ran stands
    free_ran : (at : ℕ) (write : PlacedWrite) (result : Counted) → slice_get (writes_of send) at ≡ Some write → slice_get only at ≡ Some (Ran result)
        → Has (served plan server send).log (entry_of send.session send.number write result)
    unfolding only
    free_ran at write result stands ran =
        let entry = entry_of send.session send.number write result in
        let runs = served_runs_only send free server only plan.page in
        let new = entry_there send.session send.number (writes_of send) only at write result stands ran in
        subst (λ s. Has s.log entry) (sym (served_free send free server plan))
        (subst (λ log. Has log entry) (sym runs.log) (has_right server.log _ entry new))

    -- so each entry that is told stands
    free_stands : (entry : Entry) → IsToldOf send.session send.number (writes_of send) only entry → Has (served plan server send).log entry
    free_stands entry told =
        subst (λ e. Has (served plan server send).log e) (sym told.is)
        (elim told.counts [
          | inl ran ↦ free_ran told.at told.write told.result told.stands ran
          | inr kept ↦ absurd (none_kept told.at told.result kept)
        ])

  -- with a number, without one, or of a cursor, which has no writes
  either_stands : IsEither send → (done : List Statement) → done ≡ done_in outside plan (results_of (known_of server send)) send.body → (entry : Entry)
      → Has (entries_counted send.session send.number (writes_of send) done) entry → Has (served plan server send).log entry
  either_stands (inl plain) done is entry has =
      plain_stands plain entry (subst (λ d. IsToldOf send.session send.number (writes_of send) d entry) (is ∙ all_is plain)
      (told_from send.session send.number (writes_of send) done entry has))
  either_stands (inr (inl free)) done is entry has =
      free_stands free entry (subst (λ d. IsToldOf send.session send.number (writes_of send) d entry) (is ∙ only_is free)
      (told_from send.session send.number (writes_of send) done entry has))
  either_stands (inr (inr aside)) done is entry has =
      absurd (subst (λ writes. Has (entries_counted send.session send.number writes done) entry) (no_writes send.body aside.cursor) has)

-- where the statements of a send are told the entries of those that ran now or had their kept results stand in the log
pub told_entries_stand : (trace : List Send) (server : Server) (send : Send) (step : Scheduled) (done : List Statement) → IsEither send → MayJoin trace send
    → IsSettled trace server → statements_in server send step ≡ Some done → (entry : Entry) → Has (entries_counted send.session send.number (writes_of send) done) entry
    → Has (exchanged server send step).log entry
unfolding statements_in exchanged met
told_entries_stand trace server send step done is_either orderly settled told entry has =
    let before = traced (after_picks server step.deliver) send in
    let came = longer trace send orderly (after_picks server step.deliver) (after_settled trace server step.deliver (orderly_front trace send orderly) settled) in
    let outside_of = told_outside before send step.item done told in
    let here : Has (met before send (Serve outside_of.plan.results outside_of.plan.fail outside_of.plan.concern outside_of.plan.page)).log entry
    = either_stands (trace ++ send ∷ []) send orderly (has_last trace send) before came outside_of.plan outside_of.case is_either done outside_of.done_is entry has in
    subst (λ item. Has (met before send item).log entry) (sym outside_of.item_is) here

-- so where each of them did so
pub entries_stand : (trace : List Send) (server : Server) (send : Send) (step : Scheduled) (entries : List Entry) → IsEither send → MayJoin trace send
    → IsSettled trace server → RanOrKept server send step entries → (entry : Entry) → Has entries entry → Has (exchanged server send step).log entry
entries_stand trace server send step entries is_either orderly settled stand entry has =
    told_entries_stand trace server send step stand.done is_either orderly settled stand.told entry (subst (λ all. Has all entry) stand.entries_are has)
