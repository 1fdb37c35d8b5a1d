-- The servers to which a run leads are valid: the empty one is, and every exchange and delivery keeps it.
use Rattle.std.proofs.Common.{◌≡◌, ◌≢◌, ℕ, zero, suc, ◌+◌, ℤ, ◌<ℤ◌, ◌&&◌, ◌==◌, Bool, true, false, List, [], ◌∷◌, ◌++◌, Option, None, Some, refl, sym, ap, subst, ◌∙◌, inl, inr, if◌then◌else◌, slice_get, slice_set}
use Rattle.std.specs.Prelude.{◌⊎◌, int_lt}
use Rattle.std.specs.Cmp.Lexicographic.{slice_cmp}
use Rattle.std.specs.Option.{option_map_or}
use Rattle.std.specs.Ordering.{nat_cmp}
use Rattle.std.specs.FinMap as finite
use Rattle.std.proofs.lemmas.Bool.{or_left, or_right}
use Rattle.std.proofs.lemmas.List.{append-nil}
use Rattle.std.proofs.lemmas.List.Sums.{take_while-cons}
use Rattle.std.proofs.lemmas.Map.Keys.{any_passes_from_place}
use Rattle.driver_link.proofs.KeptStatements.{Follows, IsEntryOf, entry_from, entry_there, follows_front, follows_statements, kept_from}
use Rattle.driver_link.proofs.Lists.{earlier_or_last, has_either, has_last, has_left, has_right, none_is_some, set_none, some_is_some}
use Rattle.driver_link.proofs.ServedSends.{id_cases, id_other, id_same}
use Rattle.driver_link.proofs.TakenNumbers.{open_above}
use Rattle.driver_link.specs.Cases.{Case, abort_case, body_writes, case_as, case_of, commit_case, is_decided, is_in_transaction, is_ordered, known_of, known_under, numbered_case, results_of, unnumbered_case, write_case, writes_of, too_old, outside, gathers, commits, aborts, of_cursor, nothing, denied}
use Rattle.driver_link.specs.Cursors.{Reply, closed, cursors_of, cursors_with, place_of, with_cursor, without_cursor, pages_left, rows}
use Rattle.driver_link.specs.Exchange.{after_picks, arrived, delivered, empty_server, exchanged, interrupted, interrupted_labels, met, plan_of, refused_labels, traced}
use Rattle.driver_link.specs.Gathered.{entries_in, is_numbered}
use Rattle.driver_link.specs.Honesty.{can_be_transient, has_transient}
use Rattle.driver_link.specs.Interrupting.{aborted, done_before, interrupted_case, interrupted_done, interrupted_in, interruption, session_interrupted, told_of_error, transient_as}
use Rattle.driver_link.specs.Serving.{Plan, cursors_after, done_in, gathered, has_entries, log_gains, served, served_in, session_after, usual}
use Rattle.driver_link.specs.Sessions.{begin_session, denied_transaction, is_below, is_new, opened, running, taken}
use Rattle.driver_link.specs.Settled.{Has, IsFrom}
use Rattle.driver_link.specs.Statements.{Results, before_failing, entries_of, entry_of, front_to_run, has_failed, has_run, is_failed, is_run, kept_with, negated, no_results, statements, usual_statements}
use Rattle.driver_link.specs.declared.machine.Counted.{Counted}
use Rattle.driver_link.specs.declared.machine.Entry.{Entry}
use Rattle.driver_link.specs.declared.machine.Item.{Item}
use Rattle.driver_link.specs.declared.machine.Item.TheVariants.{Serve, Lost, Late, ReplyLost, Interrupted, Refused, Reauthenticate}
use Rattle.driver_link.specs.declared.machine.KnownSession.{KnownSession}
use Rattle.driver_link.specs.declared.machine.PlacedWrite.{PlacedWrite}
use Rattle.driver_link.specs.declared.machine.Scheduled.{Scheduled}
use Rattle.driver_link.specs.declared.machine.Send.{Send}
use Rattle.driver_link.specs.declared.machine.SendBody.{SendBody}
use Rattle.driver_link.specs.declared.machine.SendBody.TheVariants.{Write, Commit, Abort, More, Kill}
use Rattle.driver_link.specs.declared.machine.SendCommand.{SendCommand}
use Rattle.driver_link.specs.declared.machine.SendCommand.TheVariants as command
use Rattle.driver_link.specs.declared.machine.Server.{Server}
use Rattle.driver_link.specs.declared.machine.ServerTransaction.{ServerTransaction}
use Rattle.driver_link.specs.declared.machine.ServerTransaction.TheVariants as transaction
use Rattle.driver_link.specs.declared.machine.Statement.{Statement}
use Rattle.driver_link.specs.declared.machine.Statement.TheVariants.{Kept, Ran, Failed}
use Rattle.machine_laws.proofs.EndedTransactions.{below_more, below_still, interrupted_log, log_served, same_below}
use Rattle.machine_laws.proofs.HeldSessions.{Held, IsNamed, Keeps, case_above, free_sessions, greatest_interrupted, greatest_served, interrupted_can, interrupted_late, interruption_case, interruption_held, is_early, naming, numbered_late, puts_under, refused_can, served_held, taken_greatest, transient_held}
use Rattle.machine_laws.proofs.SteadyLaws.{case_there, old_law, served_case}
use Rattle.machine_laws.specs.Events.{Event, after_events, arrives, sends}
use Rattle.machine_laws.specs.Steady.{GoesUnder}
use Rattle.machine_laws.specs.Valid.{HasEntry, HasRunUnder, IsFromUnder, IsGathered, IsValid, IsValidBy, IsValidSession, RanUnder}

-- a send in a transaction that is called transient
pub transient_put : (send : Send) (id : List ℕ) (number : ℤ) (server : Server) → is_in_transaction send ≡ true
    → transient_as (Some id) (Some number) server send ≡ record server { sessions = finite.insert server.sessions id (aborted (known_under id number server send)) }
unfolding transient_as
transient_put send id number server inside =
    ap (λ b. if b then record server { sessions = finite.insert server.sessions id (aborted (known_under id number server send)) } else server) inside

-- a number under which a statement ran stays one
served_ran : (case : Case) (done : List Statement) (ran : List Entry) (known : KnownSession) → known.ran ≡ true → (session_after case done ran known).ran ≡ true
served_ran too_old done ran known is = is
served_ran outside done ran known is = or_left known.ran (has_run done) is
served_ran (gathers entries) done ran known is = or_left known.ran (has_run (before_failing done)) is
served_ran (commits entries) done ran known is = or_left known.ran (has_entries entries) is
served_ran aborts done ran known is = is
served_ran of_cursor done ran known is = is
served_ran nothing done ran known is = is
served_ran denied done ran known is = is

interrupted_ran : (case : Case) (done : List Statement) (ran : List Entry) (known : KnownSession) → known.ran ≡ true → (session_interrupted case done ran known).ran ≡ true
interrupted_ran too_old done ran known is = is
interrupted_ran outside done ran known is = or_left known.ran (has_run done) is
interrupted_ran (gathers entries) done ran known is = or_left known.ran (has_run done) is
interrupted_ran (commits entries) done ran known is = or_left known.ran (has_entries entries) is
interrupted_ran aborts done ran known is = is
interrupted_ran of_cursor done ran known is = is
interrupted_ran nothing done ran known is = is
interrupted_ran denied done ran known is = is

ran_anew : (number : ℤ) (known : KnownSession) (other : ℤ) (inside start : Bool) → RanUnder number known → known.greatest <ℤ other → RanUnder number (begin_session other inside start)
ran_anew number known other inside start (inl less) more = inl (below_more number known.greatest other less more)
ran_anew number known other inside start (inr is) more = inl (same_below number known.greatest other (sym is.0) more)

ran_served : (number : ℤ) (known : KnownSession) (new : Bool) (send : Send) (done : List Statement) (ran : List Entry) → RanUnder number known
    → RanUnder number (session_after (numbered_case known new send send.body) done ran known)
ran_served number known new send done ran (inl less) =
    let case : Case = numbered_case known new send send.body in
    inl (below_still number known.greatest (session_after case done ran known).greatest less (greatest_served case done ran known))
ran_served number known new send done ran (inr is) =
    let case : Case = numbered_case known new send send.body in
    inr (is.0 ∙ sym (greatest_served case done ran known), served_ran case done ran known is.1)

ran_interrupted : (number : ℤ) (known : KnownSession) (new : Bool) (send : Send) (most : ℕ) (done : List Statement) (ran : List Entry) → RanUnder number known
    → RanUnder number (session_interrupted (interrupted_case most (numbered_case known new send send.body)) done ran known)
ran_interrupted number known new send most done ran (inl less) =
    let case : Case = interrupted_case most (numbered_case known new send send.body) in
    inl (below_still number known.greatest (session_interrupted case done ran known).greatest less (greatest_interrupted case done ran known))
ran_interrupted number known new send most done ran (inr is) =
    let case : Case = interrupted_case most (numbered_case known new send send.body) in
    inr (is.0 ∙ sym (greatest_interrupted case done ran known), interrupted_ran case done ran known is.1)

pub ran_keeps : (number : ℤ) → Keeps (RanUnder number)
ran_keeps number = record {
  anew = ran_anew number;
  serving = ran_served number;
  interrupting = ran_interrupted number;
  calling = λ known has opens. has;
}

pub held_ran : (id : List ℕ) (number : ℤ) (server : Server) → HasRunUnder id number server → Held (RanUnder number) id server
held_ran id number server has = record { known = has.known; there = has.there; has = has.ran }

pub ran_held : (id : List ℕ) (number : ℤ) (server : Server) → Held (RanUnder number) id server → HasRunUnder id number server
ran_held id number server held = record { known = held.known; there = held.there; ran = held.has }

-- a case has the entries that the transaction has gathered
abbrev Fits : Case → ServerTransaction → Type 0
Fits (gathers entries) t = entries ≡ entries_in t
Fits (commits entries) t = entries ≡ entries_in t
Fits other t = Unit {0}

write_fits : (inside : Bool) (t : ServerTransaction) (again : Bool) → Fits (if inside then write_case (running t) again else outside) t
write_fits false t again = tt
write_fits true transaction.None again = tt
write_fits true (transaction.Running entries) true = tt
write_fits true (transaction.Running entries) false = refl
write_fits true transaction.Committed again = tt
write_fits true transaction.Aborted again = tt

commit_fits : (t : ServerTransaction) → Fits (commit_case t) t
commit_fits transaction.None = tt
commit_fits (transaction.Running entries) = refl
commit_fits transaction.Committed = tt
commit_fits transaction.Aborted = tt

abort_fits : (t : ServerTransaction) → Fits (abort_case t) t
abort_fits transaction.None = tt
abort_fits (transaction.Running entries) = tt
abort_fits transaction.Committed = tt
abort_fits transaction.Aborted = tt

numbered_fits : (known : KnownSession) (new : Bool) (send : Send) (body : SendBody) → Fits (numbered_case known new send body) known.transaction
numbered_fits known new send (Write does ordered writes) = write_fits send.in_transaction known.transaction (send.start && negated new)
numbered_fits known new send Commit = commit_fits known.transaction
numbered_fits known new send Abort = abort_fits known.transaction
numbered_fits known new send (More cursor) = tt
numbered_fits known new send (Kill cursor) = tt

interrupted_fits : (most : ℕ) (case : Case) (t : ServerTransaction) → Fits case t → Fits (interrupted_case most case) t
interrupted_fits most too_old t fits = tt
interrupted_fits most outside t fits = tt
interrupted_fits most (gathers entries) t fits = fits
interrupted_fits most (commits entries) t fits = by_test (most == 0)
  where
    by_test : (b : Bool) → Fits (if b then nothing else commits entries) t
    by_test true = tt
    by_test false = fits
interrupted_fits most aborts t fits = tt
interrupted_fits most of_cursor t fits = tt
interrupted_fits most nothing t fits = tt
interrupted_fits most denied t fits = tt

-- a statement has its write
record HasWrite (writes : List PlacedWrite) (at : ℕ) : Type 0 where
  write : PlacedWrite
  stands : slice_get writes at ≡ Some write

abbrev IsWithin : List PlacedWrite → List Statement → Type 0
IsWithin writes done = (at : ℕ) (statement : Statement) → slice_get done at ≡ Some statement → HasWrite writes at

within_of : (kept : Results) (first : ℕ) (writes : List PlacedWrite) (done : List Statement) → Follows kept first writes done → (at : ℕ) (statement : Statement)
    → slice_get done at ≡ Some statement → HasWrite writes at
within_of kept first writes [] follows at statement is = absurd (none_is_some statement is)
within_of kept first [] (head ∷ done) follows at statement is = absurd follows
within_of kept first (write ∷ writes) (head ∷ done) follows zero statement is = record { write = write; stands = refl }
within_of kept first (write ∷ writes) (head ∷ done) follows (suc at) statement is =
    let found = within_of kept (first + 1) writes done follows.1 at statement is in record { write = found.write; stands = found.stands }

none_within : (writes : List PlacedWrite) (at : ℕ) (statement : Statement) → slice_get [] at ≡ Some statement → HasWrite writes at
none_within writes at statement is = absurd (none_is_some statement is)

done_within : (case : Case) (plan : Plan) (kept : Results) (body : SendBody) → IsWithin (body_writes body) (done_in case plan kept body)
done_within outside plan kept body =
    within_of kept 0 (body_writes body) (statements plan.results plan.fail (is_ordered body) kept 0 (body_writes body))
    (follows_statements plan.results plan.fail (is_ordered body) kept 0 (body_writes body))
done_within (gathers entries) plan kept body =
    within_of no_results 0 (body_writes body) (statements plan.results plan.fail (is_ordered body) no_results 0 (body_writes body))
    (follows_statements plan.results plan.fail (is_ordered body) no_results 0 (body_writes body))
done_within other plan kept body = none_within (body_writes body)

interrupted_within : (most : ℕ) (case : Case) (kept : Results) (body : SendBody) → IsWithin (body_writes body) (interrupted_done most case kept body)
interrupted_within most outside kept body =
    within_of kept 0 (body_writes body) (usual_statements kept (front_to_run kept 0 most (body_writes body))) (follows_front kept 0 most (body_writes body))
interrupted_within most (gathers entries) kept body =
    within_of no_results 0 (body_writes body) (usual_statements no_results (front_to_run no_results 0 most (body_writes body)))
    (follows_front no_results 0 most (body_writes body))
interrupted_within most other kept body = none_within (body_writes body)

-- where none failed, all stand before the first that failed
before_all : (done : List Statement) → has_failed done ≡ false → before_failing done ≡ done
before_all [] none = refl
before_all (Kept result ∷ done) none =
    take_while-cons (λ statement. negated (is_failed statement)) (Kept result) done ∙ ap (λ rest. Kept result ∷ rest) (before_all done none)
before_all (Ran result ∷ done) none =
    take_while-cons (λ statement. negated (is_failed statement)) (Ran result) done ∙ ap (λ rest. Ran result ∷ rest) (before_all done none)
before_all (Failed code ∷ done) none = let no : ◌≡◌ {A = Bool} true false = none in cc

-- an entry is of a statement that ran
entry_ran : (session : Option (List ℕ)) (number : Option ℤ) (writes : List PlacedWrite) (done : List Statement) (entry : Entry) → IsEntryOf session number writes done entry
    → has_run done ≡ true
entry_ran session number writes done entry is = any_passes_from_place is_run done is.at (Ran is.result) is.ran refl

-- a transaction that begins has gathered nothing
pub empty_opened : (inside start : Bool) → entries_in (opened inside start) ≡ []
empty_opened false start = refl
empty_opened true true = refl
empty_opened true false = refl

-- nor has one in which a send was denied
pub empty_denied : (t : ServerTransaction) → entries_in (denied_transaction t) ≡ []
empty_denied transaction.None = refl
empty_denied (transaction.Running entries) = refl
empty_denied transaction.Committed = refl
empty_denied transaction.Aborted = refl

-- so no entry is in the one
none_opened : (inside start : Bool) (entry : Entry) → Has (entries_in (opened inside start)) entry → ⊥
none_opened inside start entry has = subst (λ entries. Has entries entry) (empty_opened inside start) has

-- and none in the other
none_denied : (t : ServerTransaction) (entry : Entry) → Has (entries_in (denied_transaction t)) entry → ⊥
none_denied t entry has = subst (λ entries. Has entries entry) (empty_denied t) has

-- open cursors have results left
abbrev IsOpen : List (Option (List Reply)) → Type 0
IsOpen cursors = (at : ℕ) (left : List Reply) → slice_get cursors at ≡ Some (Some left) → left ≢ []

with_open : (rest : List Reply) (cursors : List (Option (List Reply))) → IsOpen cursors → IsOpen (with_cursor rest cursors)
with_open [] cursors opens = opens
with_open (result ∷ results) cursors opens = λ at left is none. elim (earlier_or_last cursors (Some (result ∷ results)) at (Some left) is) [
  | inl earlier ↦ opens at left earlier none
  | inr last ↦
      let same : result ∷ results ≡ left = some_is_some (result ∷ results) left last.1 in
      let no : result ∷ results ≡ [] = same ∙ none in cc
]

place_open : (place : Option ℕ) (cursors : List (Option (List Reply))) → IsOpen cursors → IsOpen (option_map_or (λ at. slice_set cursors at None) place cursors)
place_open None cursors opens = opens
place_open (Some at) cursors opens = λ k left is. opens k left (set_none cursors at k left is)

closed_open : (cursor : ℤ) (cursors : List (Option (List Reply))) → IsOpen cursors → IsOpen (closed cursor cursors)
unfolding closed
closed_open cursor cursors opens = place_open (place_of cursor) cursors opens

command_open : (does : SendCommand) (page : Option ℕ) (writes : List PlacedWrite) (done : List Statement) (cursors : List (Option (List Reply))) → IsOpen cursors
    → IsOpen (cursors_of does page writes done cursors)
command_open command.Insert page writes done cursors opens = opens
command_open command.Update page writes done cursors opens = opens
command_open command.Delete page writes done cursors opens = opens
command_open command.FindAndModify page writes done cursors opens = opens
command_open command.BulkWrite page writes done cursors opens = with_open (pages_left page (rows 0 writes done)) cursors opens

body_open : (page : Option ℕ) (done : List Statement) (body : SendBody) (cursors : List (Option (List Reply))) → IsOpen cursors → IsOpen (cursors_with page done body cursors)
body_open page done (Write does ordered writes) cursors opens = command_open does page writes done cursors opens
body_open page done other cursors opens = opens

gone_open : (body : SendBody) (cursors : List (Option (List Reply))) → IsOpen cursors → IsOpen (without_cursor body cursors)
gone_open (More cursor) cursors opens = closed_open cursor cursors opens
gone_open (Kill cursor) cursors opens = closed_open cursor cursors opens
gone_open other cursors opens = opens

case_open : (case : Case) (page : Option ℕ) (done : List Statement) (send : Send) (server : Server) → IsOpen server.cursors → IsOpen (cursors_after case page done send server)
case_open outside page done send server opens = body_open page done send.body server.cursors opens
case_open (gathers entries) page done send server opens = body_open page done send.body server.cursors opens
case_open of_cursor page done send server opens = gone_open send.body server.cursors opens
case_open other page done send server opens = opens

module _ (trace : List Send) (send : Send) (sent : Has trace send) where
  -- a session that begins
  begin_valid : (id : List ℕ) (number : ℤ) (inside start : Bool) (log : List Entry) → GoesUnder id number send → IsValidSession trace log id (begin_session number inside start)
  begin_valid id number inside start log under = record {
    newest = send;
    sent = sent;
    under = record { session = under.its_session; numbered = under.its_number };
    kept = λ at result is. absurd (none_is_some result (sym (finite.get-empty nat_cmp at) ∙ is));
    gathered = λ entry has. absurd (none_opened inside start entry has);
  }

  -- a session whose number was taken
  taken_valid : (id : List ℕ) (number : ℤ) (server : Server) → GoesUnder id number send → IsValidBy trace server
      → IsValidSession trace server.log id (known_under id number server send)
  unfolding taken
  taken_valid id number server under valid = by_found (finite.get server.sessions id) refl
    where
      by_test : (known : KnownSession) (b : Bool) → finite.get server.sessions id ≡ Some known
          → IsValidSession trace server.log id (if b then begin_session number (is_in_transaction send) send.start else known)
      by_test known true is = begin_valid id number (is_in_transaction send) send.start server.log under
      by_test known false is = valid.sessions id known is

      by_found : (found : Option KnownSession) → finite.get server.sessions id ≡ found
          → IsValidSession trace server.log id (taken number (is_in_transaction send) send.start found)
      by_found None is = begin_valid id number (is_in_transaction send) send.start server.log under
      by_found (Some known) is = by_test known (int_lt known.greatest number) is

  -- a step of a session: it keeps results whose entries the log gains, and what it gathers is under its number
  record Turns (id : List ℕ) (known after : KnownSession) (more : List Entry) : Type 0 where
    greatest : after.greatest ≡ known.greatest
    keeps : (at : ℕ) (result : Counted) → finite.get after.kept at ≡ Some result → (finite.get known.kept at ≡ Some result) ⊎ HasEntry more id known.greatest result
    holds : (entry : Entry) → Has (entries_in after.transaction) entry → IsGathered trace id after entry

  longer_entry : (log more : List Entry) (id : List ℕ) (number other : ℤ) (result : Counted) → other ≡ number → HasEntry log id number result → HasEntry (log ++ more) id other result
  longer_entry log more id number other result same has = record {
    write = has.write;
    stands =
        has_left log more (entry_of (Some id) (Some other) has.write result)
        (subst (λ n. Has log (entry_of (Some id) (Some n) has.write result)) (sym same) has.stands);
  }

  later_entry : (log more : List Entry) (id : List ℕ) (number other : ℤ) (result : Counted) → other ≡ number → HasEntry more id number result → HasEntry (log ++ more) id other result
  later_entry log more id number other result same has = record {
    write = has.write;
    stands =
        has_right log more (entry_of (Some id) (Some other) has.write result)
        (subst (λ n. Has more (entry_of (Some id) (Some n) has.write result)) (sym same) has.stands);
  }

  turned_valid : (id : List ℕ) (known after : KnownSession) (log more : List Entry) → IsValidSession trace log id known → Turns id known after more
      → IsValidSession trace (log ++ more) id after
  turned_valid id known after log more valid turns = record {
    newest = valid.newest;
    sent = valid.sent;
    under = record { session = valid.under.session; numbered = valid.under.numbered ∙ ap (λ n. Some n) (sym turns.greatest) };
    kept = λ at result is. elim (turns.keeps at result is) [
      | inl before ↦ longer_entry log more id known.greatest after.greatest result turns.greatest (valid.kept at result before)
      | inr new ↦ later_entry log more id known.greatest after.greatest result turns.greatest new
    ];
    gathered = turns.holds;
  }

  -- (under a session and a number that was taken) the steps of each case
  module _ (id : List ℕ) (number : ℤ) (log : List Entry) (known : KnownSession) (done : List Statement) (under : GoesUnder id number send)
      (same : known.greatest ≡ number) (valid : IsValidSession trace log id known) (within : IsWithin (writes_of send) done) where
    abbrev ran_now : List Entry
    ran_now = entries_of send.session send.number (writes_of send) done

    from_write : (entry : Entry) → Has ran_now entry → IsFromUnder trace id known.greatest entry
    from_write entry has =
        let is = entry_from send.session send.number (writes_of send) done entry has in record {
          session = ap (λ e. e.session) is.is ∙ under.its_session;
          numbered = ap (λ e. e.number) is.is ∙ under.its_number ∙ ap (λ n. Some n) (sym same);
          origin = record { send = send; at = is.at; write = is.write; result = is.result; sent = sent; stands = is.stands; is = is.is };
        }

    has_run_now : (entry : Entry) → Has ran_now entry → has_run done ≡ true
    has_run_now entry has =
        entry_ran send.session send.number (writes_of send) done entry (entry_from send.session send.number (writes_of send) done entry has)

    -- a result that is kept was kept before, or its entry is new
    keeps_outside : (at : ℕ) (result : Counted) → finite.get (kept_with known.kept 0 done) at ≡ Some result
        → (finite.get known.kept at ≡ Some result) ⊎ HasEntry ran_now id known.greatest result
    keeps_outside at result is = elim (kept_from known.kept 0 done at result is) [
      | inl before ↦ inl before
      | inr new ↦
          let found = within new.0 (Ran result) new.2 in
          inr (record {
            write = found.write;
            stands =
                subst (λ e. Has ran_now e)
                (λ i. entry_of (under.its_session i) ((under.its_number ∙ ap (λ n. Some n) (sym same)) i) found.write result)
                (entry_there send.session send.number (writes_of send) done new.0 found.write result found.stands new.2);
          })
    ]

    gathers_now : (entries : List Entry) (failed : Bool) → has_failed done ≡ failed → entries ≡ entries_in known.transaction → (entry : Entry)
        → Has (entries_in (gathered failed (entries ++ ran_now))) entry → IsGathered trace id (session_after (gathers entries) done ran_now known) entry
    gathers_now entries true failed fits entry has = absurd has
    gathers_now entries false none fits entry has = elim (has_either entries ran_now entry has) [
      | inl before ↦
          let is = valid.gathered entry (subst (λ es. Has es entry) fits before) in
          record { under = is.under; ran = or_left known.ran (has_run (before_failing done)) is.ran }
      | inr new ↦
          record {
            under = from_write entry new;
            ran = or_right known.ran (has_run (before_failing done)) (ap has_run (before_all done none) ∙ has_run_now entry new);
          }
    ]

    same_turns : Turns id known known []
    same_turns = record { greatest = refl; keeps = λ at result is. inl is; holds = valid.gathered }

    ends_turns : (after : KnownSession) → after.greatest ≡ known.greatest → after.kept ≡ known.kept → ((entry : Entry) → Has (entries_in after.transaction) entry → ⊥)
        → (more : List Entry) → Turns id known after more
    ends_turns after greatest kept none more = record {
      greatest = greatest;
      keeps = λ at result is. inl (ap (λ results. finite.get results at) (sym kept) ∙ is);
      holds = λ entry has. absurd (none entry has);
    }

    served_turns : (case : Case) → Fits case known.transaction → Turns id known (session_after case done ran_now known) (log_gains case ran_now)
    served_turns too_old fits = same_turns
    served_turns outside fits = record {
      greatest = refl;
      keeps = keeps_outside;
      holds = λ entry has. let is = valid.gathered entry has in record { under = is.under; ran = or_left known.ran (has_run done) is.ran };
    }
    served_turns (gathers entries) fits = record {
      greatest = refl;
      keeps = λ at result is. inl is;
      holds = gathers_now entries (has_failed done) refl fits;
    }
    served_turns (commits entries) fits = ends_turns (session_after (commits entries) done ran_now known) refl refl (λ entry has. has) entries
    served_turns aborts fits = ends_turns (session_after aborts done ran_now known) refl refl (λ entry has. has) []
    served_turns of_cursor fits = same_turns
    served_turns nothing fits = same_turns
    served_turns denied fits = ends_turns (session_after denied done ran_now known) refl refl (none_denied known.transaction) []

    interrupted_turns : (case : Case) → Fits case known.transaction → Turns id known (session_interrupted case done ran_now known) (log_gains case ran_now)
    interrupted_turns too_old fits = served_turns too_old fits
    interrupted_turns outside fits = served_turns outside fits
    interrupted_turns (gathers entries) fits = ends_turns (session_interrupted (gathers entries) done ran_now known) refl refl (λ entry has. has) []
    interrupted_turns (commits entries) fits = served_turns (commits entries) fits
    interrupted_turns aborts fits = served_turns aborts fits
    interrupted_turns of_cursor fits = served_turns of_cursor fits
    interrupted_turns nothing fits = served_turns nothing fits
    interrupted_turns denied fits = served_turns denied fits

    -- where the entries that the log gains come from, and that the session tells of them
    gains_from : (case : Case) → Fits case known.transaction → (entry : Entry) → Has (log_gains case ran_now) entry → IsFromUnder trace id known.greatest entry
    gains_from outside fits entry has = from_write entry has
    gains_from (commits entries) fits entry has = (valid.gathered entry (subst (λ es. Has es entry) fits has)).under
    gains_from case fits entry has = absurd has

    served_told : (case : Case) → Fits case known.transaction → (entry : Entry) → Has (log_gains case ran_now) entry → (session_after case done ran_now known).ran ≡ true
    served_told outside fits entry has = or_right known.ran (has_run done) (has_run_now entry has)
    served_told (commits entries) fits entry has = or_left known.ran (has_entries entries) (valid.gathered entry (subst (λ es. Has es entry) fits has)).ran
    served_told case fits entry has = absurd has

    interrupted_told : (case : Case) → Fits case known.transaction → (entry : Entry) → Has (log_gains case ran_now) entry → (session_interrupted case done ran_now known).ran ≡ true
    interrupted_told outside fits entry has = served_told outside fits entry has
    interrupted_told (commits entries) fits entry has = served_told (commits entries) fits entry has
    interrupted_told case fits entry has = absurd has

  -- a session was put, and the log has gained entries of it
  record Puts (id : List ℕ) (after : KnownSession) (more : List Entry) (old now : Server) : Type 0 where
    sessions : now.sessions ≡ finite.insert old.sessions id after
    log : now.log ≡ old.log ++ more
    waiting : now.waiting ≡ old.waiting
    opens : IsOpen now.cursors
    here : IsValidSession trace (old.log ++ more) id after
    came : (entry : Entry) → Has more entry → IsFromUnder trace id after.greatest entry
    told : (entry : Entry) → Has more entry → after.ran ≡ true
    stays : (other : List ℕ) (number : ℤ) → HasRunUnder other number old → HasRunUnder other number now

  longer_session : (log more : List Entry) (id : List ℕ) (known : KnownSession) → IsValidSession trace log id known → IsValidSession trace (log ++ more) id known
  longer_session log more id known valid = record {
    newest = valid.newest;
    sent = valid.sent;
    under = valid.under;
    kept = λ at result is. longer_entry log more id known.greatest known.greatest result refl (valid.kept at result is);
    gathered = valid.gathered;
  }

  put_valid : (id : List ℕ) (after : KnownSession) (more : List Entry) (old now : Server) → Puts id after more old now → IsValidBy trace old → IsValidBy trace now
  put_valid id after more old now puts valid = record {
    waiting = λ at other is. valid.waiting at other (ap (λ places. slice_get places at) (sym puts.waiting) ∙ is);
    sessions = λ other found is. subst (λ log. IsValidSession trace log other found) (sym puts.log) (session_now other found is);
    origin = λ entry has. elim (either entry has) [
      | inl before ↦ valid.origin entry before
      | inr new ↦ (puts.came entry new).origin
    ];
    told = λ entry other number has session_is number_is. elim (either entry has) [
      | inl before ↦ puts.stays other number (valid.told entry other number before session_is number_is)
      | inr new ↦ new_told entry other number new session_is number_is
    ];
    cursors = puts.opens;
  }
    where
      either : (entry : Entry) → Has now.log entry → Has old.log entry ⊎ Has more entry
      either entry has = has_either old.log more entry (subst (λ log. Has log entry) puts.log has)

      known_here : finite.get now.sessions id ≡ Some after
      known_here = ap (λ sessions. finite.get sessions id) puts.sessions ∙ id_same old.sessions id after

      known_there : (other : List ℕ) → (other ≡ id → ⊥) → finite.get now.sessions other ≡ finite.get old.sessions other
      known_there other differs = ap (λ sessions. finite.get sessions other) puts.sessions ∙ id_other old.sessions id after other differs

      session_now : (other : List ℕ) (found : KnownSession) → finite.get now.sessions other ≡ Some found → IsValidSession trace (old.log ++ more) other found
      session_now other found is = elim (id_cases other id) [
        | inl same ↦
            let here : found ≡ after = some_is_some found after (sym is ∙ ap (λ i. finite.get now.sessions i) same ∙ known_here) in
            subst (λ i. IsValidSession trace (old.log ++ more) i found) (sym same) (subst (IsValidSession trace (old.log ++ more) id) (sym here) puts.here)
        | inr differs ↦ longer_session old.log more other found (valid.sessions other found (sym (known_there other differs) ∙ is))
      ]

      new_told : (entry : Entry) (other : List ℕ) (number : ℤ) → Has more entry → entry.session ≡ Some other → entry.number ≡ Some number → HasRunUnder other number now
      new_told entry other number new session_is number_is =
          let is = puts.came entry new in
          let same_id : id ≡ other = some_is_some id other (sym is.session ∙ session_is) in
          let same_number : after.greatest ≡ number = some_is_some after.greatest number (sym is.numbered ∙ number_is) in
          let here : HasRunUnder id after.greatest now = record { known = after; there = known_here; ran = inr (refl, puts.told entry new) } in
          subst (λ n. HasRunUnder other n now) same_number (subst (λ i. HasRunUnder i after.greatest now) same_id here)

  -- no session changed, and the log has gained entries without a number
  record Adds (more : List Entry) (old now : Server) : Type 0 where
    sessions : now.sessions ≡ old.sessions
    log : now.log ≡ old.log ++ more
    waiting : now.waiting ≡ old.waiting
    opens : IsOpen now.cursors
    came : (entry : Entry) → Has more entry → IsFrom trace entry
    free : (entry : Entry) → Has more entry → is_numbered entry.session entry.number ≡ false

  add_valid : (more : List Entry) (old now : Server) → Adds more old now → IsValidBy trace old → IsValidBy trace now
  add_valid more old now adds valid = record {
    waiting = λ at other is. valid.waiting at other (ap (λ places. slice_get places at) (sym adds.waiting) ∙ is);
    sessions = λ other found is.
        subst (λ log. IsValidSession trace log other found) (sym adds.log)
        (longer_session old.log more other found (valid.sessions other found (ap (λ sessions. finite.get sessions other) (sym adds.sessions) ∙ is)));
    origin = λ entry has. elim (either entry has) [
      | inl before ↦ valid.origin entry before
      | inr new ↦ adds.came entry new
    ];
    told = λ entry other number has session_is number_is. elim (either entry has) [
      | inl before ↦ same_told other number (valid.told entry other number before session_is number_is)
      | inr new ↦ absurd (is_free entry other number session_is number_is (adds.free entry new))
    ];
    cursors = adds.opens;
  }
    where
      either : (entry : Entry) → Has now.log entry → Has old.log entry ⊎ Has more entry
      either entry has = has_either old.log more entry (subst (λ log. Has log entry) adds.log has)

      same_told : (other : List ℕ) (number : ℤ) → HasRunUnder other number old → HasRunUnder other number now
      same_told other number has =
          record { known = has.known; there = ap (λ sessions. finite.get sessions other) adds.sessions ∙ has.there; ran = has.ran }

      is_free : (entry : Entry) (other : List ℕ) (number : ℤ) → entry.session ≡ Some other → entry.number ≡ Some number → is_numbered entry.session entry.number ≡ false → ⊥
      is_free entry other number session_is number_is none =
          let no : ◌≡◌ {A = Bool} true false = (λ i. is_numbered (sym session_is i) (sym number_is i)) ∙ none in cc

  -- (without a session and a number) the case, and the entries that it adds
  free_case : (session : Option (List ℕ)) (number : Option ℤ) (server : Server) → is_numbered session number ≡ false → case_as session number server send ≡ unnumbered_case send.body
  unfolding case_as
  free_case None None server none = refl
  free_case None (Some number) server none = refl
  free_case (Some id) None server none = refl
  free_case (Some id) (Some number) server none = absurd (let no : ◌≡◌ {A = Bool} true false = none in cc)

  free_gains : (body : SendBody) (ran : List Entry) (entry : Entry) → Has (log_gains (unnumbered_case body) ran) entry → Has ran entry
  free_gains (Write does ordered writes) ran entry has = has
  free_gains Commit ran entry has = absurd has
  free_gains Abort ran entry has = absurd has
  free_gains (More cursor) ran entry has = absurd has
  free_gains (Kill cursor) ran entry has = absurd has

  free_left : (most : ℕ) (body : SendBody) (ran : List Entry) (entry : Entry) → Has (log_gains (interrupted_case most (unnumbered_case body)) ran) entry → Has ran entry
  free_left most (Write does ordered writes) ran entry has = has
  free_left most Commit ran entry has = absurd has
  free_left most Abort ran entry has = absurd has
  free_left most (More cursor) ran entry has = absurd has
  free_left most (Kill cursor) ran entry has = absurd has

  free_from : (done : List Statement) (entry : Entry) → Has (entries_of send.session send.number (writes_of send) done) entry → IsFrom trace entry
  free_from done entry has =
      let is = entry_from send.session send.number (writes_of send) done entry has in
      record { send = send; at = is.at; write = is.write; result = is.result; sent = sent; stands = is.stands; is = is.is }

  free_entry : (done : List Statement) (entry : Entry) → is_numbered send.session send.number ≡ false → Has (entries_of send.session send.number (writes_of send) done) entry
      → is_numbered entry.session entry.number ≡ false
  free_entry done entry none has =
      let is = entry_from send.session send.number (writes_of send) done entry has in ap (λ e. is_numbered e.session e.number) is.is ∙ none

  -- a send that is served
  module _ (plan : Plan) (server : Server) (valid : IsValidBy trace server) where
    abbrev now : Server
    now = served plan server send

    served_waiting : now.waiting ≡ server.waiting
    unfolding served served_in
    served_waiting = refl

    served_open : IsOpen now.cursors
    unfolding served served_in
    served_open =
        case_open (case_of server send) plan.page (done_in (case_of server send) plan (results_of (known_of server send)) send.body) send server valid.cursors

    served_sessions : (case : Case) (done : List Statement) (page : Option ℕ) (id : List ℕ) (number : ℤ) → GoesUnder id number send → is_early case ≡ false
        → (served_in case done page server send).sessions
        ≡ finite.insert server.sessions id (session_after case done (entries_of send.session send.number (writes_of send) done) (known_under id number server send))
    unfolding served_in
    served_sessions case done page id number under late =
        puts_under id number case (session_after case done (entries_of send.session send.number (writes_of send) done)) server send under late

    served_stays : (other : List ℕ) (number : ℤ) → HasRunUnder other number server → HasRunUnder other number now
    served_stays other number has = ran_held other number now (served_held (RanUnder number) (ran_keeps number) other plan server send (held_ran other number server has))

    served_above_valid : (id : List ℕ) (number : ℤ) → GoesUnder id number send → is_below number (finite.get server.sessions id) ≡ false → IsValidBy trace now
    served_above_valid id number under above =
        let known : KnownSession = known_under id number server send in
        let new : Bool = is_new number (finite.get server.sessions id) in
        let case : Case = numbered_case known new send send.body in
        let done : List Statement = done_in case plan (results_of (known_of server send)) send.body in
        let ran : List Entry = entries_of send.session send.number (writes_of send) done in
        let after : KnownSession = session_after case done ran known in
        let whole = served_case plan server send case (case_above id number server send under above) in
        let same : known.greatest ≡ number = taken_greatest number (is_in_transaction send) send.start (finite.get server.sessions id) above in
        let before : IsValidSession trace server.log id known = taken_valid id number server under valid in
        let within : IsWithin (writes_of send) done = done_within case plan (results_of (known_of server send)) send.body in
        let fits : Fits case known.transaction = numbered_fits known new send send.body in
        put_valid id after (log_gains case ran) server now (record {
          sessions = ap (λ s. s.sessions) whole ∙ served_sessions case done plan.page id number under (numbered_late known new send send.body);
          log = ap (λ s. s.log) whole ∙ log_served case done plan.page server send;
          waiting = served_waiting;
          opens = served_open;
          here = turned_valid id known after server.log (log_gains case ran) before (served_turns id number server.log known done under same before within case fits);
          came = λ entry has.
              subst (λ n. IsFromUnder trace id n entry) (sym (greatest_served case done ran known))
              (gains_from id number server.log known done under same before within case fits entry has);
          told = λ entry has. served_told id number server.log known done under same before within case fits entry has;
          stays = served_stays;
        }) valid

    served_free_valid : is_numbered send.session send.number ≡ false → IsValidBy trace now
    unfolding served served_in
    served_free_valid none =
        let case : Case = case_of server send in
        let done : List Statement = done_in case plan (results_of (known_of server send)) send.body in
        let ran : List Entry = entries_of send.session send.number (writes_of send) done in
        let is : case ≡ unnumbered_case send.body = free_case send.session send.number server none in
        let gains : (entry : Entry) → Has (log_gains case ran) entry → Has ran entry
        = λ entry has. free_gains send.body ran entry (subst (λ one. Has (log_gains one ran) entry) is has) in
        add_valid (log_gains case ran) server (served plan server send) (record {
          sessions = free_sessions send.session send.number case (session_after case done ran) server send none;
          log = refl;
          waiting = refl;
          opens = case_open case plan.page done send server valid.cursors;
          came = λ entry has. free_from done entry (gains entry has);
          free = λ entry has. free_entry done entry none (gains entry has);
        }) valid

    served_valid : IsValidBy trace now
    served_valid = elim (naming send) [
      | inl name ↦ by_test name (is_below name.number (finite.get server.sessions name.id)) refl
      | inr none ↦ served_free_valid none
    ]
      where
        by_test : (name : IsNamed send) (b : Bool) → is_below name.number (finite.get server.sessions name.id) ≡ b → IsValidBy trace now
        by_test name true below = subst (IsValidBy trace) (sym (old_law plan name.id name.number server send name.under below)) valid
        by_test name false above = served_above_valid name.id name.number name.under above

  -- one that is interrupted
  module _ (most : ℕ) (server : Server) (valid : IsValidBy trace server) where
    abbrev left : Server
    left = interruption most server send

    left_waiting : left.waiting ≡ server.waiting
    unfolding interruption interrupted_in
    left_waiting = refl

    left_cursors : left.cursors ≡ server.cursors
    unfolding interruption interrupted_in
    left_cursors = refl

    left_open : IsOpen left.cursors
    left_open = subst IsOpen (sym left_cursors) valid.cursors

    left_sessions : (case : Case) (done : List Statement) (id : List ℕ) (number : ℤ) → GoesUnder id number send → is_early case ≡ false
        → (interrupted_in case done server send).sessions
        ≡ finite.insert server.sessions id (session_interrupted case done (entries_of send.session send.number (writes_of send) done) (known_under id number server send))
    unfolding interrupted_in
    left_sessions case done id number under late =
        puts_under id number case (session_interrupted case done (entries_of send.session send.number (writes_of send) done)) server send under late

    left_above_valid : (id : List ℕ) (number : ℤ) → GoesUnder id number send → is_decided (case_of server send) ≡ false
        → is_below number (finite.get server.sessions id) ≡ false → IsValidBy trace left
    left_above_valid id number under undecided above =
        let known : KnownSession = known_under id number server send in
        let new : Bool = is_new number (finite.get server.sessions id) in
        let full : Case = numbered_case known new send send.body in
        let case : Case = interrupted_case most full in
        let is : case_of server send ≡ full = case_above id number server send under above in
        let done : List Statement = done_before most server send in
        let ran : List Entry = entries_of send.session send.number (writes_of send) done in
        let after : KnownSession = session_interrupted case done ran known in
        let whole = interruption_case most server send full is in
        let same : known.greatest ≡ number = taken_greatest number (is_in_transaction send) send.start (finite.get server.sessions id) above in
        let before : IsValidSession trace server.log id known = taken_valid id number server under valid in
        let within : IsWithin (writes_of send) done
        = interrupted_within most (interrupted_case most (case_of server send)) (results_of (known_of server send)) send.body in
        let fits : Fits case known.transaction = interrupted_fits most full known.transaction (numbered_fits known new send send.body) in
        put_valid id after (log_gains case ran) server left (record {
          sessions = ap (λ s. s.sessions) whole ∙ left_sessions case done id number under (interrupted_late most full (numbered_late known new send send.body));
          log = ap (λ s. s.log) whole ∙ interrupted_log case done server send;
          waiting = left_waiting;
          opens = left_open;
          here = turned_valid id known after server.log (log_gains case ran) before (interrupted_turns id number server.log known done under same before within case fits);
          came = λ entry has.
              subst (λ n. IsFromUnder trace id n entry) (sym (greatest_interrupted case done ran known))
              (gains_from id number server.log known done under same before within case fits entry has);
          told = λ entry has. interrupted_told id number server.log known done under same before within case fits entry has;
          stays = λ other n has.
              ran_held other n left (interruption_held (RanUnder n) (ran_keeps n) other most server send undecided (held_ran other n server has));
        }) valid

    left_free_valid : is_numbered send.session send.number ≡ false → IsValidBy trace left
    unfolding interruption interrupted_in
    left_free_valid none =
        let case : Case = interrupted_case most (case_of server send) in
        let done : List Statement = done_before most server send in
        let ran : List Entry = entries_of send.session send.number (writes_of send) done in
        let is : case_of server send ≡ unnumbered_case send.body = free_case send.session send.number server none in
        let gains : (entry : Entry) → Has (log_gains case ran) entry → Has ran entry
        = λ entry has. free_left most send.body ran entry (subst (λ one. Has (log_gains (interrupted_case most one) ran) entry) is has) in
        add_valid (log_gains case ran) server (interruption most server send) (record {
          sessions = free_sessions send.session send.number case (session_interrupted case done ran) server send none;
          log = refl;
          waiting = refl;
          opens = valid.cursors;
          came = λ entry has. free_from done entry (gains entry has);
          free = λ entry has. free_entry done entry none (gains entry has);
        }) valid

    interruption_valid : is_decided (case_of server send) ≡ false → IsValidBy trace left
    interruption_valid undecided = elim (naming send) [
      | inl name ↦
          left_above_valid name.id name.number name.under undecided
          (open_above name.number name.id server send (ap is_decided (sym (case_there name.id name.number server send name.under)) ∙ undecided))
      | inr none ↦ left_free_valid none
    ]

  -- a transaction that is called transient
  put_aborted : (id : List ℕ) (number : ℤ) (server : Server) → GoesUnder id number send → is_in_transaction send ≡ true
      → can_be_transient (Some id) (Some number) server send ≡ true → IsValidBy trace server
      → IsValidBy trace (record server { sessions = finite.insert server.sessions id (aborted (known_under id number server send)) })
  put_aborted id number server under inside can valid =
      let known : KnownSession = known_under id number server send in
      let now : Server = record server { sessions = finite.insert server.sessions id (aborted known) } in
      let before : IsValidSession trace server.log id known = taken_valid id number server under valid in
      put_valid id (aborted known) [] server now (record {
        sessions = refl;
        log = sym (append-nil server.log);
        waiting = refl;
        opens = valid.cursors;
        here = turned_valid id known (aborted known) server.log [] before
            (record { greatest = refl; keeps = λ at result is. inl is; holds = λ entry has. absurd has });
        came = λ entry has. absurd has;
        told = λ entry has. absurd has;
        stays = λ other n has. put_stays id number server inside can other n has;
      }) valid
    where
      put_stays : (id : List ℕ) (number : ℤ) (server : Server) → is_in_transaction send ≡ true → can_be_transient (Some id) (Some number) server send ≡ true
          → (other : List ℕ) (n : ℤ) → HasRunUnder other n server
          → HasRunUnder other n (record server { sessions = finite.insert server.sessions id (aborted (known_under id number server send)) })
      put_stays id number server inside can other n has =
          subst (HasRunUnder other n) (transient_put send id number server inside)
          (ran_held other n (transient_as (Some id) (Some number) server send)
          (transient_held (RanUnder n) (ran_keeps n) other (Some id) (Some number) server send can (held_ran other n server has)))

  transient_valid : (session : Option (List ℕ)) (number : Option ℤ) (server : Server) → send.session ≡ session → send.number ≡ number
      → can_be_transient session number server send ≡ true → IsValidBy trace server → IsValidBy trace (transient_as session number server send)
  unfolding transient_as
  transient_valid None number server session_is number_is can valid = valid
  transient_valid (Some id) None server session_is number_is can valid = valid
  transient_valid (Some id) (Some number) server session_is number_is can valid = by_test (is_in_transaction send) refl
    where
      by_test : (b : Bool) → is_in_transaction send ≡ b
          → IsValidBy trace (if b then record server { sessions = finite.insert server.sessions id (aborted (known_under id number server send)) } else server)
      by_test true inside = put_aborted id number server (record { its_session = session_is; its_number = number_is }) inside can valid
      by_test false inside = valid

  told_valid : (labels : List (List ℕ)) (server : Server) → (has_transient labels ≡ true → can_be_transient send.session send.number server send ≡ true)
      → IsValidBy trace server → IsValidBy trace (told_of_error labels server send)
  unfolding told_of_error
  told_valid labels server can valid = by_test (has_transient labels) refl
    where
      by_test : (b : Bool) → has_transient labels ≡ b → IsValidBy trace (if b then transient_as send.session send.number server send else server)
      by_test true is = transient_valid send.session send.number server refl refl (can is) valid
      by_test false is = valid

  interrupted_valid : (most : ℕ) (labels : List (List ℕ)) (server : Server) → IsValidBy trace server → IsValidBy trace (interrupted most labels server send)
  unfolding interrupted
  interrupted_valid most labels server valid = by_test (is_decided (case_of server send)) refl
    where
      by_test : (b : Bool) → is_decided (case_of server send) ≡ b
          → IsValidBy trace (if b then served usual server send else told_of_error (interrupted_labels most labels server send) (interruption most server send) send)
      by_test true is = served_valid usual server valid
      by_test false is =
          told_valid (interrupted_labels most labels server send) (interruption most server send) (interrupted_can most labels server send)
          (interruption_valid most server valid is)

  -- it waits
  late_valid : (server : Server) → IsValidBy trace server → IsValidBy trace (record server { waiting = server.waiting ++ Some send ∷ [] })
  late_valid server valid = record {
    waiting = λ at other is. elim (earlier_or_last server.waiting (Some send) at (Some other) is) [
      | inl earlier ↦ valid.waiting at other earlier
      | inr last ↦ let same : send ≡ other = some_is_some send other last.1 in subst (Has trace) same sent
    ];
    sessions = valid.sessions;
    origin = valid.origin;
    told = λ entry id number has session_is number_is.
        let ran = valid.told entry id number has session_is number_is in record { known = ran.known; there = ran.there; ran = ran.ran };
    cursors = valid.cursors;
  }

  met_valid : (server : Server) (item : Item) → IsValidBy trace server → IsValidBy trace (met server send item)
  unfolding met
  met_valid server (Serve results fail concern page) valid = served_valid (plan_of results fail concern page) server valid
  met_valid server Lost valid = valid
  met_valid server Late valid = late_valid server valid
  met_valid server ReplyLost valid = served_valid usual server valid
  met_valid server (Interrupted most code labels) valid = interrupted_valid most labels server valid
  met_valid server (Refused code labels) valid = told_valid (refused_labels labels server send) server (refused_can labels server send) valid
  met_valid server Reauthenticate valid = valid

-- a waiting send that arrives
less_valid : (trace : List Send) (server : Server) (at : ℕ) → IsValidBy trace server → IsValidBy trace (record server { waiting = slice_set server.waiting at None })
less_valid trace server at valid = record {
  waiting = λ k other is. valid.waiting k other (set_none server.waiting at k other is);
  sessions = valid.sessions;
  origin = valid.origin;
  told = λ entry id number has session_is number_is.
      let ran = valid.told entry id number has session_is number_is in record { known = ran.known; there = ran.there; ran = ran.ran };
  cursors = valid.cursors;
}

arrived_valid : (trace : List Send) (server : Server) (at : ℕ) (found : Option (Option Send)) → slice_get server.waiting at ≡ found → IsValidBy trace server
    → IsValidBy trace (arrived server at found)
unfolding arrived
arrived_valid trace server at None is valid = valid
arrived_valid trace server at (Some None) is valid = valid
arrived_valid trace server at (Some (Some send)) is valid =
    served_valid trace send (valid.waiting at send is) usual (record server { waiting = slice_set server.waiting at None }) (less_valid trace server at valid)

delivered_by : (trace : List Send) (server : Server) (at : ℕ) → IsValidBy trace server → IsValidBy trace (delivered server at)
unfolding delivered
delivered_by trace server at valid = arrived_valid trace server at (slice_get server.waiting at) refl valid

picks_by : (trace : List Send) (server : Server) (picks : List ℕ) → IsValidBy trace server → IsValidBy trace (after_picks server picks)
unfolding after_picks
picks_by trace server [] valid = valid
picks_by trace server (pick ∷ picks) valid = picks_by trace (delivered server pick) picks (delivered_by trace server pick valid)

-- the send joins the trace
longer_from : (trace : List Send) (send : Send) (entry : Entry) → IsFrom trace entry → IsFrom (trace ++ send ∷ []) entry
longer_from trace send entry is = record {
  send = is.send;
  at = is.at;
  write = is.write;
  result = is.result;
  sent = has_left trace (send ∷ []) is.send is.sent;
  stands = is.stands;
  is = is.is;
}

traced_valid : (trace : List Send) (server : Server) (send : Send) → IsValidBy trace server → IsValidBy (trace ++ send ∷ []) (traced server send)
traced_valid trace server send valid = record {
  waiting = λ at other is. has_left trace (send ∷ []) other (valid.waiting at other is);
  sessions = λ id known is. let session = valid.sessions id known is in record {
    newest = session.newest;
    sent = has_left trace (send ∷ []) session.newest session.sent;
    under = session.under;
    kept = session.kept;
    gathered = λ entry has. let one = session.gathered entry has in record {
      under = record { session = one.under.session; numbered = one.under.numbered; origin = longer_from trace send entry one.under.origin };
      ran = one.ran;
    };
  };
  origin = λ entry has. longer_from trace send entry (valid.origin entry has);
  told = λ entry id number has session_is number_is.
      let ran = valid.told entry id number has session_is number_is in record { known = ran.known; there = ran.there; ran = ran.ran };
  cursors = valid.cursors;
}

exchanged_by : (trace : List Send) (server : Server) (send : Send) (step : Scheduled) → IsValidBy trace server → IsValidBy (trace ++ send ∷ []) (exchanged server send step)
unfolding exchanged
exchanged_by trace server send step valid =
    let after : Server = after_picks server step.deliver in
    met_valid (trace ++ send ∷ []) send (has_last trace send) (traced after send) step.item
    (traced_valid trace after send (picks_by trace server step.deliver valid))

-- what the trace is after each step
served_trace : (plan : Plan) (server : Server) (send : Send) → (served plan server send).trace ≡ server.trace
unfolding served served_in
served_trace plan server send = refl

interruption_trace : (most : ℕ) (server : Server) (send : Send) → (interruption most server send).trace ≡ server.trace
unfolding interruption interrupted_in
interruption_trace most server send = refl

transient_trace : (session : Option (List ℕ)) (number : Option ℤ) (server : Server) (send : Send) → (transient_as session number server send).trace ≡ server.trace
unfolding transient_as
transient_trace None number server send = refl
transient_trace (Some id) None server send = refl
transient_trace (Some id) (Some number) server send = by_test (is_in_transaction send)
  where
    by_test : (b : Bool)
        → (if b then record server { sessions = finite.insert server.sessions id (aborted (known_under id number server send)) } else server).trace ≡ server.trace
    by_test true = refl
    by_test false = refl

told_trace : (labels : List (List ℕ)) (server : Server) (send : Send) → (told_of_error labels server send).trace ≡ server.trace
unfolding told_of_error
told_trace labels server send = by_test (has_transient labels)
  where
    by_test : (b : Bool) → (if b then transient_as send.session send.number server send else server).trace ≡ server.trace
    by_test true = transient_trace send.session send.number server send
    by_test false = refl

interrupted_trace : (most : ℕ) (labels : List (List ℕ)) (server : Server) (send : Send) → (interrupted most labels server send).trace ≡ server.trace
unfolding interrupted
interrupted_trace most labels server send = by_test (is_decided (case_of server send))
  where
    by_test : (b : Bool)
        → (if b then served usual server send else told_of_error (interrupted_labels most labels server send) (interruption most server send) send).trace ≡ server.trace
    by_test true = served_trace usual server send
    by_test false = told_trace (interrupted_labels most labels server send) (interruption most server send) send ∙ interruption_trace most server send

met_trace : (server : Server) (send : Send) (item : Item) → (met server send item).trace ≡ server.trace
unfolding met
met_trace server send (Serve results fail concern page) = served_trace (plan_of results fail concern page) server send
met_trace server send Lost = refl
met_trace server send Late = refl
met_trace server send ReplyLost = served_trace usual server send
met_trace server send (Interrupted most code labels) = interrupted_trace most labels server send
met_trace server send (Refused code labels) = told_trace (refused_labels labels server send) server send
met_trace server send Reauthenticate = refl

arrived_trace : (server : Server) (at : ℕ) (found : Option (Option Send)) → (arrived server at found).trace ≡ server.trace
unfolding arrived
arrived_trace server at None = refl
arrived_trace server at (Some None) = refl
arrived_trace server at (Some (Some send)) = served_trace usual (record server { waiting = slice_set server.waiting at None }) send

delivered_trace : (server : Server) (at : ℕ) → (delivered server at).trace ≡ server.trace
unfolding delivered
delivered_trace server at = arrived_trace server at (slice_get server.waiting at)

picks_trace : (server : Server) (picks : List ℕ) → (after_picks server picks).trace ≡ server.trace
unfolding after_picks
picks_trace server [] = refl
picks_trace server (pick ∷ picks) = picks_trace (delivered server pick) picks ∙ delivered_trace server pick

exchanged_trace : (server : Server) (send : Send) (step : Scheduled) → (exchanged server send step).trace ≡ server.trace ++ send ∷ []
unfolding exchanged
exchanged_trace server send step =
    met_trace (traced (after_picks server step.deliver) send) send step.item ∙ ap (λ sends. sends ++ send ∷ []) (picks_trace server step.deliver)

-- the laws
pub empty_valid : IsValid empty_server
empty_valid = record {
  waiting = λ at send is. absurd (none_is_some (Some send) is);
  sessions = λ id known is. absurd (none_is_some known (sym (finite.get-empty (slice_cmp nat_cmp) id) ∙ is));
  origin = λ entry has. absurd has;
  told = λ entry id number has session_is number_is. absurd has;
  cursors = λ at left is. absurd (none_is_some (Some left) is);
}

pub exchanged_valid : (server : Server) (send : Send) (step : Scheduled) → IsValid server → IsValid (exchanged server send step)
exchanged_valid server send step valid =
    subst (λ trace. IsValidBy trace (exchanged server send step)) (sym (exchanged_trace server send step)) (exchanged_by server.trace server send step valid)

pub delivered_valid : (server : Server) (at : ℕ) → IsValid server → IsValid (delivered server at)
delivered_valid server at valid =
    subst (λ trace. IsValidBy trace (delivered server at)) (sym (delivered_trace server at)) (delivered_by server.trace server at valid)

pub picks_valid : (server : Server) (picks : List ℕ) → IsValid server → IsValid (after_picks server picks)
picks_valid server picks valid =
    subst (λ trace. IsValidBy trace (after_picks server picks)) (sym (picks_trace server picks)) (picks_by server.trace server picks valid)

pub events_valid : (server : Server) (events : List Event) → IsValid server → IsValid (after_events server events)
unfolding after_events
events_valid server [] valid = valid
events_valid server (sends send step ∷ events) valid = events_valid (exchanged server send step) events (exchanged_valid server send step valid)
events_valid server (arrives at ∷ events) valid = events_valid (delivered server at) events (delivered_valid server at valid)
