-- A transaction that has ended stays as it is while its number is the greatest, and what is sent in one that was
-- aborted adds nothing.
use Rattle.std.proofs.Common.{◌≡◌, ℕ, ℤ, ◌<ℤ◌, ◌&&◌, ◌||◌, ◌==◌, Bool, true, false, List, [], ◌++◌, Option, None, Some, refl, sym, ap, subst, ◌∙◌, inl, inr, arith, if◌then◌else◌, slice_get, slice_set}
use Rattle.std.specs.Prelude.{◌⊎◌, int_lt}
use Rattle.std.proofs.lemmas.Int.{ints}
use Rattle.std.proofs.lemmas.List.{append-nil}
use Rattle.std.specs.FinMap as finite
use Rattle.driver_link.proofs.Lists.{some_is_some}
use Rattle.driver_link.proofs.ServedSends.{id_same}
use Rattle.driver_link.proofs.TakenNumbers.{open_above}
use Rattle.driver_link.specs.Cases.{Case, abort_case, case_of, commit_case, is_decided, is_end, is_in_transaction, known_of, known_under, numbered_case, results_of, write_case, writes_of, too_old, outside, gathers, commits, aborts, of_cursor, nothing, denied}
use Rattle.driver_link.specs.Exchange.{after_picks, arrived, delivered, exchanged, interrupted, interrupted_labels, met, plan_of, refused_labels, traced}
use Rattle.driver_link.specs.Honesty.{can_be_transient, has_transient}
use Rattle.driver_link.specs.Interrupting.{aborted, done_before, interrupted_case, interrupted_in, interruption, session_interrupted, told_of_error, transient_as}
use Rattle.driver_link.specs.Serving.{Plan, done_in, log_gains, served, served_in, session_after, usual}
use Rattle.driver_link.specs.Sessions.{begin_session, denied_transaction, is_below, is_committed, is_new, running}
use Rattle.driver_link.specs.Statements.{entries_of, negated}
use Rattle.driver_link.specs.declared.machine.Entry.{Entry}
use Rattle.driver_link.specs.declared.machine.Item.{Item}
use Rattle.driver_link.specs.declared.machine.Item.TheVariants.{Serve, Lost, Late, ReplyLost, Interrupted, Refused, Reauthenticate}
use Rattle.driver_link.specs.declared.machine.KnownSession.{KnownSession}
use Rattle.driver_link.specs.declared.machine.Scheduled.{Scheduled}
use Rattle.driver_link.specs.declared.machine.Send.{Send}
use Rattle.driver_link.specs.declared.machine.SendBody.{SendBody}
use Rattle.driver_link.specs.declared.machine.SendBody.TheVariants.{Write, Commit, Abort, More, Kill}
use Rattle.driver_link.specs.declared.machine.Server.{Server}
use Rattle.driver_link.specs.declared.machine.ServerTransaction.{ServerTransaction}
use Rattle.driver_link.specs.declared.machine.ServerTransaction.TheVariants as transaction
use Rattle.driver_link.specs.declared.machine.Statement.{Statement}
use Rattle.machine_laws.proofs.CommitLaws.{aborted_law, commits_law}
use Rattle.machine_laws.proofs.HeldSessions.{Held, Keeps, case_above, events_held, greatest_interrupted, greatest_served, interrupted_can, interruption_case, picks_held, puts_under, taken_greatest, told_held}
use Rattle.machine_laws.proofs.SteadyLaws.{case_is, case_there, old_law, served_case}
use Rattle.machine_laws.specs.Ended.{AddsNoEntry, IsInside, IsPastOr, NoneInside, StaysAs, WaitsInside}
use Rattle.machine_laws.specs.Events.{Event, after_events}
use Rattle.machine_laws.specs.Steady.{HasTransaction}

-- a case that leaves a transaction which has ended
is_calm : Case → Bool
is_calm outside = true
is_calm of_cursor = true
is_calm nothing = true
is_calm denied = true
is_calm other = false

-- an interruption leaves such a case calm
calm_interrupted : (most : ℕ) (case : Case) → is_calm case ≡ true → is_calm (interrupted_case most case) ≡ true
unfolding is_calm
calm_interrupted most too_old calm = calm
calm_interrupted most outside calm = refl
calm_interrupted most (gathers entries) calm = calm
calm_interrupted most (commits entries) calm = let no : ◌≡◌ {A = Bool} false true = calm in cc
calm_interrupted most aborts calm = refl
calm_interrupted most of_cursor calm = refl
calm_interrupted most nothing calm = refl
calm_interrupted most denied calm = refl

-- a calm case leaves a transaction that a denial leaves
calm_served : (its : ServerTransaction) (case : Case) (done : List Statement) (ran : List Entry) (known : KnownSession) → denied_transaction its ≡ its → is_calm case ≡ true
    → known.transaction ≡ its → (session_after case done ran known).transaction ≡ its
unfolding is_calm
calm_served its outside done ran known stays calm is = is
calm_served its of_cursor done ran known stays calm is = is
calm_served its nothing done ran known stays calm is = is
calm_served its denied done ran known stays calm is = ap denied_transaction is ∙ stays
calm_served its case done ran known stays calm is = let no : ◌≡◌ {A = Bool} false true = calm in cc

calm_left : (its : ServerTransaction) (case : Case) (done : List Statement) (ran : List Entry) (known : KnownSession) → denied_transaction its ≡ its → is_calm case ≡ true
    → known.transaction ≡ its → (session_interrupted case done ran known).transaction ≡ its
unfolding is_calm
calm_left its outside done ran known stays calm is = is
calm_left its of_cursor done ran known stays calm is = is
calm_left its nothing done ran known stays calm is = is
calm_left its denied done ran known stays calm is = ap denied_transaction is ∙ stays
calm_left its case done ran known stays calm is = let no : ◌≡◌ {A = Bool} false true = calm in cc

-- what has ended: a transaction that gathers no more, and that neither a commit nor an abort changes
record HasEnded (its : ServerTransaction) : Type 0 where
  stays : denied_transaction its ≡ its
  idle : running its ≡ None
  commit : is_calm (commit_case its) ≡ true
  abort : is_calm (abort_case its) ≡ true

aborted_ended : HasEnded transaction.Aborted
unfolding is_calm
aborted_ended = record { stays = refl; idle = refl; commit = refl; abort = refl }

committed_ended : HasEnded transaction.Committed
unfolding is_calm
committed_ended = record { stays = refl; idle = refl; commit = refl; abort = refl }

write_calm : (inside again : Bool) → is_calm (if inside then write_case None again else outside) ≡ true
unfolding is_calm
write_calm true again = refl
write_calm false again = refl

-- so each case under its number is calm
ended_calm : (its : ServerTransaction) (known : KnownSession) (new : Bool) (send : Send) (body : SendBody) → HasEnded its → known.transaction ≡ its
    → is_calm (numbered_case known new send body) ≡ true
unfolding is_calm
ended_calm its known new send (Write does ordered writes) ended is =
    ap (λ found. is_calm (if send.in_transaction then write_case found (send.start && negated new) else outside)) (ap running is ∙ ended.idle)
    ∙ write_calm send.in_transaction (send.start && negated new)
ended_calm its known new send Commit ended is = ap (λ t. is_calm (commit_case t)) is ∙ ended.commit
ended_calm its known new send Abort ended is = ap (λ t. is_calm (abort_case t)) is ∙ ended.abort
ended_calm its known new send (More cursor) ended is = refl
ended_calm its known new send (Kill cursor) ended is = refl

-- a number that is below stays below
pub below_still : (a b c : ℤ) → a <ℤ b → c ≡ b → a <ℤ c
below_still a b c less is = omega (arith, ints)

pub below_more : (a b c : ℤ) → a <ℤ b → b <ℤ c → a <ℤ c
below_more a b c less more = omega (arith, ints)

pub same_below : (a b c : ℤ) → b ≡ a → b <ℤ c → a <ℤ c
same_below a b c is less = omega (arith, ints)

module _ (number : ℤ) (its : ServerTransaction) (ended : HasEnded its) (calling : (known : KnownSession) → known.transaction ≡ its → is_committed known.transaction ≡ false → its ≡ transaction.Aborted) where
  past_anew : (known : KnownSession) (other : ℤ) (inside start : Bool) → IsPastOr its number known → known.greatest <ℤ other → IsPastOr its number (begin_session other inside start)
  past_anew known other inside start (inl less) more = inl (below_more number known.greatest other less more)
  past_anew known other inside start (inr same) more = inl (same_below number known.greatest other same.0 more)

  past_served : (known : KnownSession) (new : Bool) (send : Send) (done : List Statement) (ran : List Entry) → IsPastOr its number known
      → IsPastOr its number (session_after (numbered_case known new send send.body) done ran known)
  past_served known new send done ran (inl less) =
      let case : Case = numbered_case known new send send.body in
      inl (below_still number known.greatest (session_after case done ran known).greatest less (greatest_served case done ran known))
  past_served known new send done ran (inr same) =
      let case : Case = numbered_case known new send send.body in
      inr (
        greatest_served case done ran known ∙ same.0,
        calm_served its case done ran known ended.stays (ended_calm its known new send send.body ended same.1) same.1,
      )

  past_interrupted : (known : KnownSession) (new : Bool) (send : Send) (most : ℕ) (done : List Statement) (ran : List Entry) → IsPastOr its number known
      → IsPastOr its number (session_interrupted (interrupted_case most (numbered_case known new send send.body)) done ran known)
  past_interrupted known new send most done ran (inl less) =
      let case : Case = interrupted_case most (numbered_case known new send send.body) in
      inl (below_still number known.greatest (session_interrupted case done ran known).greatest less (greatest_interrupted case done ran known))
  past_interrupted known new send most done ran (inr same) =
      let case : Case = interrupted_case most (numbered_case known new send send.body) in
      inr (
        greatest_interrupted case done ran known ∙ same.0,
        calm_left its case done ran known ended.stays
            (calm_interrupted most (numbered_case known new send send.body) (ended_calm its known new send send.body ended same.1)) same.1,
      )

  past_called : (known : KnownSession) → IsPastOr its number known → is_committed known.transaction ≡ false → IsPastOr its number (aborted known)
  past_called known (inl less) opens = inl less
  past_called known (inr same) opens = inr (same.0, sym (calling known same.1 opens))

  past_keeps : Keeps (IsPastOr its number)
  past_keeps = record { anew = past_anew; serving = past_served; interrupting = past_interrupted; calling = past_called }

aborted_called : (known : KnownSession) → known.transaction ≡ transaction.Aborted → is_committed known.transaction ≡ false → ◌≡◌ {A = ServerTransaction} transaction.Aborted transaction.Aborted
aborted_called known is opens = refl

committed_called : (known : KnownSession) → known.transaction ≡ transaction.Committed → is_committed known.transaction ≡ false
    → ◌≡◌ {A = ServerTransaction} transaction.Committed transaction.Aborted
committed_called known is opens = absurd (let no : ◌≡◌ {A = Bool} true false = sym (ap is_committed is) ∙ opens in cc)

-- aborted transactions stay so, and committed ones
aborted_keeps : (number : ℤ) → Keeps (IsPastOr transaction.Aborted number)
aborted_keeps number = past_keeps number transaction.Aborted aborted_ended aborted_called

committed_keeps : (number : ℤ) → Keeps (IsPastOr transaction.Committed number)
committed_keeps number = past_keeps number transaction.Committed committed_ended committed_called

held_of : (id : List ℕ) (number : ℤ) (its : ServerTransaction) (server : Server) → StaysAs id number its server → Held (IsPastOr its number) id server
held_of id number its server stays = record { known = stays.known; there = stays.there; has = stays.is }

stays_of : (id : List ℕ) (number : ℤ) (its : ServerTransaction) (server : Server) → Held (IsPastOr its number) id server → StaysAs id number its server
stays_of id number its server held = record { known = held.known; there = held.there; is = held.has }

pub has_stays : (id : List ℕ) (number : ℤ) (its : ServerTransaction) (server : Server) → HasTransaction id number its server → StaysAs id number its server
has_stays id number its server has = record { known = has.known; there = has.there; is = inr (has.greatest, has.its) }

pub aborted_stays : (id : List ℕ) (number : ℤ) (server : Server) (events : List Event) → HasTransaction id number transaction.Aborted server
    → StaysAs id number transaction.Aborted (after_events server events)
aborted_stays id number server events has =
    stays_of id number transaction.Aborted (after_events server events)
    (events_held (IsPastOr transaction.Aborted number) (aborted_keeps number) id server events
    (held_of id number transaction.Aborted server (has_stays id number transaction.Aborted server has)))

committed_events : (id : List ℕ) (number : ℤ) (server : Server) (events : List Event) → StaysAs id number transaction.Committed server
    → StaysAs id number transaction.Committed (after_events server events)
committed_events id number server events stays =
    stays_of id number transaction.Committed (after_events server events)
    (events_held (IsPastOr transaction.Committed number) (committed_keeps number) id server events
    (held_of id number transaction.Committed server stays))

pub committed_stays : (id : List ℕ) (number : ℤ) (server : Server) (events : List Event) → HasTransaction id number transaction.Committed server
    → StaysAs id number transaction.Committed (after_events server events)
committed_stays id number server events has = committed_events id number server events (has_stays id number transaction.Committed server has)

-- a transaction that is called transient adds nothing to the log
pub transient_log : (session : Option (List ℕ)) (number : Option ℤ) (server : Server) (send : Send) → (transient_as session number server send).log ≡ server.log
unfolding transient_as
transient_log None number server send = refl
transient_log (Some id) None server send = refl
transient_log (Some id) (Some number) server send = by_test (is_in_transaction send)
  where
    by_test : (b : Bool)
        → (if b then record server { sessions = finite.insert server.sessions id (aborted (known_under id number server send)) } else server).log ≡ server.log
    by_test true = refl
    by_test false = refl

pub told_log : (labels : List (List ℕ)) (server : Server) (send : Send) → (told_of_error labels server send).log ≡ server.log
unfolding told_of_error
told_log labels server send = by_test (has_transient labels)
  where
    by_test : (b : Bool) → (if b then transient_as send.session send.number server send else server).log ≡ server.log
    by_test true = transient_log send.session send.number server send
    by_test false = refl

-- the log after an interruption in a case
pub interrupted_log : (case : Case) (done : List Statement) (server : Server) (send : Send)
    → (interrupted_in case done server send).log ≡ server.log ++ log_gains case (entries_of send.session send.number (writes_of send) done)
unfolding interrupted_in
interrupted_log case done server send = refl

-- and once a send was served in one
pub log_served : (case : Case) (done : List Statement) (page : Option ℕ) (server : Server) (send : Send)
    → (served_in case done page server send).log ≡ server.log ++ log_gains case (entries_of send.session send.number (writes_of send) done)
unfolding served_in
log_served case done page server send = refl

-- a send in a transaction adds nothing, but for a commit that goes through
gains_inside : Case → Bool
gains_inside outside = true
gains_inside (commits entries) = true
gains_inside other = false

none_gained : (case : Case) (ran : List Entry) → gains_inside case ≡ false → log_gains case ran ≡ []
unfolding gains_inside
none_gained outside ran none = let no : ◌≡◌ {A = Bool} true false = none in cc
none_gained (commits entries) ran none = let no : ◌≡◌ {A = Bool} true false = none in cc
none_gained case ran none = refl

-- what a send in a transaction meets: nothing that adds, or a commit that goes through
record GoesThrough (case : Case) : Type 0 where
  entries : List Entry
  is : case ≡ commits entries

write_inside : (inside : Bool) (found : Option (List Entry)) (again : Bool) → inside || false ≡ true → gains_inside (if inside then write_case found again else outside) ≡ false
unfolding gains_inside
write_inside false found again is = let no : ◌≡◌ {A = Bool} false true = is in cc
write_inside true None again is = refl
write_inside true (Some entries) true is = refl
write_inside true (Some entries) false is = refl

commit_inside : (t : ServerTransaction) → (gains_inside (commit_case t) ≡ false) ⊎ GoesThrough (commit_case t)
unfolding gains_inside
commit_inside transaction.None = inl refl
commit_inside (transaction.Running entries) = inr (record { entries = entries; is = refl })
commit_inside transaction.Committed = inl refl
commit_inside transaction.Aborted = inl refl

abort_inside : (t : ServerTransaction) → gains_inside (abort_case t) ≡ false
unfolding gains_inside
abort_inside transaction.None = refl
abort_inside (transaction.Running entries) = refl
abort_inside transaction.Committed = refl
abort_inside transaction.Aborted = refl

inside_case : (known : KnownSession) (new : Bool) (send : Send) (body : SendBody) → send.in_transaction || is_end body ≡ true
    → (gains_inside (numbered_case known new send body) ≡ false) ⊎ GoesThrough (numbered_case known new send body)
unfolding gains_inside
inside_case known new send (Write does ordered writes) inside =
    inl (write_inside send.in_transaction (running known.transaction) (send.start && negated new) inside)
inside_case known new send Commit inside = commit_inside known.transaction
inside_case known new send Abort inside = inl (abort_inside known.transaction)
inside_case known new send (More cursor) inside = inl refl
inside_case known new send (Kill cursor) inside = inl refl

-- an interruption adds no more than the case would
less_gained : (most : ℕ) (case : Case) → gains_inside case ≡ false → gains_inside (interrupted_case most case) ≡ false
unfolding gains_inside
less_gained most too_old none = refl
less_gained most outside none = none
less_gained most (gathers entries) none = refl
less_gained most (commits entries) none = let no : ◌≡◌ {A = Bool} true false = none in cc
less_gained most aborts none = refl
less_gained most of_cursor none = refl
less_gained most nothing none = refl
less_gained most denied none = refl

-- in a transaction that is aborted there is no commit that goes through
aborted_inside : (known : KnownSession) (new : Bool) (send : Send) (body : SendBody) → known.transaction ≡ transaction.Aborted → send.in_transaction || is_end body ≡ true
    → gains_inside (numbered_case known new send body) ≡ false
unfolding gains_inside
aborted_inside known new send (Write does ordered writes) is inside =
    write_inside send.in_transaction (running known.transaction) (send.start && negated new) inside
aborted_inside known new send Commit is inside = ap (λ t. gains_inside (commit_case t)) is
aborted_inside known new send Abort is inside = abort_inside known.transaction
aborted_inside known new send (More cursor) is inside = refl
aborted_inside known new send (Kill cursor) is inside = refl

module _ (id : List ℕ) (number : ℤ) (server : Server) (send : Send) (inside : IsInside id number send) where
  -- an interruption in a case that adds nothing
  quiet_interruption : (most : ℕ) (case : Case) → case_of server send ≡ case → gains_inside case ≡ false → (interruption most server send).log ≡ server.log
  quiet_interruption most case is none =
      ap (λ s. s.log) (interruption_case most server send case is)
      ∙ interrupted_log (interrupted_case most case) (done_before most server send) server send
      ∙ ap (λ more. server.log ++ more)
      (none_gained (interrupted_case most case) (entries_of send.session send.number (writes_of send) (done_before most server send)) (less_gained most case none))
      ∙ append-nil server.log

  -- (a number that is past, or a transaction that was aborted) no item makes the send add an entry
  aborted_above : StaysAs id number transaction.Aborted server → (above : is_below number (finite.get server.sessions id) ≡ false) → HasTransaction id number transaction.Aborted server
  unfolding is_below
  aborted_above stays above = elim stays.is [
    | inl less ↦ absurd (not_less number stays.known.greatest less (ap (is_below number) (sym stays.there) ∙ above))
    | inr same ↦ record { known = stays.known; there = stays.there; greatest = same.0; its = same.1 }
  ]
    where
      is_less : (a b : ℤ) → a <ℤ b → int_lt a b ≡ true
      is_less a b less = grind (arith, ints)

      not_less : (a b : ℤ) → a <ℤ b → int_lt a b ≡ false → ⊥
      not_less a b less above = let no : ◌≡◌ {A = Bool} true false = sym (is_less a b less) ∙ above in cc

  quiet_served : (plan : Plan) → StaysAs id number transaction.Aborted server → (served plan server send).log ≡ server.log
  quiet_served plan stays = by_test (is_below number (finite.get server.sessions id)) refl
    where
      by_test : (b : Bool) → is_below number (finite.get server.sessions id) ≡ b → (served plan server send).log ≡ server.log
      by_test true below = ap (λ s. s.log) (old_law plan id number server send inside.under below)
      by_test false above = (aborted_law plan id number server send inside.under inside.inside (aborted_above stays above)).0

  quiet_open : (most : ℕ) → StaysAs id number transaction.Aborted server → is_decided (case_of server send) ≡ false → (interruption most server send).log ≡ server.log
  quiet_open most stays undecided =
      let above = open_above number id server send (ap is_decided (sym (case_there id number server send inside.under)) ∙ undecided) in
      let has = aborted_above stays above in
      quiet_interruption most (numbered_case has.known false send send.body)
      (case_is id number server send inside.under has.known has.there has.greatest)
      (aborted_inside has.known false send send.body has.its inside.inside)

  quiet_interrupted : (most : ℕ) (labels : List (List ℕ)) → StaysAs id number transaction.Aborted server → (interrupted most labels server send).log ≡ server.log
  unfolding interrupted
  quiet_interrupted most labels stays = by_test (is_decided (case_of server send)) refl
    where
      by_test : (b : Bool) → is_decided (case_of server send) ≡ b
          → (if b then served usual server send else told_of_error (interrupted_labels most labels server send) (interruption most server send) send).log ≡ server.log
      by_test true is = quiet_served usual stays
      by_test false is = told_log (interrupted_labels most labels server send) (interruption most server send) send ∙ quiet_open most stays is

  quiet_met : (item : Item) → StaysAs id number transaction.Aborted server → (met server send item).log ≡ server.log
  unfolding met
  quiet_met (Serve results fail concern page) stays = quiet_served (plan_of results fail concern page) stays
  quiet_met Lost stays = refl
  quiet_met Late stays = refl
  quiet_met ReplyLost stays = quiet_served usual stays
  quiet_met (Interrupted most code labels) stays = quiet_interrupted most labels stays
  quiet_met (Refused code labels) stays = told_log (refused_labels labels server send) server send
  quiet_met Reauthenticate stays = refl

  -- (whatever the transaction is) a send that is served in a case that adds nothing
  served_log : (plan : Plan) (case : Case) → case_of server send ≡ case → gains_inside case ≡ false → (served plan server send).log ≡ server.log
  served_log plan case is none =
      let done : List Statement = done_in case plan (results_of (known_of server send)) send.body in
      ap (λ s. s.log) (served_case plan server send case is)
      ∙ log_served case done plan.page server send
      ∙ ap (λ more. server.log ++ more) (none_gained case (entries_of send.session send.number (writes_of send) done) none)
      ∙ append-nil server.log

  -- the send adds nothing, or its transaction is committed afterwards
  abbrev AddsOrCommits : Server → Type 0
  AddsOrCommits now = (now.log ≡ server.log) ⊎ StaysAs id number transaction.Committed now

  served_above_adds : (plan : Plan) → is_below number (finite.get server.sessions id) ≡ false → AddsOrCommits (served plan server send)
  served_above_adds plan above =
      let new : Bool = is_new number (finite.get server.sessions id) in
      let is = case_above id number server send inside.under above in
      elim (inside_case (known_under id number server send) new send send.body inside.inside) [
        | inl none ↦ inl (served_log plan (numbered_case (known_under id number server send) new send send.body) is none)
        | inr through ↦
            inr (has_stays id number transaction.Committed (served plan server send)
            (commits_law plan id number server send through.entries inside.under (is ∙ through.is)))
      ]

  served_adds_or : (plan : Plan) → AddsOrCommits (served plan server send)
  served_adds_or plan = by_test (is_below number (finite.get server.sessions id)) refl
    where
      by_test : (b : Bool) → is_below number (finite.get server.sessions id) ≡ b → AddsOrCommits (served plan server send)
      by_test true below = inl (ap (λ s. s.log) (old_law plan id number server send inside.under below))
      by_test false above = served_above_adds plan above

  -- an interrupted commit that goes through
  commit_there : (entries : List Entry) (done : List Statement) → is_below number (finite.get server.sessions id) ≡ false
      → StaysAs id number transaction.Committed (interrupted_in (commits entries) done server send)
  unfolding interrupted_in
  commit_there entries done above =
      let known : KnownSession = known_under id number server send in
      let change : KnownSession → KnownSession
      = session_interrupted (commits entries) done (entries_of send.session send.number (writes_of send) done) in
      record {
        known = change known;
        there =
            ap (λ sessions. finite.get sessions id) (puts_under id number (commits entries) change server send inside.under refl)
            ∙ id_same server.sessions id (change known);
        is = inr (taken_greatest number (is_in_transaction send) send.start (finite.get server.sessions id) above, refl);
      }

  through_adds : (most : ℕ) (entries : List Entry) → is_below number (finite.get server.sessions id) ≡ false → case_of server send ≡ commits entries
      → AddsOrCommits (interruption most server send)
  through_adds most entries above is = by_test (most == 0) refl
    where
      by_test : (b : Bool) → (most == 0) ≡ b → AddsOrCommits (interruption most server send)
      by_test true none =
          let left : interrupted_case most (commits entries) ≡ nothing = ap (λ t. if t then nothing else commits entries) none in
          inl (
          ap (λ s. s.log) (interruption_case most server send (commits entries) is)
          ∙ interrupted_log (interrupted_case most (commits entries)) (done_before most server send) server send
          ∙ ap (λ case. server.log ++ log_gains case (entries_of send.session send.number (writes_of send) (done_before most server send))) left
          ∙ append-nil server.log)
      by_test false some =
          let left : interrupted_case most (commits entries) ≡ commits entries = ap (λ t. if t then nothing else commits entries) some in
          inr (subst (StaysAs id number transaction.Committed)
          (sym (interruption_case most server send (commits entries) is ∙ ap (λ case. interrupted_in case (done_before most server send) server send) left))
          (commit_there entries (done_before most server send) above))

  open_adds : (most : ℕ) → is_decided (case_of server send) ≡ false → AddsOrCommits (interruption most server send)
  open_adds most undecided =
      let above = open_above number id server send (ap is_decided (sym (case_there id number server send inside.under)) ∙ undecided) in
      let new : Bool = is_new number (finite.get server.sessions id) in
      let is = case_above id number server send inside.under above in
      elim (inside_case (known_under id number server send) new send send.body inside.inside) [
        | inl none ↦ inl (quiet_interruption most (numbered_case (known_under id number server send) new send send.body) is none)
        | inr through ↦ through_adds most through.entries above (is ∙ through.is)
      ]

  -- and what its answer calls it afterwards changes neither
  told_adds : (labels : List (List ℕ)) (now : Server) → (has_transient labels ≡ true → can_be_transient send.session send.number now send ≡ true)
      → AddsOrCommits now → AddsOrCommits (told_of_error labels now send)
  told_adds labels now can adds = elim adds [
    | inl same ↦ inl (told_log labels now send ∙ same)
    | inr stays ↦
        inr (stays_of id number transaction.Committed (told_of_error labels now send)
        (told_held (IsPastOr transaction.Committed number) (committed_keeps number) id labels now send can
        (held_of id number transaction.Committed now stays)))
  ]

  interrupted_adds_or : (most : ℕ) (labels : List (List ℕ)) → AddsOrCommits (interrupted most labels server send)
  unfolding interrupted
  interrupted_adds_or most labels = by_test (is_decided (case_of server send)) refl
    where
      by_test : (b : Bool) → is_decided (case_of server send) ≡ b
          → AddsOrCommits (if b then served usual server send else told_of_error (interrupted_labels most labels server send) (interruption most server send) send)
      by_test true is = served_adds_or usual
      by_test false is =
          told_adds (interrupted_labels most labels server send) (interruption most server send) (interrupted_can most labels server send) (open_adds most is)

  met_adds_or : (item : Item) → AddsOrCommits (met server send item)
  unfolding met
  met_adds_or (Serve results fail concern page) = served_adds_or (plan_of results fail concern page)
  met_adds_or Lost = inl refl
  met_adds_or Late = inl refl
  met_adds_or ReplyLost = served_adds_or usual
  met_adds_or (Interrupted most code labels) = interrupted_adds_or most labels
  met_adds_or (Refused code labels) = inl (told_log (refused_labels labels server send) server send)
  met_adds_or Reauthenticate = inl refl

-- a waiting send is served
late_is : (server : Server) (at : ℕ) (send : Send) → slice_get server.waiting at ≡ Some (Some send)
    → delivered server at ≡ served usual (record server { waiting = slice_set server.waiting at None }) send
unfolding delivered arrived
late_is server at send waits = ap (λ found. arrived server at found) waits

-- no send in an aborted transaction adds an entry
quiet_exchange : (id : List ℕ) (number : ℤ) (server : Server) (send : Send) (step : Scheduled) → IsInside id number send → StaysAs id number transaction.Aborted server
    → AddsNoEntry server send step
unfolding exchanged
quiet_exchange id number server send step inside stays =
    let after : Server = after_picks server step.deliver in
    let later : StaysAs id number transaction.Aborted after
    = stays_of id number transaction.Aborted after
    (picks_held (IsPastOr transaction.Aborted number) (aborted_keeps number) id server step.deliver (held_of id number transaction.Aborted server stays)) in
    quiet_met id number (traced after send) send inside step.item (record { known = later.known; there = later.there; is = later.is })

quiet_late : (id : List ℕ) (number : ℤ) (server : Server) (at : ℕ) → WaitsInside id number at server → StaysAs id number transaction.Aborted server
    → (delivered server at).log ≡ server.log
quiet_late id number server at waits stays =
    let less : Server = record server { waiting = slice_set server.waiting at None } in
    ap (λ s. s.log) (late_is server at waits.send waits.waits)
    ∙ quiet_served id number less waits.send waits.is usual (record { known = stays.known; there = stays.there; is = stays.is })

pub none_inside : (id : List ℕ) (number : ℤ) (server : Server) (events : List Event) → HasTransaction id number transaction.Aborted server
    → NoneInside id number (after_events server events)
none_inside id number server events has =
    let later : Server = after_events server events in
    let stays = aborted_stays id number server events has in
    record {
      sent = λ send step inside. quiet_exchange id number later send step inside stays;
      late = λ at waits. quiet_late id number later at waits stays;
    }

-- what stays committed is not aborted
not_both : (id : List ℕ) (number : ℤ) (server : Server) → StaysAs id number transaction.Committed server → HasTransaction id number transaction.Aborted server → ⊥
not_both id number server stays has =
    let same : stays.known ≡ has.known = some_is_some stays.known has.known (sym stays.there ∙ has.there) in
    elim stays.is [
      | inl less ↦ passed number stays.known.greatest less (ap (λ known. known.greatest) same ∙ has.greatest)
      | inr is ↦
          let e : ◌≡◌ {A = ServerTransaction} transaction.Committed transaction.Aborted = sym is.1 ∙ ap (λ known. known.transaction) same ∙ has.its in cc
    ]
  where
    passed : (a b : ℤ) → a <ℤ b → b ≡ a → ⊥
    passed a b less same = omega (arith, ints)

exchange_adds : (id : List ℕ) (number : ℤ) (server : Server) (send : Send) (step : Scheduled) → IsInside id number send
    → AddsNoEntry server send step ⊎ StaysAs id number transaction.Committed (exchanged server send step)
unfolding exchanged
exchange_adds id number server send step inside = met_adds_or id number (traced (after_picks server step.deliver) send) send inside step.item

-- so a transaction that is aborted in the end has added nothing
pub added_none : (id : List ℕ) (number : ℤ) (server : Server) (send : Send) (step : Scheduled) (events : List Event) → IsInside id number send
    → HasTransaction id number transaction.Aborted (after_events (exchanged server send step) events) → AddsNoEntry server send step
added_none id number server send step events inside has = elim (exchange_adds id number server send step inside) [
  | inl same ↦ same
  | inr stays ↦
      absurd (not_both id number (after_events (exchanged server send step) events) (committed_events id number (exchanged server send step) events stays) has)
]

pub added_none_late : (id : List ℕ) (number : ℤ) (server : Server) (at : ℕ) (events : List Event) → WaitsInside id number at server
    → HasTransaction id number transaction.Aborted (after_events (delivered server at) events) → (delivered server at).log ≡ server.log
added_none_late id number server at events waits has =
    let less : Server = record server { waiting = slice_set server.waiting at None } in
    let is = late_is server at waits.send waits.waits in
    elim (served_adds_or id number less waits.send waits.is usual) [
      | inl same ↦ ap (λ s. s.log) is ∙ same
      | inr stays ↦
          absurd (not_both id number (after_events (delivered server at) events)
          (committed_events id number (delivered server at) events (subst (StaysAs id number transaction.Committed) (sym is) stays)) has)
    ]
