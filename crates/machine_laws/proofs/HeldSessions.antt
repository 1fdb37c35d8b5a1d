-- What holds of a known session holds of it after each step of the machine, where the session's own steps keep it.
use Rattle.std.proofs.Common.{◌≡◌, ℕ, ℤ, ◌<ℤ◌, ◌&&◌, ◌==◌, Bool, true, false, List, [], ◌∷◌, ◌++◌, Option, None, Some, refl, sym, ap, subst, ◌∙◌, inl, inr, arith, if◌then◌else◌, slice_get, slice_set}
use Rattle.std.specs.Prelude.{◌⊎◌, int_lt}
use Rattle.std.proofs.lemmas.Int.{ints}
use Rattle.std.specs.FinMap as finite
use Rattle.driver_link.proofs.ServedSends.{id_cases, id_other, id_same}
use Rattle.driver_link.proofs.TakenNumbers.{not_below_taken, not_new, open_above}
use Rattle.driver_link.specs.Cases.{Case, abort_case, case_of, case_under, commit_case, is_decided, is_in_transaction, known_of, known_under, numbered_case, results_of, write_case, writes_of, too_old, outside, gathers, commits, aborts, of_cursor, nothing, denied}
use Rattle.driver_link.specs.Exchange.{after_picks, arrived, delivered, exchanged, interrupted, interrupted_labels, met, plan_of, refused_labels, traced}
use Rattle.driver_link.specs.Gathered.{is_numbered}
use Rattle.driver_link.specs.Honesty.{can_be_transient, facts_of, has_transient}
use Rattle.driver_link.specs.Interrupting.{aborted, done_before, interrupted_case, interrupted_in, interruption, runs_before, session_interrupted, told_of_error, transient_as}
use Rattle.driver_link.specs.Serving.{Plan, done_in, served, served_in, session_after, sessions_as, usual}
use Rattle.driver_link.specs.Sessions.{begin_session, is_below, is_committed, is_new, running, taken}
use Rattle.driver_link.specs.Statements.{entries_of, negated}
use Rattle.driver_link.specs.declared.machine.Entry.{Entry}
use Rattle.driver_link.specs.declared.machine.Item.{Item}
use Rattle.driver_link.specs.declared.machine.Item.TheVariants.{Serve, Lost, Late, ReplyLost, Interrupted, Refused, Reauthenticate}
use Rattle.driver_link.specs.declared.machine.KnownSession.{KnownSession}
use Rattle.driver_link.specs.declared.machine.Scheduled.{Scheduled}
use Rattle.driver_link.specs.declared.machine.Send.{Send}
use Rattle.driver_link.specs.declared.machine.SendBody.{SendBody}
use Rattle.driver_link.specs.declared.machine.SendBody.TheVariants.{Write, Commit, Abort, More, Kill}
use Rattle.driver_link.specs.declared.machine.Server.{Server}
use Rattle.driver_link.specs.declared.machine.ServerTransaction.{ServerTransaction}
use Rattle.driver_link.specs.declared.machine.ServerTransaction.TheVariants as transaction
use Rattle.driver_link.specs.declared.machine.Statement.{Statement}
use Rattle.machine_laws.proofs.HonestLabels.{transient_told}
use Rattle.machine_laws.proofs.SteadyLaws.{case_there, old_law, served_case}
use Rattle.machine_laws.specs.Events.{Event, after_events, arrives, sends}
use Rattle.machine_laws.specs.Steady.{GoesUnder}

-- a case in which the number is too old
abbrev pub is_early : Case → Bool
is_early too_old = true
is_early other = false

early_write : (inside : Bool) (found : Option (List Entry)) (again : Bool) → is_early (if inside then write_case found again else outside) ≡ false
early_write false found again = refl
early_write true None again = refl
early_write true (Some entries) true = refl
early_write true (Some entries) false = refl

early_commit : (t : ServerTransaction) → is_early (commit_case t) ≡ false
early_commit transaction.None = refl
early_commit (transaction.Running entries) = refl
early_commit transaction.Committed = refl
early_commit transaction.Aborted = refl

early_abort : (t : ServerTransaction) → is_early (abort_case t) ≡ false
early_abort transaction.None = refl
early_abort (transaction.Running entries) = refl
early_abort transaction.Committed = refl
early_abort transaction.Aborted = refl

-- a number that was taken is not too old
pub numbered_late : (known : KnownSession) (new : Bool) (send : Send) (body : SendBody) → is_early (numbered_case known new send body) ≡ false
numbered_late known new send (Write does ordered writes) = early_write send.in_transaction (running known.transaction) (send.start && negated new)
numbered_late known new send Commit = early_commit known.transaction
numbered_late known new send Abort = early_abort known.transaction
numbered_late known new send (More cursor) = refl
numbered_late known new send (Kill cursor) = refl

-- nor is it once its send was interrupted
pub interrupted_late : (most : ℕ) (case : Case) → is_early case ≡ false → is_early (interrupted_case most case) ≡ false
interrupted_late most too_old late = late
interrupted_late most outside late = refl
interrupted_late most (gathers entries) late = refl
interrupted_late most (commits entries) late = by_test (most == 0)
  where
    by_test : (b : Bool) → is_early (if b then nothing else commits entries) ≡ false
    by_test true = refl
    by_test false = refl
interrupted_late most aborts late = refl
interrupted_late most of_cursor late = refl
interrupted_late most nothing late = refl
interrupted_late most denied late = refl

-- a send under a number puts what is known of its session
pub puts : (id : List ℕ) (number : ℤ) (case : Case) (change : KnownSession → KnownSession) (server : Server) (send : Send) → is_early case ≡ false
    → sessions_as (Some id) (Some number) case change server send ≡ finite.insert server.sessions id (change (known_under id number server send))
puts id number too_old change server send late = let no : ◌≡◌ {A = Bool} true false = late in cc
puts id number case change server send late = refl

pub puts_under : (id : List ℕ) (number : ℤ) (case : Case) (change : KnownSession → KnownSession) (server : Server) (send : Send) → GoesUnder id number send → is_early case ≡ false
    → sessions_as send.session send.number case change server send ≡ finite.insert server.sessions id (change (known_under id number server send))
puts_under id number case change server send under late =
    (λ i. sessions_as (under.its_session i) (under.its_number i) case change server send) ∙ puts id number case change server send late

-- one without a number changes no session
pub free_sessions : (session : Option (List ℕ)) (number : Option ℤ) (case : Case) (change : KnownSession → KnownSession) (server : Server) (send : Send) → is_numbered session number ≡ false
    → sessions_as session number case change server send ≡ server.sessions
free_sessions session number too_old change server send none = refl
free_sessions None number case change server send none = refl
free_sessions (Some id) None case change server send none = refl
free_sessions (Some id) (Some number) case change server send none = let no : ◌≡◌ {A = Bool} true false = none in cc

-- a send that names a session and a number
pub record IsNamed (send : Send) : Type 0 where
  pub id : List ℕ
  pub number : ℤ
  pub under : GoesUnder id number send

-- a send names both, or it does not
pub naming : (send : Send) → IsNamed send ⊎ (is_numbered send.session send.number ≡ false)
naming send = by_parts send.session send.number refl refl
  where
    by_parts : (session : Option (List ℕ)) (number : Option ℤ) → send.session ≡ session → send.number ≡ number
        → IsNamed send ⊎ (is_numbered send.session send.number ≡ false)
    by_parts None None session_is number_is = inr (λ i. is_numbered (session_is i) (number_is i))
    by_parts None (Some number) session_is number_is = inr (λ i. is_numbered (session_is i) (number_is i))
    by_parts (Some id) None session_is number_is = inr (λ i. is_numbered (session_is i) (number_is i))
    by_parts (Some id) (Some number) session_is number_is =
        inl (record { id = id; number = number; under = record { its_session = session_is; its_number = number_is } })

-- a number that is not below the greatest of its session is the greatest once it was taken
pub taken_greatest : (number : ℤ) (inside start : Bool) (before : Option KnownSession) → is_below number before ≡ false → (taken number inside start before).greatest ≡ number
taken_greatest number inside start before above =
    equal number (taken number inside start before).greatest (not_below_taken number inside start before above) (not_new number inside start before)
  where
    equal : (number greatest : ℤ) → int_lt number greatest ≡ false → int_lt greatest number ≡ false → greatest ≡ number
    equal number greatest above below = grind (arith, ints)

-- a step leaves the number
pub greatest_served : (case : Case) (done : List Statement) (ran : List Entry) (known : KnownSession)
    → (session_after case done ran known).greatest ≡ known.greatest
greatest_served too_old done ran known = refl
greatest_served outside done ran known = refl
greatest_served (gathers entries) done ran known = refl
greatest_served (commits entries) done ran known = refl
greatest_served aborts done ran known = refl
greatest_served of_cursor done ran known = refl
greatest_served nothing done ran known = refl
greatest_served denied done ran known = refl

-- so does an interruption
pub greatest_interrupted : (case : Case) (done : List Statement) (ran : List Entry) (known : KnownSession)
    → (session_interrupted case done ran known).greatest ≡ known.greatest
greatest_interrupted too_old done ran known = refl
greatest_interrupted outside done ran known = refl
greatest_interrupted (gathers entries) done ran known = refl
greatest_interrupted (commits entries) done ran known = refl
greatest_interrupted aborts done ran known = refl
greatest_interrupted of_cursor done ran known = refl
greatest_interrupted nothing done ran known = refl
greatest_interrupted denied done ran known = refl

-- the case of a send whose number is not below the greatest of its session
pub case_above : (id : List ℕ) (number : ℤ) (server : Server) (send : Send) → GoesUnder id number send → is_below number (finite.get server.sessions id) ≡ false
    → case_of server send ≡ numbered_case (known_under id number server send) (is_new number (finite.get server.sessions id)) send send.body
unfolding case_under
case_above id number server send under above =
    case_there id number server send under
    ∙ ap (λ b. if b then too_old else numbered_case (known_under id number server send) (is_new number (finite.get server.sessions id)) send send.body) above

-- an interruption in a case that is known
pub interruption_case : (most : ℕ) (server : Server) (send : Send) (case : Case) → case_of server send ≡ case
    → interruption most server send ≡ interrupted_in (interrupted_case most case) (done_before most server send) server send
unfolding interruption
interruption_case most server send case is = λ i. interrupted_in (interrupted_case most (is i)) (done_before most server send) server send

-- what the labels of an interrupted send say of its transaction
pub interrupted_can : (most : ℕ) (labels : List (List ℕ)) (server : Server) (send : Send) → has_transient (interrupted_labels most labels server send) ≡ true
    → can_be_transient send.session send.number (interruption most server send) send ≡ true
interrupted_can most labels server send is =
    transient_told (facts_of (runs_before most server send) server send (interruption most server send)) labels is

-- and those of a refused one
pub refused_can : (labels : List (List ℕ)) (server : Server) (send : Send) → has_transient (refused_labels labels server send) ≡ true
    → can_be_transient send.session send.number server send ≡ true
refused_can labels server send is = transient_told (facts_of false server send server) labels is

-- two negations
pub both_false : (a b : Bool) → negated a && negated b ≡ true → (a ≡ false) × (b ≡ false)
both_false true b is = absurd (let no : ◌≡◌ {A = Bool} false true = is in cc)
both_false false true is = absurd (let no : ◌≡◌ {A = Bool} false true = is in cc)
both_false false false is = (refl, refl)

-- a property of what is known of a session that the session's own steps keep
pub record Keeps (P : KnownSession → Type 0) : Type 0 where
  pub anew : (known : KnownSession) (number : ℤ) (inside start : Bool) → P known → known.greatest <ℤ number → P (begin_session number inside start)
  pub serving : (known : KnownSession) (new : Bool) (send : Send) (done : List Statement) (ran : List Entry) → P known
      → P (session_after (numbered_case known new send send.body) done ran known)
  pub interrupting : (known : KnownSession) (new : Bool) (send : Send) (most : ℕ) (done : List Statement) (ran : List Entry) → P known
      → P (session_interrupted (interrupted_case most (numbered_case known new send send.body)) done ran known)
  pub calling : (known : KnownSession) → P known → is_committed known.transaction ≡ false → P (aborted known)

-- a session of this id is known, and it has the property
pub record Held (P : KnownSession → Type 0) (id : List ℕ) (server : Server) : Type 0 where
  pub known : KnownSession
  pub there : finite.get server.sessions id ≡ Some known
  pub has : P known

module _ (P : KnownSession → Type 0) (keeps : Keeps P) (id : List ℕ) where
  -- a number that is taken
  taken_has : (number : ℤ) (inside start : Bool) (known : KnownSession) → P known → P (taken number inside start (Some known))
  unfolding taken
  taken_has number inside start known has = by_test (int_lt known.greatest number) refl
    where
      less : (number greatest : ℤ) → int_lt greatest number ≡ true → greatest <ℤ number
      less number greatest is = grind (arith, ints)

      by_test : (b : Bool) → int_lt known.greatest number ≡ b → P (if b then begin_session number inside start else known)
      by_test true is = keeps.anew known number inside start has (less number known.greatest is)
      by_test false is = has

  known_has : (number : ℤ) (server : Server) (send : Send) → Held P id server → P (known_under id number server send)
  known_has number server send held =
      subst P (ap (taken number (is_in_transaction send) send.start) (sym held.there)) (taken_has number (is_in_transaction send) send.start held.known held.has)

  -- the same of a send under this id by another name
  other_has : (other : List ℕ) (number : ℤ) (server : Server) (send : Send) → other ≡ id → Held P id server → P (known_under other number server send)
  other_has other number server send same held = subst (λ i. P (known_under i number server send)) (sym same) (known_has number server send held)

  -- a session was put, this one or another
  put_held : (other : List ℕ) (after : KnownSession) (server now : Server) → now.sessions ≡ finite.insert server.sessions other after → (other ≡ id → P after)
      → Held P id server → Held P id now
  put_held other after server now is has held = elim (id_cases other id) [
    | inl same ↦ record {
      known = after;
      there =
          ap (λ sessions. finite.get sessions id) is ∙ ap (λ i. finite.get (finite.insert server.sessions i after) id) same ∙ id_same server.sessions id after;
      has = has same;
    }
    | inr differs ↦ record {
      known = held.known;
      there =
          ap (λ sessions. finite.get sessions id) is ∙ id_other server.sessions other after id (λ same. differs (sym same)) ∙ held.there;
      has = held.has;
    }
  ]

  -- no session changed
  same_held : (server now : Server) → now.sessions ≡ server.sessions → Held P id server → Held P id now
  same_held server now is held =
      record { known = held.known; there = ap (λ sessions. finite.get sessions id) is ∙ held.there; has = held.has }

  -- a send that is served
  served_in_held : (other : List ℕ) (number : ℤ) (case : Case) (done : List Statement) (page : Option ℕ) (server : Server) (send : Send) → GoesUnder other number send → is_early case ≡ false
      → (other ≡ id → P (session_after case done (entries_of send.session send.number (writes_of send) done) (known_under other number server send)))
      → Held P id server → Held P id (served_in case done page server send)
  unfolding served_in
  served_in_held other number case done page server send under late has held =
      let change : KnownSession → KnownSession = session_after case done (entries_of send.session send.number (writes_of send) done) in
      put_held other (change (known_under other number server send)) server (served_in case done page server send)
      (puts_under other number case change server send under late) has held

  served_above_held : (other : List ℕ) (number : ℤ) (plan : Plan) (server : Server) (send : Send) → GoesUnder other number send
      → is_below number (finite.get server.sessions other) ≡ false → Held P id server → Held P id (served plan server send)
  served_above_held other number plan server send under above held =
      let known : KnownSession = known_under other number server send in
      let new : Bool = is_new number (finite.get server.sessions other) in
      let case : Case = numbered_case known new send send.body in
      let done : List Statement = done_in case plan (results_of (known_of server send)) send.body in
      subst (Held P id) (sym (served_case plan server send case (case_above other number server send under above)))
      (served_in_held other number case done plan.page server send under (numbered_late known new send send.body)
      (λ same. keeps.serving known new send done (entries_of send.session send.number (writes_of send) done) (other_has other number server send same held))
      held)

  served_free_held : (plan : Plan) (server : Server) (send : Send) → is_numbered send.session send.number ≡ false → Held P id server → Held P id (served plan server send)
  unfolding served served_in
  served_free_held plan server send none held =
      same_held server (served plan server send) (free_sessions send.session send.number (case_of server send) _ server send none) held

  pub served_held : (plan : Plan) (server : Server) (send : Send) → Held P id server → Held P id (served plan server send)
  served_held plan server send held = elim (naming send) [
    | inl name ↦ by_test name (is_below name.number (finite.get server.sessions name.id)) refl
    | inr none ↦ served_free_held plan server send none held
  ]
    where
      by_test : (name : IsNamed send) (b : Bool) → is_below name.number (finite.get server.sessions name.id) ≡ b → Held P id (served plan server send)
      by_test name true below = subst (Held P id) (sym (old_law plan name.id name.number server send name.under below)) held
      by_test name false above = served_above_held name.id name.number plan server send name.under above held

  -- one that is interrupted
  interrupted_in_held : (other : List ℕ) (number : ℤ) (case : Case) (done : List Statement) (server : Server) (send : Send) → GoesUnder other number send → is_early case ≡ false
      → (other ≡ id → P (session_interrupted case done (entries_of send.session send.number (writes_of send) done) (known_under other number server send)))
      → Held P id server → Held P id (interrupted_in case done server send)
  unfolding interrupted_in
  interrupted_in_held other number case done server send under late has held =
      let change : KnownSession → KnownSession = session_interrupted case done (entries_of send.session send.number (writes_of send) done) in
      put_held other (change (known_under other number server send)) server (interrupted_in case done server send)
      (puts_under other number case change server send under late) has held

  interruption_above_held : (other : List ℕ) (number : ℤ) (most : ℕ) (server : Server) (send : Send) → GoesUnder other number send
      → is_below number (finite.get server.sessions other) ≡ false → Held P id server → Held P id (interruption most server send)
  interruption_above_held other number most server send under above held =
      let known : KnownSession = known_under other number server send in
      let new : Bool = is_new number (finite.get server.sessions other) in
      let case : Case = numbered_case known new send send.body in
      let done : List Statement = done_before most server send in
      subst (Held P id) (sym (interruption_case most server send case (case_above other number server send under above)))
      (interrupted_in_held other number (interrupted_case most case) done server send under (interrupted_late most case (numbered_late known new send send.body))
      (λ same. keeps.interrupting known new send most done (entries_of send.session send.number (writes_of send) done) (other_has other number server send same held))
      held)

  interruption_free_held : (most : ℕ) (server : Server) (send : Send) → is_numbered send.session send.number ≡ false → Held P id server → Held P id (interruption most server send)
  unfolding interruption interrupted_in
  interruption_free_held most server send none held =
      same_held server (interruption most server send) (free_sessions send.session send.number (interrupted_case most (case_of server send)) _ server send none) held

  pub interruption_held : (most : ℕ) (server : Server) (send : Send) → is_decided (case_of server send) ≡ false → Held P id server → Held P id (interruption most server send)
  interruption_held most server send undecided held = elim (naming send) [
    | inl name ↦
        let above = open_above name.number name.id server send (ap is_decided (sym (case_there name.id name.number server send name.under)) ∙ undecided) in
        interruption_above_held name.id name.number most server send name.under above held
    | inr none ↦ interruption_free_held most server send none held
  ]

  -- a transaction that is called transient
  pub transient_held : (session : Option (List ℕ)) (number : Option ℤ) (server : Server) (send : Send) → can_be_transient session number server send ≡ true
      → Held P id server → Held P id (transient_as session number server send)
  unfolding transient_as can_be_transient
  transient_held None number server send can held = held
  transient_held (Some other) None server send can held = held
  transient_held (Some other) (Some number) server send can held = by_test (is_in_transaction send) can
    where
      by_test : (b : Bool)
          → (if b then negated (is_below number (finite.get server.sessions other)) && negated (is_committed (known_under other number server send).transaction) else true) ≡ true
          → Held P id (if b then record server { sessions = finite.insert server.sessions other (aborted (known_under other number server send)) } else server)
      by_test true can =
          put_held other (aborted (known_under other number server send)) server
          (record server { sessions = finite.insert server.sessions other (aborted (known_under other number server send)) }) refl
          (λ same. keeps.calling (known_under other number server send) (other_has other number server send same held)
          (both_false (is_below number (finite.get server.sessions other)) (is_committed (known_under other number server send).transaction) can).1)
          held
      by_test false can = held

  pub told_held : (labels : List (List ℕ)) (server : Server) (send : Send) → (has_transient labels ≡ true → can_be_transient send.session send.number server send ≡ true)
      → Held P id server → Held P id (told_of_error labels server send)
  unfolding told_of_error
  told_held labels server send can held = by_test (has_transient labels) refl
    where
      by_test : (b : Bool) → has_transient labels ≡ b → Held P id (if b then transient_as send.session send.number server send else server)
      by_test true is = transient_held send.session send.number server send (can is) held
      by_test false is = held

  interrupted_held : (most : ℕ) (labels : List (List ℕ)) (server : Server) (send : Send) → Held P id server → Held P id (interrupted most labels server send)
  unfolding interrupted
  interrupted_held most labels server send held = by_test (is_decided (case_of server send)) refl
    where
      by_test : (b : Bool) → is_decided (case_of server send) ≡ b
          → Held P id (if b then served usual server send else told_of_error (interrupted_labels most labels server send) (interruption most server send) send)
      by_test true is = served_held usual server send held
      by_test false is =
          told_held (interrupted_labels most labels server send) (interruption most server send) send (interrupted_can most labels server send)
          (interruption_held most server send is held)

  -- a send that meets its item
  pub met_held : (server : Server) (send : Send) (item : Item) → Held P id server → Held P id (met server send item)
  unfolding met
  met_held server send (Serve results fail concern page) held = served_held (plan_of results fail concern page) server send held
  met_held server send Lost held = held
  met_held server send Late held = same_held server (record server { waiting = server.waiting ++ Some send ∷ [] }) refl held
  met_held server send ReplyLost held = served_held usual server send held
  met_held server send (Interrupted most code labels) held = interrupted_held most labels server send held
  met_held server send (Refused code labels) held = told_held (refused_labels labels server send) server send (refused_can labels server send) held
  met_held server send Reauthenticate held = held

  arrived_held : (server : Server) (at : ℕ) (found : Option (Option Send)) → Held P id server → Held P id (arrived server at found)
  unfolding arrived
  arrived_held server at None held = held
  arrived_held server at (Some None) held = held
  arrived_held server at (Some (Some send)) held =
      let less : Server = record server { waiting = slice_set server.waiting at None } in
      served_held usual less send (same_held server less refl held)

  pub delivered_held : (server : Server) (at : ℕ) → Held P id server → Held P id (delivered server at)
  unfolding delivered
  delivered_held server at held = arrived_held server at (slice_get server.waiting at) held

  pub picks_held : (server : Server) (picks : List ℕ) → Held P id server → Held P id (after_picks server picks)
  unfolding after_picks
  picks_held server [] held = held
  picks_held server (pick ∷ picks) held = picks_held (delivered server pick) picks (delivered_held server pick held)

  pub exchanged_held : (server : Server) (send : Send) (step : Scheduled) → Held P id server → Held P id (exchanged server send step)
  unfolding exchanged
  exchanged_held server send step held =
      let after : Server = after_picks server step.deliver in
      met_held (traced after send) send step.item (same_held after (traced after send) refl (picks_held server step.deliver held))

  -- whatever happens
  pub events_held : (server : Server) (events : List Event) → Held P id server → Held P id (after_events server events)
  unfolding after_events
  events_held server [] held = held
  events_held server (sends send step ∷ events) held = events_held (exchanged server send step) events (exchanged_held server send step held)
  events_held server (arrives at ∷ events) held = events_held (delivered server at) events (delivered_held server at held)
