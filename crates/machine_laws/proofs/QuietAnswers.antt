-- What an answer that spells an error says of what its send did.
use Rattle.std.proofs.Common.{◌≡◌, ℕ, ℤ, ◌<ℤ◌, ◌&&◌, ◌||◌, Bool, true, false, List, [], ◌∷◌, ◌++◌, Option, None, Some, refl, sym, ap, subst, ◌∙◌, inl, inr, arith, if◌then◌else◌}
use Rattle.std.specs.Prelude.{int_lt}
use Rattle.std.specs.List.{list_any}
use Rattle.std.specs.FinMap as finite
use Rattle.std.proofs.lemmas.Bool.{or_parts}
use Rattle.std.proofs.lemmas.Int.{ints}
use Rattle.std.proofs.lemmas.List.{append-nil}
use Rattle.driver_error.specs.declared.labels.TheConstants.{NO_WRITES_PERFORMED, TRANSIENT_TRANSACTION_ERROR}
use Rattle.driver_link.proofs.Lists.{none_is_some, some_is_some}
use Rattle.driver_link.proofs.ServedSends.{id_cases, id_other, id_same}
use Rattle.driver_link.proofs.TakenNumbers.{not_below_itself, open_above}
use Rattle.driver_link.specs.Cases.{Case, case_of, case_under, is_decided, is_in_transaction, known_as, known_of, known_under, numbered_case, results_of, writes_of, too_old, outside, gathers, commits, aborts, of_cursor, nothing, denied}
use Rattle.driver_link.specs.Exchange.{after_picks, answered, exchanged, interrupted, interrupted_labels, interrupted_reply, met, plan_of, reauthentication_required, refused_labels, reply, traced}
use Rattle.driver_link.specs.Gathered.{entries_in, gathered_by, is_numbered}
use Rattle.driver_link.specs.Honesty.{can_be_transient, facts_of, has_transient, is_overload, ran_before, ran_under}
use Rattle.driver_link.specs.Interrupting.{aborted, done_before, interrupted_case, interrupted_in, interruption, runs_before, runs_in, session_interrupted, told_of_error, transient_as}
use Rattle.driver_link.specs.Replies.{error_reply, served_reply, transaction_of}
use Rattle.driver_link.specs.Serving.{Plan, done_in, log_gains, served, served_in, usual}
use Rattle.driver_link.specs.Sessions.{begin_session, denied_transaction, is_below, is_committed, is_new, taken}
use Rattle.driver_link.specs.Settled.{Has}
use Rattle.driver_link.specs.Statements.{entries_of, has_run, negated}
use Rattle.driver_link.specs.declared.machine.Entry.{Entry}
use Rattle.driver_link.specs.declared.machine.Item.{Item}
use Rattle.driver_link.specs.declared.machine.Item.TheVariants.{Serve, Lost, Late, ReplyLost, Interrupted, Refused, Reauthenticate}
use Rattle.driver_link.specs.declared.machine.KnownSession.{KnownSession}
use Rattle.driver_link.specs.declared.machine.PlacedWrite.{PlacedWrite}
use Rattle.driver_link.specs.declared.machine.Scheduled.{Scheduled}
use Rattle.driver_link.specs.declared.machine.Send.{Send}
use Rattle.driver_link.specs.declared.machine.Server.{Server}
use Rattle.driver_link.specs.declared.machine.ServerTransaction.{ServerTransaction}
use Rattle.driver_link.specs.declared.machine.ServerTransaction.TheVariants as transaction
use Rattle.driver_link.specs.declared.machine.Statement.{Statement}
use Rattle.driver_link.specs.declared.machine.Statement.TheVariants.{Kept, Ran, Failed}
use Rattle.machine_laws.proofs.CommitLaws.{case_leaves}
use Rattle.machine_laws.proofs.EndedTransactions.{none_inside}
use Rattle.machine_laws.proofs.ErrorReplies.{same_code, same_labels, served_error}
use Rattle.machine_laws.proofs.HeldSessions.{both_false, case_above, events_held, free_sessions, interrupted_can, interrupted_late, interruption_case, is_early, naming, numbered_late, picks_held, puts_under, refused_can, taken_greatest}
use Rattle.machine_laws.proofs.HonestLabels.{no_writes_told, overload_told}
use Rattle.machine_laws.proofs.SteadyLaws.{case_there, served_case}
use Rattle.machine_laws.proofs.ValidServers.{empty_denied, empty_opened, events_valid, held_ran, picks_valid, ran_held, ran_keeps, transient_put}
use Rattle.machine_laws.specs.Ended.{NoneInside}
use Rattle.machine_laws.specs.ErrorAnswers.{AddsNothing, CallsTransient, HasNone, IsEntryUnder, IsSameOrNone, NoneWritten, NothingRan, SaysNothingRan, gathered_in, has_label}
use Rattle.machine_laws.specs.Events.{Event, after_events}
use Rattle.machine_laws.specs.Steady.{GoesUnder, HasTransaction}
use Rattle.machine_laws.specs.Valid.{HasRunUnder, IsValid, RanUnder}

-- two steps, each of which leaves entries the same or none
less_twice : (a b c : List Entry) → IsSameOrNone a b → IsSameOrNone b c → IsSameOrNone a c
less_twice a b c (inl one) (inl two) = inl (two ∙ one)
less_twice a b c (inr none) (inl two) = inr (two ∙ none)
less_twice a b c one (inr none) = inr none

-- what stands in entries that are the same as before, or none, stood in them before
less_has : (old now : List Entry) (entry : Entry) → IsSameOrNone old now → Has now entry → Has old entry
less_has old now entry (inl same) has = subst (λ entries. Has entries entry) same has
less_has old now entry (inr none) has = absurd (subst (λ entries. Has entries entry) none has)

-- no session changed, and the log is the same
adds_same : (old now : Server) → now.sessions ≡ old.sessions → now.log ≡ old.log → AddsNothing old now
adds_same old now sessions log = record { log = log; gathered = λ id. inl (ap (λ known. gathered_by (finite.get known id)) sessions) }

-- a session was put whose transaction has the same entries as before, or none
adds_put : (id : List ℕ) (after : KnownSession) (old now : Server) → now.sessions ≡ finite.insert old.sessions id after → now.log ≡ old.log
    → IsSameOrNone (gathered_in old id) (entries_in after.transaction) → AddsNothing old now
adds_put id after old now sessions log less = record { log = log; gathered = gathered_before }
  where
    gathered_before : (other : List ℕ) → IsSameOrNone (gathered_in old other) (gathered_in now other)
    gathered_before other =
        let put : gathered_in now other ≡ gathered_by (finite.get (finite.insert old.sessions id after) other)
        = ap (λ known. gathered_by (finite.get known other)) sessions in
        elim (id_cases other id) [
          | inl same ↦
              let here : gathered_in now other ≡ entries_in after.transaction
              = put ∙ ap (λ i. gathered_by (finite.get (finite.insert old.sessions id after) i)) same ∙ ap gathered_by (id_same old.sessions id after) in
              less_twice (gathered_in old other) (entries_in after.transaction) (gathered_in now other)
              (less_twice (gathered_in old other) (gathered_in old id) (entries_in after.transaction) (inl (ap (gathered_in old) (sym same))) less) (inl here)
          | inr differs ↦ inl (put ∙ ap gathered_by (id_other old.sessions id after other differs))
        ]

-- a step that adds nothing after another one
adds_twice : (a b c : Server) → AddsNothing a b → AddsNothing b c → AddsNothing a c
adds_twice a b c one two = record {
  log = two.log ∙ one.log;
  gathered = λ id. less_twice (gathered_in a id) (gathered_in b id) (gathered_in c id) (one.gathered id) (two.gathered id);
}

-- a number that is taken has gathered what its session had, or nothing
taken_less : (number : ℤ) (inside start : Bool) (before : Option KnownSession)
    → IsSameOrNone (gathered_by before) (entries_in (taken number inside start before).transaction)
unfolding taken
taken_less number inside start None = inr (empty_opened inside start)
taken_less number inside start (Some known) = by_test (int_lt known.greatest number)
  where
    by_test : (b : Bool) → IsSameOrNone (entries_in known.transaction) (entries_in (if b then begin_session number inside start else known).transaction)
    by_test true = inr (empty_opened inside start)
    by_test false = inl refl

-- so has it after an interruption
left_less : (case : Case) (done : List Statement) (ran : List Entry) (known : KnownSession)
    → IsSameOrNone (entries_in known.transaction) (entries_in (session_interrupted case done ran known).transaction)
left_less too_old done ran known = inl refl
left_less outside done ran known = inl refl
left_less (gathers entries) done ran known = inr refl
left_less (commits entries) done ran known = inr refl
left_less aborts done ran known = inr refl
left_less of_cursor done ran known = inl refl
left_less nothing done ran known = inl refl
left_less denied done ran known = inr (empty_denied known.transaction)

-- where nothing ran there is no entry
no_run : (session : Option (List ℕ)) (number : Option ℤ) (writes : List PlacedWrite) (done : List Statement) → has_run done ≡ false → entries_of session number writes done ≡ []
unfolding entries_of
no_run session number [] done none = refl
no_run session number (write ∷ writes) [] none = refl
no_run session number (write ∷ writes) (Kept result ∷ done) none = no_run session number writes done none
no_run session number (write ∷ writes) (Ran result ∷ done) none = let no : ◌≡◌ {A = Bool} true false = none in cc
no_run session number (write ∷ writes) (Failed code ∷ done) none = no_run session number writes done none

gains_none : (case : Case) (session : Option (List ℕ)) (number : Option ℤ) (writes : List PlacedWrite) (done : List Statement) → runs_in case done ≡ false
    → log_gains case (entries_of session number writes done) ≡ []
gains_none outside session number writes done none = no_run session number writes done none
gains_none (commits []) session number writes done none = refl
gains_none (commits (entry ∷ entries)) session number writes done none = let no : ◌≡◌ {A = Bool} true false = none in cc
gains_none case session number writes done none = refl

left_log : (most : ℕ) (server : Server) (send : Send) → runs_before most server send ≡ false → (interruption most server send).log ≡ server.log
unfolding interruption interrupted_in
left_log most server send none =
    ap (λ more. server.log ++ more) (gains_none (interrupted_case most (case_of server send)) send.session send.number (writes_of send) (done_before most server send) none)
    ∙ append-nil server.log

puts_left : (case : Case) (done : List Statement) (id : List ℕ) (number : ℤ) (server : Server) (send : Send) → GoesUnder id number send → is_early case ≡ false
    → (interrupted_in case done server send).sessions
    ≡ finite.insert server.sessions id (session_interrupted case done (entries_of send.session send.number (writes_of send) done) (known_under id number server send))
unfolding interrupted_in
puts_left case done id number server send under late =
    puts_under id number case (session_interrupted case done (entries_of send.session send.number (writes_of send) done)) server send under late

free_left : (most : ℕ) (server : Server) (send : Send) → is_numbered send.session send.number ≡ false → (interruption most server send).sessions ≡ server.sessions
unfolding interruption interrupted_in
free_left most server send none =
    free_sessions send.session send.number (interrupted_case most (case_of server send))
    (session_interrupted (interrupted_case most (case_of server send)) (done_before most server send) (entries_of send.session send.number (writes_of send) (done_before most server send)))
    server send none

-- where nothing ran, an interruption adds nothing
interruption_nothing : (most : ℕ) (server : Server) (send : Send) → is_decided (case_of server send) ≡ false → runs_before most server send ≡ false
    → AddsNothing server (interruption most server send)
interruption_nothing most server send undecided none = elim (naming send) [
  | inl name ↦
      let above = open_above name.number name.id server send (ap is_decided (sym (case_there name.id name.number server send name.under)) ∙ undecided) in
      let known : KnownSession = known_under name.id name.number server send in
      let new : Bool = is_new name.number (finite.get server.sessions name.id) in
      let full : Case = numbered_case known new send send.body in
      let done : List Statement = done_before most server send in
      let ran : List Entry = entries_of send.session send.number (writes_of send) done in
      let whole = interruption_case most server send full (case_above name.id name.number server send name.under above) in
      adds_put name.id (session_interrupted (interrupted_case most full) done ran known) server (interruption most server send)
      (ap (λ s. s.sessions) whole
      ∙ puts_left (interrupted_case most full) done name.id name.number server send name.under (interrupted_late most full (numbered_late known new send send.body)))
      (left_log most server send none)
      (less_twice (gathered_in server name.id) (entries_in known.transaction)
      (entries_in (session_interrupted (interrupted_case most full) done ran known).transaction)
      (taken_less name.number (is_in_transaction send) send.start (finite.get server.sessions name.id))
      (left_less (interrupted_case most full) done ran known))
  | inr free ↦ adds_same server (interruption most server send) (free_left most server send free) (left_log most server send none)
]

-- an error that is answered adds nothing
transient_nothing : (session : Option (List ℕ)) (number : Option ℤ) (server : Server) (send : Send) → AddsNothing server (transient_as session number server send)
unfolding transient_as
transient_nothing None number server send = adds_same server server refl refl
transient_nothing (Some id) None server send = adds_same server server refl refl
transient_nothing (Some id) (Some number) server send = by_test (is_in_transaction send)
  where
    by_test : (b : Bool)
        → AddsNothing server (if b then record server { sessions = finite.insert server.sessions id (aborted (known_under id number server send)) } else server)
    by_test true =
        adds_put id (aborted (known_under id number server send)) server
        (record server { sessions = finite.insert server.sessions id (aborted (known_under id number server send)) }) refl refl (inr refl)
    by_test false = adds_same server server refl refl

told_nothing : (labels : List (List ℕ)) (server : Server) (send : Send) → AddsNothing server (told_of_error labels server send)
unfolding told_of_error
told_nothing labels server send = by_test (has_transient labels)
  where
    by_test : (b : Bool) → AddsNothing server (if b then transient_as send.session send.number server send else server)
    by_test true = transient_nothing send.session send.number server send
    by_test false = adds_same server server refl refl

left_nothing : (most : ℕ) (labels : List (List ℕ)) (server : Server) (send : Send) → is_decided (case_of server send) ≡ false → runs_before most server send ≡ false
    → AddsNothing server (told_of_error labels (interruption most server send) send)
left_nothing most labels server send undecided none =
    adds_twice server (interruption most server send) (told_of_error labels (interruption most server send) send)
    (interruption_nothing most server send undecided none) (told_nothing labels (interruption most server send) send)

-- the answer to a send that is served has no label of overload, and asks for no other authentication
denied_quiet : (committed : Bool) → list_any is_overload (if committed then [] else TRANSIENT_TRANSACTION_ERROR.now ∷ []) ≡ false
denied_quiet true = refl
denied_quiet false = refl

not_served : (item : Item) (plan : Plan) (server : Server) (send : Send) (code : ℤ) (labels : List (List ℕ)) → served_reply plan server send ≡ error_reply code labels
    → SaysNothingRan item code labels → ⊥
not_served item plan server send code labels is says = elim (served_error plan server send code labels is) [
  | inl bare ↦ elim says [
    | inl overload ↦ differ (ap (list_any is_overload) (sym bare.none) ∙ overload)
    | inr asks ↦ bare.other asks.1
  ]
  | inr none ↦ elim says [
    | inl overload ↦
        differ (sym (denied_quiet (is_committed (transaction_of (known_of server send)))) ∙ ap (list_any is_overload) (sym none.are) ∙ overload)
    | inr asks ↦ none.other asks.1
  ]
]
  where
    differ : ◌≡◌ {A = Bool} false true → ⊥
    differ is = cc

-- an interrupted send is answered as one that is served, or by its own error
pub interrupted_nothing : (most : ℕ) (own : ℤ) (given : List (List ℕ)) (server : Server) (send : Send) (code : ℤ) (labels : List (List ℕ))
    → interrupted_reply most own given server send ≡ error_reply code labels → SaysNothingRan (Interrupted most own given) code labels
    → AddsNothing server (interrupted most given server send)
unfolding interrupted_reply interrupted
interrupted_nothing most own given server send code labels is says = by_test (is_decided (case_of server send)) refl is
  where
    by_test : (b : Bool) → is_decided (case_of server send) ≡ b
        → (if b then served_reply usual server send else error_reply own (interrupted_labels most given server send)) ≡ error_reply code labels
        → AddsNothing server (if b then served usual server send else told_of_error (interrupted_labels most given server send) (interruption most server send) send)
    by_test true decided is = absurd (not_served (Interrupted most own given) usual server send code labels is says)
    by_test false undecided is = elim says [
      | inl overload ↦
          let same = same_labels own code (interrupted_labels most given server send) labels is in
          left_nothing most (interrupted_labels most given server send) server send undecided
          (overload_told (facts_of (runs_before most server send) server send (interruption most server send)) given (ap (list_any is_overload) same ∙ overload))
      | inr asks ↦ absurd (asks.0 (same_code own code (interrupted_labels most given server send) labels is ∙ asks.1))
    ]

nothing_met : (server : Server) (send : Send) (item : Item) (code : ℤ) (labels : List (List ℕ)) → reply server send item ≡ Some (error_reply code labels)
    → SaysNothingRan item code labels → AddsNothing server (met server send item)
unfolding reply met
nothing_met server send (Serve results fail concern page) code labels is says =
    absurd (not_served (Serve results fail concern page) (plan_of results fail concern page) server send code labels
    (some_is_some (served_reply (plan_of results fail concern page) server send) (error_reply code labels) is) says)
nothing_met server send Lost code labels is says = absurd (none_is_some (error_reply code labels) is)
nothing_met server send Late code labels is says = absurd (none_is_some (error_reply code labels) is)
nothing_met server send ReplyLost code labels is says = absurd (none_is_some (error_reply code labels) is)
nothing_met server send (Interrupted most own given) code labels is says =
    interrupted_nothing most own given server send code labels
    (some_is_some (interrupted_reply most own given server send) (error_reply code labels) is) says
nothing_met server send (Refused own given) code labels is says = told_nothing (refused_labels given server send) server send
nothing_met server send Reauthenticate code labels is says = adds_same server server refl refl

-- the law of answers that say that nothing ran
pub nothing_ran : (server : Server) (send : Send) (step : Scheduled) → NothingRan server send step
unfolding answered exchanged
nothing_ran server send step code labels is says =
    let adds = nothing_met (traced (after_picks server step.deliver) send) send step.item code labels is says in
    record { log = adds.log; gathered = adds.gathered }

-- an answer that no writes were performed: none ran now, and none ran before under its number
record NoWrites (server now : Server) (send : Send) : Type 0 where
  before : ran_before send.session send.number server ≡ false
  adds : AddsNothing server now

denied_silent : (committed : Bool) → has_label NO_WRITES_PERFORMED.now (if committed then [] else TRANSIENT_TRANSACTION_ERROR.now ∷ []) ≡ false
denied_silent true = refl
denied_silent false = refl

not_silent : (plan : Plan) (server : Server) (send : Send) (code : ℤ) (labels : List (List ℕ)) → served_reply plan server send ≡ error_reply code labels
    → has_label NO_WRITES_PERFORMED.now labels ≡ true → ⊥
not_silent plan server send code labels is says = elim (served_error plan server send code labels is) [
  | inl bare ↦ differ (ap (has_label NO_WRITES_PERFORMED.now) (sym bare.none) ∙ says)
  | inr none ↦
      differ (sym (denied_silent (is_committed (transaction_of (known_of server send)))) ∙ ap (has_label NO_WRITES_PERFORMED.now) (sym none.are) ∙ says)
]
  where
    differ : ◌≡◌ {A = Bool} false true → ⊥
    differ is = cc

interrupted_silent : (most : ℕ) (own : ℤ) (given : List (List ℕ)) (server : Server) (send : Send) (code : ℤ) (labels : List (List ℕ))
    → interrupted_reply most own given server send ≡ error_reply code labels → has_label NO_WRITES_PERFORMED.now labels ≡ true
    → NoWrites server (interrupted most given server send) send
unfolding interrupted_reply interrupted
interrupted_silent most own given server send code labels is says = by_test (is_decided (case_of server send)) refl is
  where
    by_test : (b : Bool) → is_decided (case_of server send) ≡ b
        → (if b then served_reply usual server send else error_reply own (interrupted_labels most given server send)) ≡ error_reply code labels
        → NoWrites server (if b then served usual server send else told_of_error (interrupted_labels most given server send) (interruption most server send) send) send
    by_test true decided is = absurd (not_silent usual server send code labels is says)
    by_test false undecided is =
        let same = same_labels own code (interrupted_labels most given server send) labels is in
        let told = no_writes_told (facts_of (runs_before most server send) server send (interruption most server send)) given
        (ap (has_label NO_WRITES_PERFORMED.now) same ∙ says) in
        record { before = told.1; adds = left_nothing most (interrupted_labels most given server send) server send undecided told.0 }

refused_silent : (own : ℤ) (given : List (List ℕ)) (server : Server) (send : Send) (code : ℤ) (labels : List (List ℕ))
    → error_reply own (refused_labels given server send) ≡ error_reply code labels → has_label NO_WRITES_PERFORMED.now labels ≡ true
    → NoWrites server (told_of_error (refused_labels given server send) server send) send
refused_silent own given server send code labels is says =
    let same = same_labels own code (refused_labels given server send) labels is in
    let told = no_writes_told (facts_of false server send server) given (ap (has_label NO_WRITES_PERFORMED.now) same ∙ says) in
    record { before = told.1; adds = told_nothing (refused_labels given server send) server send }

silent_met : (server : Server) (send : Send) (item : Item) (code : ℤ) (labels : List (List ℕ)) → reply server send item ≡ Some (error_reply code labels)
    → has_label NO_WRITES_PERFORMED.now labels ≡ true → NoWrites server (met server send item) send
unfolding reply met
silent_met server send (Serve results fail concern page) code labels is says =
    absurd (not_silent (plan_of results fail concern page) server send code labels
    (some_is_some (served_reply (plan_of results fail concern page) server send) (error_reply code labels) is) says)
silent_met server send Lost code labels is says = absurd (none_is_some (error_reply code labels) is)
silent_met server send Late code labels is says = absurd (none_is_some (error_reply code labels) is)
silent_met server send ReplyLost code labels is says = absurd (none_is_some (error_reply code labels) is)
silent_met server send (Interrupted most own given) code labels is says =
    interrupted_silent most own given server send code labels (some_is_some (interrupted_reply most own given server send) (error_reply code labels) is) says
silent_met server send (Refused own given) code labels is says =
    refused_silent own given server send code labels (some_is_some (error_reply own (refused_labels given server send)) (error_reply code labels) is) says
silent_met server send Reauthenticate code labels is says =
    let none : [] ≡ labels = same_labels reauthentication_required code [] labels (some_is_some (error_reply reauthentication_required []) (error_reply code labels) is) in
    absurd (let no : ◌≡◌ {A = Bool} false true = ap (has_label NO_WRITES_PERFORMED.now) none ∙ says in cc)

-- where none ran before under a number, its session says so
none_under : (number : ℤ) (known : KnownSession) → ran_under number (Some known) ≡ false → RanUnder number known → ⊥
unfolding is_new is_below
none_under number known none ran = elim ran [
  | inl less ↦
      let either = or_parts (int_lt number known.greatest) known.ran (not_new (above number known.greatest less)) in
      let no : ◌≡◌ {A = Bool} true false = sym (below number known.greatest less) ∙ either.0 in cc
  | inr same ↦
      let either = or_parts (int_lt number known.greatest) known.ran (not_new (equal number known.greatest same.0)) in
      let no : ◌≡◌ {A = Bool} true false = sym same.1 ∙ either.1 in cc
]
  where
    below : (a b : ℤ) → a <ℤ b → int_lt a b ≡ true
    below a b less = grind (arith, ints)

    above : (a b : ℤ) → a <ℤ b → int_lt b a ≡ false
    above a b less = grind (arith, ints)

    equal : (a b : ℤ) → a ≡ b → int_lt b a ≡ false
    equal a b same = ap (λ n. int_lt n a) (sym same) ∙ not_below_itself a

    not_new : int_lt known.greatest number ≡ false → int_lt number known.greatest || known.ran ≡ false
    not_new old = ap (λ b. if b then false else (int_lt number known.greatest || known.ran)) (sym old) ∙ none

none_run : (id : List ℕ) (number : ℤ) (server : Server) (send : Send) → GoesUnder id number send → ran_before send.session send.number server ≡ false
    → HasRunUnder id number server → ⊥
unfolding ran_before
none_run id number server send under none has =
    let here : ran_before (Some id) (Some number) server ≡ false = (λ i. ran_before (sym under.its_session i) (sym under.its_number i) server) ∙ none in
    none_under number has.known (ap (ran_under number) (sym has.there) ∙ here) has.ran

-- then a valid server has no entry of them
has_none : (id : List ℕ) (number : ℤ) (server : Server) → IsValid server → (HasRunUnder id number server → ⊥) → HasNone id number server
has_none id number server valid none = record {
  log = λ entry has under. none (valid.told entry id number has under.session under.numbered);
  gathered = λ other entry has under. by_found other entry under (finite.get server.sessions other) refl has;
}
  where
    by_found : (other : List ℕ) (entry : Entry) → IsEntryUnder id number entry → (found : Option KnownSession) → finite.get server.sessions other ≡ found
        → Has (gathered_by found) entry → ⊥
    by_found other entry under None is has = has
    by_found other entry under (Some known) is has =
        let one = (valid.sessions other known is).gathered entry has in
        let same_id : other ≡ id = some_is_some other id (sym one.under.session ∙ under.session) in
        let same_number : number ≡ known.greatest = some_is_some number known.greatest (sym under.numbered ∙ one.under.numbered) in
        none (record { known = known; there = ap (λ i. finite.get server.sessions i) (sym same_id) ∙ is; ran = inr (same_number, one.ran) })

still_none : (id : List ℕ) (number : ℤ) (old now : Server) → AddsNothing old now → HasNone id number old → HasNone id number now
still_none id number old now adds none = record {
  log = λ entry has under. none.log entry (subst (λ log. Has log entry) adds.log has) under;
  gathered = λ other entry has under.
      none.gathered other entry (less_has (gathered_in old other) (gathered_in now other) entry (adds.gathered other) has) under;
}

-- the law of answers that no writes were performed
pub none_written : (past : Server) (events : List Event) (send : Send) (step : Scheduled) → IsValid past → NoneWritten past (after_events past events) send step
unfolding answered exchanged
none_written past events send step valid id number code labels under is says =
    let server : Server = after_events past events in
    let after : Server = after_picks server step.deliver in
    let silent = silent_met (traced after send) send step.item code labels is says in
    let none : HasRunUnder id number after → ⊥
    = λ has. none_run id number (traced after send) send under silent.before (record { known = has.known; there = has.there; ran = has.ran }) in
    let before : HasNone id number after = has_none id number after (picks_valid server step.deliver (events_valid past events valid)) none in
    let later : HasRunUnder id number past → HasRunUnder id number after
    = λ has. ran_held id number after (picks_held (RanUnder number) (ran_keeps number) id server step.deliver
    (events_held (RanUnder number) (ran_keeps number) id past events (held_ran id number past has))) in
    record {
      early = has_none id number past valid (λ has. none (later has));
      before = before;
      now = still_none id number after (met (traced after send) send step.item)
          (record { log = silent.adds.log; gathered = silent.adds.gathered }) before;
    }

-- a send in a transaction that is called transient has it aborted
can_above : (id : List ℕ) (number : ℤ) (server : Server) (send : Send) → is_in_transaction send ≡ true → can_be_transient (Some id) (Some number) server send ≡ true
    → is_below number (finite.get server.sessions id) ≡ false
unfolding can_be_transient
can_above id number server send inside can =
    (both_false (is_below number (finite.get server.sessions id)) (is_committed (known_under id number server send).transaction)
    (ap (λ b. if b then negated (is_below number (finite.get server.sessions id)) && negated (is_committed (known_under id number server send).transaction) else true)
    (sym inside) ∙ can)).0

told_there : (labels : List (List ℕ)) (server : Server) (send : Send) → has_transient labels ≡ true
    → told_of_error labels server send ≡ transient_as send.session send.number server send
unfolding told_of_error
told_there labels server send is = ap (λ b. if b then transient_as send.session send.number server send else server) is

aborted_there : (id : List ℕ) (number : ℤ) (labels : List (List ℕ)) (server : Server) (send : Send) → GoesUnder id number send → is_in_transaction send ≡ true
    → has_transient labels ≡ true → can_be_transient send.session send.number server send ≡ true → HasTransaction id number transaction.Aborted (told_of_error labels server send)
aborted_there id number labels server send under inside is can =
    let here : can_be_transient (Some id) (Some number) server send ≡ true
    = (λ i. can_be_transient (sym under.its_session i) (sym under.its_number i) server send) ∙ can in
    let above = can_above id number server send inside here in
    let known : KnownSession = known_under id number server send in
    let now : Server = record server { sessions = finite.insert server.sessions id (aborted known) } in
    let path : told_of_error labels server send ≡ now
    = told_there labels server send is
    ∙ (λ i. transient_as (under.its_session i) (under.its_number i) server send)
    ∙ transient_put send id number server inside in
    subst (HasTransaction id number transaction.Aborted) (sym path) (record {
      known = aborted known;
      there = id_same server.sessions id (aborted known);
      greatest = taken_greatest number (is_in_transaction send) send.start (finite.get server.sessions id) above;
      its = refl;
    })

-- so has one that was denied and is not committed
denied_above : (id : List ℕ) (number : ℤ) (server : Server) (send : Send) → case_under id number server send ≡ denied → is_below number (finite.get server.sessions id) ≡ false
unfolding case_under
denied_above id number server send is = by_test (is_below number (finite.get server.sessions id)) is
  where
    by_test : (b : Bool)
        → (if b then too_old else numbered_case (known_under id number server send) (is_new number (finite.get server.sessions id)) send send.body) ≡ denied → b ≡ false
    by_test true is = let no = is in cc
    by_test false is = refl

not_committed : (t : ServerTransaction) → is_committed t ≡ false → denied_transaction t ≡ transaction.Aborted
not_committed transaction.None opens = refl
not_committed (transaction.Running entries) opens = refl
not_committed transaction.Committed opens = let no : ◌≡◌ {A = Bool} true false = opens in cc
not_committed transaction.Aborted opens = refl

called_open : (committed : Bool) → has_transient (if committed then [] else TRANSIENT_TRANSACTION_ERROR.now ∷ []) ≡ true → committed ≡ false
called_open true is = let no : ◌≡◌ {A = Bool} false true = is in cc
called_open false is = refl

known_is : (id : List ℕ) (number : ℤ) (server : Server) (send : Send) → GoesUnder id number send → known_of server send ≡ Some (known_under id number server send)
unfolding known_as
known_is id number server send under = λ i. known_as (under.its_session i) (under.its_number i) server send

denied_there : (id : List ℕ) (number : ℤ) (done : List Statement) (page : Option ℕ) (server : Server) (send : Send) → GoesUnder id number send
    → is_below number (finite.get server.sessions id) ≡ false → is_committed (known_under id number server send).transaction ≡ false
    → HasTransaction id number transaction.Aborted (served_in denied done page server send)
denied_there id number done page server send under above opens =
    case_leaves id number server send denied done page transaction.Aborted under above refl
    (not_committed (known_under id number server send).transaction opens)

served_there : (id : List ℕ) (number : ℤ) (plan : Plan) (server : Server) (send : Send) (code : ℤ) (labels : List (List ℕ)) → GoesUnder id number send
    → served_reply plan server send ≡ error_reply code labels → has_transient labels ≡ true → HasTransaction id number transaction.Aborted (served plan server send)
served_there id number plan server send code labels under is says = elim (served_error plan server send code labels is) [
  | inl bare ↦ absurd (let no : ◌≡◌ {A = Bool} false true = ap has_transient (sym bare.none) ∙ says in cc)
  | inr none ↦
      let above = denied_above id number server send (sym (case_there id number server send under) ∙ none.is_denied) in
      let found : transaction_of (known_of server send) ≡ (known_under id number server send).transaction = ap transaction_of (known_is id number server send under) in
      let opens : is_committed (known_under id number server send).transaction ≡ false
      = ap is_committed (sym found) ∙ called_open (is_committed (transaction_of (known_of server send))) (ap has_transient (sym none.are) ∙ says) in
      let done : List Statement = done_in denied plan (results_of (known_of server send)) send.body in
      subst (HasTransaction id number transaction.Aborted) (sym (served_case plan server send denied none.is_denied))
      (denied_there id number done plan.page server send under above opens)
]

interrupted_there : (id : List ℕ) (number : ℤ) (most : ℕ) (own : ℤ) (given : List (List ℕ)) (server : Server) (send : Send) (code : ℤ) (labels : List (List ℕ)) → GoesUnder id number send
    → is_in_transaction send ≡ true → interrupted_reply most own given server send ≡ error_reply code labels → has_transient labels ≡ true
    → HasTransaction id number transaction.Aborted (interrupted most given server send)
unfolding interrupted_reply interrupted
interrupted_there id number most own given server send code labels under inside is says = by_test (is_decided (case_of server send)) is
  where
    by_test : (b : Bool) → (if b then served_reply usual server send else error_reply own (interrupted_labels most given server send)) ≡ error_reply code labels
        → HasTransaction id number transaction.Aborted
        (if b then served usual server send else told_of_error (interrupted_labels most given server send) (interruption most server send) send)
    by_test true is = served_there id number usual server send code labels under is says
    by_test false is =
        let called : has_transient (interrupted_labels most given server send) ≡ true
        = ap has_transient (same_labels own code (interrupted_labels most given server send) labels is) ∙ says in
        aborted_there id number (interrupted_labels most given server send) (interruption most server send) send under inside called
        (interrupted_can most given server send called)

transient_met : (id : List ℕ) (number : ℤ) (server : Server) (send : Send) (item : Item) (code : ℤ) (labels : List (List ℕ)) → GoesUnder id number send → is_in_transaction send ≡ true
    → reply server send item ≡ Some (error_reply code labels) → has_transient labels ≡ true → HasTransaction id number transaction.Aborted (met server send item)
unfolding reply met
transient_met id number server send (Serve results fail concern page) code labels under inside is says =
    served_there id number (plan_of results fail concern page) server send code labels under
    (some_is_some (served_reply (plan_of results fail concern page) server send) (error_reply code labels) is) says
transient_met id number server send Lost code labels under inside is says = absurd (none_is_some (error_reply code labels) is)
transient_met id number server send Late code labels under inside is says = absurd (none_is_some (error_reply code labels) is)
transient_met id number server send ReplyLost code labels under inside is says = absurd (none_is_some (error_reply code labels) is)
transient_met id number server send (Interrupted most own given) code labels under inside is says =
    interrupted_there id number most own given server send code labels under inside
    (some_is_some (interrupted_reply most own given server send) (error_reply code labels) is) says
transient_met id number server send (Refused own given) code labels under inside is says =
    let same = same_labels own code (refused_labels given server send) labels
    (some_is_some (error_reply own (refused_labels given server send)) (error_reply code labels) is) in
    let called : has_transient (refused_labels given server send) ≡ true = ap has_transient same ∙ says in
    aborted_there id number (refused_labels given server send) server send under inside called (refused_can given server send called)
transient_met id number server send Reauthenticate code labels under inside is says =
    let none : [] ≡ labels = same_labels reauthentication_required code [] labels (some_is_some (error_reply reauthentication_required []) (error_reply code labels) is) in
    absurd (let no : ◌≡◌ {A = Bool} false true = ap has_transient none ∙ says in cc)

-- the laws of transactions that an answer calls transient
pub transient_aborts : (id : List ℕ) (number : ℤ) (server : Server) (send : Send) (step : Scheduled) → CallsTransient id number server send step
    → HasTransaction id number transaction.Aborted (exchanged server send step)
unfolding answered exchanged
transient_aborts id number server send step calls =
    transient_met id number (traced (after_picks server step.deliver) send) send step.item calls.code calls.labels calls.under calls.inside calls.answers calls.label

pub transient_none : (id : List ℕ) (number : ℤ) (server : Server) (send : Send) (step : Scheduled) (events : List Event) → CallsTransient id number server send step
    → NoneInside id number (after_events (exchanged server send step) events)
transient_none id number server send step events calls =
    none_inside id number (exchanged server send step) events (transient_aborts id number server send step calls)
