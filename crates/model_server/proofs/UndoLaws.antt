-- What was noted before a change brings back what it changed.
use Rattle.std.proofs.Common.{◌≡◌, ℕ, ℤ, Bool, true, false, List, [], ◌∷◌, ◌++◌, Option, None, Some, cond, length, refl, sym, ap, ◌∙◌, slice_get, slice_set, take, unwrap_or, arith}
use Rattle.std.specs.Cmp.Lexicographic.{nat_list_cmp_total, slice_cmp}
use Rattle.std.specs.FinMap as finite
use Rattle.std.specs.Option.{option_and_then, option_map_or}
use Rattle.std.specs.Ordering.{eq_by_cmp, is_eq, nat_cmp}
use Rattle.std.specs.declared.cmp.Ordering.{Ordering}
use Rattle.std.specs.declared.cmp.Ordering.TheVariants.{Less, Equal, Greater}
use Rattle.std.proofs.lemmas.List.{take_all, take_at}
use Rattle.bson_lite.proofs.FinMaps.{get_inserted, insert_again, insert_there}
use Rattle.driver_link.specs.Cursors.{Reply, closed, place_of, results_left}
use Rattle.driver_link.specs.Serving.{Sessions}
use Rattle.driver_link.specs.Sessions.{taken}
use Rattle.driver_link.specs.declared.machine.Entry.{Entry}
use Rattle.driver_link.specs.declared.machine.KnownSession.{KnownSession}
use Rattle.driver_link.specs.declared.machine.Server.{Server}
use Rattle.model_effects.specs.Changes.{changed, cursors_put, effect_in, ended, logged_by, stepped}
use Rattle.model_effects.specs.Displacing.{displaced_by, left_displaced, session_displaced}
use Rattle.model_server.specs.Undoing.{closed_place, cursors_before, each_before, known_before, late_before, reopened, rewritten, rewritten_at, server_before, sessions_before, transaction_before, unbegun}
use Rattle.model_effects.specs.Waiting.{waits_at}
use Rattle.model_effects.specs.declared.change.CursorChange.{CursorChange}
use Rattle.model_effects.specs.declared.change.CursorChange.TheVariants as cursor
use Rattle.model_effects.specs.declared.change.Effect.{Effect}
use Rattle.model_effects.specs.declared.change.Effect.TheVariants as effect
use Rattle.model_effects.specs.declared.change.SessionStep.{SessionStep}
use Rattle.model_effects.specs.declared.change.SessionStep.TheVariants as step
use Rattle.model_server.specs.declared.delivery.Late.{Late}
use Rattle.model_server.specs.declared.undoing.PastSessions.{PastSessions}
use Rattle.model_server.specs.declared.undoing.PastStep.{PastStep}
use Rattle.model_server.proofs.WaitingLaws.{back_again, none_left}

-- the order of session ids ties the same ids alone
ids_same : finite.IsAntisymmetric (slice_cmp nat_cmp)
ids_same = finite.slice_cmp-IsAntisymmetric finite.nat_cmp-IsAntisymmetric

-- a value that is taken out where it was put
gone : {A : Type 0} (b : Bool) (v : A) (o : Option A) → (b ≡ true → o ≡ None) → cond b None (cond b (Some v) o) ≡ o
gone true v o none = sym (none refl)
gone false v o none = refl

is_tied : (r : Ordering) → is_eq r ≡ true → r ≡ Equal
is_tied Less e = absurd cc
is_tied Equal e = refl
is_tied Greater e = absurd cc

-- a session that was not known and began
removed_again : (sessions : Sessions) (id : List ℕ) (known : KnownSession) → finite.get sessions id ≡ None
    → finite.remove (finite.insert sessions id known) id ≡ sessions
removed_again sessions id known none = finite.same_map nat_list_cmp_total ids_same _ _ (λ q.
    finite.get-remove nat_list_cmp_total (finite.insert sessions id known) id q
    ∙ ap (cond (eq_by_cmp (slice_cmp nat_cmp) q id) None) (finite.get-insert nat_list_cmp_total sessions id known q)
    ∙ gone (eq_by_cmp (slice_cmp nat_cmp) q id) known (finite.get sessions q)
    (λ tied. sym (finite.get_tied nat_list_cmp_total sessions q id (is_tied (slice_cmp nat_cmp q id) tied)) ∙ none))

-- a session that was put in, and then written anew as it was
written_back : (sessions : Sessions) (id : List ℕ) (change : KnownSession → KnownSession) (now known : KnownSession)
    → finite.get sessions id ≡ Some known → change now ≡ known → rewritten id change (finite.insert sessions id now) ≡ sessions
written_back sessions id change now known there back =
    ap (rewritten_at id change (finite.insert sessions id now)) (get_inserted nat_list_cmp_total sessions id now)
    ∙ insert_again nat_list_cmp_total ids_same sessions id now (change now)
    ∙ ap (finite.insert sessions id) back
    ∙ insert_there nat_list_cmp_total ids_same sessions id known there

-- the same of a session where it is known
pub rewritten_there : (sessions : Sessions) (id : List ℕ) (change : KnownSession → KnownSession) (known : KnownSession)
    → finite.get sessions id ≡ Some known → rewritten id change sessions ≡ finite.insert sessions id (change known)
rewritten_there sessions id change known there = ap (rewritten_at id change sessions) there

-- no session was known
pub begins_back : (sessions : Sessions) (id : List ℕ) (now : KnownSession) → finite.get sessions id ≡ None
    → unbegun id None (finite.insert sessions id now) ≡ sessions
begins_back sessions id now none = removed_again sessions id now none

-- one was, and begins anew
pub anew_back : (sessions : Sessions) (id : List ℕ) (now known : KnownSession) → finite.get sessions id ≡ Some known
    → unbegun id (Some known) (finite.insert sessions id now) ≡ sessions
anew_back sessions id now known there = written_back sessions id (λ _. known) now known there refl

-- one was, and goes on
pub goes_back : (sessions : Sessions) (id : List ℕ) (past : PastStep) (now known : KnownSession) → finite.get sessions id ≡ Some known
    → known_before past now ≡ known → rewritten id (known_before past) (finite.insert sessions id now) ≡ sessions
goes_back sessions id past now known there back = written_back sessions id (known_before past) now known there back

-- a step keeps the number, and most steps the kept results
same_number : (transient : Bool) (did : SessionStep) (known : KnownSession) → (ended transient (stepped did known)).greatest ≡ known.greatest
same_number true step.Stays known = refl
same_number true (step.Keeps entries results ran) known = refl
same_number true (step.Gathers entries ran) known = refl
same_number true (step.Fails ran) known = refl
same_number true step.Ends known = refl
same_number true step.Commits known = refl
same_number true step.Denied known = refl
same_number false step.Stays known = refl
same_number false (step.Keeps entries results ran) known = refl
same_number false (step.Gathers entries ran) known = refl
same_number false (step.Fails ran) known = refl
same_number false step.Ends known = refl
same_number false step.Commits known = refl
same_number false step.Denied known = refl

pub kept_same : (transient : Bool) (known : KnownSession) → (ended transient known).kept ≡ known.kept
kept_same true known = refl
kept_same false known = refl

-- what was noted of a session brings it back
pub step_back : (past : PastStep) (transient : Bool) (did : SessionStep) (known : KnownSession)
    → past.ran ≡ known.ran
    → unwrap_or past.kept (ended transient (stepped did known)).kept ≡ known.kept
    → transaction_before past.transaction (ended transient (stepped did known)).transaction ≡ known.transaction
    → known_before past (ended transient (stepped did known)) ≡ known
step_back past transient did known ran kept transaction = λ i. record {
  greatest = same_number transient did known i;
  kept = kept i;
  ran = ran i;
  transaction = transaction i;
}

-- the log before a step
log_back : (did : SessionStep) (known : KnownSession) (log : List Entry) → take (length log) (logged_by did known log) ≡ log
log_back step.Stays known log = take_all (length log) log (omega arith)
log_back (step.Keeps entries results ran) known log = take_at log entries (length log) refl
log_back (step.Gathers entries ran) known log = take_all (length log) log (omega arith)
log_back (step.Fails ran) known log = take_all (length log) log (omega arith)
log_back step.Ends known log = take_all (length log) log (omega arith)
log_back step.Commits known log = take_at log _ (length log) refl
log_back step.Denied known log = take_all (length log) log (omega arith)

-- a place that was closed, and what stood there
place_back : (cursors : List (Option (List Reply))) (at : ℕ) (left : Option (List Reply)) → waits_at cursors at ≡ left
    → reopened (Some at) left (slice_set cursors at None) ≡ cursors
place_back cursors at None is = none_left cursors at is
place_back cursors at (Some left) is = back_again cursors at left is

found_back : (cursors : List (Option (List Reply))) (place : Option ℕ)
    → reopened place (option_and_then (λ at. unwrap_or (slice_get cursors at) None) place) (option_map_or (λ at. slice_set cursors at None) place cursors) ≡ cursors
found_back cursors None = refl
found_back cursors (Some at) = place_back cursors at (waits_at cursors at) refl

closed_back : (number : ℤ) (cursors : List (Option (List Reply)))
    → reopened (place_of number) (results_left number cursors) (closed number cursors) ≡ cursors
unfolding closed results_left
closed_back number cursors = found_back cursors (place_of number)

-- the cursors before a change
cursors_back : (change : CursorChange) (cursors : List (Option (List Reply)))
    → cursors_before (length cursors) (closed_place change) (left_displaced change cursors) (cursors_put change cursors) ≡ cursors
cursors_back cursor.Nothing cursors = take_all (length cursors) cursors (omega arith)
cursors_back (cursor.Opens left) cursors = take_at cursors _ (length cursors) refl
cursors_back (cursor.Closes number) cursors =
    ap (take (length cursors)) (closed_back number cursors) ∙ take_all (length cursors) cursors (omega arith)

-- what was noted of a server brings it back
pub all_back : (past : PastSessions) (does : Effect) (change : CursorChange) (server : Server)
    → sessions_before past (session_displaced does server.sessions) (effect_in does server).sessions ≡ server.sessions
    → server_before (record { sessions = past; entries = length server.log; cursors = length server.cursors; closes = closed_place change })
    (displaced_by does change server) (changed does change server) ≡ server
unfolding changed effect_in
all_back past effect.Nothing change server back = λ i. record server {
  sessions = back i;
  log = take_all (length server.log) server.log (omega arith) i;
  cursors = cursors_back change server.cursors i;
}
all_back past (effect.Logged entries) change server back = λ i. record server {
  sessions = back i;
  log = take_at server.log entries (length server.log) refl i;
  cursors = cursors_back change server.cursors i;
}
all_back past (effect.Taken id number in_transaction start did transient) change server back = λ i. record server {
  sessions = back i;
  log = log_back did (taken number in_transaction start (finite.get server.sessions id)) server.log i;
  cursors = cursors_back change server.cursors i;
}

-- the last of a list is undone first
pub last_before : (lates : List Late) (late : Late) (now : Server) → each_before (lates ++ late ∷ []) now ≡ each_before lates (late_before late now)
unfolding each_before
last_before [] late now = refl
last_before (first ∷ lates) late now = ap (late_before first) (last_before lates late now)

pub more_before : (lates : List Late) (late : Late) (before now : Server) → late_before late now ≡ before
    → each_before (lates ++ late ∷ []) now ≡ each_before lates before
more_before lates late before now back = last_before lates late now ∙ ap (each_before lates) back

-- what a send left is undone, and it waits again
pub waits_again : (late : Late) (before now : Server) → waits_at before.waiting late.at ≡ Some late.send
    → server_before late.past late.displaced now ≡ record before { waiting = slice_set before.waiting late.at None }
    → late_before late now ≡ before
waits_again late before now waits back = λ i. record (back i) {
  waiting = (ap (λ s. slice_set s.waiting late.at (Some late.send)) back ∙ back_again before.waiting late.at late.send waits) i;
}

-- where none waits nothing changes
pub stays_so : (server : Server) (at : ℕ) → waits_at server.waiting at ≡ None
    → record server { waiting = slice_set server.waiting at None } ≡ server
stays_so server at none = λ i. record server { waiting = none_left server.waiting at none i }
