-- Whatever the schedule does, no send that waits comes to ask for a cursor that is yet to be opened: so it is behind each exchange of a send
-- that asks for none.
use Rattle.std.proofs.Common.{◌≡◌, ℕ, ◌≤◌, Bool, true, false, List, [], ◌∷◌, ◌++◌, length, refl, ap, inl, inr, arith}
use Rattle.std.specs.Prelude.{ℤ, Option, None, Some, if◌then◌else◌}
use Rattle.std.specs.FinMap as finite
use Rattle.driver_link.specs.declared.machine.Item.{Item}
use Rattle.driver_link.specs.declared.machine.Item.TheVariants.{Serve, Lost, Late, ReplyLost, Interrupted, Refused, Reauthenticate}
use Rattle.driver_link.specs.declared.machine.Schedule.{Schedule}
use Rattle.driver_link.specs.declared.machine.Scheduled.{Scheduled}
use Rattle.driver_link.specs.declared.machine.Send.{Send}
use Rattle.driver_link.specs.declared.machine.Server.{Server}
use Rattle.driver_link.specs.Cases.{case_of, is_decided, is_in_transaction, known_under}
use Rattle.driver_link.specs.Cursors.{Reply}
use Rattle.driver_link.specs.Exchange.{after_picks, empty_server, exchanged, interrupted, interrupted_labels, met, next_step, plan_of, refused_labels, replayed, traced}
use Rattle.driver_link.specs.Honesty.{has_transient}
use Rattle.driver_link.specs.Interrupting.{aborted, interrupted_in, interruption, told_of_error, transient_as}
use Rattle.driver_link.specs.Serving.{Plan, served, usual}
use Rattle.driver_link.specs.Settled.{Has, IsWrite}
use Rattle.driver_link.proofs.Lists.{none_is_some}
use Rattle.bulk_actions.specs.BulkCompleteness.{AsksWithin, NoneAhead}
use Rattle.bulk_actions.proofs.CursorsAhead.{body_within, late_ahead, picks_ahead, picks_more, same_waits, served_more, served_waits, waits_more, write_within}

-- a server went on: no place of a cursor was taken away, and nothing that waits is ahead where nothing was
pub record GoesBehind (old now : Server) : Type 0 where
  pub more : length old.cursors ≤ length now.cursors
  pub none : NoneAhead old → NoneAhead now

-- so many are as many
no_fewer : (count : ℕ) → count ≤ count
no_fewer count = omega arith

-- where what waits is the same
same_behind : (old now : Server) → now.waiting ≡ old.waiting → length old.cursors ≤ length now.cursors → GoesBehind old now
same_behind old now waits more = record {
  more = more;
  none = λ none. waits_more (length old.cursors) (length now.cursors) now more (same_waits (length old.cursors) old now waits none);
}

-- where cursors are the same too
untouched_behind : (old now : Server) → now.waiting ≡ old.waiting → now.cursors ≡ old.cursors → GoesBehind old now
untouched_behind old now waits cursors =
    let same : length now.cursors ≡ length old.cursors = ap (λ (all : List (Option (List Reply))). length all) cursors in same_behind old now waits (omega (arith, same))

-- twice
twice_behind : (a b c : Server) → GoesBehind a b → GoesBehind b c → GoesBehind a c
twice_behind a b c begun later = record { more = omega (arith, begun.more, later.more); none = λ none. later.none (begun.none none) }

-- either way
either_behind : (b : Bool) (server one other : Server) → GoesBehind server one → GoesBehind server other → GoesBehind server (if b then one else other)
either_behind true server one other here there = here
either_behind false server one other here there = there

-- by a send that is served
served_behind : (plan : Plan) (server : Server) (send : Send) → GoesBehind server (served plan server send)
served_behind plan server send = same_behind server (served plan server send) (served_waits plan server send) (served_more plan server send)

-- by one that is interrupted
interruption_behind : (most : ℕ) (server : Server) (send : Send) → GoesBehind server (interruption most server send)
unfolding interruption interrupted_in
interruption_behind most server send = untouched_behind server (interruption most server send) refl refl

-- by an error that is told
transient_behind : (session : Option (List ℕ)) (number : Option ℤ) (server : Server) (send : Send) → GoesBehind server (transient_as session number server send)
unfolding transient_as
transient_behind (Some id) (Some number) server send =
    let there : Server = record server { sessions = finite.insert server.sessions id (aborted (known_under id number server send)) } in
    either_behind (is_in_transaction send) server there server (untouched_behind server there refl refl) (untouched_behind server server refl refl)
transient_behind (Some id) None server send = untouched_behind server server refl refl
transient_behind None number server send = untouched_behind server server refl refl

error_behind : (labels : List (List ℕ)) (server : Server) (send : Send) → GoesBehind server (told_of_error labels server send)
unfolding told_of_error
error_behind labels server send =
    either_behind (has_transient labels) server (transient_as send.session send.number server send) server (transient_behind send.session send.number server send) (untouched_behind server server refl refl)

interrupted_behind : (most : ℕ) (labels : List (List ℕ)) (server : Server) (send : Send) → GoesBehind server (interrupted most labels server send)
unfolding interrupted
interrupted_behind most labels server send =
    let ran = interruption most server send in
    let told = interrupted_labels most labels server send in
    either_behind (is_decided (case_of server send)) server (served usual server send) (told_of_error told ran send) (served_behind usual server send)
    (twice_behind server ran (told_of_error told ran send) (interruption_behind most server send) (error_behind told ran send))

-- by one that is to arrive late
late_behind : (server : Server) (send : Send) → AsksWithin (length server.cursors) send.body → GoesBehind server (record server { waiting = server.waiting ++ Some send ∷ [] })
late_behind server send within = record { more = no_fewer (length server.cursors); none = λ none. late_ahead server send within none }

-- so by each item
met_behind : (server : Server) (send : Send) (item : Item) → AsksWithin (length server.cursors) send.body → GoesBehind server (met server send item)
unfolding met
met_behind server send (Serve results fail concern page) within = served_behind (plan_of results fail concern page) server send
met_behind server send Lost within = untouched_behind server server refl refl
met_behind server send Late within = late_behind server send within
met_behind server send ReplyLost within = served_behind usual server send
met_behind server send (Interrupted most code labels) within = interrupted_behind most labels server send
met_behind server send (Refused code labels) within = error_behind (refused_labels labels server send) server send
met_behind server send Reauthenticate within = untouched_behind server server refl refl

-- and by each exchange
pub exchanged_behind : (server : Server) (send : Send) (step : Scheduled) → AsksWithin (length server.cursors) send.body → GoesBehind server (exchanged server send step)
unfolding exchanged
exchanged_behind server send step within =
    let there : Server = traced (after_picks server step.deliver) send in
    let more : length server.cursors ≤ length there.cursors = picks_more server step.deliver in
    let begun : GoesBehind server there = record { more = more; none = λ none. picks_ahead server step.deliver none } in
    twice_behind server there (met there send step.item) begun
    (met_behind there send step.item (body_within (length server.cursors) (length there.cursors) send.body more within))

-- so behind sends of writes nothing that waits is ahead
pub writes_behind : (schedule : Schedule) (server : Server) (sends : List Send) → ((send : Send) → Has sends send → IsWrite send.body) → NoneAhead server → NoneAhead (replayed schedule server sends)
unfolding replayed
writes_behind schedule server [] writes none = none
writes_behind schedule server (send ∷ sends) writes none =
    let step = next_step schedule server in
    writes_behind schedule (exchanged server send step) sends (λ other has. writes other (inr has))
    ((exchanged_behind server send step (write_within (length server.cursors) send.body (writes send (inl refl)))).none none)

-- nor before the first send
pub empty_ahead : NoneAhead empty_server
empty_ahead = λ at send is. absurd (none_is_some (Some send) is)
