-- One exchange of the model server by its schedule, late deliveries, and the fold of a whole run.
use Rattle.std.specs.Prelude.{ℕ, ℤ, pos, false, List, [], ◌∷◌, ◌++◌, length, Option, None, Some, unwrap_or, slice_get, slice_set, if◌then◌else◌}
use Rattle.std.specs.FinMap as finite
use Rattle.driver_link.specs.declared.machine.Item.{Item}
use Rattle.driver_link.specs.declared.machine.Item.TheVariants.{Serve, Lost, Late, ReplyLost, Interrupted, Refused, Reauthenticate}
use Rattle.driver_link.specs.declared.machine.Failing.{Failing}
use Rattle.driver_link.specs.declared.machine.Planned.{Planned}
use Rattle.driver_link.specs.declared.machine.PlannedConcern.{PlannedConcern}
use Rattle.driver_link.specs.declared.machine.Schedule.{Schedule}
use Rattle.driver_link.specs.declared.machine.Scheduled.{Scheduled}
use Rattle.driver_link.specs.declared.machine.Send.{Send}
use Rattle.driver_link.specs.declared.machine.Server.{Server}
use Rattle.driver_link.specs.Cursors.{Reply}
use Rattle.driver_link.specs.Cases.{case_of, is_decided}
use Rattle.driver_link.specs.Honesty.{facts_of, honest}
use Rattle.driver_link.specs.Interrupting.{interruption, runs_before, told_of_error}
use Rattle.driver_link.specs.Replies.{error_reply, served_reply}
use Rattle.driver_link.specs.Serving.{Plan, usual, served}

-- the server that has seen nothing
abbrev pub empty_server : Server
empty_server = record { sessions = finite.empty; log = []; waiting = []; cursors = []; trace = [] }

-- the item by which an exchange is served and answered as usual
abbrev pub usual_item : Item
usual_item = Serve [] [] None None

-- the step of the exchange of a number, from 0: past the schedule's end each exchange is served
abbrev pub step_at : Schedule → ℕ → Scheduled
step_at schedule at = unwrap_or (slice_get schedule.items at) (record { deliver = []; item = usual_item })

-- the step of the next exchange: as many exchanges came before it as there are sends in the trace
abbrev pub next_step : Schedule → Server → Scheduled
next_step schedule server = step_at schedule (length server.trace)

-- the waiting send at a place is served where there is one
unfoldable pub arrived : Server → ℕ → Option (Option Send) → Server
arrived server at (Some (Some send)) = served usual (record server { waiting = slice_set server.waiting at None }) send
arrived server at other = server

-- the waiting send at a place is served
unfoldable pub delivered : Server → ℕ → Server
delivered server at = arrived server at (slice_get server.waiting at)

-- the server once the waiting sends of a list of picks were served in that order; a pick that is not
-- waiting is passed over
unfoldable pub after_picks : Server → List ℕ → Server
after_picks server [] = server
after_picks server (pick ∷ picks) = after_picks (delivered server pick) picks

-- a send joins the trace
abbrev pub traced : Server → Send → Server
traced server send = record server { trace = server.trace ++ send ∷ [] }

-- the code that asks for another authentication
abbrev pub reauthentication_required : ℤ
reauthentication_required = pos 391

-- the labels that an interrupted send is answered with
abbrev pub interrupted_labels : ℕ → List (List ℕ) → Server → Send → List (List ℕ)
interrupted_labels most labels server send = honest (facts_of (runs_before most server send) server send (interruption most server send)) labels

-- the labels that a refused send is answered with
abbrev pub refused_labels : List (List ℕ) → Server → Send → List (List ℕ)
refused_labels labels server send = honest (facts_of false server send server) labels

-- the server after a send that was interrupted; where the rules on numbers and transactions decide, it is
-- served as usual
unfoldable pub interrupted : ℕ → List (List ℕ) → Server → Send → Server
interrupted most labels server send =
    if is_decided (case_of server send) then served usual server send
    else told_of_error (interrupted_labels most labels server send) (interruption most server send) send

-- and what it is answered
unfoldable pub interrupted_reply : ℕ → ℤ → List (List ℕ) → Server → Send → Reply
interrupted_reply most code labels server send =
    if is_decided (case_of server send) then served_reply usual server send
    else error_reply code (interrupted_labels most labels server send)

-- the plan of a send that is served
abbrev pub plan_of : List Planned → List Failing → Option PlannedConcern → Option ℕ → Plan
plan_of results fail concern page = record { results = results; fail = fail; concern = concern; page = page }

-- what an item makes of a server that has the send in its trace
unfoldable pub met : Server → Send → Item → Server
met server send (Serve results fail concern page) = served (plan_of results fail concern page) server send
met server send Lost = server
met server send Late = record server { waiting = server.waiting ++ Some send ∷ [] }
met server send ReplyLost = served usual server send
met server send (Interrupted most code labels) = interrupted most labels server send
met server send (Refused code labels) = told_of_error (refused_labels labels server send) server send
met server send Reauthenticate = server

-- the reply to a send, or none where the connection is reset
unfoldable pub reply : Server → Send → Item → Option Reply
reply server send (Serve results fail concern page) = Some (served_reply (plan_of results fail concern page) server send)
reply server send Lost = None
reply server send Late = None
reply server send ReplyLost = None
reply server send (Interrupted most code labels) = Some (interrupted_reply most code labels server send)
reply server send (Refused code labels) = Some (error_reply code (refused_labels labels server send))
reply server send Reauthenticate = Some (error_reply reauthentication_required [])

-- the server after one exchange: first the named waiting sends are served, then the send joins the trace
-- and meets its item
unfoldable pub exchanged : Server → Send → Scheduled → Server
exchanged server send step = met (traced (after_picks server step.deliver) send) send step.item

-- the reply to one exchange, or none where it is a fault
unfoldable pub answered : Server → Send → Scheduled → Option Reply
answered server send step = reply (traced (after_picks server step.deliver) send) send step.item

-- the server after a list of sends, each by its step of the schedule
unfoldable pub replayed : Schedule → Server → List Send → Server
replayed schedule server [] = server
replayed schedule server (send ∷ sends) = replayed schedule (exchanged server send (next_step schedule server)) sends
