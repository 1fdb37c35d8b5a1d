-- A run of calls between two of its calls: the main theorem holds of the calls that were made, and with it the invariant of
-- one client's writes, of its pool and of the server.
use Rattle.std.specs.Prelude.{◌≡◌, ℕ, zero, suc, ◌+◌, ◌≤◌, pos, List, [], ◌∷◌, ◌++◌, length, take, Option, None, Some, slice_get}
use Rattle.driver_link.specs.declared.machine.PlacedWrite.{PlacedWrite}
use Rattle.driver_link.specs.declared.machine.Send.{Send}
use Rattle.driver_link.specs.Cases.{writes_of}
use Rattle.driver_link.specs.Settled.{Has}
use Rattle.driver_link.specs.LinkState.{server_run}
use Rattle.driver_link.specs.ServerRun.{ServerRun}
use Rattle.driver_session.specs.Pool.{Pool}
use Rattle.driver_attempt.specs.Moment.{Moment}
use Rattle.driver_exec.specs.BetweenCalls.{Between, NumbersWithin, Sound}
use Rattle.driver_actions.specs.Below.{AllBelow}
use Rattle.driver_actions.specs.CallParts.{IsReplayedWhereTold}
use Rattle.bulk_actions.specs.BulkCompleteness.{NoneAhead}
use Rattle.call_runs.specs.CallByCall.{CallCaused}
use Rattle.call_runs.specs.MainTheorem.{CallEnds, MainTheorem, all_numbers_of}
use Rattle.driver_inputs.specs.declared.call.Call.{Call}
use Rattle.driver_inputs.specs.declared.call.Outcome.{Outcome}
use Rattle.driver_inputs.specs.Calls.{OwnAt, write_at}

-- a run of calls: how many were made, for how many there is room, their outcomes, and the slots of open sessions, of which
-- there are none until calls open sessions
pub record RunState : Type 0 where
  pub made : ℕ
  pub room : ℕ
  pub outcomes : List Outcome
  pub slots : List ℕ

-- the number of the call that was made last, where so many were made in order after the call of a number
abbrev pub last_number : ℕ → ℕ → ℕ
last_number before zero = before
last_number before (suc made) = made

-- a run that has made no call
abbrev pub new_run : ℕ → RunState
new_run room = record { made = 0; room = room; outcomes = []; slots = [] }

-- a run that has made one call more, with this outcome
abbrev pub run_more : RunState → Outcome → RunState
run_more run outcome = record { made = run.made + 1; room = run.room; outcomes = run.outcomes ++ outcome ∷ []; slots = run.slots }

-- the next call of a list was made: the one whose place is how many were made before. Its outcome was appended, and of it
-- this holds
pub record MakesNext (run now : RunState) (calls : List Call) (P : Call → Outcome → Type 0) : Type 0 where
  pub call : Call
  pub outcome : Outcome
  pub next : slice_get calls run.made ≡ Some call
  pub appended : now ≡ run_more run outcome
  pub holds : P call outcome

-- between two moments it was made, and ended with its cause
abbrev pub MakesCaused : RunState → RunState → List Call → Moment → Moment → Type 0
MakesCaused run now calls before after = MakesNext run now calls (λ call outcome. CallCaused run.made before after call outcome)

-- and well, where it is valid and its part of the schedule is gentle
abbrev pub MakesEnded : RunState → RunState → List Call → Moment → Moment → Type 0
MakesEnded run now calls before after = MakesNext run now calls (λ call outcome. CallEnds (take run.made calls) before after call outcome)

-- each write of a trace is the caller's own
abbrev pub AllOwn : List Call → List Send → Type 0
AllOwn calls trace = (send : Send) (at : ℕ) (write : PlacedWrite) → Has trace send → slice_get (writes_of send) at ≡ Some write → OwnAt (write_at calls write.place) write.written

-- what these calls with these outcomes left: the main theorem holds of them; nothing is lent, and no
-- number that was sent is above its session's; the trace is orderly, the server settled, and each write that was
-- sent is of one of the calls, in a place of a call that was made; no idle session's number is above those that the calls take at
-- most over the server's setup; and the server is the fold of its sends, of which none that waits is of a cursor that is yet to be opened
pub record Leaves (calls : List Call) (outcomes : List Outcome) (pool : Pool) (run : ServerRun) : Type 0 where
  pub holds : MainTheorem calls outcomes run.server
  pub between : Between pool run.server.trace
  pub sound : Sound run.server
  pub below : AllBelow (length outcomes) run.server.trace
  pub own : AllOwn calls run.server.trace
  pub numbers : NumbersWithin (pos (all_numbers_of (Some run.setup) calls)) pool.idle
  pub replayed : IsReplayedWhereTold (Some run)
  pub cursors : NoneAhead run.server

-- a store and a link tell what these calls left
abbrev pub LeavesWhereTold : List Call → List Outcome → Option Pool → Option ServerRun → Type 0
LeavesWhereTold calls outcomes None link = ⊥
LeavesWhereTold calls outcomes (Some pool) None = ⊥
LeavesWhereTold calls outcomes (Some pool) (Some run) = Leaves calls outcomes pool run

-- a run stands at a moment: store and link tell what the first calls of the list left, as many as were made, and no session
-- is open, since no call opens one yet. It says nothing of the calls behind them
pub record RunInvariant (run : RunState) (calls : List Call) (now : Moment) : Type 0 where
  pub within : run.made ≤ length calls
  pub left : LeavesWhereTold (take run.made calls) run.outcomes now.store.pool (server_run now.link)
  pub closed : run.slots ≡ []
