-- A call between two readings of the clock.
use Rattle.std.proofs.Common.{ℕ}
use Rattle.std.specs.Prelude.{IfErr}
use Rattle.driver_link.specs.Clock.{ClockTells, ReadsClock}
use Rattle.driver_attempt.specs.Failures.{MemoryAlone}
use Rattle.driver_attempt.specs.Moment.{Moment}
use Rattle.call_runs.specs.CallByCall.{CallCaused, with_clock}
use Rattle.call_runs.specs.CallMaking.{HasCause, MakesCall}
use Rattle.driver_inputs.specs.declared.call.Call.{Call}
use Rattle.driver_inputs.specs.declared.call.Outcome.{Outcome}

-- a call between two readings of the clock
pub call_caused : (before now : Moment) (first last : ClockTells) (call : Call) (number : ℕ) (outcome : Outcome)
    → ReadsClock before.clock first outcome.started_ms → ReadsClock last now.clock outcome.ended_ms
    → MakesCall (with_clock before first) (with_clock now last) call number outcome.result
    → HasCause (with_clock before first) (with_clock now last) call number outcome.result → IfErr outcome.result (λ error. MemoryAlone error)
    → CallCaused number before now call outcome
call_caused before now first last call number outcome started ended makes cause memory =
    record { first = first; started = started; clock = last; ended = ended; makes = makes; cause = cause; memory = memory }
