-- A call only reads its clock, and draws no random word.
use Rattle.std.proofs.Common.{ℕ, ◌∙◌, arith}
use Rattle.driver_attempt.specs.Moment.{Moment}
use Rattle.driver_exec.proofs.ClockReadings.{reads_later}
use Rattle.call_runs.specs.CallByCall.{CallCaused, IsTimed, with_clock}
use Rattle.call_runs.proofs.EachCall.{call_moves}
use Rattle.driver_inputs.specs.declared.call.Call.{Call}
use Rattle.driver_inputs.specs.declared.call.Outcome.{Outcome}

-- the times of a call that ended with its cause
pub caused_timed : (number : ℕ) (before now : Moment) (call : Call) (outcome : Outcome) → CallCaused number before now call outcome → IsTimed before now outcome
caused_timed number before now call outcome caused =
    let from = with_clock before caused.first in
    let to = with_clock now caused.clock in
    let moves = call_moves from to call number outcome.result caused.makes in
    let later = reads_later caused.first caused.clock moves.read.readings moves.read.reads in
    let before_last = later.0 in
    record {
      started = caused.started.forward;
      ordered = omega (arith, before_last, caused.started.last_is, caused.ended.forward);
      ended = caused.ended.last_is;
      slept = caused.ended.slept ∙ later.1 ∙ caused.started.slept;
      words = moves.words;
    }
