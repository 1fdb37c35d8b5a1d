-- The cause of a single write is that of its call.
use Rattle.std.proofs.Common.{ℕ, refl}
use Rattle.std.specs.Prelude.{Ok, Err}
use Rattle.driver_error.specs.declared.error.Error.{Error}
use Rattle.driver_attempt.specs.Moment.{Moment}
use Rattle.driver_actions.specs.Causes.{WriteCaused}
use Rattle.driver_actions.proofs.Causes.{cause_same}
use Rattle.call_runs.specs.CallMaking.{HasCause}
use Rattle.driver_inputs.specs.declared.call.Answer.TheVariants as answer
use Rattle.driver_inputs.specs.declared.call.Call.TheVariants.{Single}
use Rattle.driver_inputs.specs.declared.call.SingleAnswer.{SingleAnswer}
use Rattle.driver_inputs.specs.declared.single_write.SingleWrite.{SingleWrite}
use Rattle.driver_inputs.specs.Forms.{form_of}

-- the cause of a single write is that of its call, with its answer
pub call_cause_ok : (before now : Moment) (write : SingleWrite) (number : ℕ) (given : SingleAnswer) → WriteCaused {A = SingleAnswer} before now (form_of write) (Ok given)
    → HasCause before now (Single write) number (Ok (answer.Single given))
call_cause_ok before now write number given cause = cause_same before now (form_of write) (Ok given) (Ok (answer.Single given)) tt cause

-- or with its error
pub cause_err : (before now : Moment) (write : SingleWrite) (number : ℕ) (error : Error) → WriteCaused {A = SingleAnswer} before now (form_of write) (Err error)
    → HasCause before now (Single write) number (Err error)
cause_err before now write number error cause = cause_same before now (form_of write) (Err error) (Err error) refl cause
