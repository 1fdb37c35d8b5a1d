-- One call of a bulk write: its ids, its batches, and the answer that stands behind them.
use Rattle.std.specs.Prelude.{◌≡◌, ℕ, List, Option, Result, Ok, Err, ◌⊎◌}
use Rattle.driver_error.specs.declared.error.Error.{Error}
use Rattle.driver_error.specs.declared.kind.ErrorKind.TheVariants as kind
use Rattle.bulk_outcomes.specs.declared.status.ExecutionStatus.{ExecutionStatus}
use Rattle.bulk_outcomes.specs.declared.status.ExecutionStatus.TheVariants as status
use Rattle.bulk_outcomes.specs.BulkResults.{ResultSpec}
use Rattle.driver_error.specs.Error.{ErrorKind, kind_of}
use Rattle.driver_options.specs.declared.models.WriteModel.{WriteModel}
use Rattle.driver_options.specs.declared.write_options.BulkWriteOptions.{BulkWriteOptions}
use Rattle.bulk_fronts.specs.declared.own_op.OwnOp.{OwnOp}
use Rattle.driver_attempt.specs.Causes.{ErrorOutline, end_of}
use Rattle.driver_attempt.specs.Moment.{Moment}
use Rattle.driver_inputs.specs.BulkInputs.{BulkInputRefused, IsBulkAccepted}
use Rattle.many_actions.specs.BatchPlans.{MakesAllPlanned, PlannedEnd}
use Rattle.driver_actions.specs.Causes.{TellsKind}
use Rattle.bulk_actions.specs.BulkBatches.{ComesTo, bulk_plan}
use Rattle.bulk_actions.specs.BulkIds.{OwnsOps, PreparesOps}

-- the answer behind whose batches this stands: the result of all, the error, or why what a batch came to could not be taken over
abbrev pub AnswersStanding : {R : Type 0} → Result (ExecutionStatus R) Error → Result R Error → Type 0
AnswersStanding (Ok (status.Success found)) result = result ≡ Ok found
AnswersStanding (Ok (status.Error error)) result = result ≡ Err error
AnswersStanding (Ok status.None) result = ⊥
AnswersStanding (Err refused) result = result ≡ Err refused

-- an answer is what stands behind batches that ended so
pub record AnswersBatches {R : Type 0} (tells : ResultSpec R) (ends : List (PlannedEnd R)) (result : Result R Error) : Type 0 where
  pub standing : Result (ExecutionStatus R) Error
  pub comes : ComesTo tells status.None ends standing
  pub answers : AnswersStanding standing result

-- so is the answer of a call, unless memory ran out
abbrev pub AnswersBulkCall : {R : Type 0} → ResultSpec R → List (PlannedEnd R) → Result R Error → Type 0
AnswersBulkCall tells ends (Ok output) = AnswersBatches tells ends (Ok output)
AnswersBulkCall tells ends (Err error) = (kind_of error ≡ kind.Memory) ⊎ AnswersBatches tells ends (Err error)

-- behind batches that ended so no other is made although ops are left: memory ran out, or what the last came to could not be taken over
abbrev pub EndsShort : {R : Type 0} → ResultSpec R → List (PlannedEnd R) → Result R Error → Type 0
EndsShort tells ends (Ok output) = ⊥
EndsShort tells ends (Err error) = (kind_of error ≡ kind.Memory) ⊎ ComesTo tells status.None ends (Err error)

-- the caller's models, whose input is accepted, became ops, each inserted document with its id; then their batches were made, one
-- after another from the first op on, and the answer is what stands behind them. Ops are left without a batch only behind an end
-- that stops the call, or where memory ran out or a sum left 64 bits
pub record MadeBulk {R : Type 0} (tells : ResultSpec R) (before now : Moment) (models : List WriteModel) (options : BulkWriteOptions) (call : ℕ) (result : Result R Error) : Type 0 where
  pub accepted : IsBulkAccepted models options
  pub mid : Moment
  pub own : List OwnOp
  pub owns : OwnsOps before.store mid.store models own
  pub rest : mid ≡ record before { store = mid.store }
  pub ends : List (PlannedEnd R)
  pub batches : MakesAllPlanned (EndsShort tells ends result) (bulk_plan tells options) call 0 own ends mid now
  pub answers : AnswersBulkCall tells ends result

-- nothing was asked or sent: the input is refused, or there was no memory, and then ids may have been drawn
pub record UnmadeBulk (before now : Moment) (models : List WriteModel) (options : BulkWriteOptions) (error : Error) : Type 0 where
  pub prepares : PreparesOps before.store now.store models options (Err error)
  pub rest : now ≡ record before { store = now.store }

-- one call of a bulk write
abbrev pub MakesBulk : {R : Type 0} → ResultSpec R → Moment → Moment → List WriteModel → BulkWriteOptions → ℕ → Result R Error → Type 0
MakesBulk tells before now models options call (Ok output) = MadeBulk tells before now models options call (Ok output)
MakesBulk tells before now models options call (Err error) =
    UnmadeBulk before now models options error ⊎ MadeBulk tells before now models options call (Err error)

-- a bulk write whose input is refused is answered so, and nothing changed: no id was drawn, and nothing asked of the link
pub record RefusesBulkFirst (before now : Moment) (models : List WriteModel) (options : BulkWriteOptions) (ended : Option ErrorOutline) : Type 0 where
  pub tells : (why : ErrorKind) → BulkInputRefused models options why → TellsKind why ended
  pub undone : (why : ErrorKind) → BulkInputRefused models options why → now ≡ before

-- a bulk write ended with its cause: it was made, each batch with its cause, or its input was refused, or memory ran out; and input
-- that is refused was refused before anything was drawn or asked
pub record BulkCaused {R : Type 0} (tells : ResultSpec R) (before now : Moment) (models : List WriteModel) (options : BulkWriteOptions) (call : ℕ) (result : Result R Error) : Type 0 where
  pub makes : MakesBulk tells before now models options call result
  pub refused : RefusesBulkFirst before now models options (end_of result)
