-- What the functions that make the batches of a bulk write say of themselves.
use Rattle.std.specs.Prelude.{◌≡◌, ⊤, ℕ, ◌+◌, ◌<◌, ◌≤◌, Bool, true, false, List, drop, Option, None, Some, ◌⊎◌, Result, Ok, Err}
use Rattle.std.specs.List.{AllByRecursion}
use Rattle.driver_error.specs.declared.error.Error.{Error}
use Rattle.driver_error.specs.declared.kind.ErrorKind.TheVariants as kind
use Rattle.bulk_outcomes.specs.declared.status.ExecutionStatus.{ExecutionStatus}
use Rattle.bulk_outcomes.specs.declared.status.ExecutionStatus.TheVariants as status
use Rattle.driver_error.specs.BulkErrors.{failures_in}
use Rattle.bulk_outcomes.specs.BulkResults.{ResultSpec}
use Rattle.driver_error.specs.Error.{kind_of}
use Rattle.bulk_outcomes.specs.Status.{IsBulkOfKind}
use Rattle.driver_options.specs.declared.models.WriteModel.{WriteModel}
use Rattle.driver_options.specs.declared.write_options.BulkWriteOptions.{BulkWriteOptions}
use Rattle.bulk_fronts.specs.declared.own_op.OwnOp.{OwnOp}
use Rattle.bulk_fronts.specs.BulkOps.{AreOps, IsUndotted}
use Rattle.bulk_fronts.specs.BulkWrites.{bulk_is_ordered}
use Rattle.driver_attempt.specs.Failures.{MemoryAlone}
use Rattle.driver_attempt.specs.Moment.{Moment}
use Rattle.many_actions.specs.BatchPlans.{IsCount, MakesAllPlanned, MakesPlanned, PlannedEnd}
use Rattle.bulk_actions.specs.declared.bulk_batches.Behind.{Behind}
use Rattle.bulk_actions.specs.BulkBatches.{ComesTo, Takes, bulk_plan, end_goes_on}

-- there are models whose ops these are, and no database of theirs has a dot in its name
pub record AreBulkOps (own : List OwnOp) : Type 0 where
  pub models : List WriteModel
  pub are_ops : AreOps models own
  pub undotted : AllByRecursion IsUndotted models

-- the result in an error of a bulk write is of the variant that a kind of result has
abbrev pub EndHasKind : {R : Type 0} → ResultSpec R → Result R Error → Type 0
EndHasKind tells (Ok found) = ⊤
EndHasKind tells (Err error) = IsBulkOfKind tells (failures_in (kind_of error))

-- a batch was made of the ops that are left, and came to this; where the next may be made behind it, so many are in it
pub record BulkBatchMade {R : Type 0} (tells : ResultSpec R) (options : BulkWriteOptions) (call index : ℕ) (own : List OwnOp) (before now : Moment) (count : ℕ) (came : Result R Error) : Type 0 where
  pub end : PlannedEnd R
  pub makes : MakesPlanned (bulk_plan tells options) call index own before now end
  pub result_is : end.result ≡ came
  pub counted : end_goes_on (bulk_is_ordered options) came ≡ true → IsCount own end.statements count
  pub of_kind : EndHasKind tells came

-- a batch from this index on was made, and what stood took over what it came to; the next one is made behind it or not
pub record TakesBatch {R : Type 0} (tells : ResultSpec R) (options : BulkWriteOptions) (call index : ℕ) (own : List OwnOp) (before now : Moment) (standing later : ExecutionStatus R) (on : Bool) : Type 0 where
  pub end : PlannedEnd R
  pub makes : MakesPlanned (bulk_plan tells options) call index (drop index own) before now end
  pub takes : Takes tells standing end.result (Ok later)
  pub goes : end_goes_on (bulk_is_ordered options) end.result ≡ on

-- so many ops of it are in the command
pub record TakesCounted {R : Type 0} (tells : ResultSpec R) (options : BulkWriteOptions) (call index : ℕ) (own : List OwnOp) (before now : Moment) (standing later : ExecutionStatus R) (count : ℕ) : Type 0 where
  pub takes : TakesBatch tells options call index own before now standing later true
  pub counted : IsCount (drop index own) takes.end.statements count

-- the call ended with this error at the ops that are left: memory ran out before a batch of them, or what one came to could not be
-- taken over
pub record StopsBulk {R : Type 0} (tells : ResultSpec R) (options : BulkWriteOptions) (call index : ℕ) (own : List OwnOp) (before now : Moment) (standing : ExecutionStatus R) (error : Error) : Type 0 where
  pub ends : List (PlannedEnd R)
  pub makes : MakesAllPlanned ((kind_of error ≡ kind.Memory) ⊎ ComesTo tells standing ends (Err error)) (bulk_plan tells options) call index own ends before now
  pub why : (kind_of error ≡ kind.Memory) ⊎ ComesTo tells standing ends (Err error)

-- what comes behind a batch: the next one, behind so many ops, or no other
abbrev pub ComesBehind : {R : Type 0} → ResultSpec R → BulkWriteOptions → ℕ → ℕ → List OwnOp → Moment → Moment → ExecutionStatus R → ExecutionStatus R → Option ℕ → Type 0
ComesBehind tells options call index own before now standing later (Some count) = TakesCounted tells options call index own before now standing later count
ComesBehind tells options call index own before now standing later None = TakesBatch tells options call index own before now standing later false

-- so it is, or the call ended with an error
abbrev pub StepsTo : {R : Type 0} → ResultSpec R → BulkWriteOptions → ℕ → ℕ → List OwnOp → Moment → Moment → ExecutionStatus R → Result (Behind R) Error → Type 0
StepsTo tells options call index own before now standing (Ok behind) = ComesBehind tells options call index own before now standing behind.standing behind.next
StepsTo tells options call index own before now standing (Err error) = StopsBulk tells options call index (drop index own) before now standing error

-- the next batch begins further on, within so many ops
abbrev pub NextWithin : ℕ → ℕ → Option ℕ → Type 0
NextWithin index total (Some count) = (0 < count) × (index + count ≤ total)
NextWithin index total None = ⊤

-- there was a batch
abbrev pub IsBegun : {R : Type 0} → ExecutionStatus R → Type 0
IsBegun status.None = ⊥
IsBegun standing = ⊤

-- an error that stands tells of nothing else where it is of want of memory
abbrev pub StandsAlone : {R : Type 0} → ExecutionStatus R → Type 0
StandsAlone (status.Error standing) = MemoryAlone standing
StandsAlone standing = ⊤

-- the batches of a call were made, from the first op on, and this stands behind them
pub record StandsBehindAll {R : Type 0} (tells : ResultSpec R) (options : BulkWriteOptions) (call : ℕ) (own : List OwnOp) (before now : Moment) (standing : ExecutionStatus R) : Type 0 where
  pub ends : List (PlannedEnd R)
  pub batches : MakesAllPlanned ⊥ (bulk_plan tells options) call 0 own ends before now
  pub comes : ComesTo tells status.None ends (Ok standing)
  pub begun : IsBegun standing

-- so it is, or the call ended with an error
abbrev pub MakesBatches : {R : Type 0} → ResultSpec R → BulkWriteOptions → ℕ → List OwnOp → Moment → Moment → Result (ExecutionStatus R) Error → Type 0
MakesBatches tells options call own before now (Ok standing) = StandsBehindAll tells options call own before now standing
MakesBatches tells options call own before now (Err error) = StopsBulk tells options call 0 own before now status.None error
