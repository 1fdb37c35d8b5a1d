-- A bulk write as batches one after another: what each is, after which end the next is made, and what stands behind them.
use Rattle.std.specs.Prelude.{◌≡◌, Bool, true, List, [], ◌∷◌, None, Result, Ok, Err}
use Rattle.driver_error.specs.declared.error.Error.{Error}
use Rattle.bulk_outcomes.specs.declared.status.ExecutionStatus.{ExecutionStatus}
use Rattle.driver_error.specs.BulkErrors.{failures_in}
use Rattle.bulk_outcomes.specs.BulkResults.{ResultSpec}
use Rattle.driver_error.specs.Error.{kind_of, source_of}
use Rattle.bulk_outcomes.specs.Status.{FailsWith, Succeeds, is_followed, is_memory}
use Rattle.driver_options.specs.declared.write_options.BulkWriteOptions.{BulkWriteOptions}
use Rattle.bulk_fronts.specs.declared.own_op.OwnOp.{OwnOp}
use Rattle.bulk_ops.specs.BulkSpec.{admin_target, bulk_spec}
use Rattle.bulk_fronts.specs.BulkWrites.{bulk_is_ordered}
use Rattle.many_actions.specs.BatchPlans.{BatchPlan, PlannedEnd}

-- an end behind which the next batch is made: Ok, or failures of the bulk write without a source, and without a write error where it is
-- ordered
abbrev pub end_goes_on : {R : Type 0} → Bool → Result R Error → Bool
end_goes_on ordered (Ok found) = true
end_goes_on ordered (Err error) = is_followed ordered (failures_in (kind_of error)) (source_of error)

-- a batch is the bulk write of the ops that are left
abbrev pub bulk_plan : {R : Type 0} → ResultSpec R → BulkWriteOptions → BatchPlan OwnOp R
bulk_plan tells options = record {
  spec = λ index own. bulk_spec tells admin_target index own options;
  fixed = λ own. None;
  goes_on = end_goes_on (bulk_is_ordered options);
}

-- what stood takes over what one more batch came to
abbrev pub Takes : {R : Type 0} → ResultSpec R → ExecutionStatus R → Result R Error → Result (ExecutionStatus R) Error → Type 0
Takes tells before (Ok found) now = Succeeds tells before found now
Takes tells before (Err error) now = FailsWith tells before (is_memory (kind_of error)) error now

-- behind a batch this stands, and so it goes on; or what it came to could not be taken over, and no other was made
abbrev pub StandsBehind : {R : Type 0} → (ExecutionStatus R → Type 0) → List (PlannedEnd R) → Result (ExecutionStatus R) Error → Result (ExecutionStatus R) Error → Type 0
StandsBehind Rest ends (Ok now) came = Rest now
StandsBehind Rest ends (Err error) came = (ends ≡ []) × (came ≡ Err error)

-- what stands behind batches that ended so, where this stood before them: what each came to is taken over in their order
abbrev pub ComesTo : {R : Type 0} → ResultSpec R → ExecutionStatus R → List (PlannedEnd R) → Result (ExecutionStatus R) Error → Type 0
ComesTo tells before [] came = came ≡ Ok before
ComesTo {R} tells before (end ∷ ends) came =
    (now : Result (ExecutionStatus R) Error) × (Takes tells before end.result now × StandsBehind (λ standing. ComesTo tells standing ends came) ends now came)
