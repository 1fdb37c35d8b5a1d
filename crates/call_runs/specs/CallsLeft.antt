-- What an insert of many documents and a bulk write left, as calls of a list.
use Rattle.std.specs.Prelude.{◌≡◌, ℕ, Bool, true, false, List, Option, None, Some, IfSome, Result, Ok, Err}
use Rattle.bson_lite.specs.declared.bson.Bson.{Bson}
use Rattle.bson_lite.specs.declared.document.Pair.{Pair}
use Rattle.bson_lite.specs.declared.namespace.Namespace.{Namespace}
use Rattle.driver_error.specs.declared.error.Error.{Error}
use Rattle.driver_error.specs.declared.kind.ErrorKind.TheVariants as kind
use Rattle.server_answers.specs.declared.results.InsertManyResult.{InsertManyResult}
use Rattle.driver_error.specs.declared.write.BulkWriteError.{BulkWriteError}
use Rattle.driver_error.specs.BulkErrors.{failures_in}
use Rattle.bulk_outcomes.specs.BulkResults.{ResultSpec, summary_spec, verbose_spec}
use Rattle.driver_error.specs.Error.{kind_of}
use Rattle.driver_options.specs.declared.models.WriteModel.{WriteModel}
use Rattle.driver_options.specs.declared.write_options.BulkWriteOptions.{BulkWriteOptions}
use Rattle.driver_options.specs.declared.write_options.InsertManyOptions.{InsertManyOptions}
use Rattle.driver_link.specs.declared.machine.Entry.{Entry}
use Rattle.driver_link.specs.Clock.{ClockTells}
use Rattle.driver_link.specs.LinkState.{server_run}
use Rattle.driver_ops.specs.Targets.{in_collection}
use Rattle.bulk_ops.specs.BulkSpec.{is_verbose}
use Rattle.driver_attempt.specs.Moment.{Moment}
use Rattle.many_actions.specs.FewestBatches.{OkIsFewestCut}
use Rattle.many_actions.specs.ManyCalls.{MadeMany}
use Rattle.many_actions.specs.ManyEntries.{AnswerStands}
use Rattle.many_actions.specs.ManyTold.{IsToldTruly}
use Rattle.bulk_actions.specs.BulkCalls.{MadeBulk}
use Rattle.bulk_actions.specs.ErrorsTold.{TellsErrors}
use Rattle.bulk_actions.specs.FewestBulk.{OkIsFewestBulk}
use Rattle.bulk_actions.specs.PartlyTold.{HasToldSome}
use Rattle.call_runs.specs.CallByCall.{with_clock}
use Rattle.call_runs.specs.CallMaking.{OfMany, OfSummary, OfVerbose}
use Rattle.driver_inputs.specs.declared.call.Answer.{Answer}
use Rattle.driver_inputs.specs.declared.call.Call.{Call}
use Rattle.driver_inputs.specs.declared.call.Call.TheVariants.{BulkWrite, InsertMany, Single}

-- where the link tells its server the documents that the answer lists stand in the log, which are all where it is Ok; what the
-- batches told is so, however the call ended and whichever two clocks it was made between; and the sends of an Ok are a
-- cut into the fewest batches
pub record LeavesMany (number : ℕ) (before now : Moment) (namespace : Namespace) (documents : List (List (Pair Bson))) (options : InsertManyOptions) (result : Result InsertManyResult Error) : Type 0 where
  pub stand : IfSome (server_run before.link) (λ run. IfSome (server_run now.link) (λ run_now. AnswerStands namespace documents number run_now.server.log result))
  pub told : (first clock : ClockTells) (made : MadeMany (with_clock before first) (with_clock now clock) (in_collection namespace) documents options number result)
      → IfSome (server_run before.link) (λ run. IfSome (server_run now.link) (λ run_now. IsToldTruly namespace documents number run run_now made.ends result))
  pub fewest : OkIsFewestCut before now namespace documents options number result

-- the partial result of a bulk write's failures, where there is one, is what entries of some of the models in a log tell
abbrev pub PartStands : List WriteModel → ℕ → List Entry → Option BulkWriteError → Type 0
PartStands models number log None = Unit {0}
PartStands models number log (Some failures) = IfSome failures.partial_result (λ found. HasToldSome models number log found)

-- so it is where a bulk write is answered with such failures
abbrev pub ErrStands : {R : Type 0} → List WriteModel → ℕ → List Entry → Result R Error → Type 0
ErrStands models number log (Ok output) = Unit {0}
ErrStands models number log (Err error) = PartStands models number log (failures_in (kind_of error))

-- whichever two clocks a bulk write was made between that is answered with such failures, each write error that they list is spelled by
-- the reply to a send of the call, and all that its batches ended with are listed, where the link tells its server
abbrev pub ErrIsSpelled : {R : Type 0} → ResultSpec R → ℕ → Moment → Moment → List WriteModel → BulkWriteOptions → Result R Error → Type 0
ErrIsSpelled tells number before now models options (Ok output) = Unit {0}
ErrIsSpelled tells number before now models options (Err error) =
    (first clock : ClockTells) (made : MadeBulk tells (with_clock before first) (with_clock now clock) models options number (Err error)) (failures : BulkWriteError)
    → kind_of error ≡ kind.BulkWrite failures
    → IfSome (server_run before.link) (λ run. IfSome (server_run now.link) (λ run_now. TellsErrors number run run_now made.ends failures.write_errors))

-- where the link tells its server, what an error of a bulk write tells of what succeeded stands in the log, and the write errors that it
-- lists are spelled by replies; and the sends of writes of an Ok are a cut into the fewest batches
pub record LeavesBulk {R : Type 0} (tells : ResultSpec R) (number : ℕ) (before now : Moment) (models : List WriteModel) (options : BulkWriteOptions) (result : Result R Error) : Type 0 where
  pub partial : IfSome (server_run before.link) (λ run. IfSome (server_run now.link) (λ run_now. ErrStands models number run_now.server.log result))
  pub told : ErrIsSpelled tells number before now models options result
  pub fewest : OkIsFewestBulk before now models options (is_verbose tells) number result

-- so it is of a bulk write, by the results that it asks for
abbrev pub LeavesBulkCall : ℕ → Moment → Moment → List WriteModel → BulkWriteOptions → Bool → Result Answer Error → Type 0
LeavesBulkCall number before now models options true result = OfVerbose (LeavesBulk verbose_spec number before now models options) result
LeavesBulkCall number before now models options false result = OfSummary (LeavesBulk summary_spec number before now models options) result

-- what a call left beside the entries of its writes: nothing of a single write is said, and these of the others
abbrev pub LeavesByCall : ℕ → Moment → Moment → Call → Result Answer Error → Type 0
LeavesByCall number before now (Single write) result = Unit {0}
LeavesByCall number before now (InsertMany namespace documents options) result = OfMany (LeavesMany number before now namespace documents options) result
LeavesByCall number before now (BulkWrite models options verbose) result = LeavesBulkCall number before now models options verbose result
