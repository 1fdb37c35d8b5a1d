-- How a call of a list is made, and why it ended as it did, by what it does.
use Rattle.std.specs.Prelude.{ℕ, Bool, true, false, List, Result, Ok, Err}
use Rattle.driver_error.specs.declared.error.Error.{Error}
use Rattle.server_answers.specs.declared.results.InsertManyResult.{InsertManyResult}
use Rattle.server_answers.specs.declared.results.SummaryBulkWriteResult.{SummaryBulkWriteResult}
use Rattle.server_answers.specs.declared.results.VerboseBulkWriteResult.{VerboseBulkWriteResult}
use Rattle.bulk_outcomes.specs.BulkResults.{summary_spec, verbose_spec}
use Rattle.driver_options.specs.declared.models.WriteModel.{WriteModel}
use Rattle.driver_options.specs.declared.write_options.BulkWriteOptions.{BulkWriteOptions}
use Rattle.driver_ops.specs.Targets.{in_collection}
use Rattle.driver_attempt.specs.Moment.{Moment}
use Rattle.driver_actions.specs.Causes.{WriteCaused}
use Rattle.many_actions.specs.ManyCalls.{MakesMany, ManyCaused}
use Rattle.driver_actions.specs.SingleCalls.{Makes, first_place}
use Rattle.bulk_actions.specs.BulkCalls.{BulkCaused, MakesBulk}
use Rattle.driver_inputs.specs.declared.call.Answer.{Answer}
use Rattle.driver_inputs.specs.declared.call.Answer.TheVariants as answer
use Rattle.driver_inputs.specs.declared.call.Call.{Call}
use Rattle.driver_inputs.specs.declared.call.Call.TheVariants.{BulkWrite, InsertMany, Single}
use Rattle.driver_inputs.specs.declared.call.SingleAnswer.{SingleAnswer}
use Rattle.driver_inputs.specs.Forms.{form_of}

-- an answer is that of a single write
abbrev pub OfSingle : (Result SingleAnswer Error → Type 0) → Result Answer Error → Type 0
OfSingle P (Ok (answer.Single given)) = P (Ok given)
OfSingle P (Ok other) = ⊥
OfSingle P (Err error) = P (Err error)

-- an answer is that of an insert of many documents
abbrev pub OfMany : (Result InsertManyResult Error → Type 0) → Result Answer Error → Type 0
OfMany P (Ok (answer.Many output)) = P (Ok output)
OfMany P (Ok other) = ⊥
OfMany P (Err error) = P (Err error)

-- an answer is that of a bulk write that answers its counts alone
abbrev pub OfSummary : (Result SummaryBulkWriteResult Error → Type 0) → Result Answer Error → Type 0
OfSummary P (Ok (answer.Summary output)) = P (Ok output)
OfSummary P (Ok other) = ⊥
OfSummary P (Err error) = P (Err error)

-- and of one that answers the result of each write too
abbrev pub OfVerbose : (Result VerboseBulkWriteResult Error → Type 0) → Result Answer Error → Type 0
OfVerbose P (Ok (answer.Verbose output)) = P (Ok output)
OfVerbose P (Ok other) = ⊥
OfVerbose P (Err error) = P (Err error)

-- one call of a bulk write, with the results that it asks for
abbrev pub MakesBulkCall : Moment → Moment → List WriteModel → BulkWriteOptions → Bool → ℕ → Result Answer Error → Type 0
MakesBulkCall before now models options true call result = OfVerbose (MakesBulk verbose_spec before now models options call) result
MakesBulkCall before now models options false call result = OfSummary (MakesBulk summary_spec before now models options call) result

-- and it ended with its cause
abbrev pub BulkHasCause : Moment → Moment → List WriteModel → BulkWriteOptions → Bool → ℕ → Result Answer Error → Type 0
BulkHasCause before now models options true call result = OfVerbose (BulkCaused verbose_spec before now models options call) result
BulkHasCause before now models options false call result = OfSummary (BulkCaused summary_spec before now models options call) result

-- one call of a list, by its number
abbrev pub MakesCall : Moment → Moment → Call → ℕ → Result Answer Error → Type 0
MakesCall before now (Single write) call result = OfSingle (Makes before now (form_of write) (first_place call)) result
MakesCall before now (InsertMany namespace documents options) call result = OfMany (MakesMany before now (in_collection namespace) documents options call) result
MakesCall before now (BulkWrite models options verbose) call result = MakesBulkCall before now models options verbose call result

-- and it ended with its cause
abbrev pub HasCause : Moment → Moment → Call → ℕ → Result Answer Error → Type 0
HasCause before now (Single write) call result = WriteCaused before now (form_of write) result
HasCause before now (InsertMany namespace documents options) call result = OfMany (ManyCaused before now (in_collection namespace) documents options call) result
HasCause before now (BulkWrite models options verbose) call result = BulkHasCause before now models options verbose call result
