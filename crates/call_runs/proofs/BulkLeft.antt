-- What a bulk write of a list left.
use Rattle.std.proofs.Common.{ℕ, List, refl}
use Rattle.std.specs.Prelude.{Bool, true, false, Option, None, Some, IfSome, Result, Ok, Err}
use Rattle.driver_error.specs.declared.error.Error.{Error}
use Rattle.server_answers.specs.declared.results.PartialBulkWriteResult.{PartialBulkWriteResult}
use Rattle.driver_error.specs.declared.write.BulkWriteError.{BulkWriteError}
use Rattle.driver_error.specs.BulkErrors.{failures_in}
use Rattle.bulk_outcomes.specs.BulkResults.{MergesResults, ResultSpec, summary_spec, verbose_spec}
use Rattle.driver_error.specs.Error.{kind_of}
use Rattle.bulk_outcomes.specs.PartialResults.{MakesPartial}
use Rattle.bulk_outcomes.specs.lawful.Merging.{summary_merges, verbose_merges}
use Rattle.driver_options.specs.declared.models.WriteModel.{WriteModel}
use Rattle.driver_options.specs.declared.write_options.BulkWriteOptions.{BulkWriteOptions}
use Rattle.driver_link.specs.Clock.{ClockTells}
use Rattle.driver_link.specs.LinkState.{server_run}
use Rattle.driver_attempt.specs.Moment.{Moment}
use Rattle.many_actions.specs.ManyCompleteness.{MayCompleteCallWhereTold}
use Rattle.bulk_actions.specs.BulkCalls.{MakesBulk}
use Rattle.bulk_actions.specs.ErrorsTold.{TellsErrors, TellsErrorsWhereTold}
use Rattle.bulk_actions.specs.PartlyTold.{FailuresAreLogged, HasToldSome, PartialWhereTold}
use Rattle.bulk_actions.proofs.ErrorsSpelled.{bulk_errors}
use Rattle.bulk_actions.proofs.FewestBulk.{bulk_fewest}
use Rattle.bulk_actions.proofs.PartlyTold.{bulk_partly}
use Rattle.call_runs.specs.CallByCall.{with_clock}
use Rattle.call_runs.specs.CallMaking.{MakesBulkCall}
use Rattle.call_runs.specs.CallsLeft.{ErrIsSpelled, ErrStands, LeavesBulk, LeavesBulkCall, PartStands}
use Rattle.call_runs.proofs.ToldAfter.{by_told}
use Rattle.driver_inputs.specs.declared.call.Answer.{Answer}
use Rattle.driver_inputs.specs.declared.call.Answer.TheVariants as answer

-- what joins either kind of result joins it as that of a bulk write that failed
summary_partly : MakesPartial summary_spec
summary_partly = record {
  begins = refl;
  counted = λ now more. refl;
  inserted = λ now index value. refl;
  updated = λ now index value. refl;
  deleted = λ now index value. refl;
}

verbose_partly : MakesPartial verbose_spec
verbose_partly = record {
  begins = refl;
  counted = λ now more. refl;
  inserted = λ now index value. refl;
  updated = λ now index value. refl;
  deleted = λ now index value. refl;
}

-- a bulk write that may be made between these moments
module _ (most number : ℕ) (before now : Moment) (models : List WriteModel) (options : BulkWriteOptions)
    (may : MayCompleteCallWhereTold most before.store.pool now.store.pool (server_run before.link) number) where
  -- a partial result that is told where the call may be made stands in the log
  part_in : (part : Option PartialBulkWriteResult)
      → IfSome part (λ found. PartialWhereTold models number found before.store.pool now.store.pool (server_run before.link) (server_run now.link))
      → IfSome (server_run before.link) (λ told. IfSome (server_run now.link) (λ told_now. IfSome part (λ found. HasToldSome models number told_now.server.log found)))
  part_in None logged = by_told most number (λ told told_now. Unit {0}) (λ s t l m. Unit {0}) (λ pool pool_now told told_now holds writes. tt)
      before.store.pool now.store.pool (server_run before.link) (server_run now.link) tt may
  part_in (Some found) logged = by_told most number (λ told told_now. HasToldSome models number told_now.server.log found) (λ s t l m. PartialWhereTold models number found s t l m)
      (λ pool pool_now told told_now holds writes. holds writes) before.store.pool now.store.pool (server_run before.link) (server_run now.link) logged may

  -- so does that of failures, where there are some
  part_of : (failures : Option BulkWriteError) → FailuresAreLogged before now models number failures
      → IfSome (server_run before.link) (λ told. IfSome (server_run now.link) (λ told_now. PartStands models number told_now.server.log failures))
  part_of None logged = part_in None tt
  part_of (Some failures) logged = part_in failures.partial_result logged

  -- and that of an answer
  stands_partly : {R : Type 0} (tells : ResultSpec R) → MergesResults tells → MakesPartial tells → (result : Result R Error) → MakesBulk tells before now models options number result
      → IfSome (server_run before.link) (λ told. IfSome (server_run now.link) (λ told_now. ErrStands models number told_now.server.log result))
  stands_partly tells merges partly (Ok output) makes = part_in None tt
  stands_partly tells merges partly (Err error) makes = part_of (failures_in (kind_of error)) (bulk_partly tells merges partly before now models options number (Err error) makes)

  -- the write errors that an answer lists are spelled by replies
  spelled_by : {R : Type 0} (tells : ResultSpec R) → MergesResults tells → MakesPartial tells → (result : Result R Error) → ErrIsSpelled tells number before now models options result
  spelled_by tells merges partly (Ok output) = tt
  spelled_by tells merges partly (Err error) = λ first clock made failures kind_is.
      by_told most number (λ told told_now. TellsErrors number told told_now made.ends failures.write_errors) (λ s t l m. TellsErrorsWhereTold number s t l m made.ends failures.write_errors)
      (λ pool pool_now told told_now holds writes. holds writes) before.store.pool now.store.pool (server_run before.link) (server_run now.link)
      (bulk_errors tells merges partly (with_clock before first) (with_clock now clock) models options number (Err error) made failures kind_is) may

  -- what it left, once it is made
  leaves_by : {R : Type 0} (tells : ResultSpec R) → MergesResults tells → MakesPartial tells → (result : Result R Error) → MakesBulk tells before now models options number result
      → LeavesBulk tells number before now models options result
  leaves_by tells merges partly result makes = record {
    partial = stands_partly tells merges partly result makes;
    told = spelled_by tells merges partly result;
    fewest = bulk_fewest tells before now models options number result makes;
  }

  -- so it is by the results that it asks for
  pub bulk_leaves : (verbose : Bool) (result : Result Answer Error) → MakesBulkCall before now models options verbose number result
      → LeavesBulkCall number before now models options verbose result
  bulk_leaves true (Ok (answer.Verbose output)) makes = leaves_by verbose_spec verbose_merges verbose_partly (Ok output) makes
  bulk_leaves true (Ok other) makes = absurd makes
  bulk_leaves true (Err error) makes = leaves_by verbose_spec verbose_merges verbose_partly (Err error) makes
  bulk_leaves false (Ok (answer.Summary output)) makes = leaves_by summary_spec summary_merges summary_partly (Ok output) makes
  bulk_leaves false (Ok other) makes = absurd makes
  bulk_leaves false (Err error) makes = leaves_by summary_spec summary_merges summary_partly (Err error) makes

-- what it left does not depend on the readings of the clock
read_by : {R : Type 0} (tells : ResultSpec R) (number : ℕ) (began clock : ClockTells) (before now : Moment) (models : List WriteModel) (options : BulkWriteOptions) (result : Result R Error)
    → LeavesBulk tells number (with_clock before began) (with_clock now clock) models options result → LeavesBulk tells number before now models options result
read_by tells number began clock before now models options (Ok output) leaves = record { partial = leaves.partial; told = tt; fewest = leaves.fewest }
read_by tells number began clock before now models options (Err error) leaves = record { partial = leaves.partial; told = leaves.told; fewest = leaves.fewest }

pub bulk_left_read : (number : ℕ) (began clock : ClockTells) (before now : Moment) (models : List WriteModel) (options : BulkWriteOptions) (verbose : Bool) (result : Result Answer Error)
    → LeavesBulkCall number (with_clock before began) (with_clock now clock) models options verbose result → LeavesBulkCall number before now models options verbose result
bulk_left_read number began clock before now models options true (Ok (answer.Verbose output)) leaves = read_by verbose_spec number began clock before now models options (Ok output) leaves
bulk_left_read number began clock before now models options true (Ok other) leaves = absurd leaves
bulk_left_read number began clock before now models options true (Err error) leaves = read_by verbose_spec number began clock before now models options (Err error) leaves
bulk_left_read number began clock before now models options false (Ok (answer.Summary output)) leaves = read_by summary_spec number began clock before now models options (Ok output) leaves
bulk_left_read number began clock before now models options false (Ok other) leaves = absurd leaves
bulk_left_read number began clock before now models options false (Err error) leaves = read_by summary_spec number began clock before now models options (Err error) leaves
