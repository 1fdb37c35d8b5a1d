-- What the batches of a bulk write came to so far, and how one more changes that.
use Rattle.std.specs.Prelude.{◌≡◌, ⊤, ◌==◌, Bool, true, false, not, ◌||◌, [], Option, None, Some, IfSome, Result, Ok, Err}
use Rattle.std.specs.FinMap as finite
use Rattle.driver_error.specs.declared.error.Error.{Error}
use Rattle.driver_error.specs.declared.kind.ErrorKind.TheVariants as kind
use Rattle.server_answers.specs.declared.results.PartialBulkWriteResult.{PartialBulkWriteResult}
use Rattle.bulk_outcomes.specs.declared.status.ExecutionStatus.{ExecutionStatus}
use Rattle.bulk_outcomes.specs.declared.status.ExecutionStatus.TheVariants as status
use Rattle.driver_error.specs.declared.write.BulkWriteError.{BulkWriteError}
use Rattle.driver_error.specs.BulkErrors.{AreOfOneKind, Joins, JoinsLater, RefusesSums, failures_in, joint_sums, merged_errors}
use Rattle.bulk_outcomes.specs.BulkResults.{ResultSpec}
use Rattle.driver_error.specs.Counts.{AllFit, RefusesMerge, added}
use Rattle.driver_error.specs.Error.{ErrorKind, HasSource, IsAlone, kind_of, labels_of, response_of, source_of, wire_version_of}
use Rattle.driver_error.specs.LabelTexts.{no_labels}

-- what succeeded, as the failures of a bulk write in which nothing failed
abbrev pub succeeded_alone : PartialBulkWriteResult → BulkWriteError
succeeded_alone partial = record { write_concern_errors = []; write_errors = finite.empty; partial_result = Some partial }

-- a result that may not be there is of the variant that a kind of result has
abbrev pub IsOfKind : {R : Type 0} → ResultSpec R → Option PartialBulkWriteResult → Type 0
IsOfKind tells None = ⊤
IsOfKind {R = R} tells (Some partial) = (found : R) → AreOfOneKind partial (tells.partial found)

-- the result of failures is, where there are some
abbrev pub IsBulkOfKind : {R : Type 0} → ResultSpec R → Option BulkWriteError → Type 0
IsBulkOfKind tells (Some failures) = IsOfKind tells failures.partial_result
IsBulkOfKind tells None = ⊤

-- the result in an error that stands is of that variant
abbrev pub HasKind : {R : Type 0} → ResultSpec R → ExecutionStatus R → Type 0
HasKind tells (status.Error standing) = IsBulkOfKind tells (failures_in (kind_of standing))
HasKind tells _ = ⊤

-- there are failures, with a result of that variant, and no source beside them
abbrev pub IsOpen : {R : Type 0} → ResultSpec R → Option BulkWriteError → Option Error → Type 0
IsOpen tells (Some failures) source = (source ≡ None) × IsOfKind tells failures.partial_result
IsOpen tells None source = ⊥

-- an error that stands is one of the bulk write, without a source
abbrev pub Stands : {R : Type 0} → ResultSpec R → ExecutionStatus R → Type 0
Stands tells (status.Error standing) = IsOpen tells (failures_in (kind_of standing)) (source_of standing)
Stands tells _ = ⊤

-- one batch more succeeded: its result is the first, or is merged into what stands
abbrev pub Succeeds : {R : Type 0} → ResultSpec R → ExecutionStatus R → R → Result (ExecutionStatus R) Error → Type 0
Succeeds tells status.None found (Ok now) = now ≡ status.Success found
Succeeds tells status.None found (Err error) = ⊥
Succeeds tells (status.Success before) found (Ok now) =
    (now ≡ status.Success (tells.merged before found)) × AllFit (added (tells.counts before) (tells.counts found))
Succeeds tells (status.Success before) found (Err error) = RefusesMerge (added (tells.counts before) (tells.counts found)) error
Succeeds tells (status.Error standing) found (Ok (status.Error now)) = JoinsLater (failures_in (kind_of standing)) (succeeded_alone (tells.partial found)) standing (Ok now)
Succeeds tells (status.Error standing) found (Ok now) = ⊥
Succeeds tells (status.Error standing) found (Err error) = JoinsLater (failures_in (kind_of standing)) (succeeded_alone (tells.partial found)) standing (Err error)

-- the answer is an error that stands, or a refusal, and came about in this way
abbrev pub LeavesError : {R : Type 0} → (Result Error Error → Type 0) → Result (ExecutionStatus R) Error → Type 0
LeavesError came (Ok (status.Error now)) = came (Ok now)
LeavesError came (Ok _) = ⊥
LeavesError came (Err refused) = came (Err refused)

-- the failures of a bulk write with the error behind them as the source, and no labels, wire version and response of its own
pub record IsMadeOf (failures : BulkWriteError) (error now : Error) : Type 0 where
  pub kind_is : kind_of now ≡ kind.BulkWrite failures
  pub no_labels_are : labels_of now ≡ no_labels
  pub no_version : wire_version_of now ≡ None
  pub source_is : source_of now ≡ Some error
  pub no_response : response_of now ≡ None

-- the failures of an error that stands and those of a later one, with the source of the later one; all else is the first one's
pub record TakesOver (before failures : BulkWriteError) (standing error now : Error) : Type 0 where
  pub kind_is : kind_of now ≡ kind.BulkWrite (merged_errors before failures)
  pub labels : labels_of now ≡ labels_of standing
  pub version : wire_version_of now ≡ wire_version_of standing
  pub source_is : source_of now ≡ source_of error
  pub response : response_of now ≡ response_of standing
  pub fit : IfSome (joint_sums before.partial_result failures.partial_result) AllFit

-- a batch failed behind what succeeded: its failures take that over; any other error is the source of what succeeded
abbrev pub FailsBehind : BulkWriteError → Option BulkWriteError → Error → Result Error Error → Type 0
FailsBehind done (Some failures) error result = Joins done failures error result
FailsBehind done None error (Ok now) = IsMadeOf done error now
FailsBehind done None error (Err refused) = IsAlone kind.Memory no_labels refused

-- a batch failed behind an error of the bulk write: that takes its failures over; any other error is its source
abbrev pub FailsAgain : Option BulkWriteError → Error → Option BulkWriteError → Error → Result Error Error → Type 0
FailsAgain (Some before) standing (Some failures) error (Ok now) = TakesOver before failures standing error now
FailsAgain (Some before) standing (Some failures) error (Err refused) =
    RefusesSums (joint_sums before.partial_result failures.partial_result) refused
FailsAgain (Some before) standing None error (Ok now) = HasSource (Some error) standing now
FailsAgain (Some before) standing None error (Err refused) = IsAlone kind.Memory no_labels refused
FailsAgain None standing _ error result = ⊥

-- a batch failed: why takes its place in what stands
abbrev pub Fails : {R : Type 0} → ResultSpec R → ExecutionStatus R → Error → Result (ExecutionStatus R) Error → Type 0
Fails tells status.None error result = result ≡ Ok (status.Error error)
Fails tells (status.Success before) error result =
    LeavesError (FailsBehind (succeeded_alone (tells.partial before)) (failures_in (kind_of error)) error) result
Fails tells (status.Error standing) error result =
    LeavesError (FailsAgain (failures_in (kind_of standing)) standing (failures_in (kind_of error)) error) result

-- whether there was no memory
abbrev pub is_memory : ErrorKind → Bool
is_memory kind.Memory = true
is_memory _ = false

-- want of memory takes the place of what stands
abbrev pub FailsWith : {R : Type 0} → ResultSpec R → ExecutionStatus R → Bool → Error → Result (ExecutionStatus R) Error → Type 0
FailsWith tells before true error result = result ≡ Ok (status.Error error)
FailsWith tells before false error result = Fails tells before error result

-- whether the next batch is made behind an error: one of the bulk write without a source, and without write errors where it is ordered
abbrev pub is_followed : Bool → Option BulkWriteError → Option Error → Bool
is_followed ordered (Some failures) None = not ordered || finite.len failures.write_errors == 0
is_followed ordered _ source = false

-- the same behind what stands
abbrev pub goes_on : {R : Type 0} → Bool → ExecutionStatus R → Bool
goes_on ordered (status.Error standing) = is_followed ordered (failures_in (kind_of standing)) (source_of standing)
goes_on ordered _ = true
