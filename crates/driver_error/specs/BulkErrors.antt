-- What the errors of two parts of a bulk write are together.
use Rattle.std.specs.Prelude.{◌≡◌, ⊤, ◌++◌, Option, None, Some, IfSome, Result, Ok, Err}
use Rattle.bson_lite.specs.Unions.{union}
use Rattle.driver_error.specs.declared.error.Error.{Error}
use Rattle.driver_error.specs.declared.kind.ErrorKind.TheVariants as kind
use Rattle.server_answers.specs.declared.results.PartialBulkWriteResult.{PartialBulkWriteResult}
use Rattle.server_answers.specs.declared.results.PartialBulkWriteResult.TheVariants as partly
use Rattle.server_answers.specs.declared.results.VerboseBulkWriteResult.{VerboseBulkWriteResult}
use Rattle.driver_error.specs.declared.write.BulkWriteError.{BulkWriteError}
use Rattle.driver_error.specs.Counts.{AllFit, Counts, RefusesMerge, added}
use Rattle.driver_error.specs.Error.{ErrorKind, IsAlone, kind_of, labels_of, response_of, source_of, wire_version_of}
use Rattle.driver_error.specs.LabelTexts.{no_labels}

-- two results are both summaries or both verbose
abbrev pub AreOfOneKind : PartialBulkWriteResult → PartialBulkWriteResult → Type 0
AreOfOneKind (partly.Summary a) (partly.Summary b) = ⊤
AreOfOneKind (partly.Verbose a) (partly.Verbose b) = ⊤
AreOfOneKind _ _ = ⊥

-- the same of results that may not be there
abbrev pub AreAlike : Option PartialBulkWriteResult → Option PartialBulkWriteResult → Type 0
AreAlike (Some a) (Some b) = AreOfOneKind a b
AreAlike _ _ = ⊤

-- the five counts of a result of either kind
abbrev pub partial_counts : PartialBulkWriteResult → Counts
partial_counts (partly.Summary counts) = counts
partial_counts (partly.Verbose results) = results.summary

-- the sums of the counts, and the results of both by index; at an index that both have, the later one
abbrev pub merged_verbose : VerboseBulkWriteResult → VerboseBulkWriteResult → VerboseBulkWriteResult
merged_verbose earlier later = record {
  summary = added earlier.summary later.summary;
  insert_results = union earlier.insert_results later.insert_results;
  update_results = union earlier.update_results later.update_results;
  delete_results = union earlier.delete_results later.delete_results;
}

-- two results of one kind together; those of two kinds are never merged
abbrev pub merged_partial : PartialBulkWriteResult → PartialBulkWriteResult → PartialBulkWriteResult
merged_partial (partly.Summary earlier) (partly.Summary later) = partly.Summary (added earlier later)
merged_partial (partly.Verbose earlier) (partly.Verbose later) = partly.Verbose (merged_verbose earlier later)
merged_partial earlier _ = earlier

-- the same of results that may not be there
abbrev pub merged_partials : Option PartialBulkWriteResult → Option PartialBulkWriteResult → Option PartialBulkWriteResult
merged_partials None later = later
merged_partials (Some earlier) None = Some earlier
merged_partials (Some earlier) (Some later) = Some (merged_partial earlier later)

-- the write concern errors of both in their order, the write errors of both by index, at an index that both have the later one,
-- and the results of both
abbrev pub merged_errors : BulkWriteError → BulkWriteError → BulkWriteError
merged_errors earlier later = record {
  write_concern_errors = earlier.write_concern_errors ++ later.write_concern_errors;
  write_errors = union earlier.write_errors later.write_errors;
  partial_result = merged_partials earlier.partial_result later.partial_result;
}

-- the sums of the counts that a merging adds up: where both results are there
abbrev pub joint_sums : Option PartialBulkWriteResult → Option PartialBulkWriteResult → Option Counts
joint_sums (Some earlier) (Some later) = Some (added (partial_counts earlier) (partial_counts later))
joint_sums _ _ = None

-- why errors are not merged: a sum of counts has more than 64 bits, or there was no memory
abbrev pub RefusesSums : Option Counts → Error → Type 0
RefusesSums (Some sums) error = RefusesMerge sums error
RefusesSums None error = IsAlone kind.Memory no_labels error

-- the same error as one of a bulk write that tells of these failures
pub record TellsFailures (failures : BulkWriteError) (old now : Error) : Type 0 where
  pub kind_is : kind_of now ≡ kind.BulkWrite failures
  pub labels : labels_of now ≡ labels_of old
  pub version : wire_version_of now ≡ wire_version_of old
  pub source : source_of now ≡ source_of old
  pub response : response_of now ≡ response_of old

-- the failures that an error of a bulk write tells of
abbrev pub failures_in : ErrorKind → Option BulkWriteError
failures_in (kind.BulkWrite failures) = Some failures
failures_in _ = None

-- a result may be merged into that of failures, where there are some
abbrev pub IsAlikeIn : Option BulkWriteError → Option PartialBulkWriteResult → Type 0
IsAlikeIn (Some failures) partial = AreAlike failures.partial_result partial
IsAlikeIn None partial = ⊤

-- the result of failures, where there are some, may be merged into this one
abbrev pub IsAlikeBefore : Option BulkWriteError → Option PartialBulkWriteResult → Type 0
IsAlikeBefore (Some failures) partial = AreAlike partial failures.partial_result
IsAlikeBefore None partial = ⊤

-- there are failures, and where there are others too, their results may be merged
abbrev pub AreMergeable : Option BulkWriteError → Option BulkWriteError → Type 0
AreMergeable (Some before) (Some failures) = AreAlike before.partial_result failures.partial_result
AreMergeable (Some before) None = ⊤
AreMergeable None _ = ⊥

-- failures of two parts became one, unless a sum has more than 64 bits or there was no memory
abbrev pub Joins : BulkWriteError → BulkWriteError → Error → Result Error Error → Type 0
Joins earlier later old (Ok now) = TellsFailures (merged_errors earlier later) old now × IfSome (joint_sums earlier.partial_result later.partial_result) AllFit
Joins earlier later old (Err error) = RefusesSums (joint_sums earlier.partial_result later.partial_result) error

-- what a later part of a bulk write failed with, or what succeeded in it, came to its error; no other error takes it
abbrev pub JoinsLater : Option BulkWriteError → BulkWriteError → Error → Result Error Error → Type 0
JoinsLater (Some failures) later old result = Joins failures later old result
JoinsLater None later old result = result ≡ Ok old

-- the same of an earlier part
abbrev pub JoinsEarlier : Option BulkWriteError → BulkWriteError → Error → Result Error Error → Type 0
JoinsEarlier (Some failures) earlier old result = Joins earlier failures old result
JoinsEarlier None earlier old result = result ≡ Ok old

-- an error of a bulk write was taken apart into its failures and its source; another one was handed back
abbrev pub TakesApart : Option BulkWriteError → Error → Result (BulkWriteError × Option Error) Error → Type 0
TakesApart found old (Ok parts) = (found ≡ Some parts.0) × (parts.1 ≡ source_of old)
TakesApart found old (Err now) = (found ≡ None) × (now ≡ old)
