-- The five counts of the result of a bulk write, their sums, and why sums are refused.
use Rattle.std.specs.Prelude.{ℕ, ℤ, ◌+ℤ◌, ◌⊎◌, List, codes, FitsSigned}
use Rattle.std.specs.Int.{w64}
use Rattle.driver_error.specs.declared.error.Error.{Error}
use Rattle.driver_error.specs.declared.kind.ErrorKind.TheVariants as kind
use Rattle.server_answers.specs.declared.results.SummaryBulkWriteResult.{SummaryBulkWriteResult}
use Rattle.driver_error.specs.Conversions.{IsMade}
use Rattle.driver_error.specs.Error.{IsAlone}
use Rattle.driver_error.specs.LabelTexts.{no_labels}

-- the five counts; they are integers without a bound here
abbrev pub Counts : Type 0
Counts = SummaryBulkWriteResult

-- the counts of inserted, matched, modified, upserted and deleted documents
abbrev pub five : ℤ → ℤ → ℤ → ℤ → ℤ → Counts
five inserted matched modified upserted deleted = record {
  inserted_count = inserted;
  matched_count = matched;
  modified_count = modified;
  upserted_count = upserted;
  deleted_count = deleted;
}

-- each count with the other's
abbrev pub added : Counts → Counts → Counts
added counts more = five
    (counts.inserted_count +ℤ more.inserted_count)
    (counts.matched_count +ℤ more.matched_count)
    (counts.modified_count +ℤ more.modified_count)
    (counts.upserted_count +ℤ more.upserted_count)
    (counts.deleted_count +ℤ more.deleted_count)

-- each count has 64 bits
pub record AllFit (counts : Counts) : Type 0 where
  pub inserted : FitsSigned w64 counts.inserted_count
  pub matched : FitsSigned w64 counts.matched_count
  pub modified : FitsSigned w64 counts.modified_count
  pub upserted : FitsSigned w64 counts.upserted_count
  pub deleted : FitsSigned w64 counts.deleted_count

-- the message about a sum that does not
unfoldable pub out_of_range_text : List ℕ
out_of_range_text = codes "a sum of counts is out of the range of a 64-bit number"

-- a sum has more than 64 bits, and the error says so; or there was no memory to say it
pub record LeavesRange (sums : Counts) (error : Error) : Type 0 where
  pub some_sum : AllFit sums → ⊥
  pub says : IsMade (kind.InvalidResponse out_of_range_text) no_labels error

-- why results are not merged: a sum of their counts has more than 64 bits, or there was no memory
abbrev pub RefusesMerge : Counts → Error → Type 0
RefusesMerge sums error = LeavesRange sums error ⊎ IsAlone kind.Memory no_labels error
