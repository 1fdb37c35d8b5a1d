-- Parts of sums that fit, the order of two results, and the grouping of failures.
use Rattle.std.proofs.Common.{◌≡◌, ℤ, pos, ◌+ℤ◌, ◌≤ℤ◌, Option, None, Some, FitsSigned, w64, refl, ap, append_assoc, arith}
use Rattle.std.proofs.Math.IntN.{+ℤ_comm}
use Rattle.std.proofs.lemmas.Int.{ints}
use Rattle.bson_lite.proofs.Uniting.{union_assoc, union_comm}
use Rattle.server_answers.specs.declared.results.PartialBulkWriteResult.{PartialBulkWriteResult}
use Rattle.server_answers.specs.declared.results.PartialBulkWriteResult.TheVariants as partly
use Rattle.server_answers.specs.declared.results.VerboseBulkWriteResult.{VerboseBulkWriteResult}
use Rattle.driver_error.specs.declared.write.BulkWriteError.{BulkWriteError}
use Rattle.driver_error.specs.BulkErrors.{AreAlike, AreOfOneKind, merged_errors, merged_partial, merged_partials, merged_verbose}
use Rattle.bulk_outcomes.specs.BulkResults.{AreApart, AreCounted}
use Rattle.bulk_outcomes.specs.lawful.Merging.{added_assoc, merged_assoc}
use Rattle.driver_error.specs.Counts.{AllFit, Counts, added, five}

-- ---- parts of a sum that fits
first_fits : (x y z : ℤ) → pos 0 ≤ℤ x → pos 0 ≤ℤ y → pos 0 ≤ℤ z → FitsSigned w64 (x +ℤ y +ℤ z) → FitsSigned w64 (x +ℤ y)
first_fits x y z from_x from_y from_z fits = omega (arith, ints)

last_fits : (x y z : ℤ) → pos 0 ≤ℤ x → pos 0 ≤ℤ y → pos 0 ≤ℤ z → FitsSigned w64 (x +ℤ y +ℤ z) → FitsSigned w64 (y +ℤ z)
last_fits x y z from_x from_y from_z fits = omega (arith, ints)

pub groups_fit : (a b c : Counts) → AreCounted a → AreCounted b → AreCounted c → AllFit (added (added a b) c)
    → AllFit (added a b) × AllFit (added b c)
groups_fit a b c of_a of_b of_c fits = (
  record {
    inserted = first_fits a.inserted_count b.inserted_count c.inserted_count of_a.inserted of_b.inserted of_c.inserted fits.inserted;
    matched = first_fits a.matched_count b.matched_count c.matched_count of_a.matched of_b.matched of_c.matched fits.matched;
    modified = first_fits a.modified_count b.modified_count c.modified_count of_a.modified of_b.modified of_c.modified fits.modified;
    upserted = first_fits a.upserted_count b.upserted_count c.upserted_count of_a.upserted of_b.upserted of_c.upserted fits.upserted;
    deleted = first_fits a.deleted_count b.deleted_count c.deleted_count of_a.deleted of_b.deleted of_c.deleted fits.deleted;
  },
  record {
    inserted = last_fits a.inserted_count b.inserted_count c.inserted_count of_a.inserted of_b.inserted of_c.inserted fits.inserted;
    matched = last_fits a.matched_count b.matched_count c.matched_count of_a.matched of_b.matched of_c.matched fits.matched;
    modified = last_fits a.modified_count b.modified_count c.modified_count of_a.modified of_b.modified of_c.modified fits.modified;
    upserted = last_fits a.upserted_count b.upserted_count c.upserted_count of_a.upserted of_b.upserted of_c.upserted fits.upserted;
    deleted = last_fits a.deleted_count b.deleted_count c.deleted_count of_a.deleted of_b.deleted of_c.deleted fits.deleted;
  },
)

-- ---- the order of two results
pub added_comm : (a b : Counts) → added a b ≡ added b a
added_comm a b = λ i. five
    (+ℤ_comm a.inserted_count b.inserted_count i)
    (+ℤ_comm a.matched_count b.matched_count i)
    (+ℤ_comm a.modified_count b.modified_count i)
    (+ℤ_comm a.upserted_count b.upserted_count i)
    (+ℤ_comm a.deleted_count b.deleted_count i)

pub merged_comm : (a b : VerboseBulkWriteResult) → AreApart a b → merged_verbose a b ≡ merged_verbose b a
merged_comm a b apart = λ i. record {
  summary = added_comm a.summary b.summary i;
  insert_results = union_comm a.insert_results b.insert_results apart.inserts i;
  update_results = union_comm a.update_results b.update_results apart.updates i;
  delete_results = union_comm a.delete_results b.delete_results apart.deletes i;
}

-- ---- the grouping of failures
partial_groups : (a b c : PartialBulkWriteResult) → AreOfOneKind a b → AreOfOneKind b c → merged_partial (merged_partial a b) c ≡ merged_partial a (merged_partial b c)
partial_groups (partly.Summary a) (partly.Summary b) (partly.Summary c) first second = ap partly.Summary (added_assoc a b c)
partial_groups (partly.Verbose a) (partly.Verbose b) (partly.Verbose c) first second = ap partly.Verbose (merged_assoc a b c)
partial_groups (partly.Summary a) (partly.Summary b) (partly.Verbose c) first second = absurd second
partial_groups (partly.Verbose a) (partly.Verbose b) (partly.Summary c) first second = absurd second
partial_groups (partly.Summary a) (partly.Verbose b) c first second = absurd first
partial_groups (partly.Verbose a) (partly.Summary b) c first second = absurd first

-- the same of results that may not be there
partials_group : (a b c : Option PartialBulkWriteResult) → AreAlike a b → AreAlike b c → merged_partials (merged_partials a b) c ≡ merged_partials a (merged_partials b c)
partials_group None b c first second = refl
partials_group (Some a) None c first second = refl
partials_group (Some a) (Some b) None first second = refl
partials_group (Some a) (Some b) (Some c) first second = ap (λ partial. Some partial) (partial_groups a b c first second)

-- failures of three parts
pub errors_group : (a b c : BulkWriteError) → AreAlike a.partial_result b.partial_result → AreAlike b.partial_result c.partial_result
    → merged_errors (merged_errors a b) c ≡ merged_errors a (merged_errors b c)
errors_group a b c first second = λ i. record {
  write_concern_errors = append_assoc a.write_concern_errors b.write_concern_errors c.write_concern_errors i;
  write_errors = union_assoc a.write_errors b.write_errors c.write_errors i;
  partial_result = partials_group a.partial_result b.partial_result c.partial_result first second i;
}

-- what succeeded in an earlier part stands where a later one tells of nothing
pub partial_alone : (partial : Option PartialBulkWriteResult) → merged_partials partial None ≡ partial
partial_alone None = refl
partial_alone (Some partial) = refl
