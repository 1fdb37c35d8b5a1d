-- The laws of a merging of results.
use Rattle.std.proofs.Common.{◌≡◌, ℕ, refl, sym}
use Rattle.std.proofs.Math.IntN.{+ℤ_assoc, +ℤ_idl, +ℤ_idr}
use Rattle.bson_lite.proofs.Uniting.{empty_union, union_assoc, union_empty, union_insert}
use Rattle.server_answers.specs.declared.results.DeleteResult.{DeleteResult}
use Rattle.server_answers.specs.declared.results.InsertOneResult.{InsertOneResult}
use Rattle.server_answers.specs.declared.results.UpdateResult.{UpdateResult}
use Rattle.server_answers.specs.declared.results.VerboseBulkWriteResult.{VerboseBulkWriteResult}
use Rattle.driver_error.specs.BulkErrors.{merged_verbose}
use Rattle.bulk_outcomes.specs.BulkResults.{MergesResults, no_counts, no_writes, summary_spec, verbose_delete, verbose_insert, verbose_spec, verbose_update}
use Rattle.driver_error.specs.Counts.{Counts, added, five}

-- ---- counts
pub added_assoc : (a b c : Counts) → added (added a b) c ≡ added a (added b c)
added_assoc a b c = λ i. five
    (+ℤ_assoc a.inserted_count b.inserted_count c.inserted_count i)
    (+ℤ_assoc a.matched_count b.matched_count c.matched_count i)
    (+ℤ_assoc a.modified_count b.modified_count c.modified_count i)
    (+ℤ_assoc a.upserted_count b.upserted_count c.upserted_count i)
    (+ℤ_assoc a.deleted_count b.deleted_count c.deleted_count i)

none_added : (a : Counts) → added no_counts a ≡ a
none_added a = λ i. five
    (+ℤ_idl a.inserted_count i)
    (+ℤ_idl a.matched_count i)
    (+ℤ_idl a.modified_count i)
    (+ℤ_idl a.upserted_count i)
    (+ℤ_idl a.deleted_count i)

added_none : (a : Counts) → added a no_counts ≡ a
added_none a = λ i. five
    (+ℤ_idr a.inserted_count i)
    (+ℤ_idr a.matched_count i)
    (+ℤ_idr a.modified_count i)
    (+ℤ_idr a.upserted_count i)
    (+ℤ_idr a.deleted_count i)

-- ---- verbose results
pub merged_assoc : (a b c : VerboseBulkWriteResult) → merged_verbose (merged_verbose a b) c ≡ merged_verbose a (merged_verbose b c)
merged_assoc a b c = λ i. record {
  summary = added_assoc a.summary b.summary c.summary i;
  insert_results = union_assoc a.insert_results b.insert_results c.insert_results i;
  update_results = union_assoc a.update_results b.update_results c.update_results i;
  delete_results = union_assoc a.delete_results b.delete_results c.delete_results i;
}

none_merged : (a : VerboseBulkWriteResult) → merged_verbose no_writes a ≡ a
none_merged a = λ i. record {
  summary = none_added a.summary i;
  insert_results = empty_union a.insert_results i;
  update_results = empty_union a.update_results i;
  delete_results = empty_union a.delete_results i;
}

merged_none : (a : VerboseBulkWriteResult) → merged_verbose a no_writes ≡ a
merged_none a = λ i. record {
  summary = added_none a.summary i;
  insert_results = union_empty a.insert_results i;
  update_results = union_empty a.update_results i;
  delete_results = union_empty a.delete_results i;
}

-- one more result of the later one is one more of both
later_insert : (a b : VerboseBulkWriteResult) (index : ℕ) (value : InsertOneResult) → merged_verbose a (verbose_insert b index value) ≡ verbose_insert (merged_verbose a b) index value
later_insert a b index value = λ i. record (merged_verbose a b) { insert_results = union_insert a.insert_results b.insert_results index value i }

later_update : (a b : VerboseBulkWriteResult) (index : ℕ) (value : UpdateResult) → merged_verbose a (verbose_update b index value) ≡ verbose_update (merged_verbose a b) index value
later_update a b index value = λ i. record (merged_verbose a b) { update_results = union_insert a.update_results b.update_results index value i }

later_delete : (a b : VerboseBulkWriteResult) (index : ℕ) (value : DeleteResult) → merged_verbose a (verbose_delete b index value) ≡ verbose_delete (merged_verbose a b) index value
later_delete a b index value = λ i. record (merged_verbose a b) { delete_results = union_insert a.delete_results b.delete_results index value i }

-- ---- the law of either kind
pub summary_merges : MergesResults summary_spec
summary_merges = record {
  counts = λ a b. refl;
  groups = added_assoc;
  before = none_added;
  after = added_none;
  one_kind = λ a b. tt;
  partials = λ a b. refl;
  same_counts = λ a. refl;
  counted_later = λ a b more. sym (added_assoc a b more);
  inserted_later = λ a b index value. refl;
  updated_later = λ a b index value. refl;
  deleted_later = λ a b index value. refl;
  counted_none = added_none;
  counted_twice = λ a one more. added_assoc a one more;
  counted_inserted = λ a index value more. refl;
  counted_updated = λ a index value more. refl;
  counted_deleted = λ a index value more. refl;
}

pub verbose_merges : MergesResults verbose_spec
verbose_merges = record {
  counts = λ a b. refl;
  groups = merged_assoc;
  before = none_merged;
  after = merged_none;
  one_kind = λ a b. tt;
  partials = λ a b. refl;
  same_counts = λ a. refl;
  counted_later = λ a b more. (λ i. record (merged_verbose a b) { summary = sym (added_assoc a.summary b.summary more) i });
  inserted_later = later_insert;
  updated_later = later_update;
  deleted_later = later_delete;
  counted_none = λ a. (λ i. record a { summary = added_none a.summary i });
  counted_twice = λ a one more. (λ i. record a { summary = added_assoc a.summary one more i });
  counted_inserted = λ a index value more. refl;
  counted_updated = λ a index value more. refl;
  counted_deleted = λ a index value more. refl;
}
