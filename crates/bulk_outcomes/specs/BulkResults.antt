-- What the result of a bulk write is made of: its five counts, and in a verbose one the result of each write by its index.
use Rattle.std.specs.Prelude.{◌≡◌, ℕ, pos, ◌≤ℤ◌, Bool, true, false}
use Rattle.std.specs.FinMap as finite
use Rattle.bson_lite.specs.Unions.{AreDisjoint}
use Rattle.server_answers.specs.declared.results.DeleteResult.{DeleteResult}
use Rattle.server_answers.specs.declared.results.InsertOneResult.{InsertOneResult}
use Rattle.server_answers.specs.declared.results.PartialBulkWriteResult.{PartialBulkWriteResult}
use Rattle.server_answers.specs.declared.results.PartialBulkWriteResult.TheVariants as partly
use Rattle.server_answers.specs.declared.results.SummaryBulkWriteResult.{SummaryBulkWriteResult}
use Rattle.server_answers.specs.declared.results.UpdateResult.{UpdateResult}
use Rattle.server_answers.specs.declared.results.VerboseBulkWriteResult.{VerboseBulkWriteResult}
use Rattle.driver_error.specs.BulkErrors.{AreOfOneKind, merged_partial, merged_verbose, partial_counts}
use Rattle.driver_error.specs.Counts.{Counts, added, five}

-- no document was counted
abbrev pub no_counts : Counts
no_counts = five (pos 0) (pos 0) (pos 0) (pos 0) (pos 0)

-- no count is negative
pub record AreCounted (counts : Counts) : Type 0 where
  pub inserted : pos 0 ≤ℤ counts.inserted_count
  pub matched : pos 0 ≤ℤ counts.matched_count
  pub modified : pos 0 ≤ℤ counts.modified_count
  pub upserted : pos 0 ≤ℤ counts.upserted_count
  pub deleted : pos 0 ≤ℤ counts.deleted_count

-- what a kind of result tells of itself: whether it keeps counts and no result of a write; its five counts; the result of no
-- write; the same with these counts added, and with the result of one more insert, update or delete at its index; what a result
-- and a later one are together; and the result as that of a bulk write that failed
pub record ResultSpec (R : Type 0) : Type 0 where
  pub only_errors : Bool
  pub counts : R → Counts
  pub nothing : R
  pub counted : R → Counts → R
  pub with_insert : R → ℕ → InsertOneResult → R
  pub with_update : R → ℕ → UpdateResult → R
  pub with_delete : R → ℕ → DeleteResult → R
  pub merged : R → R → R
  pub partial : R → PartialBulkWriteResult

-- the result stays, whatever result of a write comes
abbrev pub unchanged : {V : Type 0} → Counts → ℕ → V → Counts
unchanged now index value = now

-- a summary is its counts
abbrev pub summary_spec : ResultSpec SummaryBulkWriteResult
summary_spec = record {
  only_errors = true;
  counts = λ now. now;
  nothing = no_counts;
  counted = added;
  with_insert = unchanged;
  with_update = unchanged;
  with_delete = unchanged;
  merged = added;
  partial = λ now. partly.Summary now;
}

-- the verbose result of no write
abbrev pub no_writes : VerboseBulkWriteResult
no_writes = record { summary = no_counts; insert_results = finite.empty; update_results = finite.empty; delete_results = finite.empty }

-- one more result of an insert, an update or a delete, at its index
abbrev pub verbose_insert : VerboseBulkWriteResult → ℕ → InsertOneResult → VerboseBulkWriteResult
verbose_insert now index value = record now { insert_results = finite.insert now.insert_results index value }

abbrev pub verbose_update : VerboseBulkWriteResult → ℕ → UpdateResult → VerboseBulkWriteResult
verbose_update now index value = record now { update_results = finite.insert now.update_results index value }

abbrev pub verbose_delete : VerboseBulkWriteResult → ℕ → DeleteResult → VerboseBulkWriteResult
verbose_delete now index value = record now { delete_results = finite.insert now.delete_results index value }

-- no insert, no update and no delete of the two has the same index
pub record AreApart (a b : VerboseBulkWriteResult) : Type 0 where
  pub inserts : AreDisjoint a.insert_results b.insert_results
  pub updates : AreDisjoint a.update_results b.update_results
  pub deletes : AreDisjoint a.delete_results b.delete_results

-- a verbose result has a summary, and results by their indexes
abbrev pub verbose_spec : ResultSpec VerboseBulkWriteResult
verbose_spec = record {
  only_errors = false;
  counts = λ now. now.summary;
  nothing = no_writes;
  counted = λ now more. record now { summary = added now.summary more };
  with_insert = verbose_insert;
  with_update = verbose_update;
  with_delete = verbose_delete;
  merged = merged_verbose;
  partial = λ now. partly.Verbose now;
}

-- the result of no write counts nothing, and counts that are added join those that are there
pub record AddsCounts {R : Type 0} (tells : ResultSpec R) : Type 0 where
  pub begins : tells.counts tells.nothing ≡ no_counts
  pub adds : (now : R) (more : Counts) → tells.counts (tells.counted now more) ≡ added (tells.counts now) more

-- results of writes at two indexes, and those of writes of two kinds, do not touch each other: which is kept first does not matter
pub record KeepsApart {R : Type 0} (tells : ResultSpec R) : Type 0 where
  pub inserts : (i j : ℕ) → (i ≡ j → ⊥) → (a b : InsertOneResult) (now : R) → tells.with_insert (tells.with_insert now j b) i a ≡ tells.with_insert (tells.with_insert now i a) j b
  pub updates : (i j : ℕ) → (i ≡ j → ⊥) → (a b : UpdateResult) (now : R) → tells.with_update (tells.with_update now j b) i a ≡ tells.with_update (tells.with_update now i a) j b
  pub deletes : (i j : ℕ) → (i ≡ j → ⊥) → (a b : DeleteResult) (now : R) → tells.with_delete (tells.with_delete now j b) i a ≡ tells.with_delete (tells.with_delete now i a) j b
  pub insert_update : (i j : ℕ) (a : InsertOneResult) (b : UpdateResult) (now : R) → tells.with_insert (tells.with_update now j b) i a ≡ tells.with_update (tells.with_insert now i a) j b
  pub insert_delete : (i j : ℕ) (a : InsertOneResult) (b : DeleteResult) (now : R) → tells.with_insert (tells.with_delete now j b) i a ≡ tells.with_delete (tells.with_insert now i a) j b
  pub update_delete : (i j : ℕ) (a : UpdateResult) (b : DeleteResult) (now : R) → tells.with_update (tells.with_delete now j b) i a ≡ tells.with_delete (tells.with_update now i a) j b

-- what merging keeps of results of one kind: the counts of what is merged are the sums; their grouping does not matter; the
-- result of no write adds nothing on either side; results of bulk writes that failed are merged in the same way; what joins the
-- later result joins both; and counts are added in any grouping, before or behind the result of a write
pub record MergesResults {R : Type 0} (tells : ResultSpec R) : Type 0 where
  pub counts : (a b : R) → tells.counts (tells.merged a b) ≡ added (tells.counts a) (tells.counts b)
  pub groups : (a b c : R) → tells.merged (tells.merged a b) c ≡ tells.merged a (tells.merged b c)
  pub before : (a : R) → tells.merged tells.nothing a ≡ a
  pub after : (a : R) → tells.merged a tells.nothing ≡ a
  pub one_kind : (a b : R) → AreOfOneKind (tells.partial a) (tells.partial b)
  pub partials : (a b : R) → merged_partial (tells.partial a) (tells.partial b) ≡ tells.partial (tells.merged a b)
  pub same_counts : (a : R) → partial_counts (tells.partial a) ≡ tells.counts a
  pub counted_later : (a b : R) (more : Counts) → tells.merged a (tells.counted b more) ≡ tells.counted (tells.merged a b) more
  pub inserted_later : (a b : R) (index : ℕ) (value : InsertOneResult) → tells.merged a (tells.with_insert b index value) ≡ tells.with_insert (tells.merged a b) index value
  pub updated_later : (a b : R) (index : ℕ) (value : UpdateResult) → tells.merged a (tells.with_update b index value) ≡ tells.with_update (tells.merged a b) index value
  pub deleted_later : (a b : R) (index : ℕ) (value : DeleteResult) → tells.merged a (tells.with_delete b index value) ≡ tells.with_delete (tells.merged a b) index value
  pub counted_none : (a : R) → tells.counted a no_counts ≡ a
  pub counted_twice : (a : R) (one more : Counts) → tells.counted (tells.counted a one) more ≡ tells.counted a (added one more)
  pub counted_inserted : (a : R) (index : ℕ) (value : InsertOneResult) (more : Counts) → tells.counted (tells.with_insert a index value) more ≡ tells.with_insert (tells.counted a more) index value
  pub counted_updated : (a : R) (index : ℕ) (value : UpdateResult) (more : Counts) → tells.counted (tells.with_update a index value) more ≡ tells.with_update (tells.counted a more) index value
  pub counted_deleted : (a : R) (index : ℕ) (value : DeleteResult) (more : Counts) → tells.counted (tells.with_delete a index value) more ≡ tells.with_delete (tells.counted a more) index value
