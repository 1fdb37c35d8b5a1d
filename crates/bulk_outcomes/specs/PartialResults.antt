-- The result of a bulk write that failed, by how the result is made: what joins the result joins it too.
use Rattle.std.specs.Prelude.{◌≡◌, ℕ}
use Rattle.server_answers.specs.declared.results.DeleteResult.{DeleteResult}
use Rattle.server_answers.specs.declared.results.InsertOneResult.{InsertOneResult}
use Rattle.server_answers.specs.declared.results.PartialBulkWriteResult.{PartialBulkWriteResult}
use Rattle.server_answers.specs.declared.results.PartialBulkWriteResult.TheVariants as partly
use Rattle.server_answers.specs.declared.results.UpdateResult.{UpdateResult}
use Rattle.bulk_outcomes.specs.BulkResults.{ResultSpec, no_counts, no_writes, verbose_delete, verbose_insert, verbose_update}
use Rattle.driver_error.specs.Counts.{Counts, added}

-- the result of no write
abbrev pub IsOfNoWrite : PartialBulkWriteResult → Type 0
IsOfNoWrite (partly.Summary counts) = counts ≡ no_counts
IsOfNoWrite (partly.Verbose results) = results ≡ no_writes

-- a result with these counts added
abbrev pub partial_counted : PartialBulkWriteResult → Counts → PartialBulkWriteResult
partial_counted (partly.Summary counts) more = partly.Summary (added counts more)
partial_counted (partly.Verbose results) more = partly.Verbose (record results { summary = added results.summary more })

-- with the result of one more insert, update or delete, at its index; a summary keeps none
abbrev pub partial_insert : PartialBulkWriteResult → ℕ → InsertOneResult → PartialBulkWriteResult
partial_insert (partly.Summary counts) index value = partly.Summary counts
partial_insert (partly.Verbose results) index value = partly.Verbose (verbose_insert results index value)

abbrev pub partial_update : PartialBulkWriteResult → ℕ → UpdateResult → PartialBulkWriteResult
partial_update (partly.Summary counts) index value = partly.Summary counts
partial_update (partly.Verbose results) index value = partly.Verbose (verbose_update results index value)

abbrev pub partial_delete : PartialBulkWriteResult → ℕ → DeleteResult → PartialBulkWriteResult
partial_delete (partly.Summary counts) index value = partly.Summary counts
partial_delete (partly.Verbose results) index value = partly.Verbose (verbose_delete results index value)

-- what a kind of result is as that of a bulk write that failed: the result of no write is one, and counts and results of writes that
-- join it join that one
pub record MakesPartial {R : Type 0} (tells : ResultSpec R) : Type 0 where
  pub begins : IsOfNoWrite (tells.partial tells.nothing)
  pub counted : (now : R) (more : Counts) → tells.partial (tells.counted now more) ≡ partial_counted (tells.partial now) more
  pub inserted : (now : R) (index : ℕ) (value : InsertOneResult) → tells.partial (tells.with_insert now index value) ≡ partial_insert (tells.partial now) index value
  pub updated : (now : R) (index : ℕ) (value : UpdateResult) → tells.partial (tells.with_update now index value) ≡ partial_update (tells.partial now) index value
  pub deleted : (now : R) (index : ℕ) (value : DeleteResult) → tells.partial (tells.with_delete now index value) ≡ partial_delete (tells.partial now) index value
