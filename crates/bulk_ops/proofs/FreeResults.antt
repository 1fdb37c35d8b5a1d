-- The results of a page may be taken in any order, since each is of its own op.
use Rattle.std.proofs.Common.{◌≡◌, ℕ, zero, suc, ◌+◌, ◌<◌, Bool, true, false, ◌&&◌, nat_lt, List, [], ◌∷◌, ◌++◌, length, arith, refl, sym, ap, ◌∙◌, ne_eqb, ltb-true, lt-ltb}
use Rattle.std.specs.Prelude.{Option, None, Some, not, slice_get, OnOk, Result, Ok, Err, if◌then◌else◌}
use Rattle.std.specs.Cmp.{nat_cmp_total, unsigned_ties}
use Rattle.std.specs.FinMap as finite
use Rattle.std.specs.List.{Contains}
use Rattle.std.specs.List.Sorted.{IsPermutation}
use Rattle.std.specs.Ordering.{nat_cmp}
use Rattle.std.proofs.lemmas.Bool.{and_parts}
use Rattle.std.proofs.lemmas.List.Sorted.{Contains-permutation, IsPermutation-sym}
use Rattle.bson_lite.specs.declared.bson.Bson.{Bson}
use Rattle.bson_lite.proofs.FinMaps.{insert_swapped}
use Rattle.driver_error.specs.declared.error.Error.{Error}
use Rattle.driver_error.specs.declared.write.WriteError.{WriteError}
use Rattle.bulk_outcomes.specs.BulkResults.{KeepsApart, ResultSpec}
use Rattle.bulk_ops.specs.declared.bulk_reply.OpOutcome.{OpOutcome}
use Rattle.bulk_ops.specs.declared.bulk_reply.OpOutcome.TheVariants as came
use Rattle.bulk_ops.specs.declared.bulk_reply.OpResult.{OpResult}
use Rattle.bulk_ops.specs.declared.bulk_results.BulkProgress.{BulkProgress}
use Rattle.bulk_fronts.specs.declared.own_op.OpWork.{OpWork}
use Rattle.bulk_fronts.specs.declared.own_op.OpWork.TheVariants as work
use Rattle.bulk_fronts.specs.declared.own_op.OwnOp.{OwnOp}
use Rattle.bulk_ops.specs.BulkAnswers.{BulkBatch, with_error, with_errors, with_op, with_outcome, with_results, with_work}
use Rattle.bulk_ops.specs.BulkRules.{are_apart, are_within, is_seen}
use Rattle.bulk_ops.specs.inside.BulkResults.{TakesResults}
use Rattle.bulk_ops.proofs.AnyOrder.{IsFree, order_free, taken}

abbrev Errors : Type 0
Errors = finite.FinMap nat_cmp WriteError

-- ---- ops of a batch

-- results of two ops are kept in either order
works_free : {R : Type 0} (tells : ResultSpec R) → KeepsApart tells → (one other : OpWork) (i j n m k l : ℕ) (u v : Option Bson) (now : R) → (i ≡ j → ⊥)
    → with_work tells one i n m u (with_work tells other j k l v now) ≡ with_work tells other j k l v (with_work tells one i n m u now)
works_free tells law (work.Insert a) (work.Insert b) i j n m k l u v now apart = law.inserts i j apart _ _ now
works_free tells law (work.Insert a) work.Update i j n m k l u v now apart = law.insert_update i j _ _ now
works_free tells law (work.Insert a) work.Delete i j n m k l u v now apart = law.insert_delete i j _ _ now
works_free tells law work.Update (work.Insert b) i j n m k l u v now apart = sym (law.insert_update j i _ _ now)
works_free tells law work.Update work.Update i j n m k l u v now apart = law.updates i j apart _ _ now
works_free tells law work.Update work.Delete i j n m k l u v now apart = law.update_delete i j _ _ now
works_free tells law work.Delete (work.Insert b) i j n m k l u v now apart = sym (law.insert_delete j i _ _ now)
works_free tells law work.Delete work.Update i j n m k l u v now apart = sym (law.update_delete j i _ _ now)
works_free tells law work.Delete work.Delete i j n m k l u v now apart = law.deletes i j apart _ _ now

ops_free : {R : Type 0} (tells : ResultSpec R) → KeepsApart tells → (one other : Option OwnOp) (i j n m k l : ℕ) (u v : Option Bson) (now : R) → (i ≡ j → ⊥)
    → with_op tells one i n m u (with_op tells other j k l v now) ≡ with_op tells other j k l v (with_op tells one i n m u now)
ops_free tells law None other i j n m k l u v now apart = refl
ops_free tells law (Some one) None i j n m k l u v now apart = refl
ops_free tells law (Some one) (Some other) i j n m k l u v now apart = works_free tells law one.work other.work i j n m k l u v now apart

-- where counts alone are kept none is kept
kept_free : {R : Type 0} (only : Bool) (one other : R → R) (now : R) → one (other now) ≡ other (one now)
    → (if only then (if only then now else other now) else one (if only then now else other now)) ≡ (if only then (if only then now else one now) else other (if only then now else one now))
kept_free true one other now free = refl
kept_free false one other now free = free

behind_first : (first i j : ℕ) → (i ≡ j → ⊥) → first + i ≡ first + j → ⊥
behind_first first i j apart same = apart (omega (arith, same))

-- a result with that of one results document
abbrev outcome_step : {R : Type 0} → BulkBatch R → ℕ → OpOutcome → R → R
outcome_step batch index outcome now = with_outcome batch index outcome now

outcomes_free : {R : Type 0} (batch : BulkBatch R) → KeepsApart batch.tells → IsFree (outcome_step batch)
outcomes_free batch law i j apart (came.Failed a) b now = refl
outcomes_free batch law i j apart (came.Counted n m u) (came.Failed b) now = refl
outcomes_free batch law i j apart (came.Counted n m u) (came.Counted k l v) now =
    kept_free batch.tells.only_errors
    (λ r. with_op batch.tells (slice_get batch.ops i) (batch.first + i) n m u r)
    (λ r. with_op batch.tells (slice_get batch.ops j) (batch.first + j) k l v r) now
    (ops_free batch.tells law (slice_get batch.ops i) (slice_get batch.ops j) (batch.first + i) (batch.first + j) n m k l u v now (behind_first batch.first i j apart))

-- write errors with that of one
abbrev error_step : ℕ → ℕ → OpOutcome → Errors → Errors
error_step first index outcome errors = with_error (first + index) outcome errors

errors_free : (first : ℕ) → IsFree (error_step first)
errors_free first i j apart (came.Counted n m u) b errors = refl
errors_free first i j apart (came.Failed a) (came.Counted k l v) errors = refl
errors_free first i j apart (came.Failed a) (came.Failed b) errors =
    insert_swapped nat_cmp_total finite.nat_cmp-IsAntisymmetric errors (first + j) (first + i) b a
    (sym (unsigned_ties (first + j) (first + i)) ∙ ne_eqb (first + j) (first + i) (λ same. behind_first first i j apart (sym same)))

-- ---- results of a page

results_taken : {R : Type 0} (batch : BulkBatch R) (results : List OpResult) (now : R) → with_results batch results now ≡ taken (outcome_step batch) results now
unfolding with_results taken
results_taken batch [] now = refl
results_taken batch (result ∷ results) now = results_taken batch results (with_outcome batch result.index result.outcome now)

errors_taken : (first : ℕ) (results : List OpResult) (errors : Errors) → with_errors first results errors ≡ taken (error_step first) results errors
unfolding with_errors taken
errors_taken first [] errors = refl
errors_taken first (result ∷ results) errors = errors_taken first results (with_error (first + result.index) result.outcome errors)

-- each result is of an op of the batch, by its index and as a test
each_below : (ops : ℕ) (results : List OpResult) (result : OpResult) → are_within ops results ≡ true → Contains results result → result.index < ops
each_below ops [] result within has = let no : ⊥ = omega arith in absurd no
each_below ops (first ∷ results) result within (zero, below, is) =
    ltb-true result.index ops (ap (λ (r : OpResult). nat_lt r.index ops) (sym is) ∙ (and_parts (nat_lt first.index ops) (are_within ops results) within).0)
each_below ops (first ∷ results) result within (suc at, below, is) =
    each_below ops results result (and_parts (nat_lt first.index ops) (are_within ops results) within).1 (at, omega arith, is)

all_below : (ops : ℕ) (results : List OpResult) → ((result : OpResult) → Contains results result → result.index < ops) → are_within ops results ≡ true
all_below ops [] each = refl
all_below ops (first ∷ results) each =
    λ i. lt-ltb first.index ops (each first (0, omega arith, refl)) i && all_below ops results (λ result has. each result (suc has.0, omega arith, has.2)) i

pub within_again : (ops : ℕ) (results ordered : List OpResult) → IsPermutation results ordered → are_within ops results ≡ true → are_within ops ordered ≡ true
within_again ops results ordered moved within =
    all_below ops ordered (λ result has. each_below ops results result within (Contains-permutation ordered results result (IsPermutation-sym results ordered moved) has))

-- results that are behind others are of different ops too
pub apart_behind : (earlier more : List OpResult) → are_apart (earlier ++ more) ≡ true → are_apart more ≡ true
unfolding are_apart
apart_behind [] more apart = apart
apart_behind (result ∷ earlier) more apart = apart_behind earlier more (and_parts (not (is_seen (earlier ++ more) result.index)) (are_apart (earlier ++ more)) apart).1

-- results that were taken in another order were taken
pub page_taken : {R : Type 0} (batch : BulkBatch R) → KeepsApart batch.tells → (old now : BulkProgress R) (results ordered : List OpResult) → IsPermutation results ordered
    → are_within (length batch.ops) results ≡ true → TakesResults batch old now ordered → are_apart results ≡ true → TakesResults batch old now results
page_taken batch law old now results ordered moved within takes apart = record {
  result = takes.result ∙ results_taken batch ordered old.result
      ∙ order_free (outcome_step batch) (outcomes_free batch law) (length batch.ops) results ordered old.result moved apart (λ result has. each_below (length batch.ops) results result within has)
      ∙ sym (results_taken batch results old.result);
  write_errors = takes.write_errors ∙ errors_taken batch.first ordered old.write_errors
      ∙ order_free (error_step batch.first) (errors_free batch.first) (length batch.ops) results ordered old.write_errors moved apart (λ result has. each_below (length batch.ops) results result within has)
      ∙ sym (errors_taken batch.first results old.write_errors);
  rest = takes.rest;
}

pub page_takes : {R T : Type 0} (batch : BulkBatch R) → KeepsApart batch.tells → (old now : BulkProgress R) (results ordered : List OpResult) → IsPermutation results ordered
    → are_within (length batch.ops) results ≡ true → (result : Result T Error) → OnOk result (TakesResults batch old now ordered) → OnOk result (are_apart results ≡ true → TakesResults batch old now results)
page_takes batch law old now results ordered moved within (Ok done) takes = λ apart. page_taken batch law old now results ordered moved within takes apart
page_takes batch law old now results ordered moved within (Err error) takes = takes
