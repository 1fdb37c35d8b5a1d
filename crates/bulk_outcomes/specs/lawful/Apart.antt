-- Results of different writes do not touch each other.
use Rattle.std.proofs.Common.{◌≡◌, ℕ, refl, sym, ◌∙◌}
use Rattle.std.specs.Cmp.{nat_cmp_total, unsigned_ties}
use Rattle.std.specs.FinMap as finite
use Rattle.std.specs.Ordering.{nat_cmp}
use Rattle.std.proofs.lemmas.Bool.{ne_eqb}
use Rattle.bson_lite.proofs.FinMaps.{insert_swapped}
use Rattle.server_answers.specs.declared.results.SummaryBulkWriteResult.{SummaryBulkWriteResult}
use Rattle.server_answers.specs.declared.results.VerboseBulkWriteResult.{VerboseBulkWriteResult}
use Rattle.bulk_outcomes.specs.BulkResults.{KeepsApart, summary_spec, verbose_spec}

-- a summary keeps none
pub summary_apart : KeepsApart summary_spec
summary_apart = record {
  inserts = λ i j other a b now. refl;
  updates = λ i j other a b now. refl;
  deletes = λ i j other a b now. refl;
  insert_update = λ i j a b now. refl;
  insert_delete = λ i j a b now. refl;
  update_delete = λ i j a b now. refl;
}

-- values at two indexes of a map
swapped : {X : Type 0} (m : finite.FinMap nat_cmp X) (i j : ℕ) → (i ≡ j → ⊥) → (a b : X) → finite.insert (finite.insert m j b) i a ≡ finite.insert (finite.insert m i a) j b
swapped m i j other a b = insert_swapped nat_cmp_total finite.nat_cmp-IsAntisymmetric m j i b a (sym (unsigned_ties j i) ∙ ne_eqb j i (λ same. other (sym same)))

-- a verbose result keeps each kind in a map of its own
pub verbose_apart : KeepsApart verbose_spec
verbose_apart = record {
  inserts = λ i j other a b now. λ k. record now { insert_results = swapped now.insert_results i j other a b k };
  updates = λ i j other a b now. λ k. record now { update_results = swapped now.update_results i j other a b k };
  deletes = λ i j other a b now. λ k. record now { delete_results = swapped now.delete_results i j other a b k };
  insert_update = λ i j a b now. refl;
  insert_delete = λ i j a b now. refl;
  update_delete = λ i j a b now. refl;
}
