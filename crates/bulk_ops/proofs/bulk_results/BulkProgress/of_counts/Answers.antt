-- The counts of a reply, each of which has 64 bits, fit: nothing was counted before.
use Rattle.std.proofs.Common.{rules, ◌≡◌, ℤ, ◌+ℤ◌, FitsSigned, pos, to_z, of_z, w64, refl, sym, subst, ap, ◌∙◌}
use Rattle.std.proofs.lemmas.Int.{to_z-of_z}
use lib.IntN.{+ℤ_idl}
use Rattle.bulk_outcomes.specs.BulkResults.{no_counts}
use Rattle.driver_error.specs.Counts.{Counts, added, five}
use Rattle.bulk_ops.proofs.ReadPages.{begins}
use Rattle.bulk_ops.proofs.bulk_results.BulkProgress.of_counts.Goals as goal

-- a number of 64 bits fits when it is read again from its bits and added to nothing
fits_again : (n : ℤ) → FitsSigned w64 n → FitsSigned w64 (pos 0 +ℤ to_z w64 (of_z w64 n))
fits_again n fits = subst (λ z. FitsSigned w64 z) (sym (+ℤ_idl (to_z w64 (of_z w64 n)) ∙ to_z-of_z w64 n fits)) fits

pub returns-in_err-populate_summary_info-clause-memory : goal.returns-in_err-populate_summary_info-clause-memory
returns-in_err-populate_summary_info-clause-memory g c =
    let tells = g.R.BulkWriteResult.tells in
    let none : tells.counts c.empty-result.result ≡ no_counts = ap tells.counts c.empty-result.ensures ∙ g.met.R.BulkWriteResult.adds.begins in
    let counts = c.args.reply.counts in
    let inserted : FitsSigned w64 counts.inserted_count = search rules in
    let matched : FitsSigned w64 counts.matched_count = search rules in
    let modified : FitsSigned w64 counts.modified_count = search rules in
    let upserted : FitsSigned w64 counts.upserted_count = search rules in
    let deleted : FitsSigned w64 counts.deleted_count = search rules in
    absurd (c.in_err-populate_summary_info.ensures.why.some_sum (rw none (record {
      inserted = fits_again counts.inserted_count inserted;
      matched = fits_again counts.matched_count matched;
      modified = fits_again counts.modified_count modified;
      upserted = fits_again counts.upserted_count upserted;
      deleted = fits_again counts.deleted_count deleted;
    })))

pub returns-clause-begun : goal.returns-clause-begun
returns-clause-begun g c =
    let counts = c.args.reply.counts in
    let inserted : FitsSigned w64 counts.inserted_count = search rules in
    let matched : FitsSigned w64 counts.matched_count = search rules in
    let modified : FitsSigned w64 counts.modified_count = search rules in
    let upserted : FitsSigned w64 counts.upserted_count = search rules in
    let deleted : FitsSigned w64 counts.deleted_count = search rules in
    begins g.R.BulkWriteResult.tells c.args.reply c.empty-result.result c.populate_summary_info.new.self c.none.result _ c.new.result c.empty-result.ensures
    (λ i. five (to_z-of_z w64 counts.inserted_count inserted i) (to_z-of_z w64 counts.matched_count matched i) (to_z-of_z w64 counts.modified_count modified i)
    (to_z-of_z w64 counts.upserted_count upserted i) (to_z-of_z w64 counts.deleted_count deleted i))
    c.in_ok-populate_summary_info.ensures.ok c.none.ensures c.new.ensures
