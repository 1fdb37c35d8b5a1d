-- Where nothing failed the result is the answer, else the error of what was read.
use Rattle.std.proofs.Common.{sym, inl, inr, ◌∙◌}
use Rattle.bulk_ops.specs.inside.BulkResults.{batch_told}
use Rattle.bulk_ops.proofs.TakenResults.{ends_done, ends_failed}
use Rattle.bulk_ops.proofs.bulk_results.BulkProgress.end.Goals as goal

pub returns-then-clean : goal.returns-then-clean
returns-then-clean g c = λ read taken.
    ends_done (batch_told g.R.BulkWriteResult.tells c.args.batch) read c.args.self taken (sym c.is_clean-clean.ensures ∙ c.if-clean.true)

pub returns : goal.returns
returns g c = λ read taken.
    elim (c.into_error.ensures read taken) [
      | inl memory ↦ inl memory
      | inr is ↦ inr (ends_failed (batch_told g.R.BulkWriteResult.tells c.args.batch) read c.args.self taken c.into_error.result (sym c.is_clean-clean.ensures ∙ c.if-clean.false) is)
    ]
