-- One result, by what became of its op.
use Rattle.std.proofs.Common.{ap, sym, ◌∙◌}
use Rattle.bulk_ops.specs.inside.BulkResults.{batch_told}
use Rattle.bulk_ops.proofs.TakenResults.{told_counted, told_failed, told_passed}
use Rattle.bulk_ops.proofs.bulk_results.BulkProgress.take_result.Goals as goal

pub returns-then-errors_only-clause-takes : goal.returns-then-errors_only-clause-takes
returns-then-errors_only-clause-takes g c =
    told_passed (batch_told g.R.BulkWriteResult.tells c.args.batch) c.args.self.now c.args.self.now c.args.told c.in-Counted.n c.in-Counted.modified c.in-Counted.upserted c.in-Counted.is
    (sym c.errors_only.ensures ∙ c.if-errors_only.true) (λ i. c.args.self.now)

pub returns-in_ok-insert-in-Failed-clause-takes : goal.returns-in_ok-insert-in-Failed-clause-takes
returns-in_ok-insert-in-Failed-clause-takes g c =
    told_failed (batch_told g.R.BulkWriteResult.tells c.args.batch) c.args.self.now _ c.args.told c.in-Failed.error c.in-Failed.is
    (ap (λ errors. record c.args.self.now { write_errors = errors }) c.in_ok-insert-in-Failed.ensures.ok)

pub returns-else-errors_only-clause-takes : goal.returns-else-errors_only-clause-takes
returns-else-errors_only-clause-takes g c =
    told_counted (batch_told g.R.BulkWriteResult.tells c.args.batch) c.args.self.now c.take_counts.new.self c.args.told c.index-batch-index.result c.in-Counted.n c.in-Counted.modified c.in-Counted.upserted
    c.take_counts.result c.in-Counted.is (sym c.errors_only.ensures ∙ c.if-errors_only.false) c.requires c.take_counts.ensures.takes
