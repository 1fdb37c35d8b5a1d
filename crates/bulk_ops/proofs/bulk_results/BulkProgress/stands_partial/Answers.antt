-- In an ordered batch none is of the first op.
use Rattle.std.proofs.Common.{◌∙◌}
use Rattle.bulk_ops.specs.inside.BulkResults.{batch_told}
use Rattle.bulk_ops.proofs.TakenResults.{stands_ordered}
use Rattle.bulk_ops.proofs.bulk_results.BulkProgress.stands_partial.Goals as goal

pub returns-then-batch : goal.returns-then-batch
returns-then-batch g c = λ read taken.
    c.has_none.ensures ∙ stands_ordered (batch_told g.R.BulkWriteResult.tells c.args.batch) read c.args.self.now taken c.if-batch.true
