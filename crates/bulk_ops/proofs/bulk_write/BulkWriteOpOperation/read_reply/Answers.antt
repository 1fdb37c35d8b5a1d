-- What is read of the batch is read of the ops that are fixed.
use Rattle.std.specs.Prelude.{Ok, ◌∷◌, []}
use Rattle.driver_ops.specs.Limits.{built_count}
use Rattle.bulk_ops.specs.inside.BulkResults.{batch_told}
use Rattle.bulk_ops.proofs.ReadBulk.{keeps_fixed, reads_fixed}
use Rattle.bulk_ops.proofs.bulk_write.BulkWriteOpOperation.read_reply.Goals as goal

pub returns-clause-reads : goal.returns-clause-reads
returns-clause-reads g c =
    let op = c.args.self.now in
    reads_fixed g.R.BulkWriteResult.tells op.first op.ops.now op.options.now (built_count op.fixed) (batch_told g.R.BulkWriteResult.tells c.batch-batch.result) c.batch-batch.ensures (Ok c.args.reply.now ∷ [])
    c.open_answer-progress.result.1 c.open_answer-progress.ensures.reads

pub returns-clause-read : goal.returns-clause-read
returns-clause-read g c =
    let op = c.args.self.now in
    keeps_fixed g.R.BulkWriteResult.tells op.first op.ops.now op.options.now (built_count op.fixed) (batch_told g.R.BulkWriteResult.tells c.batch-batch.result) c.batch-batch.ensures (Ok c.args.reply.now ∷ [])
    c.open_answer-progress.result.0 c.open_answer-progress.result.1 c.open_answer-progress.ensures
