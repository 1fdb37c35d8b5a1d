-- The reply has not its form.
use Rattle.bulk_ops.specs.BulkPages.{bulk_reply, odd_bulk_text}
use Rattle.bulk_ops.specs.inside.BulkResults.{batch_told}
use Rattle.bulk_ops.proofs.BulkAnswered.{opened_wrong}
use Rattle.bulk_ops.proofs.ReadBulk.{gives_none}
use Rattle.bulk_ops.proofs.bulk_write.open_answer.Goals as goal

pub returns-in-Err-Wrong : goal.returns-in-Err-Wrong
unfolding odd_bulk_text
returns-in-Err-Wrong g c =
    opened_wrong (batch_told g.R.BulkWriteResult.tells c.args.batch) c.args.reply.now c.odd_reply.result
    (gives_none c.in-Err-Wrong.field-0 (bulk_reply c.args.reply.now) c.in-Err-Wrong.field-0-is c.in-Err-Wrong.ensures) c.odd_reply.ensures
