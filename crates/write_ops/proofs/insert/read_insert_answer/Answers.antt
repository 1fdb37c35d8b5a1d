-- The reply has the fields that were found.
use Rattle.write_ops.proofs.FailedStatements.{reads_found}
use Rattle.write_ops.proofs.insert.read_insert_answer.Goals as goal

pub returns-in-Ok : goal.returns-in-Ok
returns-in-Ok c =
    reads_found c.args.ordered c.args.documents.now c.args.reply.now c.in-Ok.found c.answer_of.result c.in-Ok.ensures c.answer_of.ensures
