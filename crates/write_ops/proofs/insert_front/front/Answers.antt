-- There are no more documents.
use Rattle.std.proofs.Common.{sym, take_all}
use Rattle.write_ops.proofs.insert_front.front.Goals as goal

pub returns-else-count-documents : goal.returns-else-count-documents
returns-else-count-documents c = sym (take_all c.args.count c.args.documents.now c.if-count-documents.false)
