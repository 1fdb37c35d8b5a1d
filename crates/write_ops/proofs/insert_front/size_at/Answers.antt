-- The size of the document that was read.
use Rattle.std.proofs.Common.{◌∙◌}
use Rattle.write_ops.proofs.InsertFronts.{size_past, size_there}
use Rattle.write_ops.proofs.insert_front.size_at.Goals as goal

pub returns-then-at-documents : goal.returns-then-at-documents
returns-then-at-documents c =
    c.size.ensures ∙ size_there c.args.documents.now c.args.at c.index-documents-at.result c.if-at-documents.true c.index-documents-at.is

pub returns-else-at-documents : goal.returns-else-at-documents
returns-else-at-documents c = size_past c.args.documents.now c.args.at c.if-at-documents.false
