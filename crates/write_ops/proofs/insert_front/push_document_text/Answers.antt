-- What was written is the text.
use Rattle.write_ops.specs.InsertFronts.{document_text}
use Rattle.write_ops.proofs.insert_front.push_document_text.Goals as goal

pub returns : goal.returns
unfolding document_text
returns c = c.in_ok-write.ensures.bytes
