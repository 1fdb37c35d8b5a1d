-- Bytes that decode to no document spell none.
use Rattle.driver_ops.proofs.ResponseReading.{no_document, spells_nothing}
use Rattle.driver_ops.proofs.response.read_document.Goals as goal

pub returns-in-Err-At : goal.returns-in-Err-At
unfolding Rattle.driver_ops.specs.Responses.no_document_text
returns-in-Err-At c =
    no_document c.args.bytes.now _ (spells_nothing c.args.bytes.now c.in-Err-At.field-0 c.in-Err-At.field-0-0 c.in-Err-At.field-0-is c.in-Err-At.ensures.only) c.odd_reply.ensures
