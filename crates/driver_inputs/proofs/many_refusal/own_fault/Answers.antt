-- What refuses the document with each id is its fault.
use Rattle.driver_inputs.proofs.ManyFaults.{found_own}
use Rattle.driver_inputs.proofs.many_refusal.own_fault.Goals as goal

pub returns : goal.returns
returns c = found_own c.args.document.now c.document_refusal.result c.document_refusal.ensures
