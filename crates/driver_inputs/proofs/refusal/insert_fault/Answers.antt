-- The first fault of the document with its id, of the comment, and of the length.
use Rattle.std.proofs.Common.{sym, ap, subst, ◌∙◌}
use Rattle.driver_inputs.specs.Forms.{inserts}
use Rattle.driver_inputs.specs.Inputs.{RefusesValues}
use Rattle.driver_inputs.specs.Faults.{first_of}
use Rattle.driver_inputs.proofs.Refusals.{inserted_values}
use Rattle.driver_inputs.proofs.refusal.insert_fault.Goals as goal

pub returns : goal.returns
returns c =
    subst (RefusesValues (inserts c.args.namespace.now c.args.document.now c.args.options.now)) (sym (c.first_of.ensures ∙ ap (first_of c.document_refusal.result) c.first_of-fault.ensures))
    (inserted_values c.args.namespace.now c.args.document.now c.args.options.now c.document_refusal.result c.in_ok-fault.fault c.in_ok-length.length c.document_refusal.ensures c.in_ok-fault.ensures c.in_ok-length.ensures)
