-- The first fault of the documents with their ids, of the comment, and of the length.
use Rattle.std.proofs.Common.{sym, ap, subst, ◌∙◌}
use Rattle.driver_inputs.specs.ManyInputs.{RefusesManyValues}
use Rattle.driver_inputs.specs.Faults.{first_of}
use Rattle.driver_inputs.proofs.ManyFaults.{refused_values}
use Rattle.driver_inputs.proofs.many_refusal.many_fault.Goals as goal

pub returns : goal.returns
returns c =
    subst (RefusesManyValues c.args.namespace.now c.args.documents.now c.args.options.now) (sym (c.first_of.ensures ∙ ap (first_of c.own_faults.result) c.first_of-fault.ensures))
    (refused_values c.args.namespace.now c.args.documents.now c.args.options.now c.own_faults.result c.in_ok-fault.fault c.in_ok-length.length c.own_faults.ensures c.in_ok-fault.ensures c.in_ok-length.ensures)
