-- The first fault of the values, else that of the length.
use Rattle.std.proofs.Common.{sym, ap, ◌∙◌}
use Rattle.statement_ops.specs.Updating.{update_command, update_statement}
use Rattle.driver_inputs.specs.Forms.{command_body, updates}
use Rattle.driver_inputs.specs.Inputs.{is_long, values_in}
use Rattle.driver_inputs.specs.Faults.{first_of, length_fault, values_fault}
use Rattle.driver_inputs.proofs.InputFaults.{refused_by}
use Rattle.driver_inputs.proofs.refusal.update_values_fault.Goals as goal

pub returns : goal.returns
returns c =
    let form = (updates c.args.namespace.now c.args.filter.now c.args.change.now c.args.multi c.args.options.now) in
    sym (c.first_of.ensures ∙ ap (λ fault. first_of fault c.length_fault.result) c.in_ok-fault.ensures
    ∙ ap (first_of (values_fault (values_in form))) (c.length_fault.ensures ∙ ap length_fault (c.in_ok-body.ensures c.args.namespace.now.db
    ∙ ap (λ coll. update_command (record { db = c.args.namespace.now.db; coll = coll }) (update_statement c.args.filter.now c.args.change.now c.args.multi c.args.options.now) c.args.options.now) c.as_str-collection.ensures.value)) ∙ refused_by (values_in form) (is_long (command_body form)))
