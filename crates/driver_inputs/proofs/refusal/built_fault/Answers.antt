-- The body that was built is that of the command.
use Rattle.std.proofs.Common.{ap, ◌∙◌}
use Rattle.driver_ops.specs.Inserts.{insert_command}
use Rattle.driver_inputs.specs.Faults.{length_fault}
use Rattle.driver_inputs.proofs.refusal.built_fault.Goals as goal

pub returns : goal.returns
returns c =
    c.length_fault.ensures ∙ ap length_fault (c.in_ok-body.ensures c.args.namespace.now.db
    ∙ ap (λ coll. insert_command (record { db = c.args.namespace.now.db; coll = coll }) c.args.options.now) c.as_str.ensures.value)
