-- The bytes have the elements of the fields behind those of the body.
use Rattle.std.proofs.lemmas.Result.{IfOk-weaker}
use Rattle.std.specs.Prelude.{None}
use Rattle.std.specs.Option.{option_copied}
use Rattle.driver_ops.specs.Fields.{in_context}
use Rattle.driver_attempt.specs.inside.JoinedBodies.{MayJoin, SpellsBody}
use Rattle.driver_attempt.proofs.FieldBytes.{body_spelled}
use Rattle.driver_attempt.proofs.joined_body.body_bytes.Goals as goal

pub returns-in-Ok-clause-spells : goal.returns-in-Ok-clause-spells
returns-in-Ok-clause-spells c =
    IfOk-weaker c.with_elements.result (λ found. MayJoin c.in-Ok.own c.in_ok-fields.fields found)
    (λ found. SpellsBody (in_context (option_copied c.args.session) c.args.number None) c.args.command.now found)
    (λ found joins. body_spelled (option_copied c.args.session) c.args.number c.args.command.now c.in-Ok.own c.in_ok-fields.fields found c.in-Ok.ensures.1
    c.in_ok-fields.ensures.fields c.in_ok-fields.ensures.in_range c.in_ok-fields.ensures.utf8 joins)
    c.with_elements.ensures
