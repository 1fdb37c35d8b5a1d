-- The frame has the bytes that spell the body with its fields.
use Rattle.std.proofs.Common.{ℕ, List, subst}
use Rattle.std.specs.Prelude.{Option, None}
use Rattle.std.specs.Option.{option_copied}
use Rattle.driver_ops.specs.Fields.{in_context}
use Rattle.driver_attempt.specs.inside.JoinedBodies.{SpellsBody}
use Rattle.driver_attempt.proofs.FieldBytes.{frames_joined}
use Rattle.driver_attempt.proofs.framing.plain_frame.Goals as goal

pub returns-in-Some : goal.returns-in-Some
returns-in-Some c =
    frames_joined (option_copied c.args.session) c.args.number (option_copied c.args.concern) c.args.command c.in-Some.body c.with_body.result c.requires c.in_ok-found.ensures.sixteen
    (subst (λ (found : Option (List ℕ)). SpellsBody (in_context (option_copied c.args.session) c.args.number None) c.args.command found) c.in-Some.is c.in_ok-found.ensures.spells) c.with_body.ensures
