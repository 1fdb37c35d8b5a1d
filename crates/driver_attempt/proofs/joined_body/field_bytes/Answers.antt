-- The fields in their order.
use Rattle.std.proofs.Common.{ℕ, List, ◌++◌, ap, ◌∙◌}
use Rattle.std.specs.Option.{option_copied}
use Rattle.bson_lite.specs.Spelling.{body_of}
use Rattle.driver_ops.specs.Fields.{number_field, session_field}
use Rattle.driver_attempt.specs.inside.JoinedBodies.{database_field}
use Rattle.driver_attempt.proofs.FieldBytes.{fields_spelled}
use Rattle.driver_attempt.proofs.joined_body.field_bytes.Goals as goal

pub returns-clause-fields : goal.returns-clause-fields
returns-clause-fields c =
    c.in_ok-push_database.ensures.field
    ∙ ap (λ (bytes : List ℕ). bytes ++ body_of (database_field c.args.database.now)) (c.in_ok-push_number.ensures.field
    ∙ ap (λ (bytes : List ℕ). bytes ++ body_of (number_field c.args.number)) (c.in_ok-push_session.ensures
    ∙ ap (λ (bytes : List ℕ). bytes ++ body_of (session_field (option_copied c.args.session))) c.in_ok-out.ensures))
    ∙ fields_spelled (option_copied c.args.session) c.args.number c.args.database.now
