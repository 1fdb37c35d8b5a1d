-- The five fields in their order.
use Rattle.std.proofs.Common.{ℤ, ◌++◌, ap, ◌∙◌}
use Rattle.std.specs.Int.{w64}
use Rattle.std.proofs.lemmas.Int.{to_z-of_z}
use Rattle.bson_lite.specs.Spelling.{body_of}
use Rattle.frame_reading.specs.inside.PlainInserts.{number_field}
use Rattle.frame_reading.proofs.PlainBytes.{five_fields, signed_64}
use Rattle.frame_reading.proofs.plain_insert.push_fields.Goals as goal

pub returns-clause-fields : goal.returns-clause-fields
returns-clause-fields c =
    five_fields c.args.plain.now c.args.out.now _ _ _ _ _ c.in_ok-push_collection.ensures.field c.in_ok-push_order.ensures c.in_ok-push_session.ensures.field
    (c.in_ok-push_number.ensures ∙ ap (λ (n : ℤ). c.push_session.new.out ++ body_of (number_field n)) (to_z-of_z w64 c.args.plain.now.number (signed_64 c.args.plain.now.number c.requires)))
    c.in_ok-push_database.ensures.field

pub returns-clause-sound : goal.returns-clause-sound
returns-clause-sound c = record {
  collection = c.in_ok-push_collection.ensures.utf8;
  database = c.in_ok-push_database.ensures.utf8;
  session = c.in_ok-push_session.ensures.sixteen;
  number = c.requires;
}
