-- The length, the elements, and the last byte.
use Rattle.std.proofs.Common.{ℕ, List, [], ◌∷◌, ◌++◌, append_assoc, ap, ◌∙◌}
use Rattle.bson_lite.specs.Spelling.{body_of, four}
use Rattle.frame_reading.specs.inside.PlainInserts.{plain_body}
use Rattle.frame_reading.proofs.plain_insert.plain_bytes.Goals as goal

pub returns-clause-bytes : goal.returns-clause-bytes
returns-clause-bytes c =
    c.in_ok-push.ensures.ok
    ∙ ap (λ (bytes : List ℕ). bytes ++ 0 ∷ []) (c.in_ok-push_fields.ensures.fields
    ∙ ap (λ (bytes : List ℕ). bytes ++ body_of (plain_body c.args.plain.now)) (c.in_ok-extend_from_slice.ensures.ok ∙ (λ i. c.in_ok-out.ensures i ++ c.count_bytes.ensures i)))
    ∙ append_assoc (four c.args.count) (body_of (plain_body c.args.plain.now)) (0 ∷ [])
