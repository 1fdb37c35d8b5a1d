-- The length, the text, and the last byte.
use Rattle.std.proofs.Common.{ℕ, List, [], ◌∷◌, ◌++◌, length, ap, ◌∙◌, ◌+◌}
use Rattle.bson_lite.specs.Spelling.{four}
use Rattle.driver_attempt.proofs.FieldBytes.{three_parts}
use Rattle.driver_attempt.proofs.joined_body.push_counted.Goals as goal

pub returns : goal.returns
returns c =
    c.in_ok-push.ensures.ok
    ∙ ap (λ (bytes : List ℕ). bytes ++ 0 ∷ []) (c.in_ok-extend_from_slice-2.ensures.ok ∙ ap (λ (bytes : List ℕ). bytes ++ c.args.text.now) c.in_ok-extend_from_slice.ensures.ok)
    ∙ ap (λ (count : List ℕ). ((c.args.out.now ++ count) ++ c.args.text.now) ++ 0 ∷ []) c.count_bytes.ensures
    ∙ three_parts c.args.out.now (four (length c.args.text.now + 1)) c.args.text.now (0 ∷ [])
