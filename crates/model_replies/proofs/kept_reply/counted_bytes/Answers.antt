-- The parts in their order spell the reply.
use Rattle.std.proofs.Common.{◌≡◌, ℕ, ℤ, true, List, [], ◌∷◌, ◌++◌, ap, ◌∙◌, rules}
use Rattle.std.specs.Int.{w32, cast_unsigned}
use Rattle.std.proofs.lemmas.Int.{to_z-of_z}
use Rattle.bson_lite.specs.Ranges.{fits}
use Rattle.bson_lite.specs.Spelling.{four}
use Rattle.model_replies.proofs.KeptReplies.{counted_head, counted_spelled, three_parts}
use Rattle.model_replies.proofs.kept_reply.counted_bytes.Goals as goal

pub returns : goal.returns
returns c =
    let in_range : fits 0x8000_0000 c.args.n ≡ true = search rules in
    counted_spelled c.args.n _ in_range
    (c.in_ok-push.ensures.ok
    ∙ ap (λ (bytes : List ℕ). bytes ++ 0 ∷ []) (c.in_ok-extend_from_slice-2.ensures.ok ∙ ap (λ (bytes : List ℕ). bytes ++ c.number_bytes.result) (c.in_ok-extend_from_slice.ensures.ok ∙ ap (λ (bytes : List ℕ). bytes ++ counted_head) c.in_ok-out.ensures))
    ∙ three_parts counted_head c.number_bytes.result (0 ∷ [])
    ∙ ap (λ (number : List ℕ). counted_head ++ (number ++ 0 ∷ []))
    (c.number_bytes.ensures ∙ ap (λ (n : ℤ). four (cast_unsigned w32 n)) (to_z-of_z w32 c.args.n c.ranges.n)))
