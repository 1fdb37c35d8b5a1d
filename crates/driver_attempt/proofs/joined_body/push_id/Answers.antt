-- What stands before the id, the id, and the last byte.
use Rattle.std.proofs.Common.{◌≡◌, ℕ, List, [], ◌∷◌, ◌++◌, length, sym, ap, ◌∙◌, rules}
use Rattle.driver_attempt.proofs.FieldBytes.{session_spelled, three_parts}
use Rattle.driver_attempt.proofs.joined_body.push_id.Goals as goal

pub returns : goal.returns
returns c =
    let sixteen : length c.args.id.now ≡ 16 = search rules in
    c.in_ok-push.ensures.ok
    ∙ ap (λ (bytes : List ℕ). bytes ++ 0 ∷ []) (c.in_ok-extend_from_slice-2.ensures.ok ∙ ap (λ (bytes : List ℕ). bytes ++ c.args.id.now) c.in_ok-extend_from_slice.ensures.ok)
    ∙ three_parts c.args.out.now _ c.args.id.now (0 ∷ []) ∙ ap (λ (bytes : List ℕ). c.args.out.now ++ bytes) (sym (session_spelled c.args.id.now sixteen))
