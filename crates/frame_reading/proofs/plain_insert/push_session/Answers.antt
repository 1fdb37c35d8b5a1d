-- What stands before the id, the id, and the last byte.
use Rattle.std.proofs.Common.{◌≡◌, ℕ, List, [], ◌∷◌, ◌++◌, length, sym, ap, ◌∙◌, rules}
use Rattle.frame_reading.proofs.PlainBytes.{session_spelled, three_parts}
use Rattle.frame_reading.proofs.plain_insert.push_session.Goals as goal

pub returns-clause-field : goal.returns-clause-field
returns-clause-field c =
    let sixteen : length c.args.id.now ≡ 16 = search rules in
    c.in_ok-push.ensures.ok
    ∙ ap (λ (bytes : List ℕ). bytes ++ 0 ∷ []) (c.in_ok-extend_from_slice-2.ensures.ok ∙ ap (λ (bytes : List ℕ). bytes ++ c.args.id.now) c.in_ok-extend_from_slice.ensures.ok)
    ∙ three_parts c.args.out.now _ c.args.id.now (0 ∷ []) ∙ ap (λ (bytes : List ℕ). c.args.out.now ++ bytes) (sym (session_spelled c.args.id.now sixteen))
