-- What stands before the flag, and the flag.
use Rattle.std.proofs.Common.{ℕ, List, [], ◌∷◌, ◌++◌, sym, ap, ◌∙◌}
use Rattle.std.specs.Prelude.{if◌then◌else◌}
use Rattle.frame_reading.proofs.PlainBytes.{order_spelled, two_parts}
use Rattle.frame_reading.proofs.plain_insert.push_order.Goals as goal

pub returns : goal.returns
returns c =
    c.in_ok-push.ensures.ok ∙ (λ i. c.in_ok-extend_from_slice.ensures.ok i ++ c.flag_byte.ensures i ∷ [])
    ∙ two_parts c.args.out.now _ ((if c.args.ordered then 1 else 0) ∷ []) ∙ ap (λ (bytes : List ℕ). c.args.out.now ++ bytes) (sym (order_spelled c.args.ordered))
