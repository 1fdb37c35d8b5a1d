-- What stands before the number, and the number.
use Rattle.std.proofs.Common.{ℕ, ℤ, List, ◌++◌, sym, ap, ◌∙◌}
use Rattle.std.specs.Int.{w64, cast_unsigned}
use Rattle.std.proofs.lemmas.Int.{to_z-of_z}
use Rattle.bson_lite.specs.Spelling.{eight}
use Rattle.frame_reading.proofs.PlainBytes.{number_head, number_spelled, two_parts}
use Rattle.frame_reading.proofs.plain_insert.push_number.Goals as goal

pub returns : goal.returns
returns c =
    c.in_ok-extend_from_slice-2.ensures.ok
    ∙ ap (λ (bytes : List ℕ). bytes ++ c.number_bytes.result) c.in_ok-extend_from_slice.ensures.ok
    ∙ ap (λ (bytes : List ℕ). (c.args.out.now ++ number_head) ++ bytes)
    (c.number_bytes.ensures ∙ ap (λ (n : ℤ). eight (cast_unsigned w64 n)) (to_z-of_z w64 c.args.number c.ranges.number))
    ∙ two_parts c.args.out.now number_head (eight (cast_unsigned w64 c.args.number)) ∙ ap (λ (bytes : List ℕ). c.args.out.now ++ bytes) (sym (number_spelled c.args.number))
