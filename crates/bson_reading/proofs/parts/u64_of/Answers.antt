use Rattle.std.proofs.Common.{◌≡◌, Some, ap, rules, arith}
use Rattle.std.specs.Int.{w64}
use Rattle.std.proofs.lemmas.Nat.{le_bytes_8}
use Rattle.bson_lite.specs.Parts.{number_at}
use Rattle.bson_lite.specs.Reading.{or_at}
use Rattle.bson_lite.proofs.Numbers.{IsBytes-taken, number_at-is}
use Rattle.bson_reading.proofs.parts.u64_of.Goals as goal

pub returns-in-Some-clause-gives : goal.returns-in-Some-clause-gives
returns-in-Some-clause-gives c =
    let is : number_at w64 c.args.bytes.now ≡ Some (c.from_le_bytes.result, c.in-Some.rest.now) =
    number_at-is w64 c.args.bytes.now c.in-Some.chunk.now c.in-Some.rest.now c.from_le_bytes.result (search rules) (search rules) (search rules)
    (le_bytes_8 c.in-Some.chunk.now _ (search rules) (IsBytes-taken 8 c.args.bytes.now c.in-Some.chunk.now (λ i. omega (arith, c.type_inv.bytes i)) (search rules)) c.from_le_bytes.ensures) c.from_le_bytes.ensures in
    ap (or_at c.args.at) is
