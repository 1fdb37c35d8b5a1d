-- The key is not among the pairs that were passed.
use Rattle.std.proofs.Common.{◌≡◌, drop}
use Rattle.bson_lite.specs.Fields.{value_of}
use Rattle.bson_lite.proofs.fields.Document.get.Given as goal

abbrev pub invariant-loop-pair : goal.invariant-loop-pair
invariant-loop-pair l = value_of l.key (drop l.pair-index l.pairs) ≡ value_of l.key l.fn.self
