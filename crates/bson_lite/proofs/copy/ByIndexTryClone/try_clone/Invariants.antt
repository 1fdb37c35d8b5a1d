-- The copies so far with the entries that are left are all of them.
use Rattle.std.proofs.Common.{◌≡◌, drop}
use Rattle.bson_lite.specs.Indexed.{insert_each}
use Rattle.bson_lite.proofs.copy.ByIndexTryClone.try_clone.Given as goal

abbrev pub invariant-loop-pair : goal.invariant-loop-pair
invariant-loop-pair g l = insert_each l.copies (drop l.pair-index l.pairs) ≡ l.self
