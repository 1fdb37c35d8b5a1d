-- A copy goes down the tree. What was copied so far is the front of what is copied.
use Rattle.std.proofs.Common.{◌≡◌, ◌+◌, ◌*◌, take}
use denote.Param.Weighed.{most}
use Rattle.bson_lite.specs.declared.bson.Bson.{size-Bson}
use Rattle.bson_lite.proofs.copy.+copy.Given as goal

abbrev pub decreases-copy_value : goal.decreases-copy_value
decreases-copy_value l = 2 * size-Bson l.value.now

abbrev pub decreases-copy_values : goal.decreases-copy_values
decreases-copy_values l = 2 * most size-Bson l.values.now + 1

abbrev pub decreases-copy_pairs : goal.decreases-copy_pairs
decreases-copy_pairs l = 2 * most (λ pair. size-Bson pair.value) l.pairs.now + 1

abbrev pub invariant-copy_values-loop-value : goal.invariant-copy_values-loop-value
invariant-copy_values-loop-value l = l.copies ≡ take l.value-index l.values

abbrev pub invariant-copy_pairs-loop-pair : goal.invariant-copy_pairs-loop-pair
invariant-copy_pairs-loop-pair l = l.copies ≡ take l.pair-index l.pairs
