-- A comparison goes down the first tree. The fronts that were passed are the same.
use Rattle.std.proofs.Common.{◌≡◌, ◌+◌, ◌*◌, take}
use denote.Param.Weighed.{most}
use Rattle.bson_lite.specs.declared.bson.Bson.{size-Bson}
use Rattle.bson_lite.proofs.same.+same.Given as goal

abbrev pub decreases-same_value : goal.decreases-same_value
decreases-same_value l = 2 * size-Bson l.a.now

abbrev pub decreases-same_values : goal.decreases-same_values
decreases-same_values l = 2 * most size-Bson l.a.now + 1

abbrev pub decreases-same_pairs : goal.decreases-same_pairs
decreases-same_pairs l = 2 * most (λ pair. size-Bson pair.value) l.a.now + 1

abbrev pub invariant-same_values-loop-i : goal.invariant-same_values-loop-i
invariant-same_values-loop-i l = take l.i l.a ≡ take l.i l.b

abbrev pub invariant-same_pairs-loop-i : goal.invariant-same_pairs-loop-i
invariant-same_pairs-loop-i l = take l.i l.a ≡ take l.i l.b
