-- Each call is told fewer levels, or is a part of what its caller looks at with as many: so none walks below
-- them. No value that was passed nests deeper.
use Rattle.std.proofs.Common.{◌≡◌, ◌+◌, ◌*◌, nat_lt, map, drop}
use Rattle.bson_lite.specs.Spelling.{on_value, depth, deepest, deepest_pair}
use Rattle.bson_lite.proofs.deeper.+deeper.Given as goal

abbrev pub decreases-nests_deeper : goal.decreases-nests_deeper
decreases-nests_deeper l = 3 * l.levels

abbrev pub decreases-array_nests_deeper : goal.decreases-array_nests_deeper
decreases-array_nests_deeper l = 3 * l.levels

abbrev pub decreases-value_nests_deeper : goal.decreases-value_nests_deeper
decreases-value_nests_deeper l = 3 * l.levels + 1

abbrev pub decreases-pairs_nest_deeper : goal.decreases-pairs_nest_deeper
decreases-pairs_nest_deeper l = 3 * l.levels + 2

abbrev pub decreases-values_nest_deeper : goal.decreases-values_nest_deeper
decreases-values_nest_deeper l = 3 * l.levels + 2

abbrev pub invariant-pairs_nest_deeper-loop-pair : goal.invariant-pairs_nest_deeper-loop-pair
invariant-pairs_nest_deeper-loop-pair l = nat_lt l.levels (deepest_pair (map (on_value depth) (drop l.pair-index l.pairs))) ≡ nat_lt l.levels (deepest_pair (map (on_value depth) l.pairs))

abbrev pub invariant-values_nest_deeper-loop-item : goal.invariant-values_nest_deeper-loop-item
invariant-values_nest_deeper-loop-item l = nat_lt l.levels (deepest (map depth (drop l.item-index l.values))) ≡ nat_lt l.levels (deepest (map depth l.values))
