-- Writing goes down the tree. What was written, with what is left to write, is all that is written.
use Rattle.std.proofs.Common.{◌≡◌, ℕ, ◌+◌, ◌*◌, List, ◌++◌, length, map, take, drop}
use denote.Param.Weighed.{most}
use Rattle.bson_lite.specs.declared.bson.Bson.{size-Bson}
use Rattle.bson_lite.specs.Spelling.{spelled, body_of, numbered}
use Rattle.bson_lite.proofs.encoding.+put.Given as goal

abbrev pub decreases-put_value : goal.decreases-put_value
decreases-put_value l = 3 * size-Bson l.value.now

abbrev pub decreases-put_values : goal.decreases-put_values
decreases-put_values l = 3 * most size-Bson l.values.now + 1

abbrev pub decreases-put_pairs : goal.decreases-put_pairs
decreases-put_pairs l = 3 * most (λ pair. size-Bson pair.value) l.pairs.now + 1

abbrev pub decreases-put_array : goal.decreases-put_array
decreases-put_array l = 3 * most size-Bson l.values.now + 2

abbrev pub decreases-put_document : goal.decreases-put_document
decreases-put_document l = 3 * most (λ pair. size-Bson pair.value) l.pairs.now + 2

-- what was written up to here, with what is left to write, is all that is written; there is room for it
pub record Written (old new : List ℕ) (at end : ℕ) (left all : List ℕ) : Type 0 where
  pub place : end + length left ≡ at + length all
  pub bytes : take end new ++ left ≡ take at old ++ all
  pub size : length new ≡ length old

abbrev pub invariant-put_pairs-loop-pair : goal.invariant-put_pairs-loop-pair
invariant-put_pairs-loop-pair l = Written l.fn.out l.out l.at l.end (body_of (drop l.pair-index l.pairs)) (body_of l.pairs)

abbrev pub invariant-put_values-loop-place : goal.invariant-put_values-loop-place
invariant-put_values-loop-place l = Written l.fn.out l.out l.at l.end (numbered l.place (map spelled (drop l.place l.values))) (numbered 0 (map spelled l.values))
