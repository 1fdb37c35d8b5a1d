-- Each call leaves fewer levels, or is a part of what its caller reads.
use Rattle.std.proofs.Common.{ℕ, ◌+◌, ◌*◌, ◌≤◌, List, length}
use Rattle.bson_lite.specs.declared.bson.Bson.{Bson}
use Rattle.bson_lite.specs.declared.document.Pair.{Pair}
use Rattle.bson_lite.specs.Reading.{pair_with, item_with, pairs_with, items_with, nested_at}
use Rattle.bson_lite.proofs.Loops.{Going}
use Rattle.bson_reading.proofs.decoding.+read.Given as goal

abbrev pub decreases-nested_of : goal.decreases-nested_of
decreases-nested_of l = 5 * l.level

abbrev pub decreases-value_of : goal.decreases-value_of
decreases-value_of l = 5 * l.level + 1

abbrev pub decreases-pair_of : goal.decreases-pair_of
decreases-pair_of l = 5 * l.level + 2

abbrev pub decreases-item_of : goal.decreases-item_of
decreases-item_of l = 5 * l.level + 2

abbrev pub decreases-pairs_of : goal.decreases-pairs_of
decreases-pairs_of l = 5 * l.level + 3

abbrev pub decreases-items_of : goal.decreases-items_of
decreases-items_of l = 5 * l.level + 3

abbrev pub decreases-document_of : goal.decreases-document_of
decreases-document_of l = 5 * l.level + 4

abbrev pub decreases-array_of : goal.decreases-array_of
decreases-array_of l = 5 * l.level + 4

abbrev pub decreases-pairs_of-loop-rest : goal.decreases-pairs_of-loop-rest
decreases-pairs_of-loop-rest l = length l.rest

abbrev pub decreases-items_of-loop-rest : goal.decreases-items_of-loop-rest
decreases-items_of-loop-rest l = length l.rest

-- The bytes left lie before the end, and reading goes on with them.
pub record PairsGoing (level end : ℕ) (bytes : List ℕ) (document : List (Pair Bson)) (rest : List ℕ) : Type 0 where
  pub within : length rest ≤ end
  pub going : Going (λ place. pair_with (nested_at level) end) (pairs_with (nested_at level) end bytes) document rest

pub record ItemsGoing (level end : ℕ) (bytes : List ℕ) (array : List Bson) (rest : List ℕ) : Type 0 where
  pub within : length rest ≤ end
  pub going : Going (item_with (nested_at level) end) (items_with (nested_at level) end bytes) array rest

abbrev pub invariant-pairs_of-loop-rest : goal.invariant-pairs_of-loop-rest
invariant-pairs_of-loop-rest l = PairsGoing l.level l.end l.bytes l.document l.rest

abbrev pub invariant-items_of-loop-rest : goal.invariant-items_of-loop-rest
invariant-items_of-loop-rest l = ItemsGoing l.level l.end l.bytes l.array l.rest
