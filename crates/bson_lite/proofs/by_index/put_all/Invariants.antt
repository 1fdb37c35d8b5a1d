-- The entries so far with those that are left are all of them, and there is room for the rest.
use Rattle.std.proofs.Common.{◌≡◌, ◌+◌, ◌≤◌, length}
use Rattle.std.specs.Vec.{vec_capacity, vec_len}
use Rattle.std.specs.FinMap as map
use Rattle.bson_lite.specs.Indexed.{IsRising, insert_each}
use Rattle.bson_lite.proofs.by_index.put_all.Given as goal

abbrev pub invariant-loop-index : goal.invariant-loop-index
invariant-loop-index g l = record {
  rises : IsRising l.entries.items;
  puts : insert_each (map.from_sorted l.entries.items) l.index-iterator.rest.items ≡ insert_each (map.from_sorted l.fn.entries.items) l.fn.more.items;
  room : vec_len l.entries + length l.index-iterator.rest.items ≤ vec_capacity l.entries;
}
