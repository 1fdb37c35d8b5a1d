-- What was read, then what the definition makes of the rest; each call reads a part of what its caller reads.
use Rattle.std.proofs.Common.{◌≡◌, ◌≤◌, ◌+◌, ◌*◌, ◌++◌}
use Rattle.std.specs.Option.{option_map}
use Rattle.script_parts.specs.Values.{pairs_of, values_of}
use Rattle.script_parts.specs.inside.Sizes.{items_size, members_size, size}
use Rattle.script_parts.specs.inside.Tree.{items_view}
use Rattle.script_parts.proofs.values.+value.Given as goal

abbrev pub decreases-read_value : goal.decreases-read_value
decreases-read_value l = 4 * size l.value.now + 2

abbrev pub decreases-read_object : goal.decreases-read_object
decreases-read_object l = 4 * members_size l.members

abbrev pub decreases-read_tagged : goal.decreases-read_tagged
decreases-read_tagged l = 4 * size l.value.now + 2

abbrev pub decreases-read_document : goal.decreases-read_document
decreases-read_document l = 4 * size l.value.now + 1

abbrev pub decreases-read_array : goal.decreases-read_array
decreases-read_array l = 4 * size l.value.now + 1

abbrev pub decreases-read_pairs : goal.decreases-read_pairs
decreases-read_pairs l = 4 * items_size l.items

abbrev pub decreases-read_values : goal.decreases-read_values
decreases-read_values l = 4 * items_size l.items

abbrev pub decreases-read_pair : goal.decreases-read_pair
decreases-read_pair l = 4 * size l.value.now + 1

abbrev pub invariant-read_pairs-loop-item : goal.invariant-read_pairs-loop-item
invariant-read_pairs-loop-item l = record {
  going : option_map (λ rest. l.document ++ rest) (pairs_of (items_view l.rest)) ≡ pairs_of (items_view l.fn.items);
  within : items_size l.rest ≤ items_size l.fn.items;
}

abbrev pub decreases-read_pairs-loop-item : goal.decreases-read_pairs-loop-item
decreases-read_pairs-loop-item l = items_size l.rest

abbrev pub invariant-read_values-loop-item : goal.invariant-read_values-loop-item
invariant-read_values-loop-item l = record {
  going : option_map (λ rest. l.values ++ rest) (values_of (items_view l.rest)) ≡ values_of (items_view l.fn.items);
  within : items_size l.rest ≤ items_size l.fn.items;
}

abbrev pub decreases-read_values-loop-item : goal.decreases-read_values-loop-item
decreases-read_values-loop-item l = items_size l.rest
