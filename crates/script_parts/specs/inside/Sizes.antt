-- How much of a value is left to be read.
use Rattle.std.specs.Prelude.{ℕ, ◌+◌}
use Rattle.json.specs.Json.{Json, null, boolean, number, string, array, object, Items, no_items, item, Members, no_members, member}

abbrev mutual
  -- the size of a value
  pub size : Json → ℕ
  size null = 1
  size (boolean flag) = 1
  size (number text) = 1
  size (string text) = 1
  size (array items) = items_size items + 1
  size (object members) = members_size members + 1

  -- the size of the items of an array
  pub items_size : Items → ℕ
  items_size no_items = 0
  items_size (item value items) = size value + items_size items + 1

  -- the size of the members of an object
  pub members_size : Members → ℕ
  members_size no_members = 0
  members_size (member key value members) = size value + members_size members + 1
