-- The data that a value of JSON stands for, as `serde_json` reads it.
use Rattle.std.specs.Prelude.{◌≡◌, ℕ, List, Bool, true, ◌&&◌, is_some, unwrap_or, Option, None, Some, Result, Ok, Err}
use Rattle.std.specs.Float.Ieee.{nan}
use Rattle.script_parts.specs.declared.forms.Unread.{Unread}
use Rattle.script_parts.specs.declared.forms.Unread.TheVariants.{Wrong, Memory}
use Rattle.script_parts.specs.declared.tree.Kind.{Kind}
use Rattle.script_parts.specs.declared.tree.Kind.TheVariants as kind
use Rattle.script_parts.specs.inside.Codes.{tree_at}
use Rattle.json.specs.Json as json
use Rattle.json.specs.Token.{Token}
use Rattle.serde_json.specs.Data.{Num, float, Data, null, boolean, number, string, array, object, Items, no_items, item, Members, no_members, put}
use Rattle.serde_json.specs.Read.{number_of}

-- the number that a text is; one that is out of range is no data, and stands for `nan` here
unfoldable pub number_read : List ℕ → Num
number_read text = unwrap_or (number_of text) (float nan)

abbrev mutual
  -- the data of a value of JSON
  pub data_of : json.Json → Data
  data_of json.null = null
  data_of (json.boolean flag) = boolean flag
  data_of (json.number text) = number (number_read text)
  data_of (json.string text) = string text
  data_of (json.array items) = array (items_data items)
  data_of (json.object members) = object (members_data members no_members)

  -- the items in their order
  pub items_data : json.Items → Items
  items_data json.no_items = no_items
  items_data (json.item j items) = item (data_of j) (items_data items)

  -- the members go in one after another, so the last value of a key stays
  pub members_data : json.Members → Members → Members
  members_data json.no_members found = found
  members_data (json.member key j members) found = members_data members (put key (data_of j) found)

abbrev mutual
  -- each number is in range
  pub has_numbers : json.Json → Bool
  has_numbers json.null = true
  has_numbers (json.boolean flag) = true
  has_numbers (json.number text) = is_some (number_of text)
  has_numbers (json.string text) = true
  has_numbers (json.array items) = items_have_numbers items
  has_numbers (json.object members) = members_have_numbers members

  pub items_have_numbers : json.Items → Bool
  items_have_numbers json.no_items = true
  items_have_numbers (json.item j items) = has_numbers j && items_have_numbers items

  pub members_have_numbers : json.Members → Bool
  members_have_numbers json.no_members = true
  members_have_numbers (json.member key j members) = has_numbers j && members_have_numbers members

-- the data of a value
abbrev pub view : json.Json → Data
view value = data_of value

-- the items that those of JSON are
abbrev pub items_view : json.Items → Items
items_view items = items_data items

-- the members that those of JSON are
abbrev pub members_view : json.Members → Members
members_view members = members_data members no_members

-- the value of a kind
abbrev pub value_is : Kind → json.Json
value_is kind.Null = json.null
value_is (kind.Bool flag) = json.boolean flag
value_is (kind.Number text) = json.number text.now
value_is (kind.String text) = json.string text.now
value_is (kind.Array items) = json.array items
value_is (kind.Object members) = json.object members

-- the tokens begin with the value of what is given, and they are wrong where nothing is; want of memory says nothing
abbrev pub GivesTape : Result (List Token) Unread → Option Data → Type 0
GivesTape (Ok tokens) given = given ≡ Some (view (tree_at tokens))
GivesTape (Err Wrong) given = given ≡ None
GivesTape (Err Memory) given = Unit {0}
