-- The members of an object as they came, and objects of one key.
use Rattle.std.specs.Prelude.{ℕ, Bool, true, ◌&&◌, if◌then◌else◌, List, Option, None, Some, bytes_eq}
use Rattle.script_parts.specs.Json.{among}
use Rattle.json.specs.Json as json
use Rattle.serde_json.specs.Data.{Data, object, Members, no_members, member}

-- the one member, where there is no other
abbrev pub only_in : Members → Option (List ℕ × Data)
only_in (member key d no_members) = Some (key, d)
only_in _ = None

-- the one key of an object, and what stands under it
abbrev pub only : Data → Option (List ℕ × Data)
only (object members) = only_in members
only _ = None

-- each member has this key
unfoldable pub all_are : List ℕ → json.Members → Bool
all_are key json.no_members = true
all_are key (json.member other j members) = bytes_eq other key && all_are key members

-- the last value, or this one where there is none, where each member has this key
unfoldable pub last_of : List ℕ → json.Json → json.Members → Option json.Json
last_of key last json.no_members = Some last
last_of key last (json.member other j members) = if bytes_eq other key then last_of key j members else None

-- each member's key is one of these
unfoldable pub keys_in : List (List ℕ) → json.Members → Bool
keys_in keys json.no_members = true
keys_in keys (json.member key j members) = among keys key && keys_in keys members
