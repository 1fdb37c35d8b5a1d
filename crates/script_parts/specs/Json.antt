-- How JSON values are read: the words that all readers share.
use Rattle.std.specs.Prelude.{◌≡◌, ℕ, Bool, true, false, ◌&&◌, if◌then◌else◌, List, [], ◌∷◌, Option, None, Some, Result, Ok, Err, bytes_eq}
use Rattle.std.specs.List.{list_any}
use Rattle.std.specs.Option.{option_and_then, option_map}
use Rattle.std.specs.Str.{is_utf8}
use Rattle.script_parts.specs.declared.forms.Unread.{Unread}
use Rattle.script_parts.specs.declared.forms.Unread.TheVariants.{Wrong, Memory}
use Rattle.serde_json.specs.Data.{Data, array, object, Items, no_items, item, Members, no_members, member}
use Rattle.serde_json.specs.Find.{get}
use Rattle.serde_json.specs.Read.{read}

-- the value of a text in JSON
abbrev pub value_read : List ℕ → Option Data
value_read bytes = if is_utf8 bytes then read bytes else None

-- the answer is what is given, and wrong where none is; want of memory says nothing
abbrev pub GivesPart : {A : Type 0} → Result A Unread → Option A → Type 0
GivesPart (Ok value) given = given ≡ Some value
GivesPart (Err Wrong) given = given ≡ None
GivesPart (Err Memory) given = Unit {0}

-- each item, or none where one of them is wrong
unfoldable pub each : {A : Type 0} → (Data → Option A) → Items → Option (List A)
each form no_items = Some []
each form (item d items) = option_and_then (λ found. option_map (λ rest. found ∷ rest) (each form items)) (form d)

-- a list of things
unfoldable pub list_of : {A : Type 0} → (Data → Option A) → Data → Option (List A)
list_of form (array items) = each form items
list_of form d = None

-- the thing under a key of an object
unfoldable pub needed_part : {A : Type 0} → (Data → Option A) → List ℕ → Data → Option A
needed_part form key d = option_and_then form (get key d)

-- a value that is missing, or has its form
abbrev pub where_there : {A : Type 0} → (Data → Option A) → Option Data → Option (Option A)
where_there form None = Some None
where_there form (Some d) = option_map (λ found. Some found) (form d)

-- the thing under a key of an object, which may be missing
unfoldable pub optional_part : {A : Type 0} → (Data → Option A) → List ℕ → Data → Option (Option A)
optional_part form key d = where_there form (get key d)

-- a key is one of these
unfoldable pub among : List (List ℕ) → List ℕ → Bool
among keys key = list_any (λ known. bytes_eq known key) keys

-- each member's key is one of these
unfoldable pub has_keys_among : List (List ℕ) → Members → Bool
has_keys_among keys no_members = true
has_keys_among keys (member key d members) = among keys key && has_keys_among keys members

-- an object with no other keys than these
unfoldable pub has_only : List (List ℕ) → Data → Bool
has_only keys (object members) = has_keys_among keys members
has_only keys d = false
