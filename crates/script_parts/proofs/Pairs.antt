-- Pairs of a script, from what their parts are read as.
use Rattle.std.proofs.Common.{◌≡◌, ℕ, List, Option, Some, refl, ap, ◌∙◌}
use Rattle.std.specs.Prelude.{Err}
use Rattle.std.specs.Option.{option_and_then, option_map}
use Rattle.bson_lite.specs.declared.bson.Bson.{Bson}
use Rattle.bson_lite.specs.declared.document.Pair.{Pair}
use Rattle.script_parts.specs.Json.{GivesPart}
use Rattle.script_parts.specs.Values.{pair_of, text_of, value_of}
use Rattle.script_parts.specs.declared.forms.Unread.{Unread}
use Rattle.script_parts.specs.declared.forms.Unread.TheVariants.{Memory, Wrong}
use Rattle.script_parts.specs.inside.Tree.{view}
use Rattle.json.specs.Json as json
use Rattle.serde_json.specs.Data.{Data, array, item, no_items}

abbrev pair_with : List ℕ → Bson → Pair Bson
pair_with text value = record { key = text; value = value }

abbrev pair_by : Option (List ℕ) → Option Bson → Option (Pair Bson)
pair_by text value = option_and_then (λ t. option_map (λ v. pair_with t v) value) text

pair_is : (key inner : Data) → pair_of (array (item key (item inner no_items))) ≡ pair_by (text_of key) (value_of inner)
unfolding pair_of
pair_is key inner = refl

-- a list of a key and a value is read as both are
seen : (j key inner : json.Json) (js more last : json.Items) → j ≡ json.array js → js ≡ json.item key more → more ≡ json.item inner last → last ≡ json.no_items
    → pair_of (view j) ≡ pair_by (text_of (view key)) (value_of (view inner))
seen j key inner js more last is first second none =
    ap (λ i. pair_of (view i)) (is ∙ ap json.array (first ∙ ap (json.item key) (second ∙ ap (json.item inner) none))) ∙ pair_is (view key) (view inner)

-- what the pair is read as
pub pair_read : (j key inner : json.Json) (js more last : json.Items) (text : List ℕ) (value : Bson) → j ≡ json.array js → js ≡ json.item key more
    → more ≡ json.item inner last → last ≡ json.no_items → text_of (view key) ≡ Some text → value_of (view inner) ≡ Some value
    → pair_of (view j) ≡ Some (record { key = text; value = value })
pair_read j key inner js more last text value is first second none of_key of_value =
    seen j key inner js more last is first second none ∙ ap (λ t. pair_by t (value_of (view inner))) of_key ∙ ap (λ v. pair_by (Some text) v) of_value

-- where its value is wrong, so is the pair
pub pair_wrong : (j key inner : json.Json) (js more last : json.Items) (text : List ℕ) (unread : Unread) → j ≡ json.array js → js ≡ json.item key more
    → more ≡ json.item inner last → last ≡ json.no_items → text_of (view key) ≡ Some text → GivesPart {A = Bson} (Err unread) (value_of (view inner))
    → GivesPart {A = Pair Bson} (Err unread) (pair_of (view j))
pair_wrong j key inner js more last text Wrong is first second none of_key wrong =
    seen j key inner js more last is first second none ∙ ap (λ t. pair_by t (value_of (view inner))) of_key ∙ ap (λ v. pair_by (Some text) v) wrong
pair_wrong j key inner js more last text Memory is first second none of_key memory = tt
