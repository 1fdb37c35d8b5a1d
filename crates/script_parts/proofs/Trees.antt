-- What is found in a value of JSON is found in its data.
use Rattle.std.proofs.Common.{◌≡◌, ℕ, zero, suc, List, Bool, true, false, true≢false, cond, Option, Some, None, option_map, bytes_eq, refl, sym, ap, ◌∙◌}
use Rattle.std.proofs.lemmas.Slice.Eq.{bytes_eq-Decides}
use Rattle.script_parts.specs.inside.Tree.{data_of, items_data, members_data}
use Rattle.json.specs.Find as tree
use Rattle.json.specs.Json as json
use Rattle.serde_json.proofs.Views.{get_member-put, get_member-put_other}
use Rattle.serde_json.specs.Data.{Data, Members, no_members, put}
use Rattle.serde_json.specs.Find.{at, get, get_item, get_member}

-- ---- items

item_found : (n : ℕ) (js : json.Items) → option_map data_of (tree.get_item n js) ≡ get_item n (items_data js)
item_found n json.no_items = refl
item_found zero (json.item j js) = refl
item_found (suc n) (json.item j js) = item_found n js

pub at_found : (n : ℕ) (j : json.Json) → option_map data_of (tree.at n j) ≡ at n (data_of j)
at_found n json.null = refl
at_found n (json.boolean b) = refl
at_found n (json.number s) = refl
at_found n (json.string s) = refl
at_found n (json.array js) = item_found n js
at_found n (json.object ms) = refl

-- ---- the last member of a key

-- what was put last is found, under any other name what was there
pub get_member-last : (name key : List ℕ) (d : Data) (ms : Members) → get_member name (put key d ms) ≡ cond (bytes_eq key name) (Some d) (get_member name ms)
get_member-last name key d ms = by (bytes_eq key name) refl
  where
    by : (test : Bool) → bytes_eq key name ≡ test → get_member name (put key d ms) ≡ cond (bytes_eq key name) (Some d) (get_member name ms)
    by true is = rw is (ap (λ n. get_member n (put key d ms)) (sym ((bytes_eq-Decides key name).0 is)) ∙ get_member-put key d ms)
    by false is = rw is (get_member-put_other name key d ms (λ same. true≢false (sym ((bytes_eq-Decides key name).1 (sym same)) ∙ is)))

-- what was found later, or else what was found before
abbrev or_before : Option json.Json → Option Data → Option Data
or_before None before = before
or_before (Some j) before = Some (data_of j)

later : (found : Option json.Json) (test : Bool) (j : json.Json) (before : Option Data)
    → or_before found (cond test (Some (data_of j)) before) ≡ or_before (tree.later_or found (cond test (Some j) None)) before
later (Some i) test j before = refl
later None true j before = refl
later None false j before = refl

member_found : (name : List ℕ) (ms : json.Members) (found : Members) → get_member name (members_data ms found) ≡ or_before (tree.get_member name ms) (get_member name found)
member_found name json.no_members found = refl
member_found name (json.member key j ms) found =
    member_found name ms (put key (data_of j) found)
    ∙ ap (or_before (tree.get_member name ms)) (get_member-last name key (data_of j) found)
    ∙ later (tree.get_member name ms) (bytes_eq key name) j (get_member name found)

or_none : (found : Option json.Json) → option_map data_of found ≡ or_before found None
or_none None = refl
or_none (Some j) = refl

pub get_found : (name : List ℕ) (j : json.Json) → option_map data_of (tree.get name j) ≡ get name (data_of j)
get_found name json.null = refl
get_found name (json.boolean b) = refl
get_found name (json.number s) = refl
get_found name (json.string s) = refl
get_found name (json.array js) = refl
get_found name (json.object ms) = or_none (tree.get_member name ms) ∙ sym (member_found name ms no_members)
