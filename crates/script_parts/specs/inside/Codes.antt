-- Values, items and members of JSON, as they are found in the tokens that begin with them, and as they are stored.
use Rattle.std.specs.Prelude.{◌≡◌, ℕ, ◌≤◌, List, [], ◌∷◌, ◌++◌, length, Option, Some, None, refl}
use Rattle.std.specs.Coded.{Coded, code_by}
use Rattle.std.proofs.Common.{sym, ap, ◌∙◌, subst, arith, append_assoc, append-nil, length-append}
use Rattle.json.specs.Token.{Token, tokens_code}
use Rattle.json.specs.Json.{Json, null, boolean, number, string, array, object, Items, no_items, item, Members, no_members, member, after_end_array, read_key, value}
use Rattle.json.specs.Find.{BeginsWith, InItems, InMembers}
use Rattle.json.specs.Tree.{json_tokens, items_tokens, members_tokens, depth, items_depth, members_depth}
use Rattle.json.proofs.Found.{items_close, items_go_on, members_close, members_go_on, not_found}
use Rattle.json.proofs.Grammar.{closed_array, members_no_key, read_key_is}
use Rattle.json.proofs.Printed.Trees.{value-json_tokens}
use Rattle.json.proofs.Unique.Spelling.{value-json_tokens_back}

-- the tokens begin with items, or with members, and the closing bracket
abbrev pub HasItems : List Token → Type 0
HasItems ts = (js : Items) × InItems ts js

abbrev pub HasMembers : List Token → Type 0
HasMembers ts = (ms : Members) × InMembers ts ms

-- the value that was read
abbrev pub first_or_null : Option (Json × List Token) → Json
first_or_null None = null
first_or_null (Some p) = p.0

-- the value that tokens begin with
unfoldable pub tree_at : List Token → Json
tree_at ts = first_or_null (value (length ts) ts)

-- the items of an array, and the members of an object
abbrev pub items_in : Json → Items
items_in (array js) = js
items_in _ = no_items

abbrev pub members_in : Json → Members
members_in (object ms) = ms
members_in _ = no_members

-- the items, and the members, that tokens begin with
unfoldable pub items_at : List Token → Items
items_at ts = items_in (tree_at (Token.begin_array ∷ ts))

unfoldable pub members_at : List Token → Members
members_at ts = members_in (tree_at (Token.begin_object ∷ ts))

-- ---- what is found is what was read

mutual
  depth_within : (j : Json) → depth j ≤ length (json_tokens j)
  depth_within null = omega arith
  depth_within (boolean b) = omega arith
  depth_within (number s) = omega arith
  depth_within (string s) = omega arith
  depth_within (array js) = omega (arith, items_within js)
  depth_within (object ms) = omega (arith, members_within ms)

  items_within : (js : Items) → items_depth js ≤ length (items_tokens js)
  items_within no_items = omega arith
  items_within (item j js) = omega (arith, depth_within j, items_within js, length-append (json_tokens j) (items_tokens js))

  members_within : (ms : Members) → members_depth ms ≤ length (members_tokens ms)
  members_within no_members = omega arith
  members_within (member k j ms) = omega (arith, depth_within j, members_within ms, length-append (json_tokens j) (members_tokens ms))

pub tree_is : (ts : List Token) (j : Json) → BeginsWith ts j → tree_at ts ≡ j
unfolding tree_at
tree_is ts j h =
    let is : ts ≡ json_tokens j ++ h.1 = value-json_tokens_back h.0 ts h.1 j h.2 in
    let within : depth j ≤ length ts = omega (arith, depth_within j, ap length is, length-append (json_tokens j) h.1) in
    ap first_or_null (ap (value (length ts)) is ∙ value-json_tokens j (length ts) h.1 within)

-- tokens that spell a value begin with it
pub spelled : (j : Json) (rest : List Token) → BeginsWith (json_tokens j ++ rest) j
spelled j rest = (depth j, rest, value-json_tokens j (depth j) rest (omega arith))

pub tree_again : (j : Json) → tree_at (json_tokens j) ≡ j
tree_again j = tree_is (json_tokens j) j (subst (λ ts. BeginsWith ts j) (append-nil (json_tokens j)) (spelled j []))

-- the tokens are those of these items, and then others
abbrev SpellsItems : List Token → Items → Type 0
SpellsItems ts js = (r : List Token) × (ts ≡ items_tokens js ++ r)

items_by : (js : Items) (ts : List Token) (o : Option (List Token)) → after_end_array ts ≡ o → InItems ts js → SpellsItems ts js
items_by js ts (Some r) e h =
    let closed : ts ≡ Token.end_array ∷ r = closed_array ts r e in
    let none : js ≡ no_items = items_close r js (subst (λ l. InItems l js) closed h) in
    (r, closed ∙ ap (λ k. items_tokens k ++ r) (sym none))
items_by no_items ts None e h = let f = items_go_on ts no_items e h in absurd (let never : no_items ≡ item f.1 f.3 = f.5 in cc)
items_by (item j js) ts None e h =
    let f = items_go_on ts (item j js) e h in
    let is : item j js ≡ item f.1 f.3 = f.5 in
    let first : f.1 ≡ j = cc in
    let more : f.3 ≡ js = cc in
    let rest = items_by js f.2 (after_end_array f.2) refl (subst (InItems f.2) more f.6) in (
      rest.0,
      value-json_tokens_back f.0 ts f.2 f.1 f.4 ∙ ap (λ i. json_tokens i ++ f.2) first ∙ ap (λ l. json_tokens j ++ l) rest.1
          ∙ sym (append_assoc (json_tokens j) (items_tokens js) rest.0),
    )

pub items_is : (ts : List Token) (js : Items) → InItems ts js → items_at ts ≡ js
unfolding items_at
items_is ts js h =
    let back = items_by js ts (after_end_array ts) refl h in
    let begins : BeginsWith (Token.begin_array ∷ ts) (array js) = subst (λ l. BeginsWith (Token.begin_array ∷ l) (array js)) (sym back.1) (spelled (array js) back.0) in
    ap items_in (tree_is (Token.begin_array ∷ ts) (array js) begins)

abbrev SpellsMembers : List Token → Members → Type 0
SpellsMembers ts ms = (r : List Token) × (ts ≡ members_tokens ms ++ r)

members_by : (ms : Members) (ts : List Token) (o : Option (Option (List ℕ) × List Token)) → read_key ts ≡ o → InMembers ts ms → SpellsMembers ts ms
members_by ms ts None e h = not_found (ms, h.2) (sym (members_no_key (value h.0) h.1 ts e) ∙ h.3)
members_by ms ts (Some (None, s)) e h =
    let closed : ts ≡ Token.end_object ∷ s = read_key_is ts None s e in
    let none : ms ≡ no_members = members_close Token.end_object s ms (λ k. k) (subst (λ l. InMembers l ms) closed h) in
    (s, closed ∙ ap (λ k. members_tokens k ++ s) (sym none))
members_by no_members ts (Some (Some k, s)) e h =
    let opens : ts ≡ Token.key k ∷ s = read_key_is ts (Some k) s e in
    let f = members_go_on k s no_members (subst (λ l. InMembers l no_members) opens h) in
    absurd (let never : no_members ≡ member k f.1 f.3 = f.5 in cc)
members_by (member key j ms) ts (Some (Some k, s)) e h =
    let opens : ts ≡ Token.key k ∷ s = read_key_is ts (Some k) s e in
    let f = members_go_on k s (member key j ms) (subst (λ l. InMembers l (member key j ms)) opens h) in
    let is : member key j ms ≡ member k f.1 f.3 = f.5 in
    let same : k ≡ key = cc in
    let first : f.1 ≡ j = cc in
    let more : f.3 ≡ ms = cc in
    let rest = members_by ms f.2 (read_key f.2) refl (subst (InMembers f.2) more f.6) in (
      rest.0,
      opens ∙ ap (λ n. Token.key n ∷ s) same ∙ ap (λ l. Token.key key ∷ l)
          (value-json_tokens_back f.0 s f.2 f.1 f.4 ∙ ap (λ i. json_tokens i ++ f.2) first ∙ ap (λ l. json_tokens j ++ l) rest.1
          ∙ sym (append_assoc (json_tokens j) (members_tokens ms) rest.0)),
    )

pub members_is : (ts : List Token) (ms : Members) → InMembers ts ms → members_at ts ≡ ms
unfolding members_at
members_is ts ms h =
    let back = members_by ms ts (read_key ts) refl h in
    let begins : BeginsWith (Token.begin_object ∷ ts) (object ms) = subst (λ l. BeginsWith (Token.begin_object ∷ l) (object ms)) (sym back.1) (spelled (object ms) back.0) in
    ap members_in (tree_is (Token.begin_object ∷ ts) (object ms) begins)

-- ---- how they are stored

-- a value is stored as its tokens
abbrev pub json_code : Coded Json
json_code = code_by (List Token) tokens_code json_tokens tree_at tree_again

-- items are stored as their array, and members as their object
abbrev pub items_code : Coded Items
items_code = code_by Json json_code array items_in (λ _. refl)

abbrev pub members_code : Coded Members
members_code = code_by Json json_code object members_in (λ _. refl)
