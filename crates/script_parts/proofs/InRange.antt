-- A value of JSON is read as data where its numbers are in range.
use Rattle.std.proofs.Common.{◌≡◌, ℕ, suc, ◌+◌, ◌-◌, ◌<◌, ◌≤◌, ◌&&◌, List, [], ◌∷◌, ◌++◌, Bool, true, false, true≢false, is_some, nat_lt, if◌then◌else◌, Option, Some, None, IsSome, option_map, option_and_then, refl, sym, ap, ◌∙◌, subst, arith, append_assoc, append-nil}
use Rattle.std.proofs.lemmas.Bool.{and_parts}
use Rattle.std.proofs.lemmas.Bool.Decides.{nat_tests}
use Rattle.std.specs.Prelude.{Result, unwrap_or}
use Rattle.std.specs.Float.Ieee.{nan}
use Rattle.std.specs.Str.{IsUtf8}
use Rattle.json.specs.Json as json
use Rattle.json.specs.Token.{Token}
use Rattle.json.specs.Lex.{tokens}
use Rattle.json.specs.Json.{document}
use Rattle.json.specs.Tree.{depth, items_depth, items_tokens, json_tokens, members_depth, members_tokens}
use Rattle.json.proofs.Nesting.{value-depth}
use Rattle.json.proofs.Printed.Trees.{value-json_tokens}
use Rattle.json.proofs.Unique.Spelling.{tokens-document, value-json_tokens_back}
use Rattle.script_parts.specs.inside.Codes.{tree_again, tree_at}
use Rattle.script_parts.specs.inside.Fit.{are_fit}
use Rattle.script_parts.proofs.Bytes.{value_read_text}
use Rattle.script_parts.specs.Json.{value_read}
use Rattle.script_parts.specs.inside.Tree.{GivesTape, data_of, has_numbers, items_data, items_have_numbers, members_data, members_have_numbers, number_read, view}
use Rattle.script_parts.specs.declared.forms.Unread.{Unread}
use Rattle.serde_json.specs.Data.{Data, Num, float, number, array, object, Items, item, Members, no_members, put}
use Rattle.serde_json.specs.Read.{number_of, of_items, of_json, of_members, read}

number_by : (found : Option Num) → option_map number found ≡ (if is_some found then Some (number (unwrap_or found (float nan))) else None)
number_by None = refl
number_by (Some n) = refl

number_is : (text : List ℕ) → of_json (json.number text) ≡ (if is_some (number_of text) then Some (number (number_read text)) else None)
unfolding number_read
number_is text = number_by (number_of text)

mapped : {A B : Type 0} (f : A → B) (test : Bool) (a : A) → option_map f (if test then Some a else None) ≡ (if test then Some (f a) else None)
mapped f true a = refl
mapped f false a = refl

item_by : (one more : Bool) (d : Data) (rest : Items) → option_and_then (λ e. option_map (item e) (if more then Some rest else None)) (if one then Some d else None)
    ≡ (if one && more then Some (item d rest) else None)
item_by true true d rest = refl
item_by true false d rest = refl
item_by false more d rest = refl

member_by : (one : Bool) (key : List ℕ) (j : json.Json) (ms : json.Members) (found : Members)
    → of_members ms (put key (data_of j) found) ≡ (if members_have_numbers ms then Some (members_data ms (put key (data_of j) found)) else None)
    → option_and_then (λ d. of_members ms (put key d found)) (if one then Some (data_of j) else None)
    ≡ (if one && members_have_numbers ms then Some (members_data ms (put key (data_of j) found)) else None)
member_by true key j ms found is = is
member_by false key j ms found is = refl

mutual
  -- what is read of a value
  pub read_where : (j : json.Json) → of_json j ≡ (if has_numbers j then Some (data_of j) else None)
  read_where json.null = refl
  read_where (json.boolean b) = refl
  read_where (json.number s) = number_is s
  read_where (json.string s) = refl
  read_where (json.array js) = ap (option_map array) (items_where js) ∙ mapped array (items_have_numbers js) (items_data js)
  read_where (json.object ms) = ap (option_map object) (members_where ms no_members) ∙ mapped object (members_have_numbers ms) (members_data ms no_members)

  items_where : (js : json.Items) → of_items js ≡ (if items_have_numbers js then Some (items_data js) else None)
  items_where json.no_items = refl
  items_where (json.item j js) =
      ap (option_and_then (λ d. option_map (item d) (of_items js))) (read_where j)
      ∙ ap (λ o. option_and_then (λ d. option_map (item d) o) (if has_numbers j then Some (data_of j) else None)) (items_where js)
      ∙ item_by (has_numbers j) (items_have_numbers js) (data_of j) (items_data js)

  members_where : (ms : json.Members) (found : Members) → of_members ms found ≡ (if members_have_numbers ms then Some (members_data ms found) else None)
  members_where json.no_members found = refl
  members_where (json.member key j ms) found =
      ap (option_and_then (λ d. of_members ms (put key d found))) (read_where j)
      ∙ member_by (has_numbers j) key j ms found (members_where ms (put key (data_of j) found))

-- ---- a whole text

abbrev whole : Option (json.Json × List Token) → Option Data
whole found = option_and_then of_json (option_and_then (λ p. json.if_last p.0 p.1) found)

-- a value whose numbers are in range, with nothing behind it, is what is read
pub whole_read : (text : List ℕ) (j : json.Json) → json.value 127 (tokens text) ≡ Some (j, []) → has_numbers j ≡ true → read text ≡ Some (data_of j)
whole_read text j is in_range = ap whole is ∙ read_where j ∙ ap (λ test. if test then Some (data_of j) else None) in_range

-- ---- tokens that nest no deeper than they may

grouped : (a b c : Bool) → (a && (b && c)) ≡ ((a && b) && c)
grouped true b c = refl
grouped false b c = refl

with_true : (a : Bool) → (a && true) ≡ a
with_true true = refl
with_true false = refl

-- each number is in range, and nothing nests deeper than it may from this level on
abbrev mutual
  is_fit : ℕ → json.Json → Bool
  is_fit level json.null = true
  is_fit level (json.boolean flag) = true
  is_fit level (json.number text) = is_some (number_of text)
  is_fit level (json.string text) = true
  is_fit level (json.array js) = nat_lt level 127 && items_fit (suc level) js
  is_fit level (json.object ms) = nat_lt level 127 && members_fit (suc level) ms

  items_fit : ℕ → json.Items → Bool
  items_fit level json.no_items = true
  items_fit level (json.item j js) = is_fit level j && items_fit level js

  members_fit : ℕ → json.Members → Bool
  members_fit level json.no_members = true
  members_fit level (json.member key j ms) = is_fit level j && members_fit level ms

number_fit : (test : Bool) (level : ℕ) (rest : List Token) → are_fit (if test then Some level else None) rest ≡ (test && are_fit (Some level) rest)
unfolding are_fit
number_fit true level rest = refl
number_fit false level rest = refl

opened : (test more last : Bool) (level : ℕ) (ts : List Token) → are_fit (Some level) ts ≡ (more && last) → are_fit (if test then Some level else None) ts ≡ ((test && more) && last)
unfolding are_fit
opened true more last level ts is = is
opened false more last level ts is = refl

back : (level : ℕ) (rest : List Token) → are_fit (Some (suc level - 1)) rest ≡ are_fit (Some level) rest
back level rest = let less : suc level - 1 ≡ level = omega arith in ap (λ n. are_fit (Some n) rest) less

mutual
  unfolding are_fit

  json_fit : (j : json.Json) (level : ℕ) (rest : List Token) → are_fit (Some level) (json_tokens j ++ rest) ≡ (is_fit level j && are_fit (Some level) rest)
  json_fit json.null level rest = refl
  json_fit (json.boolean flag) level rest = refl
  json_fit (json.number text) level rest = number_fit (is_some (number_of text)) level rest
  json_fit (json.string text) level rest = refl
  json_fit (json.array js) level rest =
      opened (nat_lt level 127) (items_fit (suc level) js) (are_fit (Some level) rest) (suc level) (items_tokens js ++ rest) (inside_items js level rest)
  json_fit (json.object ms) level rest =
      opened (nat_lt level 127) (members_fit (suc level) ms) (are_fit (Some level) rest) (suc level) (members_tokens ms ++ rest) (inside_members ms level rest)

  inside_items : (js : json.Items) (level : ℕ) (rest : List Token) → are_fit (Some (suc level)) (items_tokens js ++ rest) ≡ (items_fit (suc level) js && are_fit (Some level) rest)
  inside_items json.no_items level rest = back level rest
  inside_items (json.item j js) level rest =
      ap (are_fit (Some (suc level))) (append_assoc (json_tokens j) (items_tokens js) rest)
      ∙ json_fit j (suc level) (items_tokens js ++ rest)
      ∙ ap (λ more. is_fit (suc level) j && more) (inside_items js level rest)
      ∙ grouped (is_fit (suc level) j) (items_fit (suc level) js) (are_fit (Some level) rest)

  inside_members : (ms : json.Members) (level : ℕ) (rest : List Token) → are_fit (Some (suc level)) (members_tokens ms ++ rest) ≡ (members_fit (suc level) ms && are_fit (Some level) rest)
  inside_members json.no_members level rest = back level rest
  inside_members (json.member key j ms) level rest =
      ap (are_fit (Some (suc level))) (append_assoc (json_tokens j) (members_tokens ms) rest)
      ∙ json_fit j (suc level) (members_tokens ms ++ rest)
      ∙ ap (λ more. is_fit (suc level) j && more) (inside_members ms level rest)
      ∙ grouped (is_fit (suc level) j) (members_fit (suc level) ms) (are_fit (Some level) rest)

whole_fit : (j : json.Json) → are_fit (Some 0) (json_tokens j) ≡ is_fit 0 j
unfolding are_fit
whole_fit j = ap (are_fit (Some 0)) (sym (append-nil (json_tokens j))) ∙ json_fit j 0 [] ∙ with_true (is_fit 0 j)

is_below : (n : ℕ) → nat_lt n 127 ≡ true → n < 127
is_below n is = grind (arith, nat_tests)

below : (n : ℕ) → n < 127 → nat_lt n 127 ≡ true
below n is = grind (arith, nat_tests)

both : (a b : Bool) → a ≡ true → b ≡ true → (a && b) ≡ true
both a b p q = rw (p, q) refl

mutual
  numbers_fit : (j : json.Json) (level : ℕ) → is_fit level j ≡ true → has_numbers j ≡ true
  numbers_fit json.null level is = refl
  numbers_fit (json.boolean flag) level is = refl
  numbers_fit (json.number text) level is = is
  numbers_fit (json.string text) level is = refl
  numbers_fit (json.array js) level is = items_numbers js (suc level) (and_parts (nat_lt level 127) (items_fit (suc level) js) is).1
  numbers_fit (json.object ms) level is = members_numbers ms (suc level) (and_parts (nat_lt level 127) (members_fit (suc level) ms) is).1

  items_numbers : (js : json.Items) (level : ℕ) → items_fit level js ≡ true → items_have_numbers js ≡ true
  items_numbers json.no_items level is = refl
  items_numbers (json.item j js) level is =
      let parts = and_parts (is_fit level j) (items_fit level js) is in
      both (has_numbers j) (items_have_numbers js) (numbers_fit j level parts.0) (items_numbers js level parts.1)

  members_numbers : (ms : json.Members) (level : ℕ) → members_fit level ms ≡ true → members_have_numbers ms ≡ true
  members_numbers json.no_members level is = refl
  members_numbers (json.member key j ms) level is =
      let parts = and_parts (is_fit level j) (members_fit level ms) is in
      both (has_numbers j) (members_have_numbers ms) (numbers_fit j level parts.0) (members_numbers ms level parts.1)

mutual
  depth_fit : (j : json.Json) (level : ℕ) → level ≤ 127 → is_fit level j ≡ true → depth j + level ≤ 127
  depth_fit json.null level low is = omega arith
  depth_fit (json.boolean flag) level low is = omega arith
  depth_fit (json.number text) level low is = omega arith
  depth_fit (json.string text) level low is = omega arith
  depth_fit (json.array js) level low is =
      let parts = and_parts (nat_lt level 127) (items_fit (suc level) js) is in
      let here : level < 127 = is_below level parts.0 in
      omega (arith, here, items_deep js (suc level) (omega arith) parts.1)
  depth_fit (json.object ms) level low is =
      let parts = and_parts (nat_lt level 127) (members_fit (suc level) ms) is in
      let here : level < 127 = is_below level parts.0 in
      omega (arith, here, members_deep ms (suc level) (omega arith) parts.1)

  items_deep : (js : json.Items) (level : ℕ) → level ≤ 127 → items_fit level js ≡ true → items_depth js + level ≤ 127
  items_deep json.no_items level low is = omega arith
  items_deep (json.item j js) level low is =
      let parts = and_parts (is_fit level j) (items_fit level js) is in
      omega (arith, depth_fit j level low parts.0, items_deep js level low parts.1)

  members_deep : (ms : json.Members) (level : ℕ) → level ≤ 127 → members_fit level ms ≡ true → members_depth ms + level ≤ 127
  members_deep json.no_members level low is = omega arith
  members_deep (json.member key j ms) level low is =
      let parts = and_parts (is_fit level j) (members_fit level ms) is in
      omega (arith, depth_fit j level low parts.0, members_deep ms level low parts.1)

mutual
  fit_by : (j : json.Json) (level : ℕ) → has_numbers j ≡ true → depth j + level ≤ 127 → is_fit level j ≡ true
  fit_by json.null level is low = refl
  fit_by (json.boolean flag) level is low = refl
  fit_by (json.number text) level is low = is
  fit_by (json.string text) level is low = refl
  fit_by (json.array js) level is low = both (nat_lt level 127) (items_fit (suc level) js) (below level (omega arith)) (items_by js (suc level) is (omega arith))
  fit_by (json.object ms) level is low = both (nat_lt level 127) (members_fit (suc level) ms) (below level (omega arith)) (members_by ms (suc level) is (omega arith))

  items_by : (js : json.Items) (level : ℕ) → items_have_numbers js ≡ true → items_depth js + level ≤ 127 → items_fit level js ≡ true
  items_by json.no_items level is low = refl
  items_by (json.item j js) level is low =
      let parts = and_parts (has_numbers j) (items_have_numbers js) is in
      both (is_fit level j) (items_fit level js) (fit_by j level parts.0 (omega arith)) (items_by js level parts.1 (omega arith))

  members_by : (ms : json.Members) (level : ℕ) → members_have_numbers ms ≡ true → members_depth ms + level ≤ 127 → members_fit level ms ≡ true
  members_by json.no_members level is low = refl
  members_by (json.member key j ms) level is low =
      let parts = and_parts (has_numbers j) (members_have_numbers ms) is in
      both (is_fit level j) (members_fit level ms) (fit_by j level parts.0 (omega arith)) (members_by ms level parts.1 (omega arith))

-- ---- what is read of a text

-- a text that is a value
its_value : (found : Option json.Json) → IsSome found → (j : json.Json) × (found ≡ Some j)
its_value None is = absurd (true≢false (sym is))
its_value (Some j) is = (j, refl)

-- a text whose tokens are fit is read as the value that they begin with
pub fit_read : (text : List ℕ) (ts : List Token) → ts ≡ tokens text → IsSome (document text) → are_fit (Some 0) ts ≡ true → read text ≡ Some (view (tree_at ts))
fit_read text ts same there fit =
    let found = its_value (document text) there in
    let j = found.0 in
    let spelled : tokens text ≡ json_tokens j = tokens-document text j found.1 in
    let is : is_fit 0 j ≡ true = sym (whole_fit j) ∙ ap (are_fit (Some 0)) (sym (same ∙ spelled)) ∙ fit in
    let low : depth j ≤ 127 = omega (arith, depth_fit j 0 (omega arith) is) in
    let all : json.value 127 (tokens text) ≡ Some (j, []) = ap (json.value 127) (spelled ∙ sym (append-nil (json_tokens j))) ∙ value-json_tokens j 127 [] low in
    whole_read text j all (numbers_fit j 0 is) ∙ ap (λ i. Some (view i)) (sym (ap tree_at (same ∙ spelled) ∙ tree_again j))

not_fit : (j : json.Json) (test : Bool) → is_fit 0 j ≡ false → depth j ≤ 127 → has_numbers j ≡ test → test ≡ false
not_fit j true is low numbers = absurd (true≢false (sym (fit_by j 0 numbers (omega arith)) ∙ is))
not_fit j false is low numbers = refl

unfit_by : (text : List ℕ) (j : json.Json) (found : Option (json.Json × List Token)) → json.value 127 (tokens text) ≡ found
    → tokens text ≡ json_tokens j → is_fit 0 j ≡ false → whole found ≡ None
unfit_by text j None is spelled not = refl
unfit_by text j (Some (i, t ∷ ts)) is spelled not = refl
unfit_by text j (Some (i, [])) is spelled not =
    let again : tokens text ≡ json_tokens i = value-json_tokens_back 127 (tokens text) [] i is ∙ append-nil (json_tokens i) in
    let same : j ≡ i = sym (tree_again j) ∙ ap tree_at (sym spelled ∙ again) ∙ tree_again i in
    let low : depth i ≤ 127 = value-depth 127 (tokens text) [] i is in
    let differs : has_numbers i ≡ false = not_fit i (has_numbers i) (ap (is_fit 0) (sym same) ∙ not) low refl in
    read_where i ∙ ap (λ test. if test then Some (data_of i) else None) differs

-- one whose tokens are not is not read
pub unfit_read : (text : List ℕ) (ts : List Token) → ts ≡ tokens text → IsSome (document text) → are_fit (Some 0) ts ≡ false → read text ≡ None
unfit_read text ts same there unfit =
    let found = its_value (document text) there in
    let spelled : tokens text ≡ json_tokens found.0 = tokens-document text found.0 found.1 in
    unfit_by text found.0 (json.value 127 (tokens text)) refl spelled (sym (whole_fit found.0) ∙ ap (are_fit (Some 0)) (sym (same ∙ spelled)) ∙ unfit)

none_by : (text : List ℕ) (found : Option (json.Json × List Token)) → json.value 127 (tokens text) ≡ found → document text ≡ None → whole found ≡ None
none_by text None is none = refl
none_by text (Some (i, t ∷ ts)) is none = refl
none_by text (Some (i, [])) is none =
    let again : tokens text ≡ json_tokens i ++ [] = value-json_tokens_back 127 (tokens text) [] i is in
    let low : depth i ≤ 127 = value-depth 127 (tokens text) [] i is in
    let deeper : json.value 128 (tokens text) ≡ Some (i, []) = ap (json.value 128) again ∙ value-json_tokens i 128 [] (omega arith) in
    absurd (let never : Some i ≡ None = sym (ap (λ o. option_and_then (λ p. json.if_last p.0 p.1) o) deeper) ∙ none in cc)

-- nor is a text that is no value
pub none_read : (text : List ℕ) → document text ≡ None → read text ≡ None
none_read text none = none_by text (json.value 127 (tokens text)) refl none

-- bytes that are a text have its tape
pub bytes_read : (tape : Result (List Token) Unread) (bytes text : List ℕ) → GivesTape tape (read text) → text ≡ bytes → IsUtf8 bytes → GivesTape tape (value_read bytes)
bytes_read tape bytes text gives same is = subst (GivesTape tape) (ap read same ∙ sym (value_read_text bytes is)) gives
