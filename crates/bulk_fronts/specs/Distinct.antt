-- Texts in the order of their first use, each once, and the number of a text among them.
use Rattle.std.specs.Prelude.{◌≡◌, ℕ, suc, Bool, true, not, ◌&&◌, List, [], ◌∷◌, ◌++◌, length, Option, None, Some, bytes_eq, unwrap_or, if◌then◌else◌}
use Rattle.std.specs.List.{list_any}
use Rattle.std.specs.Option.{option_map}

-- the number of a text among others, from 0
abbrev pub number_in : List (List ℕ) → List ℕ → Option ℕ
number_in [] text = None
number_in (other ∷ texts) text = if bytes_eq text other then Some 0 else option_map (λ number. suc number) (number_in texts text)

-- a text behind others, where it has no number among them
abbrev pub with_text_by : Option ℕ → List (List ℕ) → List ℕ → List (List ℕ)
with_text_by None texts text = texts ++ text ∷ []
with_text_by (Some number) texts text = texts

-- the same by looking for its number
unfoldable pub with_text : List (List ℕ) → List ℕ → List (List ℕ)
with_text texts text = with_text_by (number_in texts text) texts text

-- texts behind others, each where it is first used
unfoldable pub distinct_with : List (List ℕ) → List (List ℕ) → List (List ℕ)
distinct_with texts [] = texts
distinct_with texts (text ∷ rest) = distinct_with (with_text texts text) rest

-- texts in the order of their first use
abbrev pub distinct : List (List ℕ) → List (List ℕ)
distinct texts = distinct_with [] texts

-- the number that a text has among others, or gets behind them
abbrev pub number_of : List (List ℕ) → List ℕ → ℕ
number_of texts text = unwrap_or (number_in texts text) (length texts)

-- a text is one of these
abbrev pub stands_among : List (List ℕ) → List ℕ → Bool
stands_among texts text = list_any (λ other. bytes_eq text other) texts

-- no text stands twice
abbrev pub all_differ : List (List ℕ) → Bool
all_differ [] = true
all_differ (text ∷ texts) = not (stands_among texts text) && all_differ texts

-- the texts of a front in the order of their first use: none stands twice, they are those of the front and no others, and those of a
-- longer list go on behind them
pub record KeepsFirstUses (front rest : List (List ℕ)) : Type 0 where
  pub once : all_differ (distinct front) ≡ true
  pub same : (text : List ℕ) → stands_among (distinct front) text ≡ stands_among front text
  pub more : List (List ℕ)
  pub goes_on : distinct (front ++ rest) ≡ distinct front ++ more
