-- Whether ids repeat.
use Rattle.std.specs.Prelude.{ℕ, Bool, true, ◌&&◌, not, List, [], ◌∷◌, bytes_eq}
use Rattle.std.specs.List.{list_any}

-- an id is one of these
abbrev pub stands_in : List (List ℕ) → List ℕ → Bool
stands_in ids id = list_any (λ other. bytes_eq other id) ids

-- no id stands twice
unfoldable pub distinct : List (List ℕ) → Bool
distinct [] = true
distinct (id ∷ ids) = not (stands_in ids id) && distinct ids
