-- What reading takes and what writing leaves, where it is told.
use Rattle.std.specs.Prelude.{◌≡◌, ℕ, List, [], ◌++◌, Option, None, Some}

-- a piece was the front of what was left; a source that tells nothing tells nothing afterwards
abbrev pub Consumes : Option (List ℕ) → Option (List ℕ) → List ℕ → Type 0
Consumes None now piece = now ≡ None
Consumes (Some left) None piece = ⊥
Consumes (Some left) (Some rest) piece = left ≡ piece ++ rest

-- nothing was left
abbrev pub IsAtEnd : Option (List ℕ) → Type 0
IsAtEnd None = Unit {0}
IsAtEnd (Some left) = left ≡ []

-- a piece was put behind what stood there
abbrev pub Appends : Option (List ℕ) → Option (List ℕ) → List ℕ → Type 0
Appends None now piece = now ≡ None
Appends (Some stood) now piece = now ≡ Some (stood ++ piece)
