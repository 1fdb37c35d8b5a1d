-- Writing into bytes from a place on.
use Rattle.std.specs.Prelude.{◌≡◌, ℕ, ◌+◌, ◌≤◌, List, ◌++◌, length, take}

-- there is room for the part from this place on
abbrev pub HasRoom : List ℕ → ℕ → List ℕ → Type 0
HasRoom part at bytes = at + length part ≤ length bytes

-- the part stands from this place on, up to the end; before it stands what stood there
abbrev pub Puts : List ℕ → ℕ → List ℕ → List ℕ → ℕ → Type 0
Puts part at old new end = (end ≡ at + length part) × (take end new ≡ take at old ++ part) × (length new ≡ length old)
