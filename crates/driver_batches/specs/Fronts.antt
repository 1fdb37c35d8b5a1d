-- Runs of writes, and the fronts of a list of writes. Fits says which runs may go out together.
use Rattle.std.specs.Prelude.{◌≡◌, ℕ, ◌<◌, ◌≤◌, ◌⊎◌, List, [], ◌∷◌, length, take}

-- when the first write of a run that fits has gone, what is left fits or is empty
abbrev pub KeepsFitting : {W : Type 0} → (List W → Type 0) → Type 0
KeepsFitting {W} Fits = (write : W) (rest : List W) → Fits (write ∷ rest) → (rest ≡ []) ⊎ Fits rest

-- the front of this length fits, and no longer front does
pub record IsLongestFront {W : Type 0} (Fits : List W → Type 0) (list : List W) (len : ℕ) : Type 0 where
  pub within : len ≤ length list
  pub fits : Fits (take len list)
  pub longest : (longer : ℕ) → len < longer → longer ≤ length list → Fits (take longer list) → ⊥
