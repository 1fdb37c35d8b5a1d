-- Ids that differ from one another, and the first of those that a source will give.
use Rattle.std.specs.Prelude.{◌≡◌, ℕ, zero, suc, ◌+◌, List, [], ◌∷◌}

-- an id is not among these
abbrev pub NotAmong : List ℕ → List (List ℕ) → Type 0
NotAmong id [] = Unit {0}
NotAmong id (other ∷ ids) = (id ≡ other → ⊥) × NotAmong id ids

-- no two ids are equal
abbrev pub AllApart : List (List ℕ) → Type 0
AllApart [] = Unit {0}
AllApart (id ∷ ids) = NotAmong id ids × AllApart ids

-- the first ids of those to come
abbrev pub first_ids : ℕ → (ℕ → List ℕ) → List (List ℕ)
first_ids zero to_come = []
first_ids (suc count) to_come = to_come 0 ∷ first_ids count (λ k. to_come (k + 1))
