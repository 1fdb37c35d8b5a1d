-- The results of the statements that ran, by their positions.
use Rattle.std.specs.Prelude.{ℕ, ◌+◌, Bool, true, false, List, [], ◌∷◌}
use Rattle.driver_link.specs.declared.machine.Counted.{Counted}
use Rattle.driver_link.specs.declared.machine.Statement.{Statement}
use Rattle.driver_link.specs.declared.machine.Statement.TheVariants.{Kept, Ran, Failed}

-- the result of a statement that ran, with its position, beside those of the later ones
abbrev pub ran_by : ℕ → Statement → List (ℕ × Counted) → List (ℕ × Counted)
ran_by at (Ran result) rest = (at, result) ∷ rest
ran_by at other rest = rest

-- the results of the statements that ran, the first at a position
unfoldable pub ran_at : ℕ → List Statement → List (ℕ × Counted)
ran_at at [] = []
ran_at at (statement ∷ done) = ran_by at statement (ran_at (at + 1) done)

-- whether a statement runs first, by the later ones where it was kept
abbrev pub first_by : Statement → Bool → Bool
first_by (Ran result) rest = true
first_by (Failed code) rest = false
first_by (Kept result) rest = rest

-- a statement ran, and none before it failed
unfoldable pub runs_first : List Statement → Bool
runs_first [] = false
runs_first (statement ∷ done) = first_by statement (runs_first done)
