-- Counts of statements without a negative number.
use Rattle.std.specs.Prelude.{pos, ◌≤ℤ◌}
use Rattle.driver_link.specs.declared.machine.Counted.{Counted}

-- what a statement counted has no negative number
abbrev pub IsNatural : Counted → Type 0
IsNatural result = (pos 0 ≤ℤ result.n) × (pos 0 ≤ℤ result.modified)
