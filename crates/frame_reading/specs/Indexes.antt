-- Indexes in commands as places in lists.
use Rattle.std.specs.Prelude.{ℕ, ℤ, pos, negsuc, Option, None, Some}

-- the place of an index, where it is not negative
abbrev pub place_in : ℤ → Option ℕ
place_in (pos index) = Some index
place_in (negsuc index) = None
