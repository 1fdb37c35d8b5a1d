-- Flags of the ops of a batch, by their indexes.
use Rattle.std.specs.Prelude.{ℕ, Bool, false, List, slice_get, unwrap_or}

-- the flag at an index, which is not set where there is none
abbrev pub flag_at : List Bool → ℕ → Bool
flag_at flags index = unwrap_or (slice_get flags index) false
