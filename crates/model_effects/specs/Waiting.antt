-- Places that hold something or nothing, as those of waiting sends by the order of their lateness.
use Rattle.std.specs.Prelude.{ℕ, List, Option, None, slice_get, unwrap_or}

-- what stands at a place
abbrev pub waits_at : {A : Type 0} → List (Option A) → ℕ → Option A
waits_at places at = unwrap_or (slice_get places at) None
