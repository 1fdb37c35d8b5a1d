-- Whether a signed number is in the range of its type.
use Rattle.std.specs.Prelude.{ℕ, Bool, ℤ, pos, negsuc, nat_lt}

-- the number lies from -limit to limit - 1
abbrev pub fits : ℕ → ℤ → Bool
fits limit (pos n) = nat_lt n limit
fits limit (negsuc n) = nat_lt n limit
