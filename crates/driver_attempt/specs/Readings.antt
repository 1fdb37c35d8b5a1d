-- Readings of a clock, one after another.
use Rattle.std.specs.Prelude.{◌≡◌, ℕ, List, [], ◌∷◌, ◌⊎◌}
use Rattle.driver_link.specs.Clock.{ClockTells, ReadsClock}

-- these are a clock's readings from one moment to another, the oldest first, and nobody slept
abbrev pub ReadsClockBy : ClockTells → ClockTells → List ℕ → Type 0
ReadsClockBy clock now [] = now ≡ clock
ReadsClockBy clock now (reading ∷ readings) = (mid : ClockTells) × (ReadsClock clock mid reading × ReadsClockBy mid now readings)

-- a clock was read once, or not at all
abbrev pub MayRead : ClockTells → ClockTells → Type 0
MayRead clock now = (now ≡ clock) ⊎ ((reading : ℕ) × ReadsClock clock now reading)

-- a clock was only read
pub record OnlyRead (clock now : ClockTells) : Type 0 where
  pub readings : List ℕ
  pub reads : ReadsClockBy clock now readings
