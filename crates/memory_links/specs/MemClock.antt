-- A clock in memory.
use Rattle.std.specs.Prelude.{ℕ, ◌*◌, Some}
use Rattle.driver_link.specs.Clock.{ClockTells, Readings, capped_sum}

-- its present time, what a reading adds to it, its last reading, and the sum of its sleeps
pub record ClockState : Type 0 where
  pub present : ℕ
  pub step : ℕ
  pub last : ℕ
  pub slept : ℕ

-- the readings of a clock that goes on from a time by a step each time, as far as a u64 goes
abbrev pub readings_from : ℕ → ℕ → Readings
readings_from present step = λ n. capped_sum present (n * step)

-- what it tells
abbrev pub clock_tells : ClockState → ClockTells
clock_tells clock = record { last = clock.last; slept = clock.slept; to_come = Some (readings_from clock.present clock.step) }
