-- What a clock tells, in milliseconds, and what its calls make of it.
use Rattle.std.specs.Prelude.{◌≡◌, ℕ, ◌+◌, ◌-◌, ◌^◌, ◌≤◌, min, Option, None, Some}

-- readings to come, by how many come before
abbrev pub Readings : Type 0
Readings = ℕ → ℕ

-- those behind the next one
abbrev pub after_reading : Readings → Readings
after_reading to_come = λ n. to_come (n + 1)

-- its last reading, the sum of its sleeps, which stops at the greatest u64, and the readings to come until somebody sleeps, where
-- it tells those
pub record ClockTells : Type 0 where
  pub last : ℕ
  pub slept : ℕ
  pub to_come : Option Readings

-- a sum that stops at the greatest u64
abbrev pub capped_sum : ℕ → ℕ → ℕ
capped_sum a b = min (a + b) (2 ^ 64 - 1)

-- a reading is the next to come, where those are told
abbrev pub ReadsNext : Option Readings → Option Readings → ℕ → Type 0
ReadsNext None now reading = now ≡ None
ReadsNext (Some to_come) now reading = (reading ≡ to_come 0) × (now ≡ Some (after_reading to_come))

-- a clock is read once: its reading is no earlier than the last one, and the next to come; nobody sleeps
pub record ReadsClock (clock now : ClockTells) (reading : ℕ) : Type 0 where
  pub forward : clock.last ≤ reading
  pub last_is : now.last ≡ reading
  pub slept : now.slept ≡ clock.slept
  pub next : ReadsNext clock.to_come now.to_come reading

-- somebody sleeps for so many milliseconds; the readings to come may be others
pub record SleepsFor (clock now : ClockTells) (ms : ℕ) : Type 0 where
  pub last : now.last ≡ clock.last
  pub slept : now.slept ≡ capped_sum clock.slept ms
