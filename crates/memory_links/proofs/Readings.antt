-- A clock in memory reads the next of its readings to come.
use Rattle.std.proofs.Common.{◌≡◌, ℕ, ◌+◌, ◌-◌, ◌*◌, ◌^◌, ◌≤◌, refl, sym, ap, subst, arith}
use Rattle.std.specs.Prelude.{Some}
use Rattle.driver_link.specs.Clock.{ReadsClock, after_reading, capped_sum}
use Rattle.memory_links.specs.MemClock.{ClockState, clock_tells, readings_from}

-- one reading on, the clock has gone on by a step
goes_on : (present step : ℕ) → readings_from (capped_sum present step) step ≡ after_reading (readings_from present step)
goes_on present step = λ i n. one n i
  where
    one : (n : ℕ) → capped_sum (capped_sum present step) (n * step) ≡ capped_sum present ((n + 1) * step)
    one n = let more : (n + 1) * step ≡ n * step + step = omega arith in omega (arith, more)

-- so a reading is the clock's present time
pub reads_clock : (old now : ClockState) (reading : ℕ) → old.last ≤ old.present → old.present ≤ 2 ^ 64 - 1 → reading ≡ old.present
    → now ≡ record old { present = capped_sum old.present old.step; last = old.present } → ReadsClock (clock_tells old) (clock_tells now) reading
reads_clock old now reading before within is now_is =
    subst (ReadsClock (clock_tells old) (clock_tells now)) (sym is)
    (subst (λ c. ReadsClock (clock_tells old) (clock_tells c) old.present) (sym now_is) (record {
      forward = before;
      last_is = refl;
      slept = refl;
      next = (omega (arith, within), ap (λ r. Some r) (goes_on old.present old.step));
    }))
