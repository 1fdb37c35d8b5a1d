-- Calls one after another: what holds of each between the moments before and after it.
use Rattle.std.specs.Prelude.{◌≡◌, ℕ, ◌≤◌, List, [], ◌∷◌, ◌++◌, length, IfErr}
use Rattle.driver_link.specs.Clock.{ClockTells, ReadsClock}
use Rattle.driver_attempt.specs.Failures.{MemoryAlone}
use Rattle.driver_attempt.specs.Moment.{Moment}
use Rattle.call_runs.specs.CallMaking.{HasCause, MakesCall}
use Rattle.driver_inputs.specs.declared.call.Call.{Call}
use Rattle.driver_inputs.specs.declared.call.Outcome.{Outcome}

-- a property holds of each call of a list, by the calls before it and between two moments, from the first moment to the last
abbrev pub CallByCall : (List Call → Moment → Moment → Call → Outcome → Type 0) → List Call → List Call → List Outcome → Moment → Moment → Type 0
CallByCall P earlier [] [] before now = now ≡ before
CallByCall P earlier [] (outcome ∷ outcomes) before now = ⊥
CallByCall P earlier (call ∷ calls) [] before now = ⊥
CallByCall P earlier (call ∷ calls) (outcome ∷ outcomes) before now =
    (mid : Moment) × (P earlier before mid call outcome × CallByCall P (earlier ++ call ∷ []) calls outcomes mid now)

-- a moment with another clock
abbrev pub with_clock : Moment → ClockTells → Moment
with_clock moment clock = record moment { clock = clock }

-- a call between two moments: its times are readings of the clock, the next one before it and the last one after it; between
-- these its own writes were executed, each command with one send that went out at most twice, or nothing was asked or sent; it
-- ended with its cause, and an error of want of memory tells of nothing else
pub record CallCaused (number : ℕ) (before now : Moment) (call : Call) (outcome : Outcome) : Type 0 where
  pub first : ClockTells
  pub started : ReadsClock before.clock first outcome.started_ms
  pub clock : ClockTells
  pub ended : ReadsClock clock now.clock outcome.ended_ms
  pub makes : MakesCall (with_clock before first) (with_clock now clock) call number outcome.result
  pub cause : HasCause (with_clock before first) (with_clock now clock) call number outcome.result
  pub memory : IfErr outcome.result (λ error. MemoryAlone error)

-- the times of an outcome are in order, no earlier than the last reading before the call, and the second is the last one after
-- it; nobody slept, and no random word was drawn
pub record IsTimed (before now : Moment) (outcome : Outcome) : Type 0 where
  pub started : before.clock.last ≤ outcome.started_ms
  pub ordered : outcome.started_ms ≤ outcome.ended_ms
  pub ended : now.clock.last ≡ outcome.ended_ms
  pub slept : now.clock.slept ≡ before.clock.slept
  pub words : now.words ≡ before.words

-- each call of a list was made so
abbrev pub HaveCauses : List Call → List Outcome → Moment → Moment → Type 0
HaveCauses calls outcomes before now = CallByCall (λ earlier. CallCaused (length earlier)) [] calls outcomes before now
