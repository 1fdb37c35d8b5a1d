-- Batches of a plan one after another, each of which lets the next one be begun: one more behind them, and what comes behind them all.
use Rattle.std.proofs.Common.{◌≡◌, ℕ, ◌+◌, List, [], ◌∷◌, ◌++◌, drop, refl, ap, subst, inl, inr}
use Rattle.std.specs.Prelude.{true, Some}
use Rattle.driver_attempt.specs.Moment.{Moment}
use Rattle.many_actions.specs.BatchPlans.{BatchPlan, GoesOnBehind, MakesAllPlanned, MakesPlanned, PlannedEnd}

-- batches of which each lets the next one be begun, from an index and the writes that are left there to another
abbrev pub MakesFront : {W A : Type 0} → BatchPlan W A → ℕ → ℕ → List W → List (PlannedEnd A) → ℕ → List W → Moment → Moment → Type 0
MakesFront plan call index own [] reached left before now = (now ≡ before) × ((reached ≡ index) × (left ≡ own))
MakesFront plan call index own (end ∷ ends) reached left before now =
    (mid : Moment) × (MakesPlanned plan call index own before mid end
    × GoesOnBehind plan.goes_on (λ later rest. MakesFront plan call later rest ends reached left mid now) index own end)

module _ {W A : Type 0} (plan : BatchPlan W A) (call : ℕ) where
  -- one batch more
  pub front_more : (index : ℕ) (own : List W) (ends : List (PlannedEnd A)) (reached : ℕ) (left : List W) (before mid now : Moment) (end : PlannedEnd A) (count : ℕ)
      → MakesFront plan call index own ends reached left before mid → MakesPlanned plan call reached left mid now end
      → plan.goes_on end.result ≡ true → end.statements ≡ Some count
      → MakesFront plan call index own (ends ++ end ∷ []) (reached + count) (drop count left) before now
  front_more index own [] reached left before mid now end count front makes on told =
      let here : MakesPlanned plan call index own before now end =
      subst (λ m. MakesPlanned plan call index own m now end) front.0
      (subst (λ n. MakesPlanned plan call n own mid now end) front.1.0
      (subst (λ l. MakesPlanned plan call reached l mid now end) front.1.1 makes)) in (
        now,
        (
          here,
          record {
            on = on;
            statements = count;
            told = told;
            rest = (refl, (ap (λ n. n + count) front.1.0, ap (drop count) front.1.1));
          },
        ),
      )
  front_more index own (one ∷ ends) reached left before mid now end count front makes on told =
      let goes = front.1.1 in (
        front.0,
        (
          front.1.0,
          record {
            on = goes.on;
            statements = goes.statements;
            told = goes.told;
            rest = front_more (index + goes.statements) (drop goes.statements own) ends reached left front.0 mid now end count goes.rest makes on told;
          },
        ),
      )

  -- then what comes behind them
  pub front_then : (short : Type 0) (index : ℕ) (own : List W) (ends : List (PlannedEnd A)) (reached : ℕ) (left : List W) (before mid now : Moment) (later : List (PlannedEnd A))
      → MakesFront plan call index own ends reached left before mid → MakesAllPlanned short plan call reached left later mid now
      → MakesAllPlanned short plan call index own (ends ++ later) before now
  front_then short index own [] reached left before mid now later front rest =
      subst (λ m. MakesAllPlanned short plan call index own later m now) front.0
      (subst (λ n. MakesAllPlanned short plan call n own later mid now) front.1.0
      (subst (λ l. MakesAllPlanned short plan call reached l later mid now) front.1.1 rest))
  front_then short index own (one ∷ ends) reached left before mid now later front rest =
      let goes = front.1.1 in (
        front.0,
        (
          front.1.0,
          inl (record {
            on = goes.on;
            statements = goes.statements;
            told = goes.told;
            rest = front_then short (index + goes.statements) (drop goes.statements own) ends reached left front.0 mid now later goes.rest rest;
          }),
        ),
      )

  -- where there was one reason to leave writes without a batch, there is another
  pub short_as : (short other : Type 0) → (short → other) → (index : ℕ) (own : List W) (ends : List (PlannedEnd A)) (before now : Moment)
      → MakesAllPlanned short plan call index own ends before now → MakesAllPlanned other plan call index own ends before now
  short_as short other why index own [] before now made = (made.0, elim made.1 [ inl none ↦ inl none | inr ran ↦ inr (why ran) ])
  short_as short other why index own (end ∷ ends) before now made = (
    made.0,
    (
      made.1.0,
      elim made.1.1 [
        | inl goes ↦ inl (record {
          on = goes.on;
          statements = goes.statements;
          told = goes.told;
          rest = short_as short other why (index + goes.statements) (drop goes.statements own) ends made.0 now goes.rest;
        })
        | inr stops ↦ inr stops
      ],
    ),
  )

  -- batches behind which no write is left are so in a call that ran short too
  pub never_short : (short : Type 0) (index : ℕ) (own : List W) (ends : List (PlannedEnd A)) (before now : Moment)
      → MakesAllPlanned ⊥ plan call index own ends before now → MakesAllPlanned short plan call index own ends before now
  never_short short index own ends before now made = short_as ⊥ short (λ never. absurd never) index own ends before now made
