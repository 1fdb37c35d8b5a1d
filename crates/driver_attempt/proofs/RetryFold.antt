-- What the loop decides after its failures, one after another, is one fold over them.
use Rattle.std.proofs.Common.{◌≡◌, List, [], ◌∷◌, ◌++◌, append-nil, append_assoc, refl, sym, ap, subst, ◌∙◌}
use Rattle.std.proofs.lemmas.List.{reverse-append}
use Rattle.std.specs.Prelude.{Bool, false, reverse, Option, None, Some, Result, Ok, Err}
use Rattle.driver_error.specs.declared.error.Error.{Error}
use Rattle.driver_session.specs.declared.retryability.Retryability.{Retryability}
use Rattle.driver_attempt.specs.declared.attempt_end.AttemptEnd.TheVariants.{Failed}
use Rattle.retry_rules.specs.declared.failure.AttemptFailure.{AttemptFailure}
use Rattle.driver_attempt.specs.Attempting.{AttemptState, AttemptedOperation, MakesAttempt}
use Rattle.driver_attempt.specs.Executing.{Attempts, AttemptsFail, Ends, FailsUnder, kept_after, limit_reached}
use Rattle.retry_rules.specs.Retry.{RetryState, and_then, decide, folded}
use Rattle.driver_attempt.specs.inside.Executing.{Reaches}

-- what the fold keeps is one value
one_kept : (first second : Option RetryState) → ◌≡◌ {A = Result (Option RetryState) Error} (Ok first) (Ok second) → first ≡ second
one_kept first second is = cc

-- an error is no such value
none_kept : (error : Error) (kept : Option RetryState) → ◌≡◌ {A = Result (Option RetryState) Error} (Err error) (Ok kept) → ⊥
none_kept error kept is = cc

-- a fold over more failures goes on from what is kept of the first ones
folded_on : (retryability : Retryability) (sharded : Bool) (first more : List AttemptFailure) (kept mid : Option RetryState) → folded retryability sharded kept first ≡ Ok mid
    → folded retryability sharded kept (first ++ more) ≡ folded retryability sharded mid more
folded_on retryability sharded [] more kept mid is = ap (λ k. folded retryability sharded k more) (one_kept kept mid is)
folded_on retryability sharded (failure ∷ failures) more kept mid is =
    elim (decide kept failure retryability sharded)
    as (λ d. and_then d (λ retry. folded retryability sharded (Some retry) failures) ≡ Ok mid → and_then d (λ retry. folded retryability sharded (Some retry) (failures ++ more)) ≡ folded retryability sharded mid more) [
      | Ok retry ↦ λ goes. folded_on retryability sharded failures more (Some retry) mid goes
      | Err error ↦ λ goes. absurd (none_kept error mid goes)
    ] is

module _ {A : Type 0} (op : AttemptedOperation A) (sharded : Bool) where
  -- after one failure more this is kept
  kept_more : (earlier : List AttemptFailure) (failure : AttemptFailure) (kept : Option RetryState) (retry : RetryState) → kept_after op sharded earlier ≡ Ok kept
      → decide kept failure op.retryability sharded ≡ Ok retry → kept_after op sharded (earlier ++ failure ∷ []) ≡ Ok (Some retry)
  kept_more earlier failure kept retry kept_is decides =
      folded_on op.retryability sharded earlier (failure ∷ []) None kept kept_is ∙ ap (λ d. and_then d (λ r. Ok (Some r))) decides

  -- one attempt more that failed, behind the others
  fails_more : (earlier : List AttemptFailure) (before mid now : AttemptState) (failures : List AttemptFailure) (failure : AttemptFailure)
      → AttemptsFail op sharded earlier before failures mid → FailsUnder op sharded (earlier ++ failures) mid failure now
      → AttemptsFail op sharded earlier before (failures ++ failure ∷ []) now
  fails_more earlier before mid now [] failure fails under =
      (now, (subst (λ s. FailsUnder op sharded earlier s failure now) fails (subst (λ e. FailsUnder op sharded e mid failure now) (append-nil earlier) under), refl))
  fails_more earlier before mid now (first ∷ failures) failure fails under = (
    fails.0,
    (
      fails.1.0,
      fails_more (earlier ++ first ∷ []) fails.0 mid now failures failure fails.1.1
          (subst (λ e. FailsUnder op sharded e mid failure now) (sym (append_assoc earlier (first ∷ []) failures)) under),
    ),
  )

  -- attempts that failed one after another, and what is kept of them all
  record Folds (before : AttemptState) (failures : List AttemptFailure) (kept : Option RetryState) (now : AttemptState) : Type 0 where
    fails : AttemptsFail op sharded [] before failures now
    kept_is : kept_after op sharded failures ≡ Ok kept

  -- the failures of the loop in the order in which they came
  folds : (before : AttemptState) (failures : List AttemptFailure) (kept : Option RetryState) (now : AttemptState) → Reaches op sharded before failures kept now
      → Folds before (reverse failures) kept now
  folds before [] kept now reaches = record { fails = reaches.1; kept_is = ap (λ k. Ok k) (sym reaches.0) }
  folds before (failure ∷ failures) kept now reaches =
      let retry = reaches.0 in
      let mid = reaches.1.1.0 in
      let rest = reaches.1.1.1 in
      let once = rest.1.1 in
      let came = folds before failures rest.0 mid rest.1.0 in
      subst (λ all. Folds before all kept now) (sym (reverse-append (failure ∷ []) failures)) (record {
        fails = fails_more [] before mid now (reverse failures) failure came.fails (record { kept = rest.0; kept_is = came.kept_is; goes_on = once.goes_on; makes = once.makes });
        kept_is = kept_more (reverse failures) failure rest.0 retry came.kept_is once.decides ∙ ap (λ k. Ok k) (sym reaches.1.0);
      })

  -- so the loop makes the attempts of an operation
  pub attempts_of : (before : AttemptState) (failures : List AttemptFailure) (kept : Option RetryState) (mid now : AttemptState) (result : Result A Error)
      → Reaches op sharded before failures kept mid → Ends op sharded kept mid now result → Attempts op sharded before now result
  attempts_of before failures kept mid now result reaches ends =
      let came = folds before failures kept mid reaches in
      record { failures = reverse failures; mid = mid; fails = came.fails; kept = kept; kept_is = came.kept_is; ends = ends }

  -- a loop came to a moment, and keeps this
  abbrev pub Came : AttemptState → Option RetryState → AttemptState → Type 0
  Came before kept now = (failures : List AttemptFailure) × Reaches op sharded before failures kept now

  -- from where a loop came so far it comes by each further failure to the next moment
  comes_on : (start before now : AttemptState) (done : List AttemptFailure) (kept last : Option RetryState) → Reaches op sharded start done kept before
      → (earlier : List AttemptFailure) → kept_after op sharded earlier ≡ Ok kept → (failures : List AttemptFailure) → AttemptsFail op sharded earlier before failures now
      → folded op.retryability sharded kept failures ≡ Ok last → Came start last now
  comes_on start before now done kept last reaches earlier kept_is [] fails is =
      (done, subst (λ s. Reaches op sharded start done last s) (sym fails) (subst (λ k. Reaches op sharded start done k before) (one_kept kept last is) reaches))
  comes_on start before now done kept last reaches earlier kept_is (failure ∷ failures) fails is =
      let mid = fails.0 in
      let under = fails.1.0 in
      let same = one_kept under.kept kept (sym under.kept_is ∙ kept_is) in
      let goes_on = subst (λ k. limit_reached k ≡ false) same under.goes_on in
      let makes = subst (λ k. MakesAttempt op k before mid (Failed failure)) same under.makes in
      elim (decide kept failure op.retryability sharded)
      as (λ d. decide kept failure op.retryability sharded ≡ d → and_then d (λ retry. folded op.retryability sharded (Some retry) failures) ≡ Ok last → Came start last now) [
        | Ok retry ↦ λ decides goes.
            comes_on start mid now (failure ∷ done) (Some retry) last
            (retry, (refl, (before, (kept, (reaches, record { goes_on = goes_on; makes = makes; decides = decides }))))) (earlier ++ failure ∷ [])
            (kept_more earlier failure kept retry kept_is decides) failures fails.1.1 goes
        | Err error ↦ λ decides goes. absurd (none_kept error last goes)
      ] refl is

  -- so the attempts of an operation are those of a loop
  pub came_of : (before now : AttemptState) (result : Result A Error) (attempts : Attempts op sharded before now result) → Came before attempts.kept attempts.mid
  came_of before now result attempts =
      comes_on before before attempts.mid [] None attempts.kept (refl, refl) [] refl attempts.failures attempts.fails attempts.kept_is
