-- The parts of the loop over attempts, as its functions say them.
use Rattle.std.specs.Prelude.{◌≡◌, Bool, true, false, List, [], ◌∷◌, Option, None, Some, is_some, Result, Ok, Err}
use Rattle.driver_error.specs.declared.error.Error.{Error}
use Rattle.driver_attempt.specs.declared.attempt_end.AttemptEnd.{AttemptEnd}
use Rattle.driver_attempt.specs.declared.attempt_end.AttemptEnd.TheVariants.{Failed, Stopped, Unfit}
use Rattle.retry_rules.specs.declared.failure.AttemptFailure.{AttemptFailure}
use Rattle.driver_attempt.specs.Attempting.{AttemptState, AttemptedOperation, MakesAttempt}
use Rattle.driver_attempt.specs.Executing.{limit_reached}
use Rattle.retry_rules.specs.Retry.{RetryState, decide}

-- the error of the failure that is kept
abbrev pub IsLastError : Option RetryState → Error → Type 0
IsLastError None error = ⊥
IsLastError (Some kept) error = error ≡ kept.failure.error

-- the same, or an error where none is kept
abbrev pub kept_or : Option RetryState → Error → Error
kept_or None error = error
kept_or (Some kept) error = kept.failure.error

-- an attempt failed, or ended otherwise
abbrev pub FailureOf : {A : Type 0} → AttemptEnd A → Result AttemptFailure (AttemptEnd A) → Type 0
FailureOf (Failed failure) result = result ≡ Ok failure
FailureOf end result = result ≡ Err end

-- an end after which there is no other attempt: it did not fail, and one that needs a failure which is kept has one
abbrev pub MayAnswer : {A : Type 0} → Option RetryState → AttemptEnd A → Type 0
MayAnswer kept (Failed failure) = ⊥
MayAnswer kept Stopped = is_some kept ≡ true
MayAnswer kept Unfit = is_some kept ≡ true
MayAnswer kept end = Unit {0}

-- one more failure, after which the decision keeps this
pub record FailsOnce {A : Type 0} (op : AttemptedOperation A) (sharded : Bool) (kept : Option RetryState) (mid : AttemptState) (failure : AttemptFailure) (retry : RetryState) (now : AttemptState) : Type 0 where
  pub goes_on : limit_reached kept ≡ false
  pub makes : MakesAttempt op kept mid now (Failed failure)
  pub decides : decide kept failure op.retryability sharded ≡ Ok retry

-- the loop came to a moment by these failures, the newest first, and keeps this of them
abbrev pub Reaches : {A : Type 0} → AttemptedOperation A → Bool → AttemptState → List AttemptFailure → Option RetryState → AttemptState → Type 0
Reaches op sharded before [] kept now = (kept ≡ None) × (now ≡ before)
Reaches op sharded before (failure ∷ failures) kept now =
    (retry : RetryState) × ((kept ≡ Some retry)
    × ((mid : AttemptState) × ((earlier : Option RetryState) × (Reaches op sharded before failures earlier mid × FailsOnce op sharded earlier mid failure retry now))))
