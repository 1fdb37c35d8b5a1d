-- An operation outside transactions as a whole: attempts that failed, of which each was made under what is kept of the
-- failures before it, and the one after them.
use Rattle.std.specs.Prelude.{◌≡◌, ℕ, Bool, true, false, List, [], ◌∷◌, ◌++◌, Option, None, Some, IfSome, ◌⊎◌, Result, Ok, Err, nat_lt}
use Rattle.driver_error.specs.declared.error.Error.{Error}
use Rattle.driver_error.specs.declared.kind.ErrorKind.TheVariants as kind
use Rattle.driver_error.specs.Error.{IsAlone}
use Rattle.driver_error.specs.LabelTexts.{no_labels}
use Rattle.driver_link.specs.Clock.{ClockTells}
use Rattle.driver_link.specs.LinkState.{LinkState, setup_of}
use Rattle.driver_session.specs.StoreTells.{StoreTells}
use Rattle.driver_ops.specs.Operations.{Batch, OperationSpec}
use Rattle.driver_ops.specs.SendKinds.{SendKind}
use Rattle.driver_attempt.specs.declared.attempt_end.AttemptEnd.{AttemptEnd}
use Rattle.driver_attempt.specs.declared.attempt_end.AttemptEnd.TheVariants.{Done, Ended, Failed, Stopped, Unfit, Unselected}
use Rattle.retry_rules.specs.declared.failure.AttemptFailure.{AttemptFailure}
use Rattle.driver_attempt.specs.Attempting.{AttemptState, AttemptedOperation, MakesAttempt, attempted_operation, besides_out}
use Rattle.driver_attempt.specs.Concerns.{IsConcernError, concern_of, concern_refusal}
use Rattle.driver_attempt.specs.Holding.{GivesBack, IsBackAt, holds_nothing}
use Rattle.driver_attempt.specs.Moment.{Moment}
use Rattle.retry_rules.specs.Retry.{RetryState, decide, folded}

-- no further attempt is made
abbrev pub limit_reached : Option RetryState → Bool
limit_reached None = false
limit_reached (Some kept) = nat_lt kept.limit kept.attempt

-- what is kept after failures of an operation's attempts, the oldest first
abbrev pub kept_after : {A : Type 0} → AttemptedOperation A → Bool → List AttemptFailure → Result (Option RetryState) Error
kept_after op sharded failures = folded op.retryability sharded None failures

-- an attempt failed, under what is kept of the failures before it
pub record FailsUnder {A : Type 0} (op : AttemptedOperation A) (sharded : Bool) (earlier : List AttemptFailure) (before : AttemptState) (failure : AttemptFailure) (now : AttemptState) : Type 0 where
  pub kept : Option RetryState
  pub kept_is : kept_after op sharded earlier ≡ Ok kept
  pub goes_on : limit_reached kept ≡ false
  pub makes : MakesAttempt op kept before now (Failed failure)

-- attempts that failed one after another, the oldest first, behind earlier ones
abbrev pub AttemptsFail : {A : Type 0} → AttemptedOperation A → Bool → List AttemptFailure → AttemptState → List AttemptFailure → AttemptState → Type 0
AttemptsFail op sharded earlier before [] now = now ≡ before
AttemptsFail op sharded earlier before (failure ∷ failures) now =
    (mid : AttemptState) × (FailsUnder op sharded earlier before failure mid × AttemptsFail op sharded (earlier ++ failure ∷ []) mid failures now)

-- the result of an attempt after which there is no other: where no server was selected the failure that is kept is answered,
-- else the selection's; where nothing may be repeated, or the command could not be built again, the failure that is kept
abbrev pub EndsWith : {A : Type 0} → Option RetryState → AttemptEnd A → Result A Error → Type 0
EndsWith kept (Done output) result = result ≡ Ok output
EndsWith kept (Failed failure) result = ⊥
EndsWith None (Unselected error) result = result ≡ Err error
EndsWith (Some retry) (Unselected error) result = result ≡ Err retry.failure.error
EndsWith None Stopped result = ⊥
EndsWith (Some retry) Stopped result = result ≡ Err retry.failure.error
EndsWith None Unfit result = ⊥
EndsWith (Some retry) Unfit result = result ≡ Err retry.failure.error
EndsWith kept (Ended error) result = result ≡ Err error

-- the last attempt was done, selected no server, stopped, could not build its command again, or ended the operation at once
pub record EndsLast {A : Type 0} (op : AttemptedOperation A) (kept : Option RetryState) (mid now : AttemptState) (result : Result A Error) : Type 0 where
  pub goes_on : limit_reached kept ≡ false
  pub attempt : AttemptEnd A
  pub makes : MakesAttempt op kept mid now attempt
  pub ends : EndsWith kept attempt result

-- no further attempt was made, and the failure that is kept is answered
pub record EndsAtLimit {A : Type 0} (kept : Option RetryState) (mid now : AttemptState) (result : Result A Error) : Type 0 where
  pub retry : RetryState
  pub is : kept ≡ Some retry
  pub reached : limit_reached kept ≡ true
  pub same : now ≡ mid
  pub result_is : result ≡ Err retry.failure.error

-- the last attempt failed, and its failure may not be followed by another: the failure that is kept is answered, or
-- want of memory
pub record EndsNotAllowed {A : Type 0} (op : AttemptedOperation A) (sharded : Bool) (kept : Option RetryState) (mid now : AttemptState) (result : Result A Error) : Type 0 where
  pub goes_on : limit_reached kept ≡ false
  pub failure : AttemptFailure
  pub makes : MakesAttempt op kept mid now (Failed failure)
  pub error : Error
  pub result_is : result ≡ Err error
  pub refused : (decide kept failure op.retryability sharded ≡ Err error) ⊎ IsAlone kind.Memory no_labels error

-- an operation ends with its last attempt, at the limit, or where a failure may not be followed by another attempt
abbrev pub Ends : {A : Type 0} → AttemptedOperation A → Bool → Option RetryState → AttemptState → AttemptState → Result A Error → Type 0
Ends op sharded kept mid now result = EndsLast op kept mid now result ⊎ (EndsAtLimit kept mid now result ⊎ EndsNotAllowed op sharded kept mid now result)

-- the state of an operation that begins
abbrev pub first_state : StoreTells → LinkState → ClockTells → ℕ → Option ℕ → AttemptState
first_state store link clock count fixed =
    record { store = store; link = link; clock = clock; held = holds_nothing; count = count; fixed = fixed }

-- the attempts of an operation: its failures, the oldest first, what is kept of them all, and its end
pub record Attempts {A : Type 0} (op : AttemptedOperation A) (sharded : Bool) (before now : AttemptState) (result : Result A Error) : Type 0 where
  pub failures : List AttemptFailure
  pub mid : AttemptState
  pub fails : AttemptsFail op sharded [] before failures mid
  pub kept : Option RetryState
  pub kept_is : kept_after op sharded failures ≡ Ok kept
  pub ends : Ends op sharded kept mid now result

-- an operation whose concern is refused ends with that error: nothing is asked, drawn, built, sent or counted
pub record RefusesConcern {A : Type 0} (spec : OperationSpec A) (which : SendKind) (before now : Moment) (count count_now : ℕ) (fixed fixed_now : Option ℕ) (result : Result A Error) : Type 0 where
  pub error : Error
  pub result_is : result ≡ Err error
  pub is : IsConcernError (concern_of spec which before.client.options) error
  pub same : now ≡ before
  pub uncounted : count_now ≡ count
  pub unfixed : fixed_now ≡ fixed

-- an operation whose concern is not refused: its attempts, under one kind of send, with a count of all its sends, and with the
-- number of its command's statements, once that is fixed, where the link tells its setup by whether that has routers of shards;
-- then the session that it was lent comes back, at a reading of the clock. The connections that are out, the client's options
-- and the words to come are as before
pub record Proceeds {A : Type 0} (spec : OperationSpec A) (batch : Batch) (which : SendKind) (before now : Moment) (count count_now : ℕ) (fixed fixed_now : Option ℕ) (result : Result A Error) : Type 0 where
  pub accepted : concern_refusal (concern_of spec which before.client.options) ≡ None
  pub sharded : Bool
  pub sharded_is : IfSome (setup_of before.link) (λ setup. sharded ≡ setup.description.sharded)
  pub last : AttemptState
  pub attempts : Attempts (attempted_operation spec batch which (spec.retryability before.client.options) (concern_of spec which before.client.options)) sharded (first_state before.store (besides_out before.link) before.clock count fixed) last result
  pub link_is : besides_out now.link ≡ last.link
  pub out : now.link.out ≡ before.link.out
  pub count_is : count_now ≡ last.count
  pub fixed_is : fixed_now ≡ last.fixed
  pub comes_back : GivesBack last.store now.store last.held.session
  pub back_at : IsBackAt last.store now.store last.held.session comes_back last.clock now.clock
  pub client_is : now.client ≡ before.client
  pub words_are : now.words ≡ before.words

-- an operation outside transactions, with the places of its writes and the number of its command's statements: it is refused
-- for its concern, before anything is asked, else it goes its way
abbrev pub Executes : {A : Type 0} → OperationSpec A → Batch → SendKind → Moment → Moment → ℕ → ℕ → Option ℕ → Option ℕ → Result A Error → Type 0
Executes spec batch which before now count count_now fixed fixed_now result =
    RefusesConcern spec which before now count count_now fixed fixed_now result ⊎ Proceeds spec batch which before now count count_now fixed fixed_now result
