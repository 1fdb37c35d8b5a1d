-- Whether an operation that failed is tried again, and which of its failures is kept.
use Rattle.std.specs.Prelude.{◌≡◌, ℕ, ℤ, ◌+◌, ◌-◌, ◌^◌, min, Bool, true, false, ◌&&◌, ◌||◌, ◌==◌, not, List, [], ◌∷◌, ◌++◌, Option, None, Some, is_some, ◌⊎◌, Result, Ok, Err, if◌then◌else◌}
use Rattle.std.specs.List.{list_any}
use Rattle.std.specs.Str.{bytes_eq}
use Rattle.driver_error.specs.declared.error.Error.{Error}
use Rattle.driver_error.specs.declared.kind.ErrorKind.TheVariants.{Memory}
use Rattle.driver_error.specs.declared.labels.TheConstants.{NO_WRITES_PERFORMED, RETRYABLE_WRITE_ERROR}
use Rattle.driver_error.specs.Chains.{contains_label}
use Rattle.driver_error.specs.Error.{IsAlone, labels_of}
use Rattle.driver_error.specs.LabelTexts.{has_label, no_labels}
use Rattle.driver_error.specs.Predicates.{is_server_error, is_read_retryable, is_write_retryable}
use Rattle.driver_options.specs.declared.options.Address.{Address}
use Rattle.driver_session.specs.declared.retryability.Retryability.{Retryability}
use Rattle.driver_session.specs.declared.retryability.Retryability.TheVariants.{Write}
use Rattle.retry_rules.specs.declared.failure.AttemptFailure.{AttemptFailure}
use Rattle.retry_rules.specs.declared.failure.Failure.{Failure}
use Rattle.retry_rules.specs.declared.failure.FailurePhase.{FailurePhase}
use Rattle.retry_rules.specs.declared.failure.FailurePhase.TheVariants.{ConnectionEstablishment, Execution}
use Rattle.retry_rules.specs.OldDeployment.{reworded}

-- what is kept from failed attempts: the number of the next retry, how many there may be, a failure, the first
-- transaction number, and the servers to be avoided, the oldest first
pub record RetryState : Type 0 where
  pub attempt : ℕ
  pub limit : ℕ
  pub failure : Failure
  pub number : Option ℤ
  pub deprioritized : List Address

-- a write may go out where there was no connection, or a number was sent
abbrev pub may_be_sent : FailurePhase → Option ℤ → Bool
may_be_sent ConnectionEstablishment number = true
may_be_sent Execution number = is_some number

-- a failure after which the operation may be tried again: the error itself, and not one below it, has the label
-- of a retryable write, and the operation is a write that may be repeated and may be sent
unfoldable pub may_be_retried : AttemptFailure → Retryability → Bool
may_be_retried failure Write = has_label (labels_of failure.error) RETRYABLE_WRITE_ERROR.now && may_be_sent failure.phase failure.number
may_be_retried failure other = false

-- an error that tells of performed writes: neither it nor one below it says that no write was performed, and it
-- is a server's, or one after which a read or a write may be tried again
unfoldable pub tells_writes_performed : Error → Bool
tells_writes_performed error = not (contains_label NO_WRITES_PERFORMED.now error) && (is_server_error error || is_read_retryable error || is_write_retryable error)

-- without a connection no write was performed
abbrev pub tells_in : FailurePhase → Error → Bool
tells_in ConnectionEstablishment error = false
tells_in Execution error = tells_writes_performed error

-- a failure indicates that writes were performed
unfoldable pub indicates_writes_performed : Failure → Bool
indicates_writes_performed failure = tells_in failure.phase failure.error

-- the kept failure stays where it indicates performed writes and the new one does not
unfoldable pub stays : Failure → Failure → Bool
stays kept new = indicates_writes_performed kept && not (indicates_writes_performed new)

-- of a kept failure and a new one the one that is kept
abbrev pub failure_kept : Failure → Failure → Failure
failure_kept kept new = if stays kept new then kept else new

-- the first number is kept
abbrev pub number_kept : Option ℤ → Option ℤ → Option ℤ
number_kept None new = new
number_kept (Some number) new = Some number

-- the server at this address
abbrev pub is_server : Address → Address → Bool
is_server address server = bytes_eq server.host address.host && server.port == address.port

-- the servers with one more, each once
unfoldable pub with_server : Address → List Address → List Address
with_server address servers = if list_any (is_server address) servers then servers else servers ++ address ∷ []

-- one attempt more; the count stands still at its end
abbrev pub one_more : ℕ → ℕ
one_more attempt = min (attempt + 1) (2 ^ 32 - 1)

-- of a failure of an attempt its error and its phase
abbrev pub in_phase : AttemptFailure → Failure
in_phase failure = record { error = failure.error; phase = failure.phase }

-- the first failure makes the first attempt to retry, of one
abbrev pub after_first : AttemptFailure → RetryState
after_first failure = record { attempt = 1; limit = 1; failure = in_phase failure; number = failure.number; deprioritized = [] }

-- each further failure makes one more
unfoldable pub after_further : RetryState → AttemptFailure → RetryState
after_further kept failure =
    record kept { attempt = one_more kept.attempt; failure = failure_kept kept.failure (in_phase failure); number = number_kept kept.number failure.number }

-- what is kept after a failure
unfoldable pub after : Option RetryState → AttemptFailure → RetryState
after None failure = after_first failure
after (Some kept) failure = after_further kept failure

-- on a sharded link the server that failed is avoided
unfoldable pub avoiding : Bool → Address → RetryState → RetryState
avoiding sharded address kept = if sharded then record kept { deprioritized = with_server address kept.deprioritized } else kept

-- the failure in words for the caller
abbrev pub reworded_failure : AttemptFailure → AttemptFailure
reworded_failure failure = record failure { error = reworded failure.error }

-- the next retry after a failure in words for the caller, or the error of the failure that is kept where it may not be
-- tried again
abbrev pub decide_reworded : Option RetryState → AttemptFailure → Retryability → Bool → Result RetryState Error
decide_reworded kept failure retryability sharded =
    if may_be_retried failure retryability
    then Ok (avoiding sharded failure.address (after kept failure))
    else Err (after kept failure).failure.error

-- the same, once the failure is in words for the caller
unfoldable pub decide : Option RetryState → AttemptFailure → Retryability → Bool → Result RetryState Error
decide kept failure retryability sharded = decide_reworded kept (reworded_failure failure) retryability sharded

-- a call gives what is decided, or want of memory
abbrev pub Decides : Result RetryState Error → Result RetryState Error → Type 0
Decides decision (Ok retry) = decision ≡ Ok retry
Decides decision (Err error) = (decision ≡ Err error) ⊎ IsAlone Memory no_labels error

-- what comes after a decision that allows a further attempt
abbrev pub and_then : Result RetryState Error → (RetryState → Result (Option RetryState) Error) → Result (Option RetryState) Error
and_then (Ok retry) rest = rest retry
and_then (Err error) rest = Err error

-- what is decided after failures, the oldest first: what is then kept, where each of them may be followed by another
-- attempt, or the error of the first that may not
abbrev pub folded : Retryability → Bool → Option RetryState → List AttemptFailure → Result (Option RetryState) Error
folded retryability sharded kept [] = Ok kept
folded retryability sharded kept (failure ∷ failures) = and_then (decide kept failure retryability sharded) (λ retry. folded retryability sharded (Some retry) failures)
