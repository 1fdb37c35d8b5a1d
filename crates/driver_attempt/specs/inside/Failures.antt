-- How an attempt ends by what a call of the link answered, as the functions that end it say.
use Rattle.std.specs.Prelude.{◌≡◌, ℤ, Option, Result, Ok, Err}
use Rattle.driver_error.specs.declared.error.Error.{Error}
use Rattle.driver_error.specs.declared.kind.ErrorKind.TheVariants as kind
use Rattle.driver_error.specs.Error.{IsAlone}
use Rattle.driver_error.specs.LabelTexts.{no_labels}
use Rattle.driver_options.specs.declared.options.Address.{Address}
use Rattle.link_faults.specs.declared.fault.LinkError.{LinkError}
use Rattle.link_faults.specs.declared.fault.LinkError.TheVariants.{Fault, Memory}
use Rattle.driver_session.specs.declared.retryability.Retryability.{Retryability}
use Rattle.driver_session.specs.declared.retryability.Retryability.TheVariants as may
use Rattle.driver_attempt.specs.declared.attempt_end.AttemptEnd.{AttemptEnd}
use Rattle.driver_attempt.specs.declared.attempt_end.AttemptEnd.TheVariants.{Done, Ended, Failed, Unselected}
use Rattle.retry_rules.specs.declared.failure.AttemptFailure.{AttemptFailure}
use Rattle.retry_rules.specs.declared.failure.FailurePhase.{FailurePhase}
use Rattle.retry_rules.specs.declared.failure.FailurePhase.TheVariants.{ConnectionEstablishment, Execution}
use Rattle.driver_attempt.specs.Failures.{IsLabelled, IsFaultOf, IsVersioned, IsLabelledRead}

-- an error that gained the labels of the table, or want of memory
abbrev pub IsLabelledBy : Retryability → Error → Result Error Error → Type 0
IsLabelledBy retryability old (Ok now) = IsLabelled retryability old now
IsLabelledBy retryability old (Err error) = IsAlone kind.Memory no_labels error

-- the error of a failure of the link, or want of memory
abbrev pub FaultError : LinkError → Retryability → Result Error Error → Type 0
FaultError (Fault fault labels) retryability (Ok error) = IsFaultOf fault labels retryability error
FaultError Memory retryability (Ok error) = ⊥
FaultError failure retryability (Err error) = IsAlone kind.Memory no_labels error

-- a failure in a phase, at the server of an address, after a last send under a number, whose error has a property
pub record IsAttemptFailure (phase : FailurePhase) (address : Address) (number : Option ℤ) (P : Error → Type 0) (attempt_failure : AttemptFailure) : Type 0 where
  pub phase_is : attempt_failure.phase ≡ phase
  pub address_is : attempt_failure.address ≡ address
  pub number_is : attempt_failure.number ≡ number
  pub error : P attempt_failure.error

-- an operation ends for want of memory, and its error tells of nothing else
abbrev pub EndsForMemory : {A : Type 0} → AttemptEnd A → Type 0
EndsForMemory (Ended error) = IsAlone kind.Memory no_labels error
EndsForMemory attempt = ⊥

-- the end of an attempt that selected no server
abbrev pub EndsUnselected : {A : Type 0} → LinkError → AttemptEnd A → Type 0
EndsUnselected (Fault fault labels) (Unselected error) = IsFaultOf fault labels may.None error
EndsUnselected failure (Ended error) = IsAlone kind.Memory no_labels error
EndsUnselected failure attempt = ⊥

-- the end of an attempt that had no connection to its server
abbrev pub EndsUnconnected : {A : Type 0} → Retryability → Address → Option ℤ → LinkError → AttemptEnd A → Type 0
EndsUnconnected retryability address number (Fault fault labels) (Failed attempt_failure) = IsAttemptFailure ConnectionEstablishment address number (IsFaultOf fault labels retryability) attempt_failure
EndsUnconnected retryability address number failure (Ended error) = IsAlone kind.Memory no_labels error
EndsUnconnected retryability address number failure attempt = ⊥

-- the end of an attempt whose exchange failed, on a connection of a wire version
abbrev pub EndsLost : {A : Type 0} → Retryability → Option ℤ → Address → Option ℤ → LinkError → AttemptEnd A → Type 0
EndsLost connection_retryability version address number (Fault fault labels) (Failed attempt_failure) = IsAttemptFailure Execution address number (IsVersioned (IsFaultOf fault labels connection_retryability) version) attempt_failure
EndsLost connection_retryability version address number failure (Ended error) = IsAlone kind.Memory no_labels error
EndsLost connection_retryability version address number failure attempt = ⊥

-- the end of an attempt whose reply was read
abbrev pub EndsRead : {A : Type 0} → Retryability → Option ℤ → Address → Option ℤ → Result A Error → AttemptEnd A → Type 0
EndsRead connection_retryability version address number (Ok output) attempt = attempt ≡ Done output
EndsRead connection_retryability version address number (Err read) (Failed attempt_failure) = IsAttemptFailure Execution address number (IsVersioned (IsLabelledRead connection_retryability read) version) attempt_failure
EndsRead connection_retryability version address number (Err read) (Ended error) = IsAlone kind.Memory no_labels error
EndsRead connection_retryability version address number (Err read) attempt = ⊥
