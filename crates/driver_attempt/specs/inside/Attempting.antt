-- The parts of an attempt, as the functions that make it say them.
use Rattle.std.specs.Prelude.{◌≡◌, ℕ, ◌+◌, ℤ, Bool, true, false, List, Option, Some, ◌⊎◌, Result, Ok, Err}
use Rattle.driver_error.specs.declared.error.Error.{Error}
use Rattle.driver_error.specs.declared.kind.ErrorKind.TheVariants as kind
use Rattle.driver_error.specs.Error.{IsAlone, kind_of}
use Rattle.driver_error.specs.LabelTexts.{no_labels}
use Rattle.driver_options.specs.declared.concerns.WriteConcern.{WriteConcern}
use Rattle.driver_options.specs.declared.options.Address.{Address}
use Rattle.driver_options.specs.declared.options.Conn.{Conn}
use Rattle.link_faults.specs.declared.fault.LinkError.{LinkError}
use Rattle.driver_link.specs.declared.machine.Place.{Place}
use Rattle.driver_link.specs.Clock.{ClockTells}
use Rattle.driver_link.specs.Framed.{Framed}
use Rattle.driver_link.specs.LinkCalls.{ExchangesFrame}
use Rattle.driver_link.specs.LinkState.{LinkState}
use Rattle.driver_session.specs.declared.retryability.Retryability.{Retryability}
use Rattle.driver_session.specs.StoreTells.{StoreTells}
use Rattle.driver_ops.specs.Fields.{in_context}
use Rattle.driver_ops.specs.Operations.{Batch, OperationSpec, Refuses}
use Rattle.driver_ops.specs.SendKinds.{SendKind}
use Rattle.driver_attempt.specs.declared.attempt_end.AttemptEnd.{AttemptEnd}
use Rattle.driver_attempt.specs.declared.attempt_end.AttemptEnd.TheVariants.{Ended, Unfit}
use Rattle.driver_attempt.specs.AttemptExchanges.{AttemptExchanges, Exchanges}
use Rattle.driver_attempt.specs.Holding.{DrawsNumber, ExecutionSession, held_after_failure, held_id, number_before}
use Rattle.driver_attempt.specs.Attempting.{AttemptState, LacksFrame, MayFix, besides_out, builds_again}
use Rattle.driver_attempt.specs.Failures.{is_memory}
use Rattle.driver_attempt.specs.inside.Failures.{EndsLost, EndsRead}

-- the state of attempts, from what store, link and clock tell, what is held, the count, and the number of statements that is fixed
abbrev pub attempt_state : StoreTells → LinkState → ClockTells → ExecutionSession → ℕ → Option ℕ → AttemptState
attempt_state store link clock held count fixed =
    record { store = store; link = besides_out link; clock = clock; held = held; count = count; fixed = fixed }

-- what comes of a reply to a last send of so many statements under a number: the answer was read, further pages of it over the
-- connection under the session that is held
pub record ComesOfReply {A : Type 0} (spec : OperationSpec A) (statements : ℕ) (link link_now : LinkState) (connection_retryability : Retryability) (conn : Conn) (address : Address) (held held_now : ExecutionSession) (reply : List ℕ)
    (attempt : AttemptEnd A) : Type 0 where
  pub answer : Result A Error
  pub exchanges : AttemptExchanges spec statements reply conn (held_id held) link link_now held held_now answer
  pub ends : EndsRead connection_retryability conn.description.max_wire_version address (number_before held) answer attempt

-- what comes of an exchange that failed: nothing more went out
pub record ComesOfFailure {A : Type 0} (link link_now : LinkState) (connection_retryability : Retryability) (conn : Conn) (address : Address) (held held_now : ExecutionSession) (failure : LinkError) (attempt : AttemptEnd A) : Type 0 where
  pub same : link_now ≡ link
  pub held_is : held_now ≡ held_after_failure failure held
  pub ends : EndsLost connection_retryability conn.description.max_wire_version address (number_before held) failure attempt

-- what comes of an exchange, by its result
abbrev pub Comes : {A : Type 0} → OperationSpec A → ℕ → LinkState → LinkState → Retryability → Conn → Address → ExecutionSession → ExecutionSession → Result (List ℕ) LinkError → AttemptEnd A → Type 0
Comes spec statements link link_now connection_retryability conn address held held_now (Ok reply) attempt =
    ComesOfReply spec statements link link_now connection_retryability conn address held held_now reply attempt
Comes spec statements link link_now connection_retryability conn address held held_now (Err failure) attempt =
    ComesOfFailure link link_now connection_retryability conn address held held_now failure attempt

-- one exchange of a frame of so many statements over a connection, and what came of it
pub record ExchangesOnce {A : Type 0} (spec : OperationSpec A) (statements : ℕ) (link link_now : LinkState) (connection_retryability : Retryability) (conn : Conn) (address : Address) (frame : Framed) (places : List Place)
    (held held_now : ExecutionSession) (attempt : AttemptEnd A) : Type 0 where
  pub result : Result (List ℕ) LinkError
  pub behind : LinkState
  pub exchanges : ExchangesFrame link behind conn frame places result
  pub comes : Comes spec statements behind link_now connection_retryability conn address held held_now result attempt

-- one exchange of the command under what is held, and what came of it
pub record Exchanging {A : Type 0} (spec : OperationSpec A) (which : SendKind) (concern : Option WriteConcern) (batch : Batch) (link link_now : LinkState) (connection_retryability : Retryability) (conn : Conn) (address : Address)
    (held held_now : ExecutionSession) (attempt : AttemptEnd A) : Type 0 where
  pub result : Result (List ℕ) LinkError
  pub behind : LinkState
  pub exchanges : Exchanges spec which batch link behind conn (in_context (held_id held) (number_before held) concern) result
  pub comes : Comes spec batch.statements behind link_now connection_retryability conn address held held_now result attempt

-- the end of an attempt whose build was refused, or met want of memory: a first build's refusal ends the operation as it is, want
-- of memory with that alone
abbrev pub EndsUnbuilt : {A : Type 0} → Bool → Error → AttemptEnd A → Type 0
EndsUnbuilt again error (Ended now) =
    ((now ≡ error) × (again ≡ false) × (is_memory (kind_of error) ≡ false)) ⊎ (IsAlone kind.Memory no_labels now × (is_memory (kind_of error) ≡ true))
EndsUnbuilt again error Unfit = (again ≡ true) × (is_memory (kind_of error) ≡ false)
EndsUnbuilt again error attempt = ⊥

-- there was no number, and nothing went out
pub record EndsUnnumbered {A : Type 0} (link link_now : LinkState) (connection_retryability : Retryability) (held held_now : ExecutionSession) (count count_now : ℕ) (fixed fixed_now : Option ℕ) (attempt : AttemptEnd A) : Type 0 where
  pub error : Error
  pub draws : DrawsNumber held.sent connection_retryability held held_now (Err error)
  pub link_is : link_now ≡ link
  pub uncounted : count_now ≡ count
  pub unfixed : fixed_now ≡ fixed
  pub ends : attempt ≡ Ended error

-- there was a number and no frame under it, and nothing went out
pub record EndsUnframed {A : Type 0} (spec : OperationSpec A) (concern : Option WriteConcern) (again : Bool) (link link_now : LinkState) (connection_retryability : Retryability) (conn : Conn) (held held_now : ExecutionSession)
    (count count_now : ℕ) (fixed fixed_now : Option ℕ) (attempt : AttemptEnd A) : Type 0 where
  pub error : Error
  pub number : Option ℤ
  pub draws : DrawsNumber held.sent connection_retryability held held_now (Ok number)
  pub why : ((builds_again again held ≡ false) × Refuses spec fixed conn.description error × (fixed_now ≡ fixed)) ⊎ (LacksFrame spec (in_context (held_id held_now) number concern) conn.description fixed fixed_now error ⊎ (IsAlone kind.Memory no_labels error × MayFix spec conn.description fixed fixed_now))
  pub link_is : link_now ≡ link
  pub uncounted : count_now ≡ count
  pub ends : attempt ≡ Ended error

-- there was a number, and the command could not be built again
pub record EndsUnfit {A : Type 0} (spec : OperationSpec A) (again : Bool) (link link_now : LinkState) (connection_retryability : Retryability) (conn : Conn) (held held_now : ExecutionSession)
    (count count_now : ℕ) (fixed fixed_now : Option ℕ) (attempt : AttemptEnd A) : Type 0 where
  pub error : Error
  pub number : Option ℤ
  pub draws : DrawsNumber held.sent connection_retryability held held_now (Ok number)
  pub again_is : builds_again again held ≡ true
  pub refused : Refuses spec fixed conn.description error
  pub link_is : link_now ≡ link
  pub uncounted : count_now ≡ count
  pub unfixed : fixed_now ≡ fixed
  pub ends : attempt ≡ Unfit

-- the command went out under its number, with as many statements as a build for the connection takes, which are fixed then
pub record SendsOut {A : Type 0} (spec : OperationSpec A) (which : SendKind) (concern : Option WriteConcern) (batch : Batch) (link link_now : LinkState) (connection_retryability : Retryability) (conn : Conn) (address : Address)
    (held held_now : ExecutionSession) (count count_now : ℕ) (fixed fixed_now : Option ℕ) (attempt : AttemptEnd A) : Type 0 where
  pub numbered : ExecutionSession
  pub number : Option ℤ
  pub draws : DrawsNumber held.sent connection_retryability held numbered (Ok number)
  pub takes : spec.takes fixed conn.description batch.statements
  pub exchanging : Exchanging spec which concern batch link link_now connection_retryability conn address (record numbered { sent = Some number }) held_now attempt
  pub counted : count_now ≡ count + 1
  pub fixed_is : fixed_now ≡ Some batch.statements

-- the command of an attempt, of which a failure may be kept
abbrev pub Sending : {A : Type 0} → OperationSpec A → SendKind → Option WriteConcern → Batch → Bool → LinkState → LinkState → Retryability → Conn → Address → ExecutionSession → ExecutionSession → ℕ → ℕ → Option ℕ → Option ℕ
    → AttemptEnd A → Type 0
Sending spec which concern batch again link link_now connection_retryability conn address held held_now count count_now fixed fixed_now attempt =
    EndsUnnumbered link link_now connection_retryability held held_now count count_now fixed fixed_now attempt
    ⊎ (EndsUnframed spec concern again link link_now connection_retryability conn held held_now count count_now fixed fixed_now attempt
    ⊎ (EndsUnfit spec again link link_now connection_retryability conn held held_now count count_now fixed fixed_now attempt
    ⊎ SendsOut spec which concern batch link link_now connection_retryability conn address held held_now count count_now fixed fixed_now attempt))
