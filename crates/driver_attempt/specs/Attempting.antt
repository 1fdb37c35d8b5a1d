-- One attempt of an operation outside transactions, over any link: a server is selected and a connection checked out,
-- a session is lent where none is held, one command goes out under the number of the send before, or a first one, and its answer is
-- read, page by page.
use Rattle.std.specs.Prelude.{◌≡◌, ℕ, ◌+◌, ℤ, Bool, true, false, ◌&&◌, List, [], Option, None, Some, is_some, ◌⊎◌, Result, Ok, Err, if◌then◌else◌}
use Rattle.driver_error.specs.declared.error.Error.{Error}
use Rattle.driver_error.specs.declared.kind.ErrorKind.TheVariants as kind
use Rattle.driver_error.specs.Error.{IsAlone}
use Rattle.driver_error.specs.LabelTexts.{no_labels}
use Rattle.driver_options.specs.declared.concerns.WriteConcern.{WriteConcern}
use Rattle.driver_options.specs.declared.options.Address.{Address}
use Rattle.driver_options.specs.declared.options.Asked.{Asked}
use Rattle.driver_options.specs.declared.options.Conn.{Conn}
use Rattle.driver_options.specs.declared.options.Description.{Description}
use Rattle.link_faults.specs.declared.fault.LinkError.{LinkError}
use Rattle.link_faults.specs.declared.fault.LinkError.TheVariants.{Fault}
use Rattle.link_faults.specs.declared.fault.LinkFault.{LinkFault}
use Rattle.driver_link.specs.Clock.{ClockTells}
use Rattle.driver_link.specs.LinkCalls.{ChecksOutConnection, SelectsServer}
use Rattle.driver_link.specs.LinkState.{LinkState}
use Rattle.driver_session.specs.declared.retryability.Retryability.{Retryability}
use Rattle.driver_session.specs.declared.retryability.Retryability.TheVariants as may
use Rattle.driver_session.specs.StoreTells.{StoreTells}
use Rattle.driver_ops.specs.Fields.{SendContext, in_context}
use Rattle.driver_ops.specs.Operations.{Batch, IsFixed, IsUnframed, OperationSpec, Refuses}
use Rattle.driver_ops.specs.SendKinds.{SendKind}
use Rattle.driver_attempt.specs.declared.attempt_end.AttemptEnd.{AttemptEnd}
use Rattle.driver_attempt.specs.declared.attempt_end.AttemptEnd.TheVariants.{Done, Ended, Failed, Stopped, Unfit, Unselected}
use Rattle.retry_rules.specs.declared.failure.FailurePhase.{FailurePhase}
use Rattle.retry_rules.specs.declared.failure.FailurePhase.TheVariants.{ConnectionEstablishment, Execution}
use Rattle.driver_attempt.specs.AttemptExchanges.{AttemptExchanges, Exchanges, held_after}
use Rattle.driver_attempt.specs.Failures.{IsFaultOf, IsLabelledRead, IsVersioned}
use Rattle.driver_attempt.specs.Holding.{DrawsNumber, ExecutionSession, HoldsSession, IsLentAt, held_id, needs_session, number_before}
use Rattle.driver_attempt.specs.Readings.{MayRead}
use Rattle.retry_rules.specs.Retry.{RetryState}

-- what a link tells besides the connections that are out
abbrev pub besides_out : LinkState → LinkState
besides_out link = record link { out = None }

-- the state of an operation's attempts at one moment: what store and clock tell, and the link besides the connections that
-- are out, what the operation holds, how many sends were counted by then, and how many statements its command has, once that
-- is fixed
pub record AttemptState : Type 0 where
  pub store : StoreTells
  pub link : LinkState
  pub clock : ClockTells
  pub held : ExecutionSession
  pub count : ℕ
  pub fixed : Option ℕ

-- an operation as its attempts see it: what it tells, the places of its writes with the number of its command's statements,
-- the kind of its sends, what of it may be repeated by its own rules, and the write concern that it goes out with
pub record AttemptedOperation (A : Type 0) : Type 1 where
  pub spec : OperationSpec A
  pub batch : Batch
  pub which : SendKind
  pub retryability : Retryability
  pub concern : Option WriteConcern

-- an operation of these parts
abbrev pub attempted_operation : {A : Type 0} → OperationSpec A → Batch → SendKind → Retryability → Option WriteConcern → AttemptedOperation A
attempted_operation spec batch which retryability concern = record { spec = spec; batch = batch; which = which; retryability = retryability; concern = concern }

-- what of an operation may be repeated on a connection: a write where that takes such writes
abbrev pub on_connection : Retryability → Description → Retryability
on_connection may.Write description = if description.supports_retryable_writes then may.Write else may.None
on_connection retryability description = retryability

-- nothing may be repeated
abbrev pub is_nothing : Retryability → Bool
is_nothing may.None = true
is_nothing other = false

-- an attempt that is not the first stops where nothing may be repeated
abbrev pub stops : Bool → Retryability → Bool
stops again connection_retryability = again && is_nothing connection_retryability

-- the servers that a selection is asked to avoid, which is by what is kept of the failures before
abbrev pub avoided : Option RetryState → List Address
avoided None = []
avoided (Some kept) = kept.deprioritized

-- a selection asks for any server outside those
abbrev pub asked_for : List Address → Asked
asked_for avoid = record { criteria = None; deprioritized = avoid }

-- a selection outside those
abbrev pub Selects : List Address → LinkState → LinkState → Result Address LinkError → Type 0
Selects avoid link now result = SelectsServer link now (asked_for avoid) result

-- store, clock and what is held are as before, and nothing was built or sent
pub record OnlyLink (before now : AttemptState) : Type 0 where
  pub store : now.store ≡ before.store
  pub clock : now.clock ≡ before.clock
  pub held : now.held ≡ before.held
  pub count : now.count ≡ before.count
  pub fixed : now.fixed ≡ before.fixed

-- no server was selected: the fault has its own labels alone
pub record NotSelected (kept : Option RetryState) (before now : AttemptState) (error : Error) : Type 0 where
  pub fault : LinkFault
  pub labels : List (List ℕ)
  pub selects : Selects (avoided kept) before.link now.link (Err (Fault fault labels))
  pub is : IsFaultOf fault labels may.None error
  pub rest : OnlyLink before now

-- a server was selected, and no connection to it was had
pub record NotConnected {A : Type 0} (op : AttemptedOperation A) (kept : Option RetryState) (before now : AttemptState) (address : Address) (error : Error) : Type 0 where
  pub mid : LinkState
  pub selects : Selects (avoided kept) before.link mid (Ok address)
  pub fault : LinkFault
  pub labels : List (List ℕ)
  pub checks_out : ChecksOutConnection mid now.link address (Err (Fault fault labels))
  pub is : IsFaultOf fault labels op.retryability error
  pub rest : OnlyLink before now

-- a server was selected, which was asked to be none of those to be avoided, and a connection to it checked out
pub record Connects (avoid : List Address) (link now : LinkState) (address : Address) (conn : Conn) : Type 0 where
  pub mid : LinkState
  pub selects : Selects avoid link mid (Ok address)
  pub checks_out : ChecksOutConnection mid now address (Ok conn)

-- a session is asked for: both sides take one
abbrev pub asks_session : Bool → Description → Bool
asks_session sessions description = sessions && description.supports_sessions

-- a session that is held needs a connection which takes sessions
abbrev pub may_use : ExecutionSession → Description → Bool
may_use held description = if is_some held.session then description.supports_sessions else true

-- a connection was had, and a session where one is needed, which was lent at a reading of the clock
pub record Readies {A : Type 0} (op : AttemptedOperation A) (kept : Option RetryState) (before now : AttemptState) (address : Address) (conn : Conn) : Type 0 where
  pub connects : Connects (avoided kept) before.link now.link address conn
  pub holds : HoldsSession (needs_session (asks_session op.spec.sessions conn.description) before.held) before.store now.store before.held now.held (Ok tt)
  pub lent_at : IsLentAt (needs_session (asks_session op.spec.sessions conn.description) before.held) before.store now.store before.held now.held (Ok tt) holds before.clock now.clock
  pub count : now.count ≡ before.count
  pub fixed : now.fixed ≡ before.fixed

-- the command went out on a connection, under the number of the send before or a first one, and was counted; it has as many
-- statements as a build for the connection takes, which are fixed then; a further attempt sends it only where it may be
-- repeated there
pub record Sends {A : Type 0} (op : AttemptedOperation A) (kept : Option RetryState) (before now : AttemptState) (address : Address) (conn : Conn) (result : Result (List ℕ) LinkError) : Type 0 where
  pub ready : AttemptState
  pub readies : Readies op kept before ready address conn
  pub allowed : may_use ready.held conn.description ≡ true
  pub goes : stops (is_some kept) (on_connection op.retryability conn.description) ≡ false
  pub numbered : ExecutionSession
  pub number : Option ℤ
  pub draws : DrawsNumber ready.held.sent (on_connection op.retryability conn.description) ready.held numbered (Ok number)
  pub takes : op.spec.takes ready.fixed conn.description op.batch.statements
  pub exchanges : Exchanges op.spec op.which op.batch ready.link now.link conn (in_context (held_id numbered) number op.concern) result
  pub store_is : now.store ≡ ready.store
  pub clock_is : now.clock ≡ ready.clock
  pub held_is : now.held ≡ held_after result (record numbered { sent = Some number })
  pub counted : now.count ≡ ready.count + 1
  pub fixed_is : now.fixed ≡ Some op.batch.statements

-- behind the exchange of the attempt's command the answer was read, as one to a command of so many statements, further pages of it
-- on the same connection; store, clock, count and number of statements stay
pub record ReadsOn {A : Type 0} (op : AttemptedOperation A) (conn : Conn) (reply : List ℕ) (behind now : AttemptState) (answer : Result A Error) : Type 0 where
  pub exchanges : AttemptExchanges op.spec op.batch.statements reply conn (held_id behind.held) behind.link now.link behind.held now.held answer
  pub store : now.store ≡ behind.store
  pub clock : now.clock ≡ behind.clock
  pub count : now.count ≡ behind.count
  pub fixed : now.fixed ≡ behind.fixed

-- the attempt's answer was read
pub record IsAnswered {A : Type 0} (op : AttemptedOperation A) (kept : Option RetryState) (before now : AttemptState) (output : A) : Type 0 where
  pub address : Address
  pub conn : Conn
  pub reply : List ℕ
  pub behind : AttemptState
  pub sends : Sends op kept before behind address conn (Ok reply)
  pub reads : ReadsOn op conn reply behind now (Ok output)

-- the exchange of the attempt's command failed
pub record LosesExchange {A : Type 0} (op : AttemptedOperation A) (kept : Option RetryState) (before now : AttemptState) (address : Address) (error : Error) : Type 0 where
  pub conn : Conn
  pub fault : LinkFault
  pub labels : List (List ℕ)
  pub sends : Sends op kept before now address conn (Err (Fault fault labels))
  pub is : IsVersioned (IsFaultOf fault labels (on_connection op.retryability conn.description)) conn.description.max_wire_version error

-- the answer to the attempt's command spelled an error, which has the labels of the table: that is said of the error alone, and of
-- no page that is its source
pub record SpellsFailure {A : Type 0} (op : AttemptedOperation A) (kept : Option RetryState) (before now : AttemptState) (address : Address) (error : Error) : Type 0 where
  pub conn : Conn
  pub reply : List ℕ
  pub behind : AttemptState
  pub sends : Sends op kept before behind address conn (Ok reply)
  pub bare : Error
  pub reads : ReadsOn op conn reply behind now (Err bare)
  pub is : IsVersioned (IsLabelledRead (on_connection op.retryability conn.description) bare) conn.description.max_wire_version error

-- an attempt failed in a phase
abbrev pub FailsIn : {A : Type 0} → AttemptedOperation A → Option RetryState → AttemptState → AttemptState → Address → FailurePhase → Error → Type 0
FailsIn op kept before now address ConnectionEstablishment error = NotConnected op kept before now address error
FailsIn op kept before now address Execution error = LosesExchange op kept before now address error ⊎ SpellsFailure op kept before now address error

-- a connection was had that what is held may use, and nothing may be repeated on it
pub record Stops {A : Type 0} (op : AttemptedOperation A) (kept : Option RetryState) (before now : AttemptState) : Type 0 where
  pub address : Address
  pub conn : Conn
  pub readies : Readies op kept before now address conn
  pub allowed : may_use now.held conn.description ≡ true
  pub nothing : is_nothing (on_connection op.retryability conn.description) ≡ true

-- a selection failed
pub record SelectionFails (avoid : List Address) (link now : LinkState) : Type 0 where
  pub failure : LinkError
  pub selects : Selects avoid link now (Err failure)

-- a server was selected, and a connection to it asked for
pub record AsksConnection (avoid : List Address) (link now : LinkState) : Type 0 where
  pub mid : LinkState
  pub address : Address
  pub selects : Selects avoid link mid (Ok address)
  pub result : Result Conn LinkError
  pub checks_out : ChecksOutConnection mid now address result

-- the calls of an attempt that came to no session
abbrev pub AsksEarly : List Address → LinkState → LinkState → Type 0
AsksEarly avoid link now = SelectionFails avoid link now ⊎ AsksConnection avoid link now

-- there was no memory before a session was lent, for which the clock may have been read once
pub record EndsUnready (kept : Option RetryState) (before now : AttemptState) (error : Error) : Type 0 where
  pub asks : AsksEarly (avoided kept) before.link now.link
  pub store : now.store ≡ before.store
  pub clock : MayRead before.clock now.clock
  pub held : now.held ≡ before.held
  pub count : now.count ≡ before.count
  pub fixed : now.fixed ≡ before.fixed
  pub why : IsAlone kind.Memory no_labels error

-- a session is held, and the connection takes none; the error tells so and nothing else
pub record NoSessions (description : Description) (ready now : ExecutionSession) (fixed fixed_now : Option ℕ) (error : Error) : Type 0 where
  pub none : may_use ready description ≡ false
  pub same : now ≡ ready
  pub unfixed : fixed_now ≡ fixed
  pub is : IsAlone kind.SessionsNotSupported no_labels error

-- there was no number
pub record NoNumber (kept : Option RetryState) (description : Description) (connection_retryability : Retryability) (ready now : ExecutionSession) (fixed fixed_now : Option ℕ) (error : Error) : Type 0 where
  pub allowed : may_use ready description ≡ true
  pub goes : stops (is_some kept) connection_retryability ≡ false
  pub draws : DrawsNumber ready.sent connection_retryability ready now (Err error)
  pub unfixed : fixed_now ≡ fixed

-- the command is built again: it went out before, and a failure is kept
abbrev pub builds_again : Bool → ExecutionSession → Bool
builds_again again held = again && is_some held.sent

-- a build took so many statements for a connection, by the number that was fixed, which is fixed then, and a command of them has no
-- spelling with the executor's fields
pub record LacksFrame {A : Type 0} (spec : OperationSpec A) (context : SendContext) (description : Description) (fixed fixed_now : Option ℕ) (error : Error) : Type 0 where
  pub statements : ℕ
  pub takes : spec.takes fixed description statements
  pub by : IsFixed fixed statements
  pub fixes : fixed_now ≡ Some statements
  pub unframed : IsUnframed spec context error
  pub same : unframed.none.statements ≡ statements

-- the number of a command's statements stays, or is fixed to as many as a build takes for a connection
abbrev pub MayFix : {A : Type 0} → OperationSpec A → Description → Option ℕ → Option ℕ → Type 0
MayFix spec description fixed fixed_now =
    (fixed_now ≡ fixed) ⊎ ((statements : ℕ) × spec.takes fixed description statements × IsFixed fixed statements × (fixed_now ≡ Some statements))

-- there was no frame under the number: the first build was refused, which fixes no number of statements, what was built has no
-- spelling, or memory ran out before or after the build
pub record NoFrame {A : Type 0} (spec : OperationSpec A) (concern : Option WriteConcern) (kept : Option RetryState) (description : Description) (connection_retryability : Retryability) (ready now : ExecutionSession)
    (fixed fixed_now : Option ℕ) (error : Error) : Type 0 where
  pub goes : stops (is_some kept) connection_retryability ≡ false
  pub number : Option ℤ
  pub draws : DrawsNumber ready.sent connection_retryability ready now (Ok number)
  pub allowed : may_use ready description ≡ true
  pub why : ((builds_again (is_some kept) ready ≡ false) × Refuses spec fixed description error × (fixed_now ≡ fixed)) ⊎ (LacksFrame spec (in_context (held_id now) number concern) description fixed fixed_now error ⊎ (IsAlone kind.Memory no_labels error × MayFix spec description fixed fixed_now))

-- a connection was had, and the command was refused before it went out
pub record EndsRefused {A : Type 0} (op : AttemptedOperation A) (kept : Option RetryState) (before now : AttemptState) (error : Error) : Type 0 where
  pub ready : AttemptState
  pub address : Address
  pub conn : Conn
  pub readies : Readies op kept before ready address conn
  pub link : now.link ≡ ready.link
  pub store : now.store ≡ ready.store
  pub clock : now.clock ≡ ready.clock
  pub count : now.count ≡ ready.count
  pub refused : NoSessions conn.description ready.held now.held ready.fixed now.fixed error
      ⊎ (NoNumber kept conn.description (on_connection op.retryability conn.description) ready.held now.held ready.fixed now.fixed error
      ⊎ NoFrame op.spec op.concern kept conn.description (on_connection op.retryability conn.description) ready.held now.held ready.fixed now.fixed error)

-- a connection was had for which the command, which went out before, was not built again: that was refused
pub record RefusedAgain {A : Type 0} (op : AttemptedOperation A) (kept : Option RetryState) (before now : AttemptState) : Type 0 where
  pub ready : AttemptState
  pub address : Address
  pub conn : Conn
  pub readies : Readies op kept before ready address conn
  pub link : now.link ≡ ready.link
  pub store : now.store ≡ ready.store
  pub clock : now.clock ≡ ready.clock
  pub count : now.count ≡ ready.count
  pub fixed : now.fixed ≡ ready.fixed
  pub allowed : may_use ready.held conn.description ≡ true
  pub goes : stops (is_some kept) (on_connection op.retryability conn.description) ≡ false
  pub number : Option ℤ
  pub draws : DrawsNumber ready.held.sent (on_connection op.retryability conn.description) ready.held now.held (Ok number)
  pub again : builds_again (is_some kept) ready.held ≡ true
  pub error : Error
  pub refused : Refuses op.spec ready.fixed conn.description error

-- some answer was read
pub record ReadsSome {A : Type 0} (op : AttemptedOperation A) (conn : Conn) (reply : List ℕ) (behind now : AttemptState) : Type 0 where
  pub answer : Result A Error
  pub reads : ReadsOn op conn reply behind now answer

-- nothing came behind an exchange that failed; behind a reply some answer was read
abbrev pub MayReadOn : {A : Type 0} → AttemptedOperation A → Conn → Result (List ℕ) LinkError → AttemptState → AttemptState → Type 0
MayReadOn op conn (Err failure) behind now = now ≡ behind
MayReadOn op conn (Ok reply) behind now = ReadsSome op conn reply behind now

-- the command went out, and there was no memory for what came of it
pub record EndsSent {A : Type 0} (op : AttemptedOperation A) (kept : Option RetryState) (before now : AttemptState) (error : Error) : Type 0 where
  pub address : Address
  pub conn : Conn
  pub result : Result (List ℕ) LinkError
  pub behind : AttemptState
  pub sends : Sends op kept before behind address conn result
  pub reads : MayReadOn op conn result behind now
  pub why : IsAlone kind.Memory no_labels error

-- the operation ends at once
abbrev pub EndsAtOnce : {A : Type 0} → AttemptedOperation A → Option RetryState → AttemptState → AttemptState → Error → Type 0
EndsAtOnce op kept before now error = EndsUnready kept before now error ⊎ (EndsRefused op kept before now error ⊎ EndsSent op kept before now error)

-- one attempt, by what is kept of the failures before and how it ended: a failure has the number of the last send before it;
-- only an attempt that is not the first stops, or builds its command again
abbrev pub MakesAttempt : {A : Type 0} → AttemptedOperation A → Option RetryState → AttemptState → AttemptState → AttemptEnd A → Type 0
MakesAttempt op kept before now (Done output) = IsAnswered op kept before now output
MakesAttempt op kept before now (Failed failure) = FailsIn op kept before now failure.address failure.phase failure.error × (failure.number ≡ number_before now.held)
MakesAttempt op kept before now (Unselected error) = NotSelected kept before now error
MakesAttempt op kept before now Stopped = (is_some kept ≡ true) × Stops op kept before now
MakesAttempt op kept before now Unfit = (is_some kept ≡ true) × RefusedAgain op kept before now
MakesAttempt op kept before now (Ended error) = EndsAtOnce op kept before now error
