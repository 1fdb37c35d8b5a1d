-- What an operation holds between its attempts: the implicit session that it was lent, and the number that it sends
-- its command under.
use Rattle.std.specs.Prelude.{◌≡◌, ℕ, ℤ, Bool, true, false, ◌&&◌, List, Option, None, Some, unwrap_or, is_none, Result, Ok, Err, if◌then◌else◌}
use Rattle.std.specs.Option.{option_map}
use Rattle.driver_error.specs.declared.error.Error.{Error}
use Rattle.driver_error.specs.declared.kind.ErrorKind.TheVariants as kind
use Rattle.driver_error.specs.Error.{IsAlone}
use Rattle.driver_error.specs.LabelTexts.{no_labels}
use Rattle.link_faults.specs.declared.fault.LinkError.{LinkError}
use Rattle.link_faults.specs.declared.fault.LinkError.TheVariants.{Fault, Memory}
use Rattle.driver_link.specs.Clock.{ClockTells, ReadsClock}
use Rattle.link_faults.specs.Failures.{is_network}
use Rattle.driver_session.specs.declared.retryability.Retryability.{Retryability}
use Rattle.driver_session.specs.declared.retryability.Retryability.TheVariants.{Write}
use Rattle.driver_session.specs.Session.{Numbers, Session}
use Rattle.driver_session.specs.StoreTells.{LendsSession, StoreTells, TakesSession}

-- the session that it was lent, if it was; and the number of the send before, which may be none, once there was one
pub record ExecutionSession : Type 0 where
  pub session : Option Session
  pub sent : Option (Option ℤ)

-- an operation that has not begun
abbrev pub holds_nothing : ExecutionSession
holds_nothing = record { session = None; sent = None }

-- the number of the send before, where there was one with a number
abbrev pub number_before : ExecutionSession → Option ℤ
number_before held = unwrap_or held.sent None

-- the id of the session that is held
abbrev pub held_id : ExecutionSession → Option (List ℕ)
held_id held = option_map (λ session. session.id) held.session

-- a session, once the network failed under it
abbrev pub dirty_session : Session → Session
dirty_session session = record session { dirty = true }

-- what is held, once the network failed under its session
abbrev pub dirty_session_held : ExecutionSession → ExecutionSession
dirty_session_held held = record held { session = option_map dirty_session held.session }

-- what is held after an exchange that failed: a fault of the network makes the session dirty
abbrev pub held_after_failure : LinkError → ExecutionSession → ExecutionSession
held_after_failure (Fault fault labels) held = if is_network fault then dirty_session_held held else held
held_after_failure Memory held = held

-- a session is lent where one is asked for, none is held, and nothing was sent yet
abbrev pub needs_session : Bool → ExecutionSession → Bool
needs_session asked held = asked && is_none held.session && is_none held.sent

-- a session was lent and is held
pub record HoldsLent (store now : StoreTells) (held held_now : ExecutionSession) : Type 0 where
  pub at : ℕ
  pub session : Session
  pub lends : LendsSession store now at session
  pub is : held_now ≡ record held { session = Some session }

-- a session was lent where one is needed, or there was no memory for it; else nothing changed
abbrev pub HoldsSession : Bool → StoreTells → StoreTells → ExecutionSession → ExecutionSession → Result (Unit {0}) Error → Type 0
HoldsSession false store now held held_now result = (now ≡ store) × (held_now ≡ held) × (result ≡ Ok tt)
HoldsSession true store now held held_now (Ok given) = HoldsLent store now held held_now
HoldsSession true store now held held_now (Err error) = (now ≡ store) × (held_now ≡ held) × IsAlone kind.Memory no_labels error

-- a session is lent at a reading of the clock, its one then; where none is lent the clock stays
abbrev pub IsLentAt : (needed : Bool) (store now : StoreTells) (held held_now : ExecutionSession) (result : Result (Unit {0}) Error)
    → HoldsSession needed store now held held_now result → ClockTells → ClockTells → Type 0
IsLentAt false store now held held_now result holds clock clock_now = clock_now ≡ clock
IsLentAt true store now held held_now (Ok given) holds clock clock_now = ReadsClock clock clock_now holds.at
IsLentAt true store now held held_now (Err error) holds clock clock_now = (at : ℕ) × ReadsClock clock clock_now at

-- the number of a session as that of a send, or why there is none
abbrev pub GivesNumber : Result ℤ Error → Result (Option ℤ) Error → Type 0
GivesNumber (Ok number) result = result ≡ Ok (Some number)
GivesNumber (Err error) result = result ≡ Err error

-- the session's next number, which it then has, or why there is none
pub record DrawsFrom (session : Session) (now : Option Session) (result : Result (Option ℤ) Error) : Type 0 where
  pub numbered : Session
  pub next : Result ℤ Error
  pub numbers : Numbers session numbered next
  pub is : now ≡ Some numbered
  pub gives : GivesNumber next result

-- the first number of an operation: the session's next for a write that may be repeated, else none
abbrev pub DrawsSession : Retryability → Option Session → Option Session → Result (Option ℤ) Error → Type 0
DrawsSession Write (Some session) now result = DrawsFrom session now result
DrawsSession connection_retryability session now result = (now ≡ session) × (result ≡ Ok None)

-- the same for what is held
pub record DrawsFirst (connection_retryability : Retryability) (held held_now : ExecutionSession) (result : Result (Option ℤ) Error) : Type 0 where
  pub session : Option Session
  pub draws : DrawsSession connection_retryability held.session session result
  pub is : held_now ≡ record held { session = session }

-- the number of the next send: that of the send before, else a first one
abbrev pub DrawsNumber : Option (Option ℤ) → Retryability → ExecutionSession → ExecutionSession → Result (Option ℤ) Error → Type 0
DrawsNumber (Some before) connection_retryability held held_now result = (held_now ≡ held) × (result ≡ Ok before)
DrawsNumber None connection_retryability held held_now result = DrawsFirst connection_retryability held held_now result

-- the session came back
pub record TakesSessionBack (store now : StoreTells) (session : Session) : Type 0 where
  pub at : ℕ
  pub takes : TakesSession store now session at

-- a session that is held comes back to its store
abbrev pub GivesBack : StoreTells → StoreTells → Option Session → Type 0
GivesBack store now None = now ≡ store
GivesBack store now (Some session) = TakesSessionBack store now session

-- it comes back at a reading of the clock, its one then; where there is none the clock stays
abbrev pub IsBackAt : (store now : StoreTells) (session : Option Session) → GivesBack store now session → ClockTells → ClockTells → Type 0
IsBackAt store now None back clock clock_now = clock_now ≡ clock
IsBackAt store now (Some session) back clock clock_now = ReadsClock clock clock_now back.at
