-- Transactions that have ended, and what is sent under their numbers afterwards.
use Rattle.std.specs.Prelude.{◌≡◌, ℕ, ℤ, ◌<ℤ◌, true, List, Some, ◌⊎◌, slice_get}
use Rattle.std.specs.FinMap as finite
use Rattle.driver_link.specs.Cases.{is_in_transaction}
use Rattle.driver_link.specs.Exchange.{after_picks, delivered, exchanged}
use Rattle.driver_link.specs.declared.machine.KnownSession.{KnownSession}
use Rattle.driver_link.specs.declared.machine.Scheduled.{Scheduled}
use Rattle.driver_link.specs.declared.machine.Send.{Send}
use Rattle.driver_link.specs.declared.machine.Server.{Server}
use Rattle.driver_link.specs.declared.machine.ServerTransaction.{ServerTransaction}
use Rattle.machine_laws.specs.Steady.{GoesUnder}

-- a number is past, or its transaction is this one
abbrev pub IsPastOr : ServerTransaction → ℤ → KnownSession → Type 0
IsPastOr its number known = (number <ℤ known.greatest) ⊎ ((known.greatest ≡ number) × (known.transaction ≡ its))

-- the same of a session of a server: it has gone on to a greater number, or its transaction is this one
pub record StaysAs (id : List ℕ) (number : ℤ) (its : ServerTransaction) (server : Server) : Type 0 where
  pub known : KnownSession
  pub there : finite.get server.sessions id ≡ Some known
  pub is : IsPastOr its number known

-- a send in a transaction under this session and number
pub record IsInside (id : List ℕ) (number : ℤ) (send : Send) : Type 0 where
  pub under : GoesUnder id number send
  pub inside : is_in_transaction send ≡ true

-- a waiting send in a transaction under this session and number
pub record WaitsInside (id : List ℕ) (number : ℤ) (at : ℕ) (server : Server) : Type 0 where
  pub send : Send
  pub waits : slice_get server.waiting at ≡ Some (Some send)
  pub is : IsInside id number send

-- an exchange adds no entry to the log that the step's deliveries left
abbrev pub AddsNoEntry : Server → Send → Scheduled → Type 0
AddsNoEntry server send step = (exchanged server send step).log ≡ (after_picks server step.deliver).log

-- no send in the transaction of this session and number adds an entry, whether it is exchanged or comes late
pub record NoneInside (id : List ℕ) (number : ℤ) (server : Server) : Type 0 where
  pub sent : (send : Send) (step : Scheduled) → IsInside id number send → AddsNoEntry server send step
  pub late : (at : ℕ) → WaitsInside id number at server → (delivered server at).log ≡ server.log
