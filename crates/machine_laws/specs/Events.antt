-- What happens to a model server, one after another.
use Rattle.std.specs.Prelude.{ℕ, List, [], ◌∷◌}
use Rattle.driver_link.specs.Exchange.{delivered, exchanged}
use Rattle.driver_link.specs.declared.machine.Scheduled.{Scheduled}
use Rattle.driver_link.specs.declared.machine.Send.{Send}
use Rattle.driver_link.specs.declared.machine.Server.{Server}

-- an exchange by a step of a schedule, or a delivery of the waiting send at a place
pub data Event : Type 0 where
  sends : Send → Scheduled → Event
  arrives : ℕ → Event

-- the server after an event
abbrev pub after_event : Server → Event → Server
after_event server (sends send step) = exchanged server send step
after_event server (arrives at) = delivered server at

-- the server after events, the first one first
unfoldable pub after_events : Server → List Event → Server
after_events server [] = server
after_events server (event ∷ events) = after_events (after_event server event) events
