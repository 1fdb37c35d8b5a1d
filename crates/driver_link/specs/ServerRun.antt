-- A model server as a link tells it, and what an exchange makes of it.
use Rattle.std.specs.Prelude.{◌≡◌, ℕ, List, [], Option, None, Some, Result, Ok, Err, ◌⊎◌}
use Rattle.bson_lite.specs.declared.bson.Bson.{Bson}
use Rattle.bson_lite.specs.declared.document.Pair.{Pair}
use Rattle.bson_lite.specs.Spelling.{Spells}
use Rattle.driver_error.specs.declared.kind.IoKind.TheVariants.{ConnectionReset}
use Rattle.link_faults.specs.declared.fault.LinkError.{LinkError}
use Rattle.link_faults.specs.declared.fault.LinkError.TheVariants.{Fault, Memory}
use Rattle.link_faults.specs.declared.fault.LinkFault.{LinkFault}
use Rattle.link_faults.specs.declared.fault.LinkFault.TheVariants.{Io}
use Rattle.driver_link.specs.declared.machine.Schedule.{Schedule}
use Rattle.driver_link.specs.declared.machine.Send.{Send}
use Rattle.driver_link.specs.declared.machine.Server.{Server}
use Rattle.driver_link.specs.declared.machine.Setup.{Setup}
use Rattle.driver_link.specs.WellFormed.{IsWellFormed}
use Rattle.driver_link.specs.Exchange.{exchanged, answered, next_step, empty_server}

-- how many calls of each kind a link has had, beside exchanges
pub record CallCounts : Type 0 where
  pub selects : ℕ
  pub supports : ℕ
  pub check_outs : ℕ
  pub reauthentications : ℕ

-- a server with the setup and the schedule of its making, and how many calls were made
pub record ServerRun : Type 0 where
  pub server : Server
  pub setup : Setup
  pub schedule : Schedule
  pub counts : CallCounts

-- a server is told that has seen nothing, with a schedule that a model server takes
abbrev pub IsFresh : Option ServerRun → Type 0
IsFresh None = ⊥
IsFresh (Some run) = (run.server ≡ empty_server) × IsWellFormed run.schedule

-- the server after the send of the next exchange
abbrev pub run_after : ServerRun → Send → ServerRun
run_after run send = record run { server = exchanged run.server send (next_step run.schedule run.server) }

-- what the machine answers to the send of the next exchange
abbrev pub run_answer : ServerRun → Send → Option (List (Pair Bson))
run_answer run send = answered run.server send (next_step run.schedule run.server)

-- bytes spell the reply that the machine gives
abbrev pub IsReply : Option (List (Pair Bson)) → List ℕ → Type 0
IsReply None bytes = ⊥
IsReply (Some document) bytes = Spells document bytes

-- the fault of an exchange that gave no reply, with its labels: the connection was reset, and there is none
abbrev pub IsReset : LinkFault → List (List ℕ) → Type 0
IsReset fault labels = (fault ≡ Io ConnectionReset) × (labels ≡ [])

-- one exchange: an Ok is the machine's reply and a fault comes where the machine answers none, both
-- after its step; after want of memory the server is unchanged or has taken the step
abbrev pub TakesStep : Option ServerRun → Option ServerRun → Send → Result (List ℕ) LinkError → Type 0
TakesStep None now send result = now ≡ None
TakesStep (Some run) now send (Ok bytes) = (now ≡ Some (run_after run send)) × IsReply (run_answer run send) bytes
TakesStep (Some run) now send (Err (Fault fault labels)) =
    (now ≡ Some (run_after run send)) × (run_answer run send ≡ None) × IsReset fault labels
TakesStep (Some run) now send (Err Memory) = (now ≡ Some run) ⊎ (now ≡ Some (run_after run send))
