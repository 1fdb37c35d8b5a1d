-- One write that is sent, and sent again under its number: what the server keeps of it in between, and the reply that says
-- that it was done.
use Rattle.std.specs.Prelude.{◌≡◌, ℕ, ◌<ℤ◌, ◌≤ℤ◌, ℤ, pos, List, [], ◌∷◌, Option, None, Some}
use Rattle.std.specs.FinMap as finite
use Rattle.wire_keys.specs.declared.keys.TheConstants.{N}
use Rattle.driver_link.specs.declared.machine.Counted.{Counted}
use Rattle.driver_link.specs.declared.machine.Item.{Item}
use Rattle.driver_link.specs.declared.machine.Item.TheVariants.{Serve}
use Rattle.driver_link.specs.declared.machine.KnownSession.{KnownSession}
use Rattle.driver_link.specs.declared.machine.PlacedWrite.{PlacedWrite}
use Rattle.driver_link.specs.declared.machine.Planned.{Planned}
use Rattle.driver_link.specs.declared.machine.Send.{Send}
use Rattle.driver_link.specs.declared.machine.SendCommand.{SendCommand}
use Rattle.driver_link.specs.declared.machine.Server.{Server}
use Rattle.driver_link.specs.declared.machine.Statement.{Statement}
use Rattle.driver_link.specs.declared.machine.WriteKind.{WriteKind}
use Rattle.driver_link.specs.declared.machine.WriteKind.TheVariants as kind
use Rattle.driver_link.specs.Cursors.{Reply}
use Rattle.driver_link.specs.Numbers.{field, reply_number}
use Rattle.driver_link.specs.Replies.{done_field, result_of, write_reply}
use Rattle.driver_link.specs.Settled.{Has, IsUnder}
use Rattle.driver_link.specs.Statements.{counts_by_plan, planned_at}

-- what a write counts where its call is to end well: an insert one document, and no other write a negative number
abbrev pub CountsWell : WriteKind → Counted → Type 0
CountsWell kind.Insert result = result.n ≡ pos 1
CountsWell other result = (pos 0 ≤ℤ result.n) × (pos 0 ≤ℤ result.modified)

-- the first statement counts so where it runs, whichever kind it is of
abbrev pub CountsFirst : WriteKind → List Planned → Type 0
CountsFirst does results = (other : WriteKind) → CountsWell does (counts_by_plan other (planned_at results 0))

-- an item that serves a send without a failure, and its first statement counts so
abbrev pub IsGentleItem : WriteKind → Item → Type 0
IsGentleItem does (Serve results fail concern page) = (fail ≡ []) × (concern ≡ None) × CountsFirst does results
IsGentleItem does _ = ⊥

-- an item by which a first statement that runs counts so
abbrev pub CountsBy : WriteKind → Item → Type 0
CountsBy does (Serve results fail concern page) = CountsFirst does results
CountsBy does _ = Unit {0}

-- what a session keeps of the first statement of a number counts so
abbrev pub KeepsWell : WriteKind → List ℕ → ℤ → Server → Type 0
KeepsWell does id number server = (known : KnownSession) (result : Counted) → finite.get server.sessions id ≡ Some known → known.greatest ≡ number
    → finite.get known.kept 0 ≡ Some result → CountsWell does result

-- no greater number than this was sent under a session
abbrev pub IsGreatest : List Send → List ℕ → ℤ → Type 0
IsGreatest trace id number = (send : Send) (sent : ℤ) → Has trace send → IsUnder id sent send → sent ≤ℤ number

-- only lesser numbers than this were sent under a session
abbrev pub IsNewNumber : List Send → List ℕ → ℤ → Type 0
IsNewNumber trace id number = (send : Send) (sent : ℤ) → Has trace send → IsUnder id sent send → sent <ℤ number

-- a reply to a command of one write, whose statement was done and counts well, and that tells of no write concern error
pub record IsDoneReply (asks : SendCommand) (does : WriteKind) (write : PlacedWrite) (found : Reply) : Type 0 where
  pub page : Option ℕ
  pub cursors : List (Option (List Reply))
  pub statement : Statement
  pub result : Counted
  pub counts : result_of statement ≡ Some result
  pub well : CountsWell does result
  pub is : found ≡ write_reply asks page None cursors (write ∷ []) (statement ∷ [])

-- the reply to one insert that was done: ok, and one document
abbrev pub one_inserted : Reply
one_inserted = done_field ∷ field N.now (reply_number (pos 1)) ∷ []
