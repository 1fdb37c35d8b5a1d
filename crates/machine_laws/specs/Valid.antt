-- What is true of each server that a run leads to, from the one that has seen nothing.
use Rattle.std.specs.Prelude.{◌≡◌, ◌≢◌, ℕ, ℤ, ◌<ℤ◌, true, List, [], Some, ◌⊎◌, slice_get}
use Rattle.std.specs.FinMap as finite
use Rattle.driver_link.specs.Cursors.{Reply}
use Rattle.driver_link.specs.Gathered.{entries_in}
use Rattle.driver_link.specs.Settled.{Has, IsFrom, IsUnder}
use Rattle.driver_link.specs.Statements.{entry_of}
use Rattle.driver_link.specs.declared.machine.Counted.{Counted}
use Rattle.driver_link.specs.declared.machine.Entry.{Entry}
use Rattle.driver_link.specs.declared.machine.KnownSession.{KnownSession}
use Rattle.driver_link.specs.declared.machine.PlacedWrite.{PlacedWrite}
use Rattle.driver_link.specs.declared.machine.Send.{Send}
use Rattle.driver_link.specs.declared.machine.Server.{Server}

-- a statement ran under a number of a session: the session has gone on to a greater one, or it says so
abbrev pub RanUnder : ℤ → KnownSession → Type 0
RanUnder number known = (number <ℤ known.greatest) ⊎ ((number ≡ known.greatest) × (known.ran ≡ true))

-- the same of a server, by the session's id
pub record HasRunUnder (id : List ℕ) (number : ℤ) (server : Server) : Type 0 where
  pub known : KnownSession
  pub there : finite.get server.sessions id ≡ Some known
  pub ran : RanUnder number known

-- an entry is that of a write of a send of the trace, under this session and number
pub record IsFromUnder (trace : List Send) (id : List ℕ) (number : ℤ) (entry : Entry) : Type 0 where
  pub session : entry.session ≡ Some id
  pub numbered : entry.number ≡ Some number
  pub origin : IsFrom trace entry

-- a result has its entry in a log, under this session and number
pub record HasEntry (log : List Entry) (id : List ℕ) (number : ℤ) (result : Counted) : Type 0 where
  pub write : PlacedWrite
  pub stands : Has log (entry_of (Some id) (Some number) write result)

-- an entry that was gathered: it is of the session's greatest number, under which a statement ran
pub record IsGathered (trace : List Send) (id : List ℕ) (known : KnownSession) (entry : Entry) : Type 0 where
  pub under : IsFromUnder trace id known.greatest entry
  pub ran : known.ran ≡ true

-- what is known of a session: its greatest number was sent, each kept result has its entry in the log, and
-- what its transaction has gathered was gathered under that number
pub record IsValidSession (trace : List Send) (log : List Entry) (id : List ℕ) (known : KnownSession) : Type 0 where
  pub newest : Send
  pub sent : Has trace newest
  pub under : IsUnder id known.greatest newest
  pub kept : (at : ℕ) (result : Counted) → finite.get known.kept at ≡ Some result → HasEntry log id known.greatest result
  pub gathered : (entry : Entry) → Has (entries_in known.transaction) entry → IsGathered trace id known entry

-- what is true of a server by a trace: what waits was sent, sessions and entries come from the trace, an entry
-- under a number is told by its session, and a cursor that is open has results left
pub record IsValidBy (trace : List Send) (server : Server) : Type 0 where
  pub waiting : (at : ℕ) (send : Send) → slice_get server.waiting at ≡ Some (Some send) → Has trace send
  pub sessions : (id : List ℕ) (known : KnownSession) → finite.get server.sessions id ≡ Some known → IsValidSession trace server.log id known
  pub origin : (entry : Entry) → Has server.log entry → IsFrom trace entry
  pub told : (entry : Entry) (id : List ℕ) (number : ℤ) → Has server.log entry → entry.session ≡ Some id → entry.number ≡ Some number
      → HasRunUnder id number server
  pub cursors : (at : ℕ) (left : List Reply) → slice_get server.cursors at ≡ Some (Some left) → left ≢ []

-- a server to which a run leads, by its own trace
abbrev pub IsValid : Server → Type 0
IsValid server = IsValidBy server.trace server
