-- The writes of a send that have no kept result, the entries of some of them, and a transaction that gathers some.
use Rattle.std.specs.Prelude.{◌≡◌, ℕ, ◌+◌, ℤ, List, [], ◌∷◌, ◌++◌, is_some, ◌⊎◌, if◌then◌else◌}
use Rattle.std.specs.FinMap as finite
use Rattle.driver_link.specs.Cases.{known_of, results_of, writes_of}
use Rattle.driver_link.specs.Statements.{Results, counts_by_plan, entry_of, no_plan}
use Rattle.driver_link.specs.declared.machine.Counted.{Counted}
use Rattle.driver_link.specs.declared.machine.Entry.{Entry}
use Rattle.driver_link.specs.declared.machine.PlacedWrite.{PlacedWrite}
use Rattle.driver_link.specs.declared.machine.Send.{Send}
use Rattle.driver_link.specs.declared.machine.Server.{Server}
use Rattle.driver_link.specs.declared.machine.ServerTransaction.TheVariants as transaction
use Rattle.machine_laws.specs.Steady.{HasTransaction}

-- the writes without a kept result, the first write at a position
unfoldable pub without_result : Results → ℕ → List PlacedWrite → List PlacedWrite
without_result kept at [] = []
without_result kept at (write ∷ writes) =
    if is_some (finite.get kept at) then without_result kept (at + 1) writes else write ∷ without_result kept (at + 1) writes

-- the writes of a send that have no kept result
abbrev pub new_writes : Server → Send → List PlacedWrite
new_writes server send = without_result (results_of (known_of server send)) 0 (writes_of send)

-- the entry of a write whose result is as usual
abbrev pub usual_entry : Send → PlacedWrite → Entry
usual_entry send write = entry_of send.session send.number write (counts_by_plan write.written.kind no_plan)

-- an entry of a write of a send, whatever its result
pub record IsEntryBy (send : Send) (write : PlacedWrite) (entry : Entry) : Type 0 where
  pub result : Counted
  pub is : entry ≡ entry_of send.session send.number write result

-- entries of some of these writes: each of its own, in their order
abbrev pub AreOfSome : Send → List PlacedWrite → List Entry → Type 0
AreOfSome send writes [] = Unit {0}
AreOfSome send [] (entry ∷ entries) = ⊥
AreOfSome send (write ∷ writes) (entry ∷ entries) = (IsEntryBy send write entry × AreOfSome send writes entries) ⊎ AreOfSome send writes (entry ∷ entries)

-- the log gains entries of some of these writes alone
pub record GainsOfSome (send : Send) (writes : List PlacedWrite) (old now : Server) : Type 0 where
  pub more : List Entry
  pub log : now.log ≡ old.log ++ more
  pub are : AreOfSome send writes more

-- entries of these writes: one of each, in their order
abbrev pub AreOfEach : Send → List PlacedWrite → List Entry → Type 0
AreOfEach send [] [] = Unit {0}
AreOfEach send [] (entry ∷ entries) = ⊥
AreOfEach send (write ∷ writes) [] = ⊥
AreOfEach send (write ∷ writes) (entry ∷ entries) = IsEntryBy send write entry × AreOfEach send writes entries

-- the log gains an entry of each of these writes, and no other
pub record GainsOfEach (send : Send) (writes : List PlacedWrite) (old now : Server) : Type 0 where
  pub more : List Entry
  pub log : now.log ≡ old.log ++ more
  pub are : AreOfEach send writes more

-- the transaction of this session and number runs, and has gathered these entries and behind them one of each write of a send, no other
pub record GathersEach (id : List ℕ) (number : ℤ) (send : Send) (entries : List Entry) (now : Server) : Type 0 where
  pub more : List Entry
  pub its : HasTransaction id number (transaction.Running (entries ++ more)) now
  pub are : AreOfEach send (writes_of send) more
