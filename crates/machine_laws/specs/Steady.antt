-- What the laws of serving speak of: a session's transaction, kept results, and a log that only grows.
use Rattle.std.specs.Prelude.{◌≡◌, ℕ, ◌+◌, ℤ, List, [], ◌∷◌, ◌++◌, Some, IsSome}
use Rattle.std.specs.FinMap as finite
use Rattle.driver_link.specs.declared.machine.Entry.{Entry}
use Rattle.driver_link.specs.declared.machine.KnownSession.{KnownSession}
use Rattle.driver_link.specs.declared.machine.PlacedWrite.{PlacedWrite}
use Rattle.driver_link.specs.declared.machine.Send.{Send}
use Rattle.driver_link.specs.declared.machine.Server.{Server}
use Rattle.driver_link.specs.declared.machine.ServerTransaction.{ServerTransaction}
use Rattle.driver_link.specs.Statements.{Results}

-- the send goes under this session and number
pub record GoesUnder (id : List ℕ) (number : ℤ) (send : Send) : Type 0 where
  pub its_session : send.session ≡ Some id
  pub its_number : send.number ≡ Some number

-- the session has this number as its greatest, and this transaction under it
pub record HasTransaction (id : List ℕ) (number : ℤ) (transaction : ServerTransaction) (server : Server) : Type 0 where
  pub known : KnownSession
  pub there : finite.get server.sessions id ≡ Some known
  pub greatest : known.greatest ≡ number
  pub its : known.transaction ≡ transaction

-- entries were added at the log's end, and none went
pub record OnlyAdds (old now : Server) : Type 0 where
  pub more : List Entry
  pub log : now.log ≡ old.log ++ more

-- each write, the first at a position, has a kept result
abbrev pub HasResults : Results → ℕ → List PlacedWrite → Type 0
HasResults kept at [] = Unit {0}
HasResults kept at (write ∷ writes) = IsSome (finite.get kept at) × HasResults kept (at + 1) writes
