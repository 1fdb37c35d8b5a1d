-- What a session's transaction has gathered, and whether a send names a session and a number.
use Rattle.std.specs.Prelude.{ℕ, ℤ, Bool, true, false, List, [], Option, None, Some}
use Rattle.driver_link.specs.declared.machine.Entry.{Entry}
use Rattle.driver_link.specs.declared.machine.KnownSession.{KnownSession}
use Rattle.driver_link.specs.declared.machine.ServerTransaction.{ServerTransaction}
use Rattle.driver_link.specs.declared.machine.ServerTransaction.TheVariants as transaction

-- the entries that a transaction has gathered
abbrev pub entries_in : ServerTransaction → List Entry
entries_in (transaction.Running entries) = entries
entries_in other = []

-- the same of a session; none where a send has no number
abbrev pub gathered_by : Option KnownSession → List Entry
gathered_by None = []
gathered_by (Some known) = entries_in known.transaction

-- the send names a session and a number
abbrev pub is_numbered : Option (List ℕ) → Option ℤ → Bool
is_numbered (Some id) (Some number) = true
is_numbered session number = false
