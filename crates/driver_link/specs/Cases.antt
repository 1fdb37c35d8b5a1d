-- Which case a send meets on the model server, by MongoDB's specifications of retryable writes and of
-- transactions:
-- 1. a number below its session's greatest is too old;
-- 2. a greater number begins anew (Sessions);
-- 3. outside transactions the statements without a kept result run, and enter log and kept results;
-- 4. without a number all statements run so, and nothing is kept;
-- 5. in a transaction that runs statements gather, and a statement that fails aborts the transaction;
-- 6. a commit of a transaction that runs appends its entries at once, of a committed one it changes nothing;
--    an abort of one that runs aborts it;
-- 7. all else in a transaction is denied, and aborts it where it is not committed;
-- 8. the next page gives the rest of a cursor's results, and an end to a cursor closes it.
use Rattle.std.specs.Prelude.{ℕ, ℤ, ◌&&◌, ◌||◌, Bool, true, false, List, [], Option, None, Some, if◌then◌else◌}
use Rattle.std.specs.FinMap as finite
use Rattle.driver_link.specs.declared.machine.Entry.{Entry}
use Rattle.driver_link.specs.declared.machine.KnownSession.{KnownSession}
use Rattle.driver_link.specs.declared.machine.PlacedWrite.{PlacedWrite}
use Rattle.driver_link.specs.declared.machine.Send.{Send}
use Rattle.driver_link.specs.declared.machine.SendBody.{SendBody}
use Rattle.driver_link.specs.declared.machine.SendBody.TheVariants.{Write, Commit, Abort, More, Kill}
use Rattle.driver_link.specs.declared.machine.SendCommand.TheVariants as command
use Rattle.driver_link.specs.declared.machine.Server.{Server}
use Rattle.driver_link.specs.declared.machine.ServerTransaction.{ServerTransaction}
use Rattle.driver_link.specs.declared.machine.ServerTransaction.TheVariants as transaction
use Rattle.driver_link.specs.Sessions.{is_below, is_new, taken, running}
use Rattle.driver_link.specs.Statements.{Results, negated, no_results}

-- the writes of what a command asks for
abbrev pub body_writes : SendBody → List PlacedWrite
body_writes (Write does ordered writes) = writes
body_writes other = []

-- the writes of a send
abbrev pub writes_of : Send → List PlacedWrite
writes_of send = body_writes send.body

-- whether a statement that fails stops the others; a findAndModify counts as ordered
abbrev pub is_ordered : SendBody → Bool
is_ordered (Write command.FindAndModify ordered writes) = true
is_ordered (Write does ordered writes) = ordered
is_ordered other = false

-- a commit or an abort
abbrev pub is_end : SendBody → Bool
is_end Commit = true
is_end Abort = true
is_end other = false

-- the send is in a transaction: it says so, or it ends one
abbrev pub is_in_transaction : Send → Bool
is_in_transaction send = send.in_transaction || is_end send.body

-- the cases
pub data Case : Type 0 where
  too_old : Case
  outside : Case
  gathers : List Entry → Case
  commits : List Entry → Case
  aborts : Case
  of_cursor : Case
  nothing : Case
  denied : Case

-- a write in a transaction gathers where that runs; but one that starts a transaction that has begun is denied
abbrev pub write_case : Option (List Entry) → Bool → Case
write_case None starts_again = denied
write_case (Some entries) starts_again = if starts_again then denied else gathers entries

-- a commit of a committed transaction changes nothing
abbrev pub commit_case : ServerTransaction → Case
commit_case (transaction.Running entries) = commits entries
commit_case transaction.Committed = nothing
commit_case other = denied

-- an abort
abbrev pub abort_case : ServerTransaction → Case
abort_case (transaction.Running entries) = aborts
abort_case other = denied

-- the case of a send under a number, by what is then known of its session and whether the number is new
abbrev pub numbered_case : KnownSession → Bool → Send → SendBody → Case
numbered_case known new send (Write does ordered writes) =
    if send.in_transaction then write_case (running known.transaction) (send.start && negated new) else outside
numbered_case known new send Commit = commit_case known.transaction
numbered_case known new send Abort = abort_case known.transaction
numbered_case known new send (More cursor) = of_cursor
numbered_case known new send (Kill cursor) = of_cursor

-- the case of a send without a number
abbrev pub unnumbered_case : SendBody → Case
unnumbered_case (Write does ordered writes) = outside
unnumbered_case (More cursor) = of_cursor
unnumbered_case (Kill cursor) = of_cursor
unnumbered_case other = denied

-- what is known of a session once a send under a number has come
abbrev pub known_under : List ℕ → ℤ → Server → Send → KnownSession
known_under id number server send = taken number (is_in_transaction send) send.start (finite.get server.sessions id)

-- the case of a send under a session and a number
unfoldable pub case_under : List ℕ → ℤ → Server → Send → Case
case_under id number server send =
    let before = finite.get server.sessions id in
    if is_below number before then too_old
    else numbered_case (known_under id number server send) (is_new number before) send send.body

-- the case of a send by its session and its number, of which either may be missing
unfoldable pub case_as : Option (List ℕ) → Option ℤ → Server → Send → Case
case_as (Some id) (Some number) server send = case_under id number server send
case_as session number server send = unnumbered_case send.body

-- the case that a send meets
abbrev pub case_of : Server → Send → Case
case_of server send = case_as send.session send.number server send

-- the same by the session and the number
unfoldable pub known_as : Option (List ℕ) → Option ℤ → Server → Send → Option KnownSession
known_as (Some id) (Some number) server send = Some (known_under id number server send)
known_as session number server send = None

-- what is known of a send's session once it has come, where it has a number
abbrev pub known_of : Server → Send → Option KnownSession
known_of server send = known_as send.session send.number server send

-- the results that are kept under the number of a send
abbrev pub results_of : Option KnownSession → Results
results_of None = no_results
results_of (Some known) = known.kept

-- the rules on numbers and transactions decide what is answered, whatever interrupts the send
abbrev pub is_decided : Case → Bool
is_decided too_old = true
is_decided denied = true
is_decided other = false
