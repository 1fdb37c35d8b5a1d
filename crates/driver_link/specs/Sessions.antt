-- What the model server knows of a session once a send under a number has come, by MongoDB's
-- specifications of retryable writes and of transactions.
use Rattle.std.specs.Prelude.{ℤ, Bool, true, false, List, [], Option, None, Some, int_lt, if◌then◌else◌}
use Rattle.driver_link.specs.declared.machine.Entry.{Entry}
use Rattle.driver_link.specs.declared.machine.KnownSession.{KnownSession}
use Rattle.driver_link.specs.declared.machine.ServerTransaction.{ServerTransaction}
use Rattle.driver_link.specs.declared.machine.ServerTransaction.TheVariants as transaction
use Rattle.driver_link.specs.Statements.{no_results}

-- the transaction of a number that is new: in a transaction it runs where the send starts it, else it is
-- aborted; outside transactions there is none
abbrev pub opened : Bool → Bool → ServerTransaction
opened false start = transaction.None
opened true true = transaction.Running []
opened true false = transaction.Aborted

-- a session begins, or begins anew, with a number
abbrev pub begin_session : ℤ → Bool → Bool → KnownSession
begin_session number in_transaction start =
    record { greatest = number; kept = no_results; ran = false; transaction = opened in_transaction start }

-- the number is below the greatest of its session
unfoldable pub is_below : ℤ → Option KnownSession → Bool
is_below number None = false
is_below number (Some known) = int_lt number known.greatest

-- the number is new to the session
unfoldable pub is_new : ℤ → Option KnownSession → Bool
is_new number None = true
is_new number (Some known) = int_lt known.greatest number

-- what is known of a session once a send with this number has come: a greater number begins anew
unfoldable pub taken : ℤ → Bool → Bool → Option KnownSession → KnownSession
taken number in_transaction start None = begin_session number in_transaction start
taken number in_transaction start (Some known) = if int_lt known.greatest number then begin_session number in_transaction start else known

-- the transaction is committed
abbrev pub is_committed : ServerTransaction → Bool
is_committed transaction.Committed = true
is_committed other = false

-- the transaction once a send was denied in it: aborted, unless it is committed
abbrev pub denied_transaction : ServerTransaction → ServerTransaction
denied_transaction transaction.Committed = transaction.Committed
denied_transaction other = transaction.Aborted

-- the entries that a transaction gathers, where it runs
abbrev pub running : ServerTransaction → Option (List Entry)
running (transaction.Running entries) = Some entries
running other = None
