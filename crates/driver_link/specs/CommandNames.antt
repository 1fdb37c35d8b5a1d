-- Which command a key names.
use Rattle.std.specs.Prelude.{ℕ, List, Option, None, Some, bytes_eq, if◌then◌else◌}
use Rattle.driver_link.specs.declared.command.CommandName.{CommandName}
use Rattle.driver_link.specs.declared.command.CommandName.TheVariants as name
use Rattle.wire_keys.specs.declared.keys.TheConstants.{ABORT_TRANSACTION, BULK_WRITE, COMMIT_TRANSACTION, DELETE, FIND_AND_MODIFY, GET_MORE, INSERT, KILL_CURSORS, UPDATE}

-- the command that a text names
unfoldable pub command_named : List ℕ → Option CommandName
command_named key =
    if bytes_eq key INSERT.now then Some name.Insert else (
    if bytes_eq key UPDATE.now then Some name.Update else (
    if bytes_eq key DELETE.now then Some name.Delete else (
    if bytes_eq key FIND_AND_MODIFY.now then Some name.FindAndModify else (
    if bytes_eq key BULK_WRITE.now then Some name.BulkWrite else (
    if bytes_eq key COMMIT_TRANSACTION.now then Some name.CommitTransaction else (
    if bytes_eq key ABORT_TRANSACTION.now then Some name.AbortTransaction else (
    if bytes_eq key GET_MORE.now then Some name.GetMore else (
    if bytes_eq key KILL_CURSORS.now then Some name.KillCursors else None))))))))
