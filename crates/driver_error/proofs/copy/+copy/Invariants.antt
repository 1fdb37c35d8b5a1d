-- A copy goes down the errors that an error holds.
use Rattle.std.proofs.Common.{◌+◌, ◌*◌}
use Rattle.driver_error.proofs.copy.+copy.Given as goal

abbrev pub decreases-copy_error : goal.decreases-copy_error
decreases-copy_error l = 4 * goal.size-copy_error l

abbrev pub decreases-copy_boxed : goal.decreases-copy_boxed
decreases-copy_boxed l = 4 * goal.size-copy_boxed l + 1

abbrev pub decreases-copy_file_error : goal.decreases-copy_file_error
decreases-copy_file_error l = 4 * goal.size-copy_file_error l + 2

abbrev pub decreases-copy_kind : goal.decreases-copy_kind
decreases-copy_kind l = 4 * goal.size-copy_kind l + 3
