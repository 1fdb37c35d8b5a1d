-- The failure of a numbered write at a deployment that takes no transaction numbers.
use Rattle.std.specs.Prelude.{ℕ, nat_eq, pos, Bool, ◌&&◌, List, codes, if◌then◌else◌}
use Rattle.std.specs.List.{starts_with}
use Rattle.std.specs.Ordering.{int_eq}
use Rattle.server_answers.specs.declared.command.CommandError.{CommandError}
use Rattle.driver_error.specs.declared.error.Error.{Error}
use Rattle.driver_error.specs.declared.kind.ErrorKind.TheVariants as kind
use Rattle.driver_error.specs.Error.{ErrorKind, kind_of, with_kind}

-- how the message of a deployment begins that takes no transaction numbers
unfoldable pub numbers_refused : List ℕ
numbers_refused = codes "Transaction numbers"

-- what its caller is told
unfoldable pub no_retryable_writes : List ℕ
no_retryable_writes =
    codes "This MongoDB deployment does not support retryable writes. Please add retryWrites=false to your connection string."

-- a command was refused with code 20 and a message that begins by speaking of transaction numbers
abbrev pub refuses_numbers : CommandError → Bool
refuses_numbers error = int_eq error.code (pos 20) && starts_with nat_eq error.message numbers_refused

-- such a command error has the message for the caller in place of its own
abbrev pub reworded_command : CommandError → CommandError
reworded_command error = if refuses_numbers error then record error { message = no_retryable_writes } else error

-- all other kinds stay
unfoldable pub reworded_kind : ErrorKind → ErrorKind
reworded_kind (kind.Command error) = kind.Command (reworded_command error)
reworded_kind why = why

-- the error with its command's message for the caller, where it gets one; all else of it stays
unfoldable pub reworded : Error → Error
reworded error = with_kind (reworded_kind (kind_of error)) error
