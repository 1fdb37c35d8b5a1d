-- The text of a command error.
use Rattle.std.specs.Prelude.{ℕ, List, ◌++◌, codes}
use Rattle.std.specs.Fmt.{signed_decimal}
use Rattle.server_answers.specs.declared.command.CommandError.{CommandError}

-- its code, its name and its message
abbrev pub command_text : CommandError → List ℕ
command_text error =
    codes "Error code " ++ signed_decimal error.code ++ codes " (" ++ error.code_name ++ codes "): " ++ error.message
