-- A failure that is decided on, as the functions that decide take it.
use Rattle.std.specs.Prelude.{ℤ, Option}
use Rattle.driver_options.specs.declared.options.Address.{Address}
use Rattle.retry_rules.specs.declared.failure.AttemptFailure.{AttemptFailure}
use Rattle.retry_rules.specs.declared.failure.Failure.{Failure}

-- a failure after a last send under a number, at the server of an address
abbrev pub failure_at : Failure → Option ℤ → Address → AttemptFailure
failure_at failure number address = record { error = failure.error; phase = failure.phase; address = address; number = number }
