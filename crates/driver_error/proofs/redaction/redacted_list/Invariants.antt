-- What was redacted so far is the front of the list.
use Rattle.std.proofs.Common.{◌≡◌, map, take}
use Rattle.driver_error.specs.Redaction.{redacted_indexed}
use Rattle.driver_error.proofs.redaction.redacted_list.Given as goal

abbrev pub invariant-loop-error : goal.invariant-loop-error
invariant-loop-error l = l.copies ≡ map redacted_indexed (take l.error-index l.errors)
