-- Redaction goes down the sources.
use Rattle.std.proofs.Common.{◌+◌, ◌*◌}
use Rattle.driver_error.proofs.redaction.+redaction.Given as goal

abbrev pub decreases-redacted_copy : goal.decreases-redacted_copy
decreases-redacted_copy l = 2 * goal.size-redacted_copy l

abbrev pub decreases-redacted_source : goal.decreases-redacted_source
decreases-redacted_source l = 2 * goal.size-redacted_source l + 1
