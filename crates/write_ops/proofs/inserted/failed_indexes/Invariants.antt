-- The set has the indexes of the write errors that are not left.
use Rattle.write_ops.proofs.FailedStatements.{HasFailed}
use Rattle.write_ops.proofs.inserted.failed_indexes.Given as goal

abbrev pub invariant-loop-error : goal.invariant-loop-error
invariant-loop-error l = HasFailed l.errors l.error-index l.failed
