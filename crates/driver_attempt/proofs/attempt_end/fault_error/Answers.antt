-- The failure became an error that is no want of memory, and it was labelled.
use Rattle.std.proofs.Common.{sym, ◌∙◌}
use Rattle.driver_attempt.proofs.FaultErrors.{faulted}
use Rattle.driver_attempt.proofs.attempt_end.fault_error.Goals as goal

pub returns : goal.returns
returns c = faulted c.args.failure c.args.retryability c.from-error.result c.labelled.result c.from-error.ensures (sym c.is_memory.ensures ∙ c.if-is_memory.false) c.labelled.ensures
