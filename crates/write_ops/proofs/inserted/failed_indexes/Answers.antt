-- One write error more.
use Rattle.write_ops.proofs.FailedStatements.{failed_all, failed_more, failed_none}
use Rattle.write_ops.proofs.inserted.failed_indexes.Goals as goal

pub loop-error-init : goal.loop-error-init
loop-error-init c = failed_none c.args.errors.now c.new-failed.result c.new-failed.ensures.empty

pub loop-error-preserved : goal.loop-error-preserved
loop-error-preserved c =
    failed_more c.args.errors.now c.loop-error.error-index c.error-item.result c.loop-error.failed c.insert.new.self c.loop-error-test.true c.error-item.is
    c.in_ok-insert.ensures.updates.0 c.loop-error.invariant

pub returns : goal.returns
returns c = failed_all c.args.errors.now c.loop-error.error-index c.loop-error.failed c.loop-error-test.false c.loop-error.invariant
