-- There are no more ops.
use Rattle.std.proofs.Common.{sym, take_all}
use Rattle.bulk_fronts.proofs.bulk_front.first_ops.Goals as goal

pub returns-else-count-ops : goal.returns-else-count-ops
returns-else-count-ops c = sym (take_all c.args.count c.args.ops.now c.if-count-ops.false)
