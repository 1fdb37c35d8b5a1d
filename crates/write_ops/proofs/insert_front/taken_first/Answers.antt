-- The longest front, where it is not empty.
use Rattle.write_ops.proofs.InsertFronts.{first_stops, first_taken}
use Rattle.write_ops.proofs.insert_front.taken_first.Goals as goal

pub returns-then-count-eq0-clause-takes : goal.returns-then-count-eq0-clause-takes
returns-then-count-eq0-clause-takes c =
    first_stops c.args.limits.now c.args.documents.now c.longest_front-count.result c.longest_front-count.ensures c.if-count-eq0.true

pub returns-else-count-eq0-clause-takes : goal.returns-else-count-eq0-clause-takes
returns-else-count-eq0-clause-takes c =
    first_taken c.args.limits.now c.args.documents.now c.longest_front-count.result c.longest_front-count.ensures c.if-count-eq0.false
