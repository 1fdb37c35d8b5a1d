-- The front that is fixed, where all of it goes out.
use Rattle.write_ops.proofs.InsertFronts.{again_stops, again_taken}
use Rattle.write_ops.proofs.insert_front.taken_again.Goals as goal

pub returns-then-count-fixed-clause-takes : goal.returns-then-count-fixed-clause-takes
returns-then-count-fixed-clause-takes c =
    again_taken c.args.limits.now c.args.documents.now c.front.result.now c.args.fixed c.longest_front-count.result c.front.ensures c.longest_front-count.ensures
    c.if-count-fixed.true c.requires

pub returns-else-count-fixed-clause-takes : goal.returns-else-count-fixed-clause-takes
returns-else-count-fixed-clause-takes c =
    again_stops c.args.limits.now c.args.documents.now c.front.result.now c.args.fixed c.longest_front-count.result c.front.ensures c.longest_front-count.ensures
    c.if-count-fixed.false
