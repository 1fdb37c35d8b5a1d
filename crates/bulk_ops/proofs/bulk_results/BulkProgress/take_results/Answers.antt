-- One result more, until none is left.
use Rattle.std.proofs.Common.{sym, ◌∙◌}
use Rattle.bulk_ops.specs.inside.BulkResults.{batch_told}
use Rattle.bulk_ops.proofs.TakenResults.{left_next, left_nothing}
use Rattle.bulk_ops.proofs.bulk_results.BulkProgress.take_results.Goals as goal

pub loop-told-preserved : goal.loop-told-preserved
loop-told-preserved g c =
    left_next (batch_told g.R.BulkWriteResult.tells c.args.batch) c.args.self.now c.loop-told.self c.take_result.new.self c.in-Some.told c.next.new.self.rest.items c.loop-told.told-iterator.rest.items c.args.results
    c.in-Some.ensures.steps.0 c.loop-told.invariant c.in_ok-take_result.ensures.takes

pub returns-clause-takes : goal.returns-clause-takes
returns-clause-takes g c =
    left_nothing (batch_told g.R.BulkWriteResult.tells c.args.batch) c.args.self.now c.loop-told.self c.loop-told.told-iterator.rest.items c.args.results
    (sym c.loop-told.told-iterator.rest.ok.0 ∙ c.in-None.ensures.steps.0) c.loop-told.invariant
