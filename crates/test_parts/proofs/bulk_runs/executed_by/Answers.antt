-- A batch of a bulk write asks for the writes of the models that are left of those that were accepted, under as many places.
use Rattle.std.proofs.Common.{ap, sym, ◌∙◌, drop, length}
use Rattle.bulk_actions.proofs.OpsLeft.{later_bodies}
use Rattle.test_parts.proofs.bulk_runs.executed_by.Goals as goal

pub execute_operation-requires : goal.execute_operation-requires
execute_operation-requires g c =
    later_bodies c.in_ok-op.op.target c.in_ok-op.op.first c.args.first c.in_ok-op.op.options.now _ g.R.BulkWriteResult.tells _ _ c.args.models.now c.in_ok-op.op.ops.now c.in_ok-ops.ops
    c.as_slice-3.result.now c.in_ok-ops.ensures.prepares
    (c.in_ok-op.ensures.ops ∙ ap (drop c.args.first) c.as_slice-2.ensures)
    (ap length c.as_slice-3.ensures ∙ c.in_ok-places.ensures ∙ ap length (c.later_ops-own.ensures ∙ ap (drop c.args.first) c.as_slice.ensures ∙ sym (c.in_ok-op.ensures.ops ∙ ap (drop c.args.first) c.as_slice-2.ensures)))
