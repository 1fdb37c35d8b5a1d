-- The front that is fixed, where all of it goes out.
use Rattle.std.proofs.Common.{sym, subst, ◌∙◌}
use Rattle.std.specs.Prelude.{Some}
use Rattle.bulk_fronts.specs.inside.BulkFronts.{StopsAtOp}
use Rattle.bulk_fronts.proofs.TakenFronts.{again_front, again_none}
use Rattle.bulk_fronts.proofs.bulk_front.taken_again.Goals as goal

pub returns-then-count-fixed : goal.returns-then-count-fixed
returns-then-count-fixed c =
    again_front c.args.limits.now c.args.ops.now c.first_ops.result.now c.args.fixed c.in_ok-front.front c.first_ops.ensures c.in_ok-front.ensures
    (sym c.len-count.ensures ∙ c.if-count-fixed.true) c.requires

pub returns-else-count-fixed : goal.returns-else-count-fixed
returns-else-count-fixed c =
    subst (λ at. StopsAtOp c.args.limits.now c.args.ops.now (Some c.args.fixed) at) (sym c.len-count.ensures)
    (again_none c.args.limits.now c.args.ops.now c.first_ops.result.now c.args.fixed c.in_ok-front.front c.first_ops.ensures c.in_ok-front.ensures
    (λ whole. c.if-count-fixed.false (c.len-count.ensures ∙ whole)))
