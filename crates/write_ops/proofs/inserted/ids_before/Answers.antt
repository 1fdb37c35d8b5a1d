-- The documents before one write error more.
use Rattle.std.proofs.Common.{◌≡◌, IfOk, true, subst}
use Rattle.write_ops.specs.InsertAnswers.{ids_where, is_inserted}
use Rattle.write_ops.proofs.UnfailedIds.{ids_all, ids_before}
use Rattle.write_ops.proofs.inserted.ids_before.Goals as goal

pub loop-error-preserved : goal.loop-error-preserved
loop-error-preserved c =
    ids_before c.args.errors.now c.loop-error.error-index c.error-item.result c.loop-error.inserted.now c.front-inserted.result.now
    (ids_where (is_inserted true c.args.errors.now) 0 c.args.documents.now) c.loop-error-test.true c.error-item.is c.front-inserted.ensures c.loop-error.invariant

pub returns : goal.returns
returns c =
    subst (λ all. IfOk c.ids_of.result (λ ids. ids ≡ all))
    (ids_all c.args.errors.now c.loop-error.error-index c.loop-error.inserted.now (ids_where (is_inserted true c.args.errors.now) 0 c.args.documents.now)
    c.loop-error-test.false c.loop-error.invariant) c.ids_of.ensures
