-- The documents besides those that failed are those that were inserted.
use Rattle.std.proofs.Common.{◌≡◌, IfOk, false, nat_eq, not, subst}
use Rattle.std.specs.HashSet.{contains}
use Rattle.write_ops.specs.InsertAnswers.{is_inserted}
use Rattle.write_ops.proofs.UnfailedIds.{ids_alike}
use Rattle.write_ops.proofs.inserted.ids_unfailed.Goals as goal

pub returns : goal.returns
returns c =
    subst (λ all. IfOk c.ids_besides.result (λ ids. ids ≡ all))
    (ids_alike (λ at. not (contains nat_eq c.in_ok-failed.failed at)) (is_inserted false c.args.errors.now) c.in_ok-failed.ensures c.args.documents.now 0)
    c.ids_besides.ensures
