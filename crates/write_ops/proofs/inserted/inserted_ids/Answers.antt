-- The ids by whether the insert is ordered.
use Rattle.std.proofs.Common.{◌≡◌, Bool, IfOk, subst, sym}
use Rattle.write_ops.specs.InsertAnswers.{ids_where, is_inserted}
use Rattle.write_ops.proofs.inserted.inserted_ids.Goals as goal

pub returns-then-ordered : goal.returns-then-ordered
returns-then-ordered c =
    subst (λ (ordered : Bool). IfOk c.ids_before.result (λ ids. ids ≡ ids_where (is_inserted ordered c.args.errors.now) 0 c.args.documents.now))
    (sym c.if-ordered.true) c.ids_before.ensures

pub returns-else-ordered : goal.returns-else-ordered
returns-else-ordered c =
    subst (λ (ordered : Bool). IfOk c.ids_unfailed.result (λ ids. ids ≡ ids_where (is_inserted ordered c.args.errors.now) 0 c.args.documents.now))
    (sym c.if-ordered.false) c.ids_unfailed.ensures
