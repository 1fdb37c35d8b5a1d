-- The failures with the ids of the documents that were inserted.
use Rattle.std.proofs.Common.{ap, subst, ◌∙◌}
use Rattle.driver_error.specs.declared.kind.ErrorKind.TheVariants.{InsertMany}
use Rattle.driver_error.specs.Conversions.{IsNew}
use Rattle.write_ops.specs.InsertAnswers.{ids_where, is_inserted}
use Rattle.write_ops.specs.inside.InsertAnswers.{failures_with}
use Rattle.write_ops.proofs.insert.failure_of.Goals as goal

pub returns-in-Ok : goal.returns-in-Ok
returns-in-Ok c =
    let found = c.args.found in
    subst (λ ids. IsNew (InsertMany (failures_with ids found)) found.labels c.failed_insert.result)
    (c.in-Ok.ensures ∙ ap (λ errors. ids_where (is_inserted c.args.ordered errors) 0 c.args.documents.now) c.as_slice.ensures) c.failed_insert.ensures
