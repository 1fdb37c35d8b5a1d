-- Write errors stand apart where their indexes are distinct.
use Rattle.std.proofs.Common.{◌≡◌, Bool, IfOk, ap, subst, ◌∙◌}
use Rattle.write_ops.specs.inside.InsertAnswers.{distinct}
use Rattle.write_ops.proofs.FailedStatements.{apart_is}
use Rattle.write_ops.proofs.inserted.are_apart.Goals as goal

pub returns : goal.returns
returns c =
    subst (λ (apart : Bool). IfOk c.are_distinct.result (λ told. told ≡ apart))
    (ap (λ numbers. distinct numbers) (c.as_slice.ensures.value ∙ c.in_ok-indexes.ensures) ∙ apart_is c.args.errors.now) c.are_distinct.ensures
