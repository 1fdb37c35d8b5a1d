-- The number that is fixed.
use Rattle.std.proofs.Common.{◌≡◌, ℕ, subst}
use Rattle.std.specs.Prelude.{IfSome, Option}
use Rattle.write_ops.proofs.insert.InsertOperation.statements.Goals as goal

pub returns : goal.returns
returns c =
    subst (λ (fixed : Option ℕ). IfSome fixed (λ statements. c.statements_of.result ≡ statements)) c.statements_fixed.ensures.value c.statements_of.ensures
