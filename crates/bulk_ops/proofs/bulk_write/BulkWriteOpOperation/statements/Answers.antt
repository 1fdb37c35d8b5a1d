-- The number that is fixed.
use Rattle.std.proofs.Common.{◌≡◌, ℕ, subst}
use Rattle.std.specs.Prelude.{IfSome, Option}
use Rattle.bulk_ops.proofs.bulk_write.BulkWriteOpOperation.statements.Goals as goal

pub returns : goal.returns
returns g c =
    subst (λ (fixed : Option ℕ). IfSome fixed (λ statements. c.statements_of.result ≡ statements)) c.fixed_count.ensures.value c.statements_of.ensures
