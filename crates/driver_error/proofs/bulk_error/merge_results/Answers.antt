-- Where both are there they are of one kind.
use Rattle.std.proofs.Common.{Some, subst}
use Rattle.driver_error.specs.BulkErrors.{AreAlike}
use Rattle.driver_error.proofs.bulk_error.merge_results.Goals as goal

pub merge_partial-requires : goal.merge_partial-requires
merge_partial-requires c =
    subst (λ partial. AreAlike partial (Some c.in-Some.more)) c.in-Some-partial.is
    (subst (λ more. AreAlike c.args.partial.now more) c.in-Some.is c.requires)
