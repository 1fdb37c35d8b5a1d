-- The two are of one kind.
use Rattle.std.proofs.Common.{subst}
use Rattle.server_answers.specs.declared.results.PartialBulkWriteResult.TheVariants as partly
use Rattle.driver_error.specs.BulkErrors.{AreOfOneKind}
use Rattle.driver_error.proofs.bulk_error.merge_partial.Goals as goal

pub unreachable-requires : goal.unreachable-requires
unreachable-requires c =
    subst (λ partial. AreOfOneKind partial (partly.Summary c.in-Summary.more)) c.in-Verbose-partial.is
    (subst (λ more. AreOfOneKind c.args.partial.now more) c.in-Summary.is c.requires)

pub unreachable-requires-in-Summary-partial-2 : goal.unreachable-requires-in-Summary-partial-2
unreachable-requires-in-Summary-partial-2 c =
    subst (λ partial. AreOfOneKind partial (partly.Verbose c.in-Verbose.more)) c.in-Summary-partial-2.is
    (subst (λ more. AreOfOneKind c.args.partial.now more) c.in-Verbose.is c.requires)
