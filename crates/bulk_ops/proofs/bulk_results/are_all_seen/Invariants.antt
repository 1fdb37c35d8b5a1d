-- The ops that were passed have their results.
use Rattle.std.proofs.Common.{◌≡◌}
use Rattle.bulk_ops.specs.BulkRules.{are_all_seen}
use Rattle.bulk_ops.specs.inside.BulkResults.{has_seen}
use Rattle.bulk_ops.proofs.bulk_results.are_all_seen.Given as goal

abbrev pub invariant-left : goal.invariant-left
invariant-left l = are_all_seen l.ops (has_seen l.seen) ≡ are_all_seen l.at (has_seen l.seen)

abbrev pub decreases-left : goal.decreases-left
decreases-left l = l.at
