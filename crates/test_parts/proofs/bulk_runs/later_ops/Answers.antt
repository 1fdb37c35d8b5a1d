-- There are no more ops.
use Rattle.std.proofs.Common.{sym}
use Rattle.std.proofs.lemmas.List.{drop_all}
use Rattle.test_parts.proofs.bulk_runs.later_ops.Goals as goal

pub returns-else-first-ops : goal.returns-else-first-ops
returns-else-first-ops c = sym (drop_all c.args.first c.args.ops.now c.if-first-ops.false)
