-- Nothing is noted yet.
use Rattle.bulk_ops.proofs.JudgedPages.{seen_none}
use Rattle.bulk_ops.proofs.bulk_results.SeenResults.none.Goals as goal

pub returns : goal.returns
returns c = seen_none c.args.errors c.new.result c.new.ensures.items
