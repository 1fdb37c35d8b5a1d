use Rattle.bulk_ops.proofs.laws.each_namespace_is_described_once.Goals as goal
use Rattle.bulk_ops.proofs.FirstUses.{keeps_first_uses}

-- texts in the order of their first use
pub returns : goal.returns
returns c = keeps_first_uses
