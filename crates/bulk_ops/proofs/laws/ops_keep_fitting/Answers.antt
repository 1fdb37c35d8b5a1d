use Rattle.bulk_ops.proofs.laws.ops_keep_fitting.Goals as goal
use Rattle.bulk_ops.proofs.DistinctSums.{ops_keep_fit}

-- limits are kept by what is left
pub returns : goal.returns
returns c = ops_keep_fit
