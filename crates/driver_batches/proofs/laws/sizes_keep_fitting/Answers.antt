use Rattle.driver_batches.proofs.Keeping.{sizes_keep}
use Rattle.driver_batches.proofs.laws.sizes_keep_fitting.Goals as goal

-- limits are kept by what is left
pub returns : goal.returns
returns c = sizes_keep
