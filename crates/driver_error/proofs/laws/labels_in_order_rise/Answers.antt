use Rattle.driver_error.proofs.SortedLabels.{lists_exactly}
use Rattle.driver_error.proofs.laws.labels_in_order_rise.Goals as goal

pub returns : goal.returns
returns c = lists_exactly
