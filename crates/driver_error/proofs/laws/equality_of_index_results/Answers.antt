use Rattle.driver_error.proofs.Equality.{index_decides}
use Rattle.driver_error.proofs.laws.equality_of_index_results.Goals as goal

pub returns : goal.returns
returns c = index_decides c.args.a.now c.args.b.now c.eq.result c.eq.ensures
