use Rattle.driver_error.proofs.Equality.{indexes_decides}
use Rattle.driver_error.proofs.laws.equality_of_indexes_results.Goals as goal

pub returns : goal.returns
returns c = indexes_decides c.args.a.now c.args.b.now c.eq.result c.eq.ensures
