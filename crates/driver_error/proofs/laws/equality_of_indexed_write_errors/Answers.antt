use Rattle.driver_error.proofs.Equality.{indexed_decides}
use Rattle.driver_error.proofs.laws.equality_of_indexed_write_errors.Goals as goal

pub returns : goal.returns
returns c = indexed_decides c.args.a.now c.args.b.now c.eq.result c.eq.ensures
