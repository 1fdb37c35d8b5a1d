use Rattle.driver_error.proofs.Equality.{concern_decides}
use Rattle.driver_error.proofs.laws.equality_of_write_concern_errors.Goals as goal

pub returns : goal.returns
returns c = concern_decides c.args.a.now c.args.b.now c.eq.result c.eq.ensures
