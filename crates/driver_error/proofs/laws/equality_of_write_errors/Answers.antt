use Rattle.driver_error.proofs.Equality.{error_decides}
use Rattle.driver_error.proofs.laws.equality_of_write_errors.Goals as goal

pub returns : goal.returns
returns c = error_decides c.args.a.now c.args.b.now c.eq.result c.eq.ensures
