use Rattle.driver_error.proofs.Equality.{database_decides}
use Rattle.driver_error.proofs.laws.equality_of_databases.Goals as goal

pub returns : goal.returns
returns c = database_decides c.args.a.now c.args.b.now c.eq.result c.eq.ensures
