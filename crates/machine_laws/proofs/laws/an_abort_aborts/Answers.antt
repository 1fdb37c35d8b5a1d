use Rattle.machine_laws.proofs.CommitLaws.{aborts_law}
use Rattle.machine_laws.proofs.laws.an_abort_aborts.Goals as goal

pub returns : goal.returns
returns c = aborts_law
