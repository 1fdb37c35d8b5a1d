use Rattle.machine_laws.proofs.CommitLaws.{aborted_law}
use Rattle.machine_laws.proofs.laws.an_aborted_transaction_adds_nothing.Goals as goal

pub returns : goal.returns
returns c = aborted_law
