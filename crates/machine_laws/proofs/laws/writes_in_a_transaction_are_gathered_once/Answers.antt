use Rattle.machine_laws.proofs.GatheredWrites.{gathered_law}
use Rattle.machine_laws.proofs.laws.writes_in_a_transaction_are_gathered_once.Goals as goal

pub returns : goal.returns
returns c = gathered_law
