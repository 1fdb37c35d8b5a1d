use Rattle.machine_laws.proofs.ValidServers.{exchanged_valid}
use Rattle.machine_laws.proofs.run_laws.exchanges_keep_it_valid.Goals as goal

pub returns : goal.returns
returns c = exchanged_valid
