use Rattle.machine_laws.proofs.ValidServers.{delivered_valid}
use Rattle.machine_laws.proofs.run_laws.deliveries_keep_it_valid.Goals as goal

pub returns : goal.returns
returns c = delivered_valid
