use Rattle.machine_laws.proofs.ValidServers.{empty_valid}
use Rattle.machine_laws.proofs.run_laws.the_empty_server_is_valid.Goals as goal

pub returns : goal.returns
returns c = empty_valid
