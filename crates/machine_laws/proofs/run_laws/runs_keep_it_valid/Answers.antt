use Rattle.machine_laws.proofs.ValidServers.{events_valid}
use Rattle.machine_laws.proofs.run_laws.runs_keep_it_valid.Goals as goal

pub returns : goal.returns
returns c = events_valid
