use Rattle.machine_laws.proofs.NewWrites.{first_new}
use Rattle.machine_laws.proofs.run_laws.an_interruption_runs_the_first_new_writes.Goals as goal

pub returns : goal.returns
returns c = first_new
