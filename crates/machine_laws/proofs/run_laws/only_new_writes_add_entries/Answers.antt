use Rattle.machine_laws.proofs.NewWrites.{only_new}
use Rattle.machine_laws.proofs.run_laws.only_new_writes_add_entries.Goals as goal

pub returns : goal.returns
returns c = only_new
