use Rattle.machine_laws.proofs.NewWrites.{each_new}
use Rattle.machine_laws.proofs.run_laws.new_writes_add_an_entry_each.Goals as goal

pub returns : goal.returns
returns c = each_new
