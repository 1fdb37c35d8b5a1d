use Rattle.machine_laws.proofs.QuietAnswers.{transient_none}
use Rattle.machine_laws.proofs.run_laws.nothing_enters_a_transient_transaction.Goals as goal

pub returns : goal.returns
returns c = transient_none
