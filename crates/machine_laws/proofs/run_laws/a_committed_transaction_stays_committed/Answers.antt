use Rattle.machine_laws.proofs.EndedTransactions.{committed_stays}
use Rattle.machine_laws.proofs.run_laws.a_committed_transaction_stays_committed.Goals as goal

pub returns : goal.returns
returns c = committed_stays
