use Rattle.machine_laws.proofs.EndedTransactions.{aborted_stays}
use Rattle.machine_laws.proofs.run_laws.an_aborted_transaction_stays_aborted.Goals as goal

pub returns : goal.returns
returns c = aborted_stays
