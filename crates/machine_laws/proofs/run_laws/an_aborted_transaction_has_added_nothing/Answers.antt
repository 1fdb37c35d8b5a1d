use Rattle.machine_laws.proofs.EndedTransactions.{added_none}
use Rattle.machine_laws.proofs.run_laws.an_aborted_transaction_has_added_nothing.Goals as goal

pub returns : goal.returns
returns c = added_none
