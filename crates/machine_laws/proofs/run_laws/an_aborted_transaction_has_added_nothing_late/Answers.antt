use Rattle.machine_laws.proofs.EndedTransactions.{added_none_late}
use Rattle.machine_laws.proofs.run_laws.an_aborted_transaction_has_added_nothing_late.Goals as goal

pub returns : goal.returns
returns c = added_none_late
