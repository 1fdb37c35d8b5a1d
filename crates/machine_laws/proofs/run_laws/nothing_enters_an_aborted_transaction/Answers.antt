use Rattle.machine_laws.proofs.EndedTransactions.{none_inside}
use Rattle.machine_laws.proofs.run_laws.nothing_enters_an_aborted_transaction.Goals as goal

pub returns : goal.returns
returns c = none_inside
