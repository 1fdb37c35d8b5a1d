-- It is a lemma of the machine.
use Rattle.driver_link.proofs.SettledExchanges.{exchanged_settled}
use Rattle.call_runs.proofs.laws.an_exchange_keeps_the_invariant.Goals as goal

pub returns : goal.returns
returns c = exchanged_settled
