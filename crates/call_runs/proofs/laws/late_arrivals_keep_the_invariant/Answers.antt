-- It is a lemma of the machine.
use Rattle.driver_link.proofs.SettledExchanges.{after_settled}
use Rattle.call_runs.proofs.laws.late_arrivals_keep_the_invariant.Goals as goal

pub returns : goal.returns
returns c = after_settled
