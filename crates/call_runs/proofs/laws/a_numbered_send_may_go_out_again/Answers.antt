-- It is a lemma of the machine.
use Rattle.driver_link.proofs.OrderlyTraces.{orderly_again}
use Rattle.call_runs.proofs.laws.a_numbered_send_may_go_out_again.Goals as goal

pub returns : goal.returns
returns c = orderly_again
