-- The law is a lemma.
use Rattle.driver_exec.proofs.WholeOperation.{executes_once}
use Rattle.driver_exec.proofs.laws.an_operation_that_may_not_be_repeated_sends_once.Goals as goal

pub returns : goal.returns
returns g c = λ op batch which before now count count_now fixed fixed_now result executes nothing. executes_once (g.O.Operation.spec op) batch which before now count count_now fixed fixed_now result nothing executes
