-- The law is a lemma.
use Rattle.driver_exec.proofs.WholeOperation.{executes_draws}
use Rattle.driver_exec.proofs.laws.an_operation_draws_in_order.Goals as goal

pub returns : goal.returns
returns g c = λ op batch which before now count count_now fixed fixed_now result executes. executes_draws (g.O.Operation.spec op) batch which before now count count_now fixed fixed_now result (g.met.O.Operation.law op).alone executes
