-- The law is a lemma.
use Rattle.driver_exec.proofs.WholeOperation.{executes_lends}
use Rattle.driver_exec.proofs.laws.an_operation_keeps_what_is_lent.Goals as goal

pub returns : goal.returns
returns g c = λ op batch which before now count count_now fixed fixed_now result executes. executes_lends (g.O.Operation.spec op) batch which before now count count_now fixed fixed_now result (g.met.O.Operation.law op).alone executes
