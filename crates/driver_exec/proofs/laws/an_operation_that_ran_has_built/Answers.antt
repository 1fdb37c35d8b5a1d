-- The law is a lemma.
use Rattle.driver_exec.proofs.BuiltCommands.{executes_built}
use Rattle.driver_exec.proofs.laws.an_operation_that_ran_has_built.Goals as goal

pub returns : goal.returns
returns g c = λ op batch which before now count count_now fixed fixed_now result executes. executes_built (g.O.Operation.spec op) batch which before now count count_now fixed fixed_now result (g.met.O.Operation.law op).alone executes
