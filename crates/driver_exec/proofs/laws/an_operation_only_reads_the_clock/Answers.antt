-- The law is a lemma.
use Rattle.driver_exec.proofs.WholeOperation.{executes_read}
use Rattle.driver_exec.proofs.laws.an_operation_only_reads_the_clock.Goals as goal

pub returns : goal.returns
returns g c = λ op batch which before now count count_now fixed fixed_now result executes. executes_read (g.O.Operation.spec op) batch which before now count count_now fixed fixed_now result executes
