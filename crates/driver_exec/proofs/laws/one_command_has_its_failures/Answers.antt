-- The law is a lemma.
use Rattle.driver_exec.proofs.InvariantSteps.Standing.{one_command_failures}
use Rattle.driver_exec.proofs.laws.one_command_has_its_failures.Goals as goal

pub returns : goal.returns
returns g c = λ op batch before now result body asked sends. one_command_failures (g.O.Operation.spec op) batch before now body asked result sends
