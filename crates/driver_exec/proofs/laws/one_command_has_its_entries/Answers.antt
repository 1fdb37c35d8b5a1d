-- The law is a lemma.
use Rattle.driver_exec.proofs.InvariantSteps.Standing.{one_command_entries}
use Rattle.driver_exec.proofs.laws.one_command_has_its_entries.Goals as goal

pub returns : goal.returns
returns g c = λ op batch before now result body asked sends. one_command_entries (g.O.Operation.spec op) batch before now body asked (g.met.O.Operation.law op) result sends
