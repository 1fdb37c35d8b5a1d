use Rattle.machine_laws.proofs.QuietAnswers.{nothing_ran}
use Rattle.machine_laws.proofs.run_laws.an_overloaded_answer_adds_nothing.Goals as goal

pub returns : goal.returns
returns c = nothing_ran
