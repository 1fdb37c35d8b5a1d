use Rattle.machine_laws.proofs.QuietAnswers.{transient_aborts}
use Rattle.machine_laws.proofs.run_laws.a_transient_answer_aborts.Goals as goal

pub returns : goal.returns
returns c = transient_aborts
