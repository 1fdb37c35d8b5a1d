use Rattle.machine_laws.proofs.QuietAnswers.{none_written}
use Rattle.machine_laws.proofs.run_laws.an_answer_without_writes_has_none.Goals as goal

pub returns : goal.returns
returns c = none_written
