-- The law is a lemma.
use Rattle.call_runs.proofs.CallTimes.{caused_timed}
use Rattle.call_runs.proofs.laws.a_call_only_reads_the_clock.Goals as goal

pub returns : goal.returns
returns c = caused_timed
