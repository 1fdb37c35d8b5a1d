-- The law is a lemma.
use Rattle.many_actions.proofs.RunCounts.{no_cut_has_fewer}
use Rattle.many_actions.proofs.laws.no_cut_has_fewer_runs.Goals as goal

pub returns : goal.returns
returns c = no_cut_has_fewer
