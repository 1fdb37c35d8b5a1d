-- The law is a lemma.
use Rattle.many_actions.proofs.GatheredEnds.{errors_gathered}
use Rattle.many_actions.proofs.laws.all_write_errors_are_gathered.Goals as goal

pub returns : goal.returns
returns c = errors_gathered
