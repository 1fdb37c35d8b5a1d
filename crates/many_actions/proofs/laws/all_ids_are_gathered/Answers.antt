-- The law is a lemma.
use Rattle.many_actions.proofs.GatheredEnds.{ids_gathered}
use Rattle.many_actions.proofs.laws.all_ids_are_gathered.Goals as goal

pub returns : goal.returns
returns c = ids_gathered
