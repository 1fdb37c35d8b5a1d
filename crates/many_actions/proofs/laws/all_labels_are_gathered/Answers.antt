-- The law is a lemma.
use Rattle.many_actions.proofs.GatheredLaws.{labels_gathered}
use Rattle.many_actions.proofs.laws.all_labels_are_gathered.Goals as goal

pub returns : goal.returns
returns c = labels_gathered
