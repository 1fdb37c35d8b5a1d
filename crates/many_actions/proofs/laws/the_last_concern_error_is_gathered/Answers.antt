-- The law is a lemma.
use Rattle.many_actions.proofs.GatheredLaws.{concern_gathered}
use Rattle.many_actions.proofs.laws.the_last_concern_error_is_gathered.Goals as goal

pub returns : goal.returns
returns c = concern_gathered
