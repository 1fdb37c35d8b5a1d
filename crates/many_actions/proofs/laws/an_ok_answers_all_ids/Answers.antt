-- The law is a lemma.
use Rattle.many_actions.proofs.GatheredEnds.{ok_ids}
use Rattle.many_actions.proofs.laws.an_ok_answers_all_ids.Goals as goal

pub returns : goal.returns
returns c = ok_ids
