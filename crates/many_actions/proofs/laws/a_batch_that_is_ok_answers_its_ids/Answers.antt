-- The law is a lemma.
use Rattle.many_actions.proofs.GatheredEnds.{batch_ids}
use Rattle.many_actions.proofs.laws.a_batch_that_is_ok_answers_its_ids.Goals as goal

pub returns : goal.returns
returns c = batch_ids
