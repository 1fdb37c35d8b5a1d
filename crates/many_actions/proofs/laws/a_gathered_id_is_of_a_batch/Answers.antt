-- The law is a lemma.
use Rattle.many_actions.proofs.GatheredEnds.{id_of_batch}
use Rattle.many_actions.proofs.laws.a_gathered_id_is_of_a_batch.Goals as goal

pub returns : goal.returns
returns c = id_of_batch
