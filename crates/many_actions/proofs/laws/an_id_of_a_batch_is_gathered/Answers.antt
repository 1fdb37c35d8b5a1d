-- The law is a lemma.
use Rattle.many_actions.proofs.GatheredLaws.{batch_id_gathered}
use Rattle.many_actions.proofs.laws.an_id_of_a_batch_is_gathered.Goals as goal

pub returns : goal.returns
returns c = batch_id_gathered
