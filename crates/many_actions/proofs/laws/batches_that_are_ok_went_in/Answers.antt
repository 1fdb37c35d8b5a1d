-- The law is a lemma.
use Rattle.many_actions.proofs.GatheredEnds.{made_went_in}
use Rattle.many_actions.proofs.laws.batches_that_are_ok_went_in.Goals as goal

pub returns : goal.returns
returns c = made_went_in
