-- The law is a lemma.
use Rattle.many_actions.proofs.GatheredLaws.{made_in_order}
use Rattle.many_actions.proofs.laws.batches_of_a_call_are_in_order.Goals as goal

pub returns : goal.returns
returns c = made_in_order
