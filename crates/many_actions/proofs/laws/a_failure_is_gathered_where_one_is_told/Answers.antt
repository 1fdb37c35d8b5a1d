-- The law is a lemma.
use Rattle.many_actions.proofs.GatheredLaws.{failure_gathered}
use Rattle.many_actions.proofs.laws.a_failure_is_gathered_where_one_is_told.Goals as goal

pub returns : goal.returns
returns c = failure_gathered
