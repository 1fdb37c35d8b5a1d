-- By the cases of what stood and of the end.
use Rattle.bulk_actions.proofs.Following.{end_decides}
use Rattle.bulk_actions.proofs.laws.the_last_end_decides.Goals as goal

pub returns : goal.returns
returns g c = end_decides g.T.BulkWriteResult.tells
