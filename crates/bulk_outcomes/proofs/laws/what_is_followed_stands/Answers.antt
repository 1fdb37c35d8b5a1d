-- The law is a lemma.
use Rattle.bulk_outcomes.proofs.Standing.{followed_stands}
use Rattle.bulk_outcomes.proofs.laws.what_is_followed_stands.Goals as goal

pub returns : goal.returns
returns g c = followed_stands g.R.BulkWriteResult.tells
