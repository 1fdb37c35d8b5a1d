-- The law is two lemmas.
use Rattle.bulk_outcomes.proofs.Keeping.{failure_keeps, success_keeps}
use Rattle.bulk_outcomes.proofs.laws.what_stands_keeps_its_kind.Goals as goal

pub returns-clause-success : goal.returns-clause-success
returns-clause-success g c = success_keeps g.R.BulkWriteResult.tells g.met.R.BulkWriteResult.merges.one_kind

pub returns-clause-failure : goal.returns-clause-failure
returns-clause-failure g c = failure_keeps g.R.BulkWriteResult.tells g.met.R.BulkWriteResult.merges.one_kind
