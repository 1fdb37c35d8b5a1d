use Rattle.bulk_outcomes.proofs.laws.nothing_is_neutral.Goals as goal

pub returns-clause-before : goal.returns-clause-before
returns-clause-before g c = g.met.R.BulkWriteResult.merges.before

pub returns-clause-after : goal.returns-clause-after
returns-clause-after g c = g.met.R.BulkWriteResult.merges.after
