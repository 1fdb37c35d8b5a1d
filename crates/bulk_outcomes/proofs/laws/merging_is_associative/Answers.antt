use Rattle.bulk_outcomes.proofs.laws.merging_is_associative.Goals as goal

pub returns : goal.returns
returns g c = g.met.R.BulkWriteResult.merges.groups
