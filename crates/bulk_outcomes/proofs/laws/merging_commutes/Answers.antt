use Rattle.bulk_outcomes.proofs.Merging.{added_comm, merged_comm}
use Rattle.bulk_outcomes.proofs.laws.merging_commutes.Goals as goal

pub returns-clause-counts : goal.returns-clause-counts
returns-clause-counts c = added_comm

pub returns-clause-results : goal.returns-clause-results
returns-clause-results c = merged_comm
