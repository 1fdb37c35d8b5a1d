use Rattle.bulk_outcomes.proofs.Merging.{groups_fit}
use Rattle.bulk_outcomes.proofs.laws.groupings_fit_together.Goals as goal

pub returns : goal.returns
returns c = groups_fit
