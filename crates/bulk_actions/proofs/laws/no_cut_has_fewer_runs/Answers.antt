-- Longest fronts, one after another, are as many as the count says.
use Rattle.bulk_actions.proofs.FewestRuns.{runs_are_fewest}
use Rattle.bulk_actions.proofs.laws.no_cut_has_fewer_runs.Goals as goal

pub returns : goal.returns
returns c = runs_are_fewest
