-- What was made, then the results of the statements that are left.
use Rattle.std.proofs.Common.{◌≡◌, ◌++◌, drop}
use Rattle.model_statements.specs.Ran.{ran_at}
use Rattle.model_statements.proofs.statements.ran_results.Given as goal

abbrev pub invariant-loop-at : goal.invariant-loop-at
invariant-loop-at l = l.results ++ ran_at l.at (drop l.at l.done) ≡ ran_at 0 l.done
