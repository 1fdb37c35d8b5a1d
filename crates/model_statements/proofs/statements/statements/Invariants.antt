-- What was made, then the statements of the writes that are left.
use Rattle.std.proofs.Common.{◌≡◌, ◌++◌, drop}
use Rattle.driver_link.specs.Statements.{statements}
use Rattle.model_statements.proofs.statements.statements.Given as goal

abbrev pub invariant-loop-at : goal.invariant-loop-at
invariant-loop-at l =
    l.done ++ statements l.results l.fail l.ordered l.kept l.at (drop l.at l.writes) ≡ statements l.results l.fail l.ordered l.kept 0 l.writes
