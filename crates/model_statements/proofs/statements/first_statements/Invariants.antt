-- What was made, then the statements of the front of the writes that are left.
use Rattle.std.proofs.Common.{◌≡◌, ◌++◌, [], false, drop}
use Rattle.driver_link.specs.Statements.{statements, front_to_run}
use Rattle.model_statements.proofs.statements.first_statements.Given as goal

abbrev pub invariant-loop-at : goal.invariant-loop-at
invariant-loop-at l =
    l.done ++ statements [] [] false l.kept l.at (front_to_run l.kept l.at l.left (drop l.at l.writes))
    ≡ statements [] [] false l.kept 0 (front_to_run l.kept 0 l.most l.writes)
