-- What was made, then the documents of the statements that are left.
use Rattle.std.proofs.Common.{◌≡◌, ◌++◌, drop}
use Rattle.driver_link.specs.Cursors.{rows}
use Rattle.model_statements.proofs.cursors.rows.Given as goal

abbrev pub invariant-loop-at : goal.invariant-loop-at
invariant-loop-at l = l.rows ++ rows l.at (drop l.at l.writes) (drop l.at l.done) ≡ rows 0 l.writes l.done
