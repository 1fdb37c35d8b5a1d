-- What was made, then the entries of the writes that are left.
use Rattle.std.proofs.Common.{◌≡◌, ◌++◌, drop}
use Rattle.driver_link.specs.Statements.{entries_of}
use Rattle.model_statements.proofs.statements.entries.Given as goal

abbrev pub invariant-loop-at : goal.invariant-loop-at
invariant-loop-at l =
    l.entries ++ entries_of l.session l.number (drop l.at l.writes) (drop l.at l.done) ≡ entries_of l.session l.number l.writes l.done
