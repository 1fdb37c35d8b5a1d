-- The numbers from the place on are distinct, and they are those of the set.
use Rattle.write_ops.proofs.FailedStatements.{HasLast}
use Rattle.write_ops.proofs.inserted.are_distinct.Given as goal

abbrev pub invariant-numbers : goal.invariant-numbers
invariant-numbers l = HasLast l.numbers l.at l.later

abbrev pub decreases-numbers : goal.decreases-numbers
decreases-numbers l = l.at
