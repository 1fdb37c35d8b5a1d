-- The ids from the place on are distinct, and they are those of the set.
use Rattle.report_lines.proofs.IdSets.{HasLast}
use Rattle.report_lines.proofs.distinct.are_distinct.Given as goal

abbrev pub invariant-ids : goal.invariant-ids
invariant-ids l = HasLast l.ids l.at l.later

abbrev pub decreases-ids : goal.decreases-ids
decreases-ids l = l.at
