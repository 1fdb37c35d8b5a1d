-- The members that are left decide.
use Rattle.std.proofs.Common.{◌≡◌}
use Rattle.script_parts.specs.inside.Members.{last_of}
use Rattle.script_parts.specs.inside.Sizes.{members_size}
use Rattle.script_parts.proofs.tree.last_of.Given as goal

abbrev pub invariant-loop-other : goal.invariant-loop-other
invariant-loop-other l = last_of l.key l.last l.rest ≡ last_of l.key l.fn.first l.fn.members

abbrev pub decreases-loop-other : goal.decreases-loop-other
decreases-loop-other l = members_size l.rest
