-- No connection behind the place that was reached has the number.
use Rattle.std.proofs.Common.{◌≡◌, ◌≤◌, false, length, drop}
use Rattle.driver_link.specs.LinkState.{has_number}
use Rattle.memory_links.proofs.fake_link.newest_of.Given as goal

abbrev pub invariant-back : goal.invariant-back
invariant-back l = record { within : l.at ≤ length l.out; none : has_number l.number (drop l.at l.out) ≡ false }

abbrev pub decreases-back : goal.decreases-back
decreases-back l = l.at
