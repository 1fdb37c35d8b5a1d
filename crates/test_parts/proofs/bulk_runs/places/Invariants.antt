-- As many places as indexes so far.
use Rattle.std.proofs.Common.{◌≡◌, length}
use Rattle.test_parts.proofs.bulk_runs.places.Given as goal

abbrev pub invariant-loop-index : goal.invariant-loop-index
invariant-loop-index l = length l.places ≡ l.index
