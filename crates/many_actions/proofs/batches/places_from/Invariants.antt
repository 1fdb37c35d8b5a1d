-- The places so far.
use Rattle.std.proofs.Common.{◌≡◌}
use Rattle.many_actions.specs.Batches.{places_from}
use Rattle.many_actions.proofs.batches.places_from.Given as goal

abbrev pub invariant-loop-index : goal.invariant-loop-index
invariant-loop-index l = l.places.items ≡ places_from l.call 0 l.index
