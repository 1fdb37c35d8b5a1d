-- The writes that were placed, then those that are left.
use Rattle.std.proofs.Common.{◌≡◌, ◌++◌, drop}
use Rattle.std.specs.Option.{option_map}
use Rattle.driver_link.specs.Writes.{placed}
use Rattle.frame_reading.proofs.writing.placed.Given as goal

abbrev pub invariant-loop-written : goal.invariant-loop-written
invariant-loop-written l =
    option_map (λ more. l.list.items ++ more) (placed l.written-iterator.rest.items (drop l.at l.places)) ≡ placed l.fn.writes l.places
