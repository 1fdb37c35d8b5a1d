-- The documents that were found, then those of the values that are left.
use Rattle.std.proofs.Common.{◌≡◌, ◌++◌, drop}
use Rattle.std.specs.Option.{option_map}
use Rattle.driver_link.specs.Writes.{documents_in}
use Rattle.frame_reading.proofs.writing.documents_in.Given as goal

abbrev pub invariant-loop-value : goal.invariant-loop-value
invariant-loop-value l =
    option_map (λ more. l.documents ++ more) (documents_in (drop l.value-index l.values)) ≡ documents_in l.values
