-- The fields that were kept, then what is kept of the rest.
use Rattle.std.proofs.Common.{◌≡◌, ◌++◌, drop}
use Rattle.driver_link.specs.Writes.{own_fields}
use Rattle.frame_reading.proofs.writing.own_fields.Given as goal

abbrev pub invariant-loop-pair : goal.invariant-loop-pair
invariant-loop-pair l = l.fields ++ own_fields (drop l.pair-index l.pairs) ≡ own_fields l.pairs
