-- The errors that were read, then those of the values that are left.
use Rattle.std.proofs.Common.{◌≡◌, ◌++◌, drop}
use Rattle.std.specs.Option.{option_map}
use Rattle.driver_ops.specs.WriteReplies.{indexed_errors}
use Rattle.driver_ops.proofs.write_reply.indexed_errors.Given as goal

abbrev pub invariant-loop-value : goal.invariant-loop-value
invariant-loop-value l = option_map (λ rest. l.errors ++ rest) (indexed_errors (drop l.value-index l.values)) ≡ indexed_errors l.values
