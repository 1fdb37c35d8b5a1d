-- The results that were read, then those of the values that are left.
use Rattle.std.proofs.Common.{◌≡◌, ◌++◌, drop}
use Rattle.std.specs.Option.{option_map}
use Rattle.bulk_ops.specs.BulkPages.{op_results}
use Rattle.bulk_ops.proofs.bulk_reply.op_results.Given as goal

abbrev pub invariant-loop-value : goal.invariant-loop-value
invariant-loop-value l = option_map (λ rest. l.results ++ rest) (op_results (drop l.value-index l.values)) ≡ op_results l.values
