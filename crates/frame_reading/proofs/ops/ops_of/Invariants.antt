-- The writes that were read, then those of the ops that are left.
use Rattle.std.proofs.Common.{◌≡◌, ◌++◌, drop}
use Rattle.std.specs.Option.{option_map}
use Rattle.driver_link.specs.Writes.{ops_of}
use Rattle.frame_reading.proofs.ops.ops_of.Given as goal

abbrev pub invariant-loop-op : goal.invariant-loop-op
invariant-loop-op l =
    option_map (λ more. l.writes ++ more) (ops_of l.namespaces (drop l.op-index l.ops)) ≡ ops_of l.namespaces l.ops
