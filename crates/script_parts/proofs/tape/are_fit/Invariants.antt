-- The nodes that are left decide.
use Rattle.std.proofs.Common.{◌≡◌, Some, map, drop}
use Rattle.json.specs.Tape.{node_token}
use Rattle.script_parts.specs.inside.Fit.{are_fit}
use Rattle.script_parts.proofs.tape.are_fit.Given as goal

abbrev pub invariant-loop-node : goal.invariant-loop-node
invariant-loop-node l = are_fit (Some l.level) (map node_token (drop l.node-index l.nodes)) ≡ are_fit (Some 0) (map node_token l.nodes)
