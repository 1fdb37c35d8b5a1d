-- The kit says what a node is, for the value that its tokens begin with.
use Rattle.script_parts.proofs.Places.{begins, flag_seen}
use Rattle.script_parts.proofs.tree.Json.as_bool.Goals as goal

pub returns : goal.returns
returns c =
    let here = begins c.self.inside.element c.args.self.now c.self.invariant c.self.view_is in
    flag_seen c.as_bool.result c.args.self.now (c.as_bool.ensures c.args.self.now here)
