-- The kit says what a node is, for the value that its tokens begin with.
use Rattle.script_parts.proofs.Places.{begins, text_seen}
use Rattle.script_parts.proofs.tree.Json.as_str.Goals as goal

pub returns : goal.returns
returns c =
    let here = begins c.self.inside.element c.args.self.now c.self.invariant c.self.view_is in
    text_seen c.as_str.result c.args.self.now (c.as_str.ensures c.args.self.now here)
