-- The kit says what a node is, for the value that its tokens begin with.
use Rattle.script_parts.proofs.Places.{begins, digits_seen}
use Rattle.script_parts.proofs.tree.Json.as_number.Goals as goal

pub returns : goal.returns
returns c =
    let here = begins c.self.inside.element c.args.self.now c.self.invariant c.self.view_is in
    digits_seen c.as_number.result c.args.self.now (c.as_number.ensures c.args.self.now here)
