-- The tokens behind the bracket are those of what stands in it.
use Rattle.std.proofs.Common.{sym, ap, ◌∙◌}
use Rattle.json.specs.Json.{object}
use Rattle.script_parts.specs.inside.Codes.{members_is}
use Rattle.script_parts.proofs.Places.{begins}
use Rattle.script_parts.proofs.tree.Json.members.Goals as goal

pub invariant_of-result : goal.invariant_of-result
invariant_of-result c =
    let here = begins c.self.inside.element c.args.self.now c.self.invariant c.self.view_is in
    let shape = c.in-Some.ensures c.args.self.now here in
    (shape.0, shape.2)

pub returns-in-Some : goal.returns-in-Some
returns-in-Some c =
    let here = begins c.self.inside.element c.args.self.now c.self.invariant c.self.view_is in
    let shape = c.in-Some.ensures c.args.self.now here in
    shape.1 ∙ ap object (sym (members_is c.in-Some.members shape.0 shape.2))

pub returns-in-None : goal.returns-in-None
returns-in-None c = c.in-None.ensures c.args.self.now (begins c.self.inside.element c.args.self.now c.self.invariant c.self.view_is)
