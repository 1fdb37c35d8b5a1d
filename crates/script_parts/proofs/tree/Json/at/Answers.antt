-- What is found in the tokens is found in the data.
use Rattle.std.proofs.Common.{Some, option_map, sym, ap, ◌∙◌}
use Rattle.script_parts.specs.inside.Codes.{tree_is}
use Rattle.script_parts.specs.inside.Tree.{data_of, view}
use Rattle.script_parts.proofs.Places.{begins}
use Rattle.script_parts.proofs.Trees.{at_found}
use Rattle.script_parts.proofs.tree.Json.at.Goals as goal

pub invariant_of-result : goal.invariant_of-result
invariant_of-result c =
    let here = begins c.self.inside.element c.args.self.now c.self.invariant c.self.view_is in
    let found = c.in-Some.ensures c.args.self.now here in
    (found.0, found.2)

pub returns-in-Some : goal.returns-in-Some
returns-in-Some c =
    let here = begins c.self.inside.element c.args.self.now c.self.invariant c.self.view_is in
    let found = c.in-Some.ensures c.args.self.now here in
    ap (λ j. Some (view j)) (tree_is c.in-Some.element found.0 found.2) ∙ sym (ap (option_map data_of) found.1) ∙ at_found c.args.place c.args.self.now

pub returns-in-None : goal.returns-in-None
returns-in-None c =
    let here = begins c.self.inside.element c.args.self.now c.self.invariant c.self.view_is in
    sym (ap (option_map data_of) (c.in-None.ensures c.args.self.now here)) ∙ at_found c.args.place c.args.self.now
