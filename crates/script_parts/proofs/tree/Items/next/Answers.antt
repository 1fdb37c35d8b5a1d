-- The kit says where the next one stands, for all that is left.
use Rattle.std.proofs.Common.{subst}
use Rattle.json.specs.Find.{NextItem}
use Rattle.script_parts.proofs.Places.{item_here, no_item}
use Rattle.script_parts.proofs.tree.Items.next.Goals as goal

pub returns-in_default : goal.returns-in_default
returns-in_default c =
    no_item c.self.inside.items c.next.new.self c.args.self.now c.self.invariant c.self.view_is
    (subst (λ r. NextItem c.self.inside.items r c.next.new.self) c.in_default.is c.next.ensures.value)

pub invariant_of-result : goal.invariant_of-result
invariant_of-result c =
    (item_here c.self.inside.items c.in-Some.element c.next.new.self c.args.self.now c.self.invariant c.self.view_is c.in-Some.ensures.value).has_value

pub invariant_of-self-2 : goal.invariant_of-self-2
invariant_of-self-2 c =
    (item_here c.self.inside.items c.in-Some.element c.next.new.self c.args.self.now c.self.invariant c.self.view_is c.in-Some.ensures.value).has_items

pub returns : goal.returns
returns c =
    (item_here c.self.inside.items c.in-Some.element c.next.new.self c.args.self.now c.self.invariant c.self.view_is c.in-Some.ensures.value).is
