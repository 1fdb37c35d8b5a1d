-- The kit says where the next one stands, for all that is left.
use Rattle.std.proofs.Common.{option_map, subst}
use Rattle.json.specs.Find.{NextMember}
use Rattle.script_parts.proofs.Places.{member_here, no_member}
use Rattle.script_parts.proofs.tree.Members.next.Goals as goal

pub returns-in_default : goal.returns-in_default
returns-in_default c =
    no_member c.self.inside.members c.next.new.self c.args.self.now c.self.invariant c.self.view_is
    (subst (λ r. NextMember c.self.inside.members (option_map (λ m. (m.0.now, m.1)) r) c.next.new.self) c.in_default.is c.next.ensures.value)

pub invariant_of-result : goal.invariant_of-result
invariant_of-result c =
    (member_here c.self.inside.members c.in-Some.element c.next.new.self c.in-Some.key.now c.args.self.now c.self.invariant c.self.view_is c.in-Some.ensures.value).has_value

pub invariant_of-self-2 : goal.invariant_of-self-2
invariant_of-self-2 c =
    (member_here c.self.inside.members c.in-Some.element c.next.new.self c.in-Some.key.now c.args.self.now c.self.invariant c.self.view_is c.in-Some.ensures.value).has_members

pub returns : goal.returns
returns c =
    (member_here c.self.inside.members c.in-Some.element c.next.new.self c.in-Some.key.now c.args.self.now c.self.invariant c.self.view_is c.in-Some.ensures.value).is
