-- The members that are left decide.
use Rattle.std.proofs.Common.{◌≡◌, map}
use Rattle.script_parts.specs.inside.Members.{keys_in}
use Rattle.script_parts.specs.inside.Sizes.{members_size}
use Rattle.script_parts.proofs.forms.have_keys_among.Given as goal

abbrev pub invariant-loop-key : goal.invariant-loop-key
invariant-loop-key l = keys_in (map (λ key. key.now) l.keys) l.rest ≡ keys_in (map (λ key. key.now) l.keys) l.fn.members

abbrev pub decreases-loop-key : goal.decreases-loop-key
decreases-loop-key l = members_size l.rest
