-- The keys that are left decide.
use Rattle.std.proofs.Common.{◌≡◌, map, drop}
use Rattle.script_parts.specs.Json.{among}
use Rattle.script_parts.proofs.forms.is_among.Given as goal

abbrev pub invariant-loop-known : goal.invariant-loop-known
invariant-loop-known l =
    among (map (λ known. known.now) (drop l.known-index l.keys)) l.key ≡ among (map (λ known. known.now) l.keys) l.key
