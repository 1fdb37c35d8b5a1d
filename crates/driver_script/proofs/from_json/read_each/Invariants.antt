-- What was read, then what the definition makes of the rest.
use Rattle.std.proofs.Common.{◌≡◌, ◌++◌}
use Rattle.std.specs.Option.{option_map}
use Rattle.script_parts.specs.Json.{each}
use Rattle.script_parts.specs.inside.Sizes.{items_size}
use Rattle.script_parts.specs.inside.Tree.{items_view}
use Rattle.driver_script.proofs.from_json.read_each.Given as goal

abbrev pub invariant-loop-item : goal.invariant-loop-item
invariant-loop-item g l =
    option_map (λ rest. l.found ++ rest) (each g.T.FromJson.spec (items_view l.rest))
    ≡ each g.T.FromJson.spec (items_view l.fn.items)

abbrev pub decreases-loop-item : goal.decreases-loop-item
decreases-loop-item g l = items_size l.rest
