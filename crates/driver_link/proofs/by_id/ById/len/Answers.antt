use Rattle.std.proofs.Common.{nat_eq, ◌∙◌, ap, sym}
use Rattle.std.specs.Cmp.Lexicographic.{pointwise, nat_list_cmp_total}
use Rattle.std.specs.FinMap as map
use Rattle.bson_lite.proofs.FinMaps.{len-from_hash_map}
use Rattle.driver_link.proofs.SessionIds.{ids_tie}
use Rattle.driver_link.proofs.by_id.ById.len.Goals as goal

pub returns : goal.returns
returns g c =
    c.len.ensures.len ∙ sym (len-from_hash_map nat_list_cmp_total (pointwise nat_eq) ids_tie c.self.inside.entries.entries c.len.ensures.unique)
    ∙ ap map.len c.self.view_is
