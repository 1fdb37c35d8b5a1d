use Rattle.std.proofs.Common.{nat_eq, ◌∙◌, ap, sym}
use Rattle.std.specs.Cmp.Lexicographic.{pointwise, nat_list_cmp_total}
use Rattle.std.specs.FinMap as map
use Rattle.bson_lite.proofs.FinMaps.{get-from_hash_map, inserted}
use Rattle.driver_link.proofs.SessionIds.{ids_tie}
use Rattle.driver_link.proofs.by_id.ById.insert.Goals as goal

pub returns-in-Ok-clause-ok : goal.returns-in-Ok-clause-ok
returns-in-Ok-clause-ok g c =
    inserted nat_list_cmp_total (pointwise nat_eq) ids_tie (map.slice_cmp-IsAntisymmetric map.nat_cmp-IsAntisymmetric) c.self.inside.entries c.insert.new.self _ _ c.in-Ok.ensures.updates
    ∙ ap (λ m. map.insert m c.args.id c.args.value) c.self.view_is

pub returns-in-Ok-clause-stood : goal.returns-in-Ok-clause-stood
returns-in-Ok-clause-stood g c =
    c.in-Ok.ensures.old ∙ sym (get-from_hash_map nat_list_cmp_total (pointwise nat_eq) ids_tie c.self.inside.entries c.args.id)
    ∙ ap (λ m. map.get m c.args.id) c.self.view_is

pub returns-clause-absent : goal.returns-clause-absent
returns-clause-absent g c =
    ap (λ m. map.get m c.args.id) (sym c.self.view_is)
    ∙ get-from_hash_map nat_list_cmp_total (pointwise nat_eq) ids_tie c.self.inside.entries c.args.id ∙ c.in-Err.ensures.absent
