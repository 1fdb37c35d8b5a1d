use Rattle.std.proofs.Common.{◌≡◌, ℕ, List, None, cond, nat_eq, ◌∙◌, ap, sym}
use Rattle.std.specs.Cmp.{eq_by_cmp_equiv}
use Rattle.std.specs.Cmp.Lexicographic.{pointwise, slice_cmp, nat_list_cmp_total}
use Rattle.std.specs.FinMap as map
use Rattle.std.specs.HashMap as hash
use Rattle.std.specs.HashMap.{HashMap}
use Rattle.std.specs.Ordering.{eq_by_cmp, nat_cmp}
use Rattle.bson_lite.proofs.FinMaps.{get-from_hash_map}
use Rattle.driver_link.proofs.SessionIds.{ids_tie}
use Rattle.driver_link.proofs.by_id.ById.remove.Goals as goal

-- a `HashMap` that has one value less
removed : {X S : Type 0} (m n : HashMap (List ℕ) X S) (k : List ℕ) → hash.Updates (pointwise nat_eq) m n k None
    → map.from_entries {R = slice_cmp nat_cmp} n.entries ≡ map.remove (map.from_entries m.entries) k
removed m n k updates =
    map.same_map nat_list_cmp_total (map.slice_cmp-IsAntisymmetric map.nat_cmp-IsAntisymmetric) _ _ (λ q.
    get-from_hash_map nat_list_cmp_total (pointwise nat_eq) ids_tie n q ∙ updates.0 q
    ∙ ap (λ b. cond b None (hash.get (pointwise nat_eq) m q)) (ids_tie k q ∙ (eq_by_cmp_equiv nat_list_cmp_total).symm k q)
    ∙ ap (cond (eq_by_cmp (slice_cmp nat_cmp) q k) None) (sym (get-from_hash_map nat_list_cmp_total (pointwise nat_eq) ids_tie m q))
    ∙ sym (map.get-remove nat_list_cmp_total (map.from_entries m.entries) k q))

pub returns-clause-removed : goal.returns-clause-removed
returns-clause-removed g c =
    removed c.self.inside.entries c.remove.new.self c.args.id.now c.remove.ensures.updates
    ∙ ap (λ m. map.remove m c.args.id.now) c.self.view_is

pub returns-clause-stood : goal.returns-clause-stood
returns-clause-stood g c =
    c.remove.ensures.value ∙ sym (get-from_hash_map nat_list_cmp_total (pointwise nat_eq) ids_tie c.self.inside.entries c.args.id.now)
    ∙ ap (λ m. map.get m c.args.id.now) c.self.view_is
