-- Room for more leaves the entries as they were.
use Rattle.std.proofs.Common.{ap, sym, subst, ◌∙◌}
use Rattle.std.specs.FinMap as map
use Rattle.bson_lite.specs.Indexed.{IsRising, insert_each}
use Rattle.bson_lite.proofs.by_index.ByIndex.extend.Goals as goal

pub invariant_of-self : goal.invariant_of-self
invariant_of-self g c = subst (λ entries. IsRising entries) (sym c.reserve.ensures.items) c.self.invariant

pub put_all-requires-clause-rises : goal.put_all-requires-clause-rises
put_all-requires-clause-rises g c = subst (λ entries. IsRising entries) (sym c.reserve.ensures.items) c.self.invariant

pub returns-clause-ok : goal.returns-clause-ok
returns-clause-ok g c =
    c.put_all.ensures.all
    ∙ ap (λ m. insert_each m c.args.more.items) (ap (λ entries. map.from_sorted entries) c.reserve.ensures.items ∙ c.self.view_is)
