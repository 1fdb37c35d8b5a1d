use Rattle.std.proofs.Common.{ap, ◌∙◌, ◌∷◌}
use Rattle.memory_links.proofs.CountedIds.{object_now, object_rest}
use Rattle.memory_links.specs.CountingIds.{IdsDrawn, counted_ids, object_at}
use Rattle.driver_link.specs.declared.ids.IdKind.TheVariants.{Object}
use Rattle.memory_links.proofs.counting_ids.CountingIdsIdSource.object_id.Goals as goal

pub returns-clause-next : goal.returns-clause-next
returns-clause-next c =
    let drawn : IdsDrawn = record { sessions = c.self.inside.sessions; objects = c.self.inside.objects } in
    c.low_bytes.ensures ∙ object_now drawn c.self.invariant.1 ∙ ap (λ ids. object_at ids 0) c.self.view_is

pub returns-clause-rest : goal.returns-clause-rest
returns-clause-rest c = λ kinds kind.
    let drawn : IdsDrawn = record { sessions = c.self.inside.sessions; objects = c.self.inside.objects } in
    object_rest drawn _ c.drawn_after-self-inside.ensures kinds kind ∙ ap (λ ids. counted_ids ids (Object ∷ kinds) kind) c.self.view_is
