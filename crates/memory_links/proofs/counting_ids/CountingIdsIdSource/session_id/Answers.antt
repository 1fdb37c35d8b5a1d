use Rattle.std.proofs.Common.{ap, ◌∙◌, ◌∷◌}
use Rattle.memory_links.proofs.CountedIds.{session_now, session_rest}
use Rattle.memory_links.specs.CountingIds.{IdsDrawn, counted_ids, session_at}
use Rattle.driver_link.specs.declared.ids.IdKind.TheVariants.{Session}
use Rattle.memory_links.proofs.counting_ids.CountingIdsIdSource.session_id.Goals as goal

pub returns-clause-next : goal.returns-clause-next
returns-clause-next c =
    let drawn : IdsDrawn = record { sessions = c.self.inside.sessions; objects = c.self.inside.objects } in
    c.to_be_bytes.ensures ∙ session_now drawn c.self.invariant.0 ∙ ap (λ ids. session_at ids 0) c.self.view_is

pub returns-clause-rest : goal.returns-clause-rest
returns-clause-rest c = λ kinds kind.
    let drawn : IdsDrawn = record { sessions = c.self.inside.sessions; objects = c.self.inside.objects } in
    session_rest drawn _ c.drawn_after-self-inside.ensures kinds kind ∙ ap (λ ids. counted_ids ids (Session ∷ kinds) kind) c.self.view_is
