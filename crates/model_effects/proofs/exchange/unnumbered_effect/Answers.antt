use Rattle.std.proofs.Common.{ap, sym, ◌∙◌}
use Rattle.driver_link.specs.Cases.{writes_of}
use Rattle.driver_link.specs.Statements.{entries_of}
use Rattle.model_effects.proofs.EffectLaws.{logged_law, nothing_law, other_law}
use Rattle.model_effects.specs.Parts.{parts_as}
use Rattle.model_effects.proofs.exchange.unnumbered_effect.Goals as goal

pub returns-in_ok-entries-in-Outside : goal.returns-in_ok-entries-in-Outside
returns-in_ok-entries-in-Outside c = λ makes state.
    logged_law makes c.args.send.now.session c.args.send.now.number c.args.done.now
    (entries_of c.args.send.now.session c.args.send.now.number (writes_of c.args.send.now) c.args.done.now)
    c.in_ok-entries-in-Outside.entries state c.args.send.now c.requires
    (c.in_ok-entries-in-Outside.ensures ∙ ap (λ writes. entries_of c.args.send.now.session c.args.send.now.number writes c.args.done.now) c.writes_of.ensures)
    ∙ λ i. parts_as makes c.args.send.now.session c.args.send.now.number (sym c.in-Outside.is i) c.args.done.now
    (entries_of c.args.send.now.session c.args.send.now.number (writes_of c.args.send.now) c.args.done.now) state c.args.send.now

pub returns-in_default : goal.returns-in_default
returns-in_default c = λ makes state.
    nothing_law makes c.args.case c.args.send.now.session c.args.send.now.number c.args.done.now _ state c.args.send.now c.requires
    (other_law c.args.case c.in_default.not-Outside)
