use Rattle.std.proofs.Common.{◌≡◌, false, rules, sym, ◌∙◌, w64}
use mir.Val.{of_z, to_z}
use Rattle.driver_link.specs.Serving.{session_after}
use Rattle.model_effects.proofs.EffectLaws.{old_law, taken_law}
use Rattle.model_effects.specs.Changes.{effect_in}
use Rattle.model_effects.specs.declared.change.Effect.TheVariants as effect
use Rattle.model_effects.proofs.exchange.effect_of.Goals as goal

pub returns-then-is_too_old : goal.returns-then-is_too_old
returns-then-is_too_old c = λ state.
    old_law session_after c.args.case c.args.send.now.session c.args.send.now.number c.args.done.now _ state c.args.send.now
    (sym c.is_too_old.ensures ∙ c.if-is_too_old.true)

pub returns-in_ok-step-in-Some-Some : goal.returns-in_ok-step-in-Some-Some
returns-in_ok-step-in-Some-Some c = λ state.
    let whole : to_z w64 (of_z w64 c.in-Some-Some.number) ≡ c.in-Some-Some.number = search rules in
    (λ i. effect_in (effect.Taken c.in-Some-Some.id (whole i) (c.is_in_transaction.ensures i) c.args.send.now.start c.in_ok-step-in-Some-Some.step false) state)
    ∙ taken_law session_after c.args.case c.in-Some-Some.id c.in-Some-Some.number c.in_ok-step-in-Some-Some.step c.args.done.now _ state c.args.send.now
    c.in-Some-Some.is-0 c.in-Some-Some.is-1 (sym c.is_too_old.ensures ∙ c.if-is_too_old.false) c.in_ok-step-in-Some-Some.ensures
