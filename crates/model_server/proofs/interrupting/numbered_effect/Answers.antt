use Rattle.std.proofs.Common.{◌≡◌, ◌&&◌, ap, ◌∙◌, rules, w64}
use mir.Val.{of_z, to_z}
use Rattle.driver_link.specs.Interrupting.{session_interrupted}
use Rattle.model_server.proofs.InterruptLaws.{effect_called}
use Rattle.model_effects.specs.Changes.{effect_in}
use Rattle.model_effects.specs.declared.change.Effect.TheVariants as effect
use Rattle.model_server.proofs.interrupting.numbered_effect.Goals as goal

pub returns : goal.returns
returns c = λ state.
    let whole : to_z w64 (of_z w64 c.args.number) ≡ c.args.number = search rules in
    (λ i. effect_in (effect.Taken c.args.id (whole i) (c.is_in_transaction-in_transaction.ensures i) c.args.send.now.start c.in_ok-step.step
    ((c.calls_transient.ensures ∙ ap (λ b. c.args.transient && b) c.is_in_transaction-in_transaction.ensures) i)) state)
    ∙ effect_called session_interrupted c.args.case c.args.id c.args.number c.in_ok-step.step c.args.done.now _ state c.args.send.now c.args.transient
    c.requires.session c.requires.number c.requires.early c.in_ok-step.ensures
