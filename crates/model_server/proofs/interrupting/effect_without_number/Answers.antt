use Rattle.std.proofs.Common.{◌≡◌, ◌∙◌}
use Rattle.std.proofs.lemmas.Result.{IfOk-weaker}
use Rattle.driver_link.specs.Cases.{writes_of}
use Rattle.driver_link.specs.Interrupting.{session_interrupted}
use Rattle.driver_link.specs.Statements.{entries_of}
use Rattle.driver_link.specs.declared.machine.Server.{Server}
use Rattle.model_server.proofs.InterruptLaws.{unnumbered_called}
use Rattle.model_effects.specs.Changes.{effect_in}
use Rattle.model_effects.specs.Parts.{Makes, parts_as}
use Rattle.model_server.proofs.interrupting.effect_without_number.Goals as goal

pub returns : goal.returns
returns c =
    IfOk-weaker c.unnumbered_effect.result
    (λ effect. (makes : Makes) (state : Server) → effect_in effect state ≡ parts_as makes c.args.send.now.session c.args.send.now.number c.args.case c.args.done.now (entries_of c.args.send.now.session c.args.send.now.number (writes_of c.args.send.now) c.args.done.now) state c.args.send.now) _
    (λ effect is state. is session_interrupted state ∙ unnumbered_called _ c.args.send.now c.args.transient c.requires)
    c.unnumbered_effect.ensures
