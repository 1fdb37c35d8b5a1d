use Rattle.std.proofs.Common.{IfOk, sym, subst}
use Rattle.driver_link.specs.Cases.{writes_of}
use Rattle.driver_link.specs.Serving.{session_after}
use Rattle.driver_link.specs.Statements.{entries_of}
use Rattle.driver_link.specs.declared.machine.KnownSession.{KnownSession}
use Rattle.model_effects.specs.Does.{Does}
use Rattle.model_effects.proofs.serving.step_in.Goals as goal

pub returns-in-Outside : goal.returns-in-Outside
returns-in-Outside c =
    subst (λ case. IfOk c.keeps_step.result (λ step. (known : KnownSession) → Does session_after step case c.args.done.now (entries_of c.args.send.now.session c.args.send.now.number (writes_of c.args.send.now) c.args.done.now) known))
    (sym c.in-Outside.is) c.keeps_step.ensures
