use Rattle.std.proofs.Common.{sym, subst}
use Rattle.std.proofs.lemmas.Result.{IfOk-weaker}
use Rattle.driver_link.specs.Cases.{writes_of}
use Rattle.driver_link.specs.Interrupting.{session_interrupted}
use Rattle.driver_link.specs.Serving.{session_after}
use Rattle.driver_link.specs.Statements.{entries_of}
use Rattle.driver_link.specs.declared.machine.KnownSession.{KnownSession}
use Rattle.model_server.proofs.InterruptLaws.{fails_interrupted, as_served}
use Rattle.model_effects.specs.Does.{Does}
use Rattle.model_effects.specs.declared.change.SessionStep.TheVariants as step
use Rattle.model_server.proofs.interrupting.interrupted_step.Goals as goal

pub returns-in-Gathers : goal.returns-in-Gathers
returns-in-Gathers c = λ known.
    subst (λ case. Does session_interrupted (step.Fails c.has_run.result) case c.args.done.now (entries_of c.args.send.now.session c.args.send.now.number (writes_of c.args.send.now) c.args.done.now) known)
    (sym c.in-Gathers.is) (fails_interrupted _ _ _ known c.has_run.ensures)

pub returns-in_default : goal.returns-in_default
returns-in_default c =
    IfOk-weaker c.step_in.result
    (λ step. (known : KnownSession) → Does session_after step c.args.case c.args.done.now (entries_of c.args.send.now.session c.args.send.now.number (writes_of c.args.send.now) c.args.done.now) known) _
    (λ step does known. as_served step c.args.case _ _ known c.in_default.not-Gathers (does known))
    c.step_in.ensures
