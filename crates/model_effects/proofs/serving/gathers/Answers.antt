use Rattle.std.proofs.Common.{ap, sym, ◌∙◌}
use Rattle.driver_link.specs.Statements.{entries_of}
use Rattle.model_effects.proofs.SessionStepLaws.{fails_does, gathers_does}
use Rattle.model_effects.proofs.serving.gathers.Goals as goal

pub returns-then-has_failed : goal.returns-then-has_failed
returns-then-has_failed c = λ known. fails_does _ _ _ known c.has_run_before_failing-ran.ensures (sym c.has_failed.ensures ∙ c.if-has_failed.true)

pub returns : goal.returns
returns c = λ known.
    gathers_does _ _ _ _ known (c.in_ok-entries.ensures ∙ ap (λ writes. entries_of c.args.send.now.session c.args.send.now.number writes c.args.done.now) c.writes_of.ensures)
    c.has_run_before_failing-ran.ensures (sym c.has_failed.ensures ∙ c.if-has_failed.false)
