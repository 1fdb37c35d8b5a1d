use Rattle.std.proofs.Common.{ap, ◌∙◌}
use Rattle.driver_link.specs.Statements.{entries_of}
use Rattle.model_effects.proofs.SessionStepLaws.{keeps_does}
use Rattle.model_effects.proofs.serving.keeps_step.Goals as goal

pub returns : goal.returns
returns c = λ known.
    keeps_does _ _ _ _ _ known (c.in_ok-entries.ensures ∙ ap (λ writes. entries_of c.args.send.now.session c.args.send.now.number writes c.args.done.now) c.writes_of.ensures)
    c.in_ok-results.ensures c.has_run-ran.ensures
