use Rattle.std.proofs.Common.{◌∙◌}
use Rattle.model_server.proofs.delivery.serve_late.Goals as goal

pub returns-clause-ok : goal.returns-clause-ok
returns-clause-ok c = c.in_ok-displaced.ensures.ok ∙ c.in_ok-made.ensures.server c.args.server.now.trace
