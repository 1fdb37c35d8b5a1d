-- Words that are no command.
use Rattle.std.proofs.Common.{refl}
use Rattle.script_run.specs.declared.status.Status.TheVariants.{Usage}
use Rattle.script_run.proofs.program.top.Goals as goal

pub returns-in-None-clause-ends : goal.returns-in-None-clause-ends
returns-in-None-clause-ends g c = (Usage, refl, (refl, c.say_usage.ensures.said, refl, refl))
