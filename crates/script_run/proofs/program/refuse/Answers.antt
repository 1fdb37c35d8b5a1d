-- The line that was said is that of the path.
use Rattle.std.proofs.Common.{◌∙◌}
use Rattle.script_run.proofs.program.refuse.Goals as goal

pub returns-clause-ended : goal.returns-clause-ended
returns-clause-ended g c = rw (← (c.as_slice.ensures ∙ c.in-Ok.ensures)) c.say.ensures.said
