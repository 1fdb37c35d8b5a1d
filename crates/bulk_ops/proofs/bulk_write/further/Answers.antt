-- The page was read behind those before it.
use Rattle.bulk_ops.proofs.bulk_write.further.Goals as goal

pub returns-in-Ok-clause-answers : goal.returns-in-Ok-clause-answers
returns-in-Ok-clause-answers g c = c.further_answer.ensures.answers c.args.progress c.args.found c.requires c.in-Ok.ensures.pages

pub returns-in-Ok-clause-fewer : goal.returns-in-Ok-clause-fewer
returns-in-Ok-clause-fewer g c = c.further_answer.ensures.fewer c.args.progress c.args.found c.requires c.in-Ok.ensures.pages
