-- The reply's own page was read.
use Rattle.bulk_ops.proofs.bulk_write.opened.Goals as goal

pub returns-in-Ok : goal.returns-in-Ok
returns-in-Ok g c = λ page told. c.first_answer.ensures page c.args.reply told c.in-Ok.ensures.pages
