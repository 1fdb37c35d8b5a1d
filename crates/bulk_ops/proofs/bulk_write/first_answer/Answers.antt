-- Another page is behind the first, or it is the last.
use Rattle.std.proofs.Common.{rules, FitsSigned, w64}
use Rattle.std.proofs.lemmas.Int.{to_z-of_z}
use Rattle.bulk_ops.specs.inside.BulkResults.{batch_told}
use Rattle.bulk_ops.proofs.BulkAnswered.{first_last, first_open}
use Rattle.bulk_ops.proofs.bulk_write.first_answer.Goals as goal

pub returns-in-Open : goal.returns-in-Open
returns-in-Open g c =
    let fits : FitsSigned w64 c.in-Open.cursor = search rules in
    first_open (batch_told g.R.BulkWriteResult.tells c.args.batch) c.args.progress c.args.paged c.in-Open.cursor _ c.in-Open.namespace (to_z-of_z w64 c.in-Open.cursor fits) c.in-Open.is

pub returns-in-Last : goal.returns-in-Last
returns-in-Last g c = first_last (batch_told g.R.BulkWriteResult.tells c.args.batch) c.args.progress c.args.paged c.end.result c.in-Last.is c.end.ensures
