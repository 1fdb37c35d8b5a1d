-- Another page is behind this one, and fewer ops have no result; or it is the last, or breaks a rule.
use Rattle.std.proofs.Common.{rules, FitsSigned, w64}
use Rattle.std.proofs.lemmas.Int.{to_z-of_z}
use Rattle.bulk_ops.specs.inside.BulkResults.{batch_told}
use Rattle.bulk_ops.proofs.BulkAnswered.{further_breaks, further_last, further_last_none, further_open}
use Rattle.bulk_ops.proofs.ReadPages.{further_fewer}
use Rattle.bulk_ops.proofs.bulk_write.further_answer.Goals as goal

pub returns-in-Open-clause-answers : goal.returns-in-Open-clause-answers
returns-in-Open-clause-answers g c =
    let fits : FitsSigned w64 c.in-Open.cursor = search rules in
    further_open (batch_told g.R.BulkWriteResult.tells c.args.batch) c.args.progress c.args.paged c.args.page.now c.in-Open.cursor _ c.in-Open.namespace (to_z-of_z w64 c.in-Open.cursor fits) c.in-Open.is

pub returns-in-Open-clause-fewer : goal.returns-in-Open-clause-fewer
returns-in-Open-clause-fewer g c =
    further_fewer (batch_told g.R.BulkWriteResult.tells c.args.batch) c.args.progress c.args.paged c.args.page.now c.in-Open.cursor c.in-Open.namespace c.in-Open.is

pub returns-in-Last-clause-answers : goal.returns-in-Last-clause-answers
returns-in-Last-clause-answers g c =
    further_last (batch_told g.R.BulkWriteResult.tells c.args.batch) c.args.progress c.args.paged c.args.page.now c.end.result c.in-Last.is c.end.ensures

pub returns-in-Last-clause-fewer : goal.returns-in-Last-clause-fewer
returns-in-Last-clause-fewer g c =
    further_last_none (batch_told g.R.BulkWriteResult.tells c.args.batch) c.args.progress c.args.paged c.args.page.now c.end.result c.in-Last.is c.end.ensures

pub returns-in-Breaks-clause-answers : goal.returns-in-Breaks-clause-answers
returns-in-Breaks-clause-answers g c =
    further_breaks (batch_told g.R.BulkWriteResult.tells c.args.batch) c.args.progress c.args.paged c.args.page.now c.in-Breaks.fault c.text.result.now c.odd_page-source.result c.into_page_error.result
    c.in-Breaks.is c.text.ensures c.odd_page-source.ensures c.into_page_error.ensures
