-- The reply's own page is read behind its counts.
use Rattle.std.proofs.Common.{true, refl, subst}
use Rattle.bulk_ops.specs.inside.BulkResults.{ReadsPage, batch_told, begun}
use Rattle.bulk_ops.proofs.bulk_results.BulkProgress.open.Goals as goal

pub returns-clause-pages : goal.returns-clause-pages
returns-clause-pages g c =
    let batch = batch_told g.R.BulkWriteResult.tells c.args.batch in
    subst (λ page. ReadsPage batch (begun c.args.reply) true page c.in_ok-paged.paged c.read.new.self) c.in_ok-progress.ensures.page
    (c.in_ok-paged.ensures.pages (begun c.args.reply) (c.in_ok-progress.ensures.begun batch refl))
