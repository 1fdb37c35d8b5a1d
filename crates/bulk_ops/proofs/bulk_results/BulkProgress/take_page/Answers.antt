-- Results that were taken in the order of their ops were taken.
use Rattle.bulk_ops.specs.inside.BulkResults.{batch_told}
use Rattle.bulk_ops.proofs.FreeResults.{page_takes, within_again}
use Rattle.bulk_ops.proofs.bulk_results.BulkProgress.take_page.Goals as goal

pub take_results-requires : goal.take_results-requires
take_results-requires g c = within_again _ c.args.results c.in_ok-ordered.ordered c.in_ok-ordered.ensures c.requires

pub returns-clause-takes : goal.returns-clause-takes
returns-clause-takes g c =
    page_takes (batch_told g.R.BulkWriteResult.tells c.args.batch) g.met.R.BulkWriteResult.apart c.args.self.now c.take_results.new.self c.args.results c.in_ok-ordered.ordered
    c.in_ok-ordered.ensures c.requires c.take_results.result c.take_results.ensures.takes
