-- Each page but the first has a result, and no op has two.
use Rattle.bulk_ops.proofs.laws.a_bulk_write_has_no_more_pages_than_ops.Goals as goal
use Rattle.bulk_ops.proofs.PageCounts.{no_more_pages}

pub returns : goal.returns
returns g c = no_more_pages
