-- The page has not its form.
use Rattle.bulk_ops.specs.BulkPages.{next_page, odd_page_text}
use Rattle.bulk_ops.specs.inside.BulkResults.{batch_told}
use Rattle.bulk_ops.proofs.BulkAnswered.{further_wrong}
use Rattle.bulk_ops.proofs.ReadBulk.{gives_none}
use Rattle.bulk_ops.proofs.bulk_write.next_answer.Goals as goal

pub returns-in-Err-Wrong-clause-answers : goal.returns-in-Err-Wrong-clause-answers
unfolding odd_page_text
returns-in-Err-Wrong-clause-answers g c =
    further_wrong (batch_told g.R.BulkWriteResult.tells c.args.batch) c.args.progress c.args.page.now c.odd_page-source.result c.into_page_error.result
    (gives_none c.in-Err-Wrong.field-0 (next_page c.args.page.now) c.in-Err-Wrong.field-0-is c.in-Err-Wrong.ensures) c.odd_page-source.ensures c.into_page_error.ensures
