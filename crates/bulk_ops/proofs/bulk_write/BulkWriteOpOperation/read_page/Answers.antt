-- A page more is read behind those that were, of the ops that are fixed.
use Rattle.std.proofs.Common.{sym, subst, ◌∙◌}
use Rattle.std.specs.Prelude.{Ok, Err, IfSome, ◌∷◌}
use Rattle.driver_ops.specs.Limits.{built_count}
use Rattle.driver_ops.specs.Operations.{OnPage, page_told}
use Rattle.bulk_ops.specs.BulkAnswers.{ReadsBulk}
use Rattle.bulk_ops.specs.BulkSpec.{batch_read}
use Rattle.bulk_ops.specs.inside.BulkResults.{HasReadBulk, batch_told}
use Rattle.bulk_ops.proofs.BulkAnswered.{stopped}
use Rattle.bulk_ops.proofs.ReadBulk.{fewer_fixed, has_fixed, keeps_fixed, reads_fixed}
use Rattle.bulk_ops.proofs.bulk_write.BulkWriteOpOperation.read_page.Goals as goal

pub returns-in-Ok-clause-reads : goal.returns-in-Ok-clause-reads
returns-in-Ok-clause-reads g c = λ pages has.
    let op = c.args.self.now in
    let tells = g.R.BulkWriteResult.tells in
    let batch = batch_told tells c.batch-batch.result in
    let before = has_fixed tells op.first op.ops.now op.options.now (built_count op.fixed) batch c.batch-batch.ensures op.progress c.in-Some.progress (sym c.take.ensures.value ∙ c.in-Some.is) pages has in
    subst (λ page. IfSome (built_count op.fixed) (λ statements. ReadsBulk (batch_read tells op.first op.ops.now op.options.now statements) (page_told page ∷ pages) c.next_answer-progress.result.1)) (sym c.in-Ok.is)
    (reads_fixed tells op.first op.ops.now op.options.now (built_count op.fixed) batch c.batch-batch.ensures (Ok c.in-Ok.page.now ∷ pages) c.next_answer-progress.result.1
    (c.next_answer-progress.ensures.answers pages before).reads)

pub returns-in-Ok-clause-read : goal.returns-in-Ok-clause-read
returns-in-Ok-clause-read g c = λ pages has.
    let op = c.args.self.now in
    let tells = g.R.BulkWriteResult.tells in
    let batch = batch_told tells c.batch-batch.result in
    let before = has_fixed tells op.first op.ops.now op.options.now (built_count op.fixed) batch c.batch-batch.ensures op.progress c.in-Some.progress (sym c.take.ensures.value ∙ c.in-Some.is) pages has in
    subst (λ page. OnPage c.next_answer-progress.result.1 (HasReadBulk tells op.first op.ops.now op.options.now (built_count op.fixed) c.next_answer-progress.result.0 (page_told page ∷ pages))) (sym c.in-Ok.is)
    (keeps_fixed tells op.first op.ops.now op.options.now (built_count op.fixed) batch c.batch-batch.ensures (Ok c.in-Ok.page.now ∷ pages) c.next_answer-progress.result.0 c.next_answer-progress.result.1
    (c.next_answer-progress.ensures.answers pages before))

pub returns-in-Ok-clause-left : goal.returns-in-Ok-clause-left
returns-in-Ok-clause-left g c = λ pages has.
    let op = c.args.self.now in
    let tells = g.R.BulkWriteResult.tells in
    let batch = batch_told tells c.batch-batch.result in
    let before = has_fixed tells op.first op.ops.now op.options.now (built_count op.fixed) batch c.batch-batch.ensures op.progress c.in-Some.progress (sym c.take.ensures.value ∙ c.in-Some.is) pages has in
    fewer_fixed tells op.first op.ops.now op.options.now (built_count op.fixed) batch c.batch-batch.ensures op.progress c.in-Some.progress (sym c.take.ensures.value ∙ c.in-Some.is) c.next_answer-progress.result.0
    c.next_answer-progress.result.1 (c.next_answer-progress.ensures.fewer pages before)

pub returns-in-Err-clause-reads : goal.returns-in-Err-clause-reads
returns-in-Err-clause-reads g c = λ pages has.
    let op = c.args.self.now in
    let tells = g.R.BulkWriteResult.tells in
    let batch = batch_told tells c.batch-batch.result in
    let before = has_fixed tells op.first op.ops.now op.options.now (built_count op.fixed) batch c.batch-batch.ensures op.progress c.in-Some.progress (sym c.take.ensures.value ∙ c.in-Some.is) pages has in
    subst (λ page. IfSome (built_count op.fixed) (λ statements. ReadsBulk (batch_read tells op.first op.ops.now op.options.now statements) (page_told page ∷ pages) (Err c.into_page_error.result))) (sym c.in-Err.is)
    (reads_fixed tells op.first op.ops.now op.options.now (built_count op.fixed) batch c.batch-batch.ensures (Err c.in-Err.failure ∷ pages) (Err c.into_page_error.result)
    (stopped batch c.in-Some.progress c.in-Err.failure c.into_page_error.result c.into_page_error.ensures pages before))
