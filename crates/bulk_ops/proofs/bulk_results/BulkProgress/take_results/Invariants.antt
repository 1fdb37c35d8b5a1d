-- What was taken, with what is left, is all.
use Rattle.bulk_ops.specs.inside.BulkResults.{batch_told}
use Rattle.bulk_ops.proofs.TakenResults.{TakesLeft}
use Rattle.bulk_ops.proofs.bulk_results.BulkProgress.take_results.Given as goal

abbrev pub invariant-loop-told : goal.invariant-loop-told
invariant-loop-told g l = TakesLeft (batch_told g.R.BulkWriteResult.tells l.batch) l.fn.self l.self l.told-iterator.rest.items l.fn.results
