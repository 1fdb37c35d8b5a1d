-- The results that were passed were noted.
use Rattle.std.proofs.Common.{take}
use Rattle.bulk_ops.specs.inside.BulkResults.{NotesPlaced}
use Rattle.bulk_ops.proofs.bulk_results.note_results.Given as goal

abbrev pub invariant-loop-told : goal.invariant-loop-told
invariant-loop-told l = NotesPlaced l.ops l.fn.seen l.seen (take l.told-index l.results)
