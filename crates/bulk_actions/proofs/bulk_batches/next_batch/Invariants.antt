-- The ledger of the count.
use Rattle.bulk_actions.proofs.bulk_batches.next_batch.Given as goal

abbrev pub ghosts-make_batch : goal.ghosts-make_batch
ghosts-make_batch g a = record { name = a.blank.name; parts = a.blank.parts }
