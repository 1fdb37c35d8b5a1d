-- The ledger of the count.
use Rattle.many_actions.proofs.batches.gather_batch.Given as goal

abbrev pub ghosts-make_batch : goal.ghosts-make_batch
ghosts-make_batch g a = record { name = a.blank.name; parts = a.blank.parts }
