-- The ledger of the count.
use Rattle.executor_tests.proofs.collections.ended_under.Given as goal

abbrev pub ghosts-executed : goal.ghosts-executed
ghosts-executed g a = record { name = a.blank.name; parts = a.blank.parts }
