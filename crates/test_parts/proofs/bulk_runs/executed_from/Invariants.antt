-- The ledger of the count.
use Rattle.test_parts.proofs.bulk_runs.executed_from.Given as goal

abbrev pub ghosts-executed : goal.ghosts-executed
ghosts-executed g a = record { name = a.blank.name; parts = a.blank.parts }
