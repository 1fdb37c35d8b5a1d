-- The ledger of the count.
use Rattle.driver_actions.proofs.delete.delete.Given as goal

abbrev pub ghosts-run_single : goal.ghosts-run_single
ghosts-run_single g a = record { name = a.blank.name; parts = a.blank.parts }
