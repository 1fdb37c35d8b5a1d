-- The statements that are left decide.
use Rattle.std.proofs.Common.{◌≡◌, drop}
use Rattle.driver_link.specs.Statements.{has_run}
use Rattle.model_statements.proofs.statements.has_run.Given as goal

abbrev pub invariant-loop-statement : goal.invariant-loop-statement
invariant-loop-statement l = has_run (drop l.statement-index l.done) ≡ has_run l.done
