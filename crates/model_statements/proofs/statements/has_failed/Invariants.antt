-- The statements that are left decide.
use Rattle.std.proofs.Common.{◌≡◌, drop}
use Rattle.driver_link.specs.Statements.{has_failed}
use Rattle.model_statements.proofs.statements.has_failed.Given as goal

abbrev pub invariant-loop-statement : goal.invariant-loop-statement
invariant-loop-statement l = has_failed (drop l.statement-index l.done) ≡ has_failed l.done
