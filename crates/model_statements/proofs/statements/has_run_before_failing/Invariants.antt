-- The statements that are left decide.
use Rattle.std.proofs.Common.{◌≡◌, drop}
use Rattle.model_statements.specs.Ran.{runs_first}
use Rattle.model_statements.proofs.statements.has_run_before_failing.Given as goal

abbrev pub invariant-loop-statement : goal.invariant-loop-statement
invariant-loop-statement l = runs_first (drop l.statement-index l.done) ≡ runs_first l.done
