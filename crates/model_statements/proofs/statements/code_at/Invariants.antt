-- The ones that are left decide.
use Rattle.std.proofs.Common.{◌≡◌, drop}
use Rattle.driver_link.specs.Statements.{code_at}
use Rattle.model_statements.proofs.statements.code_at.Given as goal

abbrev pub invariant-loop-failing : goal.invariant-loop-failing
invariant-loop-failing l = code_at (drop l.failing-index l.fail) l.at ≡ code_at l.fail l.at
