-- What was counted, with the statements that are left.
use Rattle.std.proofs.Common.{◌≡◌, ◌+◌, count_by, drop}
use Rattle.driver_link.specs.Statements.{is_failed}
use Rattle.model_replies.proofs.counts.failures.Given as goal

abbrev pub invariant-loop-statement : goal.invariant-loop-statement
invariant-loop-statement l =
    l.failures + count_by is_failed (drop l.statement-index l.done) ≡ count_by is_failed l.done
