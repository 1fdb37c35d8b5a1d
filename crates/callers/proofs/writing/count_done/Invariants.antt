-- What was counted, with the outcomes that are left.
use Rattle.std.proofs.Common.{◌≡◌, ◌+◌, count_by, drop}
use Rattle.std.specs.Prelude.{is_ok}
use Rattle.callers.proofs.writing.count_done.Given as goal

abbrev pub invariant-loop-outcome : goal.invariant-loop-outcome
invariant-loop-outcome l = l.done + count_by (λ outcome. is_ok outcome.result) (drop l.outcome-index l.outcomes) ≡ count_by (λ outcome. is_ok outcome.result) l.outcomes
