-- What was counted, with the statements that are left.
use Rattle.std.proofs.Common.{◌≡◌, ◌+ℤ◌, drop}
use Rattle.driver_link.specs.Replies.{results_in, sum_of}
use Rattle.model_replies.proofs.counts.sum_n.Given as goal

abbrev pub invariant-loop-statement : goal.invariant-loop-statement
invariant-loop-statement l =
    l.sum +ℤ sum_of (λ counts. counts.n) (results_in (drop l.statement-index l.done)) ≡ sum_of (λ counts. counts.n) (results_in l.done)
