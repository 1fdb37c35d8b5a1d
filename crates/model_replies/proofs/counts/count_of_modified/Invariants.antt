-- What was counted, with the statements that are left.
use Rattle.std.proofs.Common.{◌≡◌, ◌+ℤ◌, drop}
use Rattle.driver_link.specs.Replies.{results_of_kind, sum_of}
use Rattle.driver_link.specs.declared.machine.WriteKind.TheVariants as kind
use Rattle.model_replies.proofs.counts.count_of_modified.Given as goal

abbrev pub invariant-loop-at : goal.invariant-loop-at
invariant-loop-at l =
    l.sum +ℤ sum_of (λ counts. counts.modified) (results_of_kind kind.Update (drop l.at l.writes) (drop l.at l.done)) ≡ sum_of (λ counts. counts.modified) (results_of_kind kind.Update l.writes l.done)
