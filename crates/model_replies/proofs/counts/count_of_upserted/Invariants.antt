-- What was counted, with the statements that are left.
use Rattle.std.proofs.Common.{◌≡◌, ◌≤◌, ◌+◌, count_by, is_some, drop}
use Rattle.driver_link.specs.Replies.{results_of_kind}
use Rattle.driver_link.specs.declared.machine.WriteKind.TheVariants as kind
use Rattle.model_replies.proofs.counts.count_of_upserted.Given as goal

abbrev pub invariant-loop-at : goal.invariant-loop-at
invariant-loop-at l =
    (l.inserted + count_by (λ counts. is_some counts.upserted) (results_of_kind kind.Update (drop l.at l.writes) (drop l.at l.done)) ≡ count_by (λ counts. is_some counts.upserted) (results_of_kind kind.Update l.writes l.done))
    × (l.inserted ≤ l.at)
