-- The labels so far with those that are left are all of them.
use Rattle.std.proofs.Common.{◌≡◌, drop}
use Rattle.driver_error.specs.LabelTexts.{with_labels}
use Rattle.many_actions.proofs.gathered.add_all.Given as goal

abbrev pub invariant-loop-label : goal.invariant-loop-label
invariant-loop-label l = with_labels l.all (drop l.label-index l.labels) ≡ with_labels l.fn.all l.labels
