-- All labels were added.
use Rattle.std.proofs.Common.{◌∙◌, sym}
use Rattle.std.proofs.lemmas.List.{at_drop_all}
use Rattle.driver_error.specs.LabelTexts.{with_labels}
use Rattle.many_actions.proofs.gathered.add_all.Goals as goal

pub returns : goal.returns
unfolding with_labels
returns c =
    sym (at_drop_all (with_labels c.loop-label.all) c.args.labels.now c.loop-label.label-index c.loop-label-test.false)
    ∙ c.loop-label.invariant
