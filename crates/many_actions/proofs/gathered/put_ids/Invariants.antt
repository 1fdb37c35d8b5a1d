-- The ids of the documents before the place were put.
use Rattle.std.proofs.Common.{◌≡◌, ◌-◌, ◌≤◌}
use Rattle.many_actions.specs.ManyAnswers.{put_ids}
use Rattle.many_actions.proofs.gathered.put_ids.Given as goal

abbrev pub invariant-puts : goal.invariant-puts
invariant-puts l = record {
  within : l.at ≤ l.count;
  put : l.all ≡ put_ids l.first l.at l.ids l.fn.all;
}

abbrev pub decreases-puts : goal.decreases-puts
decreases-puts l = l.count - l.at
