-- Each part was taken beside what was there.
use Rattle.many_actions.proofs.Gathering.{failures_taken}
use Rattle.many_actions.proofs.gathered.Gathered.take_failures.Goals as goal

pub returns : goal.returns
returns c =
    failures_taken c.args.self.now c.args.first c.args.count c.args.labels.now c.args.failures.now
    c.put_ids.new.all c.push_told.new.all c.put_concern.new.concern c.add_set.new.all
    c.in_ok-put_ids.ensures c.in_ok-push_told.ensures c.in_ok-put_concern.ensures c.in_ok-add_set.ensures
