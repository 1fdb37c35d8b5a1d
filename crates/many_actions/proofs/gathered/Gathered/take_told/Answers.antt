-- The error was taken by its labels and its kind.
use Rattle.many_actions.proofs.Gathering.{told_taken}
use Rattle.many_actions.proofs.gathered.Gathered.take_told.Goals as goal

pub returns-in-Ok-clause-ok : goal.returns-in-Ok-clause-ok
returns-in-Ok-clause-ok c =
    told_taken c.args.self.now c.take_kind.new.self c.args.first c.args.count c.args.error c.labels.result.now c.kind.result.now
    c.labels.ensures c.kind.ensures c.in-Ok.ensures c.requires
