-- A place further to the front.
use Rattle.std.proofs.Common.{sym, ◌∙◌}
use Rattle.driver_ops.proofs.Indexes.{not_back}
use Rattle.write_ops.proofs.FailedStatements.{HasLast_none, HasLast_more, HasLast_repeats}
use Rattle.write_ops.proofs.inserted.are_distinct.Goals as goal

pub numbers-init : goal.numbers-init
numbers-init c = HasLast_none c.args.numbers.now c.new-later.result c.new-later.ensures.empty

pub returns-then-not-branch : goal.returns-then-not-branch
returns-then-not-branch c =
    HasLast_repeats c.args.numbers.now c.numbers.at c.numbers.later c.numbers.invariant c.numbers-test.true
    (not_back (sym c.in_ok-insert.ensures.added ∙ c.if-not-branch.true))

pub numbers-preserved : goal.numbers-preserved
numbers-preserved c =
    HasLast_more c.args.numbers.now c.numbers.at c.numbers.later c.insert.new.self c.numbers.invariant c.numbers-test.true
    (not_back (sym c.in_ok-insert.ensures.added ∙ c.if-not-branch.false)) c.in_ok-insert.ensures.updates.0
