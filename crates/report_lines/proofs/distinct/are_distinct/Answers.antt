-- A place further to the front.
use Rattle.std.proofs.Common.{sym, ◌∙◌}
use Rattle.report_lines.proofs.IdSets.{HasLast_none, HasLast_more, HasLast_repeats, not_back}
use Rattle.report_lines.proofs.distinct.are_distinct.Goals as goal

pub ids-init : goal.ids-init
ids-init c = HasLast_none c.args.ids.now c.new-later.result c.new-later.ensures.empty

pub returns-then-not-branch : goal.returns-then-not-branch
returns-then-not-branch c =
    HasLast_repeats c.args.ids.now c.ids.at c.ids.later c.ids.invariant c.ids-test.true (not_back (sym c.in_ok-insert.ensures.added ∙ c.if-not-branch.true))

pub ids-preserved : goal.ids-preserved
ids-preserved c =
    HasLast_more c.args.ids.now c.ids.at c.ids.later c.insert.new.self c.ids.invariant c.ids-test.true
    (not_back (sym c.in_ok-insert.ensures.added ∙ c.if-not-branch.false)) c.in_ok-insert.ensures.updates.0
