-- One op fewer is left.
use Rattle.std.proofs.Common.{refl, sym, ◌∙◌}
use Rattle.bulk_ops.specs.inside.BulkResults.{has_seen}
use Rattle.bulk_ops.proofs.JudgedPages.{all_seen_less, all_seen_none, all_seen_not}
use Rattle.bulk_ops.proofs.bulk_results.are_all_seen.Goals as goal

pub left-init : goal.left-init
left-init c = refl

pub returns-then-not-has : goal.returns-then-not-has
returns-then-not-has c =
    sym (c.left.invariant ∙ all_seen_not c.left.at (has_seen c.args.seen.now) c.left-test.true (sym c.has.ensures ∙ c.if-not-has.true))

pub left-preserved : goal.left-preserved
left-preserved c = c.left.invariant ∙ all_seen_less c.left.at (has_seen c.args.seen.now) c.left-test.true (sym c.has.ensures ∙ c.if-not-has.false)

pub returns : goal.returns
returns c = sym (c.left.invariant ∙ all_seen_none (has_seen c.args.seen.now) c.left.at c.left-test.false)
