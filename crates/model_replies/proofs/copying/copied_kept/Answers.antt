-- The entries of a map, put one after another, give that map.
use Rattle.std.proofs.Common.{sym, ap, ◌∙◌}
use Rattle.std.proofs.lemmas.List.{at_drop_all}
use Rattle.std.specs.FinMap as finite
use Rattle.bson_lite.specs.Indexed.{insert_each}
use Rattle.bson_lite.proofs.Rising.{each_entry, each_more}
use Rattle.model_replies.proofs.copying.copied_kept.Goals as goal

pub loop-pair-init : goal.loop-pair-init
loop-pair-init c = rw (c.new-copies.ensures, c.entries-pairs.ensures) (each_entry c.args.kept.now)

pub loop-pair-preserved : goal.loop-pair-preserved
loop-pair-preserved c =
    each_more c.loop-pair.copies c.insert.new.self c.entries-pairs.result.now c.loop-pair.pair-index c.pair-item.result c.args.kept.now
    c.loop-pair-test.true c.pair-item.is
    (c.in_ok-insert.ensures.ok ∙ ap (finite.insert c.loop-pair.copies c.pair-item.result.0) c.in_ok-copy_counts.ensures) c.loop-pair.invariant

pub returns : goal.returns
unfolding insert_each
returns c = sym (at_drop_all (insert_each c.loop-pair.copies) c.entries-pairs.result.now c.loop-pair.pair-index c.loop-pair-test.false) ∙ c.loop-pair.invariant
