-- The entries of a map, put one after another with their values redacted, give the redacted map.
use Rattle.std.proofs.Common.{sym, ap, ◌∙◌}
use Rattle.std.proofs.lemmas.List.{at_drop_all}
use Rattle.std.specs.FinMap as map
use Rattle.bson_lite.specs.Indexed.{insert_each, changed_entries, changed}
use Rattle.bson_lite.proofs.Rising.{changed_more, each_changed}
use Rattle.driver_error.specs.Redaction.{redacted_write}
use Rattle.driver_error.proofs.redaction.redacted_map.Goals as goal

pub loop-pair-init : goal.loop-pair-init
loop-pair-init c = rw (c.new-copies.ensures, c.entries-pairs.ensures) (each_changed redacted_write c.args.errors.now)

pub loop-pair-preserved : goal.loop-pair-preserved
loop-pair-preserved c =
    changed_more redacted_write c.loop-pair.copies c.insert.new.self c.entries-pairs.result.now c.loop-pair.pair-index c.pair-item.result
    (changed redacted_write c.args.errors.now) c.loop-pair-test.true c.pair-item.is
    (c.in_ok-insert.ensures.ok ∙ ap (map.insert c.loop-pair.copies c.pair-item.result.0) c.in_ok-redacted_write.ensures) c.loop-pair.invariant

pub returns : goal.returns
unfolding insert_each
returns c =
    sym (at_drop_all (λ pairs. insert_each c.loop-pair.copies (changed_entries redacted_write pairs)) c.entries-pairs.result.now c.loop-pair.pair-index c.loop-pair-test.false)
    ∙ c.loop-pair.invariant
