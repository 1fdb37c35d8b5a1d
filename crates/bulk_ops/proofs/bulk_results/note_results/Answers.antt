-- One result more.
use Rattle.bulk_ops.proofs.NotedResults.{notes_all, notes_end, notes_next, notes_none}
use Rattle.bulk_ops.proofs.bulk_results.note_results.Goals as goal

pub loop-told-init : goal.loop-told-init
loop-told-init c = notes_none c.args.ops c.args.seen.now

pub returns-then-not-branch : goal.returns-then-not-branch
returns-then-not-branch c =
    notes_end c.args.ops c.args.seen.now c.loop-told.seen c.note_result.new.seen c.args.results.now c.loop-told.told-index c.told-item.result _ c.loop-told-test.true c.told-item.is
    c.loop-told.invariant c.in_ok-note_result.ensures c.if-not-branch.true

pub loop-told-preserved : goal.loop-told-preserved
loop-told-preserved c =
    notes_next c.args.ops c.args.seen.now c.loop-told.seen c.note_result.new.seen c.args.results.now c.loop-told.told-index c.told-item.result _ c.loop-told-test.true c.told-item.is
    c.loop-told.invariant c.in_ok-note_result.ensures c.if-not-branch.false

pub returns : goal.returns
returns c = notes_all c.args.ops c.args.seen.now c.loop-told.seen c.args.results.now c.loop-told.told-index c.loop-told-test.false c.loop-told.invariant
