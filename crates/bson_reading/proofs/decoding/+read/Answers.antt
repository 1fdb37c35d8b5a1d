-- The loops read on from what they have read.
use Rattle.std.proofs.Common.{◌<◌, ◌≤◌, length, arith, rules}
use Rattle.std.proofs.lemmas.Result.{err_from_is_err_and}
use Rattle.bson_lite.specs.Reading.{pair_with, item_with, pairs_with, items_with, nested_at}
use Rattle.bson_lite.proofs.Loops.{starts, goes_on, exits, is_done}
use Rattle.bson_reading.proofs.decoding.+read.Goals as goal

pub items_of-loop-rest-init : goal.items_of-loop-rest-init
unfolding items_with
items_of-loop-rest-init t c = record { within = c.requires; going = rw c.in_ok-array.ensures (starts (item_with (nested_at c.args.level) c.args.end) c.args.bytes.now) }

pub items_of-returns-in_err-item : goal.items_of-returns-in_err-item
items_of-returns-in_err-item t c =
    let p = err_from_is_err_and c.from_residual-in_err-item.result c.from_residual-in_err-item.ensures.1 in
    let some : 0 < length c.loop-rest.rest.now = search rules in
    rw (p.1, p.2) (exits (item_with (nested_at c.args.level) c.args.end) (items_with (nested_at c.args.level) c.args.end c.args.bytes.now) c.loop-rest.array c.loop-rest.rest.now c.in_err-item.field-0.0 some (rw c.len.ensures at c.in_err-item.ensures.gives) c.loop-rest.invariant.going)

pub items_of-loop-rest-preserved : goal.items_of-loop-rest-preserved
items_of-loop-rest-preserved t c =
    let some : 0 < length c.loop-rest.rest.now = search rules in
    record { within = omega (arith, c.in_ok-item.ensures.shorter); going = rw c.in_ok-push.ensures.ok (goes_on (item_with (nested_at c.args.level) c.args.end) (items_with (nested_at c.args.level) c.args.end c.args.bytes.now) c.loop-rest.array c.loop-rest.rest.now c.in_ok-item.item c.in_ok-item.after.now some c.in_ok-item.ensures.shorter (rw c.len.ensures at c.in_ok-item.ensures.gives) c.loop-rest.invariant.going) }

pub items_of-returns : goal.items_of-returns
items_of-returns t c =
    let none : length c.loop-rest.rest.now ≤ 0 = search rules in
    is_done (item_with (nested_at c.args.level) c.args.end) (items_with (nested_at c.args.level) c.args.end c.args.bytes.now) c.loop-rest.array c.loop-rest.rest.now none c.loop-rest.invariant.going

pub pairs_of-loop-rest-init : goal.pairs_of-loop-rest-init
unfolding pairs_with
pairs_of-loop-rest-init t c = record { within = c.requires; going = rw c.in_ok-document.ensures (starts (λ place. pair_with (nested_at c.args.level) c.args.end) c.args.bytes.now) }

pub pairs_of-returns-in_err-pair : goal.pairs_of-returns-in_err-pair
pairs_of-returns-in_err-pair t c =
    let p = err_from_is_err_and c.from_residual-in_err-pair.result c.from_residual-in_err-pair.ensures.1 in
    let some : 0 < length c.loop-rest.rest.now = search rules in
    rw (p.1, p.2) (exits (λ place. pair_with (nested_at c.args.level) c.args.end) (pairs_with (nested_at c.args.level) c.args.end c.args.bytes.now) c.loop-rest.document c.loop-rest.rest.now c.in_err-pair.field-0.0 some c.in_err-pair.ensures.gives c.loop-rest.invariant.going)

pub pairs_of-loop-rest-preserved : goal.pairs_of-loop-rest-preserved
pairs_of-loop-rest-preserved t c =
    let some : 0 < length c.loop-rest.rest.now = search rules in
    record { within = omega (arith, c.in_ok-pair.ensures.shorter); going = rw c.in_ok-push_pair.ensures.ok (goes_on (λ place. pair_with (nested_at c.args.level) c.args.end) (pairs_with (nested_at c.args.level) c.args.end c.args.bytes.now) c.loop-rest.document c.loop-rest.rest.now c.in_ok-pair.pair c.in_ok-pair.after.now some c.in_ok-pair.ensures.shorter c.in_ok-pair.ensures.gives c.loop-rest.invariant.going) }

pub pairs_of-returns : goal.pairs_of-returns
pairs_of-returns t c =
    let none : length c.loop-rest.rest.now ≤ 0 = search rules in
    is_done (λ place. pair_with (nested_at c.args.level) c.args.end) (pairs_with (nested_at c.args.level) c.args.end c.args.bytes.now) c.loop-rest.document c.loop-rest.rest.now none c.loop-rest.invariant.going
