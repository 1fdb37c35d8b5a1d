-- One entry more, for which there is room.
use Rattle.std.proofs.Common.{◌<◌, length, arith, ap, sym, ◌∙◌}
use Rattle.std.specs.Vec.{vec_capacity, vec_len}
use Rattle.bson_lite.proofs.FinMaps.{puts_none}
use Rattle.bson_lite.proofs.Rising.{puts_next, rises_next, room_after}
use Rattle.bson_lite.proofs.by_index.put_all.Goals as goal

pub unreachable-requires : goal.unreachable-requires
unreachable-requires g c =
    let left = ap length c.in-Some.ensures.steps.0 in
    let room : vec_len c.loop-index.entries < vec_capacity c.loop-index.entries = omega (arith, left, c.loop-index.invariant.room) in
    let impossible = c.in_default.ensures.succeeds room in
    cc

pub loop-index-preserved : goal.loop-index-preserved
loop-index-preserved g c = record {
  rises = rises_next c.loop-index.entries.items c.put_entry.new.entries.items (c.in-Some.index, c.in-Some.value) c.loop-index.invariant.rises c.in-Ok.ensures.ok;
  puts = puts_next c.loop-index.entries.items c.put_entry.new.entries.items (c.in-Some.index, c.in-Some.value) _ _ _ c.loop-index.invariant.rises
      c.in-Ok.ensures.ok c.in-Some.ensures.steps.0 c.loop-index.invariant.puts;
  room = room_after (c.in-Some.index, c.in-Some.value) _ _ _ _ _ _ c.in-Some.ensures.steps.0 c.loop-index.invariant.room c.in-Ok.ensures.len c.in-Ok.ensures.room;
}

pub returns-clause-rises : goal.returns-clause-rises
returns-clause-rises g c = c.loop-index.invariant.rises

pub returns-clause-all : goal.returns-clause-all
returns-clause-all g c =
    puts_none _ _ c.loop-index.index-iterator.rest.items (sym c.loop-index.index-iterator.rest.ok.0 ∙ c.in-None.ensures.steps.0) c.loop-index.invariant.puts
