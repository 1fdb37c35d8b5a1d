-- The entry at the index, or a gap.
use Rattle.bson_lite.proofs.Rising.{read_found, read_gone}
use Rattle.bson_lite.proofs.by_index.ByIndex.get.Goals as goal

pub returns-in-Ok : goal.returns-in-Ok
returns-in-Ok g c =
    read_found c.self.inside.entries.items _ c.args.index c.in-Ok.at c.index.result.now c.self.invariant c.self.view_is c.in-Ok.ensures.found c.index.ensures

pub returns-in-Err : goal.returns-in-Err
returns-in-Err g c = read_gone c.self.inside.entries.items _ c.args.index _ c.self.invariant c.self.view_is c.in-Err.ensures.absent
