-- Room was made before anything was put in, and made no difference to what was there.
use Rattle.bson_lite.proofs.Uniting.{puts_with_room}
use Rattle.bson_lite.proofs.by_index.unite_two.Goals as goal

pub returns-clause-first : goal.returns-clause-first
returns-clause-first g c =
    puts_with_room _ _ _ c.first.inside.entries.items _ c.more_first.inside.entries.items c.more_first.invariant
    c.in_ok-reserve.ensures.items c.first.view_is c.more_first.view_is c.put_all.ensures.all
