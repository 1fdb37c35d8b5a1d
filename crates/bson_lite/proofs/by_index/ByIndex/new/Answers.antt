-- No entry is the empty map.
use Rattle.bson_lite.proofs.Rising.{none_is_empty, none_rises}
use Rattle.bson_lite.proofs.by_index.ByIndex.new.Goals as goal

pub invariant_of-result : goal.invariant_of-result
invariant_of-result g c = none_rises c.new.result.items c.new.ensures.items

pub returns : goal.returns
returns g c = none_is_empty c.new.result.items c.new.ensures.items
