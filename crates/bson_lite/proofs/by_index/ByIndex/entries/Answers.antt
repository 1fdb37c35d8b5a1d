-- The entries are those of their map.
use Rattle.std.proofs.Common.{◌∙◌}
use Rattle.bson_lite.proofs.Rising.{entries_again}
use Rattle.bson_lite.proofs.by_index.ByIndex.entries.Goals as goal

pub returns : goal.returns
returns g c = c.as_slice.ensures.value ∙ entries_again c.self.inside.entries.items _ c.self.invariant c.self.view_is
