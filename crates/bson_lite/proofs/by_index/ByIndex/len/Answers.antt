-- The map has as many values as there are entries.
use Rattle.std.proofs.Common.{◌∙◌}
use Rattle.bson_lite.proofs.Rising.{count_again}
use Rattle.bson_lite.proofs.by_index.ByIndex.len.Goals as goal

pub returns : goal.returns
returns g c = c.len.ensures ∙ c.self.inside.entries.ok.0 ∙ count_again c.self.inside.entries.items _ c.self.invariant c.self.view_is
