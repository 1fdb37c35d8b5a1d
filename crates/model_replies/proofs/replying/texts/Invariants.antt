-- What was made, then what is left.
use Rattle.std.proofs.Common.{◌≡◌, ◌++◌, map, drop}
use Rattle.bson_lite.specs.declared.bson.Bson as bson
use Rattle.model_replies.proofs.replying.texts.Given as goal

abbrev pub invariant-loop-label : goal.invariant-loop-label
invariant-loop-label l = l.values ++ map (λ label. bson.String label) (drop l.label-index l.labels) ≡ map (λ label. bson.String label) l.labels
