-- What was kept, then what the rules leave of the rest.
use Rattle.std.proofs.Common.{◌≡◌, ◌++◌, drop}
use Rattle.driver_link.specs.Honesty.{honest}
use Rattle.model_server.specs.Judged.{judged}
use Rattle.model_server.proofs.honesty.honest.Given as goal

abbrev pub invariant-loop-label : goal.invariant-loop-label
invariant-loop-label l = l.kept ++ honest (judged l.facts) (drop l.label-index l.labels) ≡ honest (judged l.facts) l.labels
