-- The labels that are left decide.
use Rattle.std.proofs.Common.{◌≡◌, drop}
use Rattle.driver_link.specs.Honesty.{has_transient}
use Rattle.model_server.proofs.honesty.has_transient.Given as goal

abbrev pub invariant-loop-label : goal.invariant-loop-label
invariant-loop-label l = has_transient (drop l.label-index l.labels) ≡ has_transient l.labels
