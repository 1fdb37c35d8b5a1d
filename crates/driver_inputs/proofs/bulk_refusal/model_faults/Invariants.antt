-- The fault so far, and those of the models that are left.
use Rattle.std.proofs.Common.{◌≡◌, drop}
use Rattle.driver_inputs.specs.Faults.{first_of}
use Rattle.driver_inputs.specs.inside.ModelFaults.{model_faults}
use Rattle.driver_inputs.proofs.bulk_refusal.model_faults.Given as goal

abbrev pub invariant-loop-model : goal.invariant-loop-model
invariant-loop-model l = first_of l.fault (model_faults (drop l.model-index l.models)) ≡ model_faults l.models
