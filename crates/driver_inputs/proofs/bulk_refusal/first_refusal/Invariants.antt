-- No model so far is refused, so the first message is that about those that are left.
use Rattle.std.proofs.Common.{◌≡◌, drop}
use Rattle.driver_inputs.specs.BulkInputs.{first_text}
use Rattle.driver_inputs.specs.inside.ModelFaults.{test_refusal}
use Rattle.driver_inputs.proofs.bulk_refusal.first_refusal.Given as goal

abbrev pub invariant-loop-model : goal.invariant-loop-model
invariant-loop-model l = first_text (test_refusal l.test) (drop l.model-index l.models) ≡ first_text (test_refusal l.test) l.models
