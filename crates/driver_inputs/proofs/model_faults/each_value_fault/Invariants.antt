-- The fault so far, and those of the values that are left.
use Rattle.std.proofs.Common.{◌≡◌, drop}
use Rattle.driver_inputs.specs.Faults.{first_of, values_fault}
use Rattle.driver_inputs.proofs.model_faults.each_value_fault.Given as goal

abbrev pub invariant-loop-value : goal.invariant-loop-value
invariant-loop-value l = first_of l.fault (values_fault (drop l.value-index l.values)) ≡ values_fault l.values
