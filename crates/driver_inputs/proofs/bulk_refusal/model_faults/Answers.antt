-- The fault of one model more and of its namespace.
use Rattle.std.proofs.Common.{ap, ◌∙◌}
use Rattle.bson_lite.specs.declared.namespace.Namespace.{Namespace}
use Rattle.bson_lite.specs.Namespace.{dotted}
use Rattle.driver_inputs.specs.inside.ModelFaults.{text_fault}
use Rattle.driver_inputs.proofs.ModelFaults.{fault_more}
use Rattle.driver_inputs.proofs.bulk_refusal.model_faults.Goals as goal

pub loop-model-preserved : goal.loop-model-preserved
loop-model-preserved c =
    fault_more c.args.models.now c.loop-model.model-index c.model-item.result c.loop-model.fault c.in_ok-model_fault.field-0 c.first_of-fault.result c.text_fault.result
    c.first_of-fault-in-loop-model.result c.loop-model-test.true c.model-item.is c.first_of-fault.ensures c.in_ok-model_fault.ensures c.first_of-fault-in-loop-model.ensures
    (c.text_fault.ensures ∙ ap (λ (namespace : Namespace). text_fault (dotted namespace)) c.namespace.ensures) c.loop-model.invariant
