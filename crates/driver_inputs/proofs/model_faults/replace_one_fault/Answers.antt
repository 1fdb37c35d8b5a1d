-- The faults of filter, replacement and options, one behind the other.
use Rattle.std.proofs.Common.{◌∷◌, ◌++◌, ◌∙◌}
use Rattle.bson_lite.specs.declared.bson.Bson as bson
use Rattle.driver_ops.specs.OptionFields.{document_in}
use Rattle.driver_inputs.specs.Inputs.{value_list}
use Rattle.driver_inputs.proofs.InputFaults.{joined}
use Rattle.driver_inputs.proofs.ModelFaults.{led}
use Rattle.driver_inputs.proofs.model_faults.replace_one_fault.Goals as goal

pub returns : goal.returns
returns c =
    let model = c.args.model.now in
    let collation = value_list (document_in model.collation) in
    let hint = value_list model.hint in
    let sort = value_list (document_in model.sort) in
    c.first_of.ensures
    ∙ led c.document_fault-2.result c.first_of-fault-3.result (bson.Document model.filter) (bson.Document model.replacement ∷ (collation ++ (hint ++ sort))) c.document_fault-2.ensures
    (c.first_of-fault-3.ensures ∙ led c.document_fault.result c.first_of-fault-2.result (bson.Document model.replacement) (collation ++ (hint ++ sort)) c.document_fault.ensures
    (c.first_of-fault-2.ensures ∙ joined c.option_document_fault.result c.first_of-fault.result collation (hint ++ sort) c.option_document_fault.ensures
    (c.first_of-fault.ensures ∙ joined c.in_ok-option_value_fault.field-0 c.option_document_fault-fault.result hint sort c.in_ok-option_value_fault.ensures c.option_document_fault-fault.ensures)))
