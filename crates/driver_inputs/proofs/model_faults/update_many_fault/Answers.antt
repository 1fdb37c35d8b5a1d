-- The faults of filter, update and options, one behind the other.
use Rattle.std.proofs.Common.{◌++◌, ◌∙◌}
use Rattle.bson_lite.specs.declared.bson.Bson as bson
use Rattle.driver_options.specs.declared.updates.UpdateOrReplace.TheVariants.{UpdateModifications}
use Rattle.driver_ops.specs.OptionFields.{document_in}
use Rattle.driver_inputs.specs.BulkInputs.{set_values}
use Rattle.driver_inputs.specs.Inputs.{change_values, value_list}
use Rattle.driver_inputs.proofs.InputFaults.{joined}
use Rattle.driver_inputs.proofs.ModelFaults.{led}
use Rattle.driver_inputs.proofs.model_faults.update_many_fault.Goals as goal

pub returns : goal.returns
returns c =
    let model = c.args.model.now in
    let changes = change_values (UpdateModifications model.update) in
    let filters = set_values model.array_filters in
    let collation = value_list (document_in model.collation) in
    let hint = value_list model.hint in
    c.first_of.ensures
    ∙ led c.document_fault.result c.first_of-fault-3.result (bson.Document model.filter) (changes ++ (filters ++ (collation ++ hint))) c.document_fault.ensures
    (c.first_of-fault-3.ensures ∙ joined c.modifications_fault.result c.first_of-fault-2.result changes (filters ++ (collation ++ hint)) c.modifications_fault.ensures
    (c.first_of-fault-2.ensures ∙ joined c.in_ok-option_values_fault.field-0 c.first_of-fault.result filters (collation ++ hint) c.in_ok-option_values_fault.ensures
    (c.first_of-fault.ensures ∙ joined c.option_document_fault.result c.in_ok-fault.fault collation hint c.option_document_fault.ensures c.in_ok-fault.ensures)))
