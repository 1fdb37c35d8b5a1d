-- The faults of filter and options, one behind the other.
use Rattle.std.proofs.Common.{◌++◌, ◌∙◌}
use Rattle.bson_lite.specs.declared.bson.Bson as bson
use Rattle.driver_ops.specs.OptionFields.{document_in}
use Rattle.driver_inputs.specs.Inputs.{value_list}
use Rattle.driver_inputs.proofs.InputFaults.{joined}
use Rattle.driver_inputs.proofs.ModelFaults.{led}
use Rattle.driver_inputs.proofs.model_faults.delete_fault.Goals as goal

pub returns : goal.returns
returns c =
    let collation = value_list (document_in c.args.collation.now) in
    let hint = value_list c.args.hint.now in
    c.first_of.ensures
    ∙ led c.document_fault.result c.first_of-fault.result (bson.Document c.args.filter.now) (collation ++ hint) c.document_fault.ensures
    (c.first_of-fault.ensures ∙ joined c.option_document_fault.result c.in_ok-fault.fault collation hint c.option_document_fault.ensures c.in_ok-fault.ensures)
