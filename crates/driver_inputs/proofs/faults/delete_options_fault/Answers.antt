-- The faults of the options, one behind the other.
use Rattle.std.proofs.Common.{◌++◌, ◌∙◌}
use Rattle.driver_ops.specs.OptionFields.{document_in, hint_of}
use Rattle.driver_inputs.specs.Inputs.{value_list}
use Rattle.driver_inputs.proofs.InputFaults.{joined}
use Rattle.driver_inputs.proofs.faults.delete_options_fault.Goals as goal

pub returns : goal.returns
returns c =
    let given = c.args.options.now in
    let comment = value_list given.comment in
    let let_vars = value_list (document_in given.let_vars) in
    let hint = value_list (hint_of given.hint) in
    c.first_of.ensures
    ∙ joined c.option_document_fault-2.result c.first_of-fault-2.result (value_list (document_in given.collation)) (hint ++ (let_vars ++ comment)) c.option_document_fault-2.ensures
    (c.first_of-fault-2.ensures ∙ joined c.hint_fault.result c.first_of-fault.result hint (let_vars ++ comment) c.hint_fault.ensures
    (c.first_of-fault.ensures ∙ joined c.option_document_fault.result c.in_ok-fault.fault let_vars comment c.option_document_fault.ensures c.in_ok-fault.ensures))
