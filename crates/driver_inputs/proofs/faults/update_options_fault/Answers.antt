-- The faults of the options, one behind the other.
use Rattle.std.proofs.Common.{◌++◌, ◌∙◌}
use Rattle.driver_ops.specs.OptionFields.{document_in, hint_of}
use Rattle.driver_inputs.specs.Inputs.{option_values, value_list}
use Rattle.driver_inputs.proofs.InputFaults.{joined}
use Rattle.driver_inputs.proofs.faults.update_options_fault.Goals as goal

pub returns : goal.returns
returns c =
    let given = c.args.options.now in
    let sort = value_list (document_in given.sort) in
    let comment = value_list given.comment in
    let let_vars = value_list (document_in given.let_vars) in
    let collation = value_list (document_in given.collation) in
    let hint = value_list (hint_of given.hint) in
    c.first_of.ensures
    ∙ joined c.option_documents_fault.result c.first_of-fault-4.result (option_values given.array_filters) (hint ++ (collation ++ (let_vars ++ (comment ++ sort)))) c.option_documents_fault.ensures
    (c.first_of-fault-4.ensures ∙ joined c.hint_fault.result c.first_of-fault-3.result hint (collation ++ (let_vars ++ (comment ++ sort))) c.hint_fault.ensures
    (c.first_of-fault-3.ensures ∙ joined c.option_document_fault-2.result c.first_of-fault-2.result collation (let_vars ++ (comment ++ sort)) c.option_document_fault-2.ensures
    (c.first_of-fault-2.ensures ∙ joined c.option_document_fault.result c.first_of-fault.result let_vars (comment ++ sort) c.option_document_fault.ensures
    (c.first_of-fault.ensures ∙ joined c.in_ok-comment_fault.field-0 c.option_document_fault-fault.result comment sort c.in_ok-comment_fault.ensures c.option_document_fault-fault.ensures))))
