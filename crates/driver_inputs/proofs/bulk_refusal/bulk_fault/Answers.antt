-- The first fault of the models with their ids, of the options, and of the length.
use Rattle.std.proofs.Common.{sym, ap, subst, ◌∙◌}
use Rattle.driver_inputs.specs.BulkInputs.{RefusesBulkValues}
use Rattle.driver_inputs.specs.Faults.{first_of, length_fault}
use Rattle.driver_inputs.proofs.ModelFaults.{refused_values}
use Rattle.driver_inputs.proofs.bulk_refusal.bulk_fault.Goals as goal

pub returns : goal.returns
returns c =
    subst (RefusesBulkValues c.args.models.now c.args.options.now)
    (sym (c.first_of.ensures ∙ ap (first_of c.in_ok-of_models.of_models) (c.first_of-beside.ensures ∙ ap (λ fault. first_of fault c.length_fault.result) c.first_of-options_first.ensures)))
    (refused_values c.args.models.now c.args.options.now c.in_ok-of_models.of_models c.option_document_fault.result c.in_ok-comment.comment c.length_fault.result
    c.in_ok-of_models.ensures c.option_document_fault.ensures c.in_ok-comment.ensures (c.length_fault.ensures ∙ ap length_fault c.in_ok-body.ensures))
