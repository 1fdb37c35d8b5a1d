-- A bulk write of the ops that were made of accepted models asks for their writes.
use Rattle.std.proofs.Common.{◌≡◌, ℕ, Bool, true, false, List, [], ◌∷◌, length, refl, sym, subst}
use Rattle.std.specs.Prelude.{Option, None, Some, Ok, if◌then◌else◌}
use Rattle.std.specs.List.{AllByRecursion, list_any}
use Rattle.bson_lite.specs.declared.bson.ObjectId.{ObjectId}
use Rattle.bulk_outcomes.specs.BulkResults.{ResultSpec}
use Rattle.driver_options.specs.declared.models.WriteModel.{WriteModel}
use Rattle.driver_options.specs.declared.write_options.BulkWriteOptions.{BulkWriteOptions}
use Rattle.driver_options.specs.Models.{namespace_of}
use Rattle.driver_link.specs.declared.machine.Place.{Place}
use Rattle.driver_link.specs.Writes.{is_dot}
use Rattle.driver_link.proofs.Lists.{none_is_some}
use Rattle.driver_session.specs.StoreTells.{StoreTells}
use Rattle.driver_ops.specs.declared.target.OperationTarget.{OperationTarget}
use Rattle.driver_ops.specs.Operations.{HasBodies}
use Rattle.bulk_fronts.specs.declared.own_op.OwnOp.{OwnOp}
use Rattle.bulk_fronts.specs.BulkOps.{IsUndotted}
use Rattle.bulk_ops.specs.BulkSpec.{bulk_spec}
use Rattle.bulk_ops.proofs.BulkCommand.{bulk_bodies_of}
use Rattle.bulk_actions.specs.BulkIds.{PreparesOps}
use Rattle.driver_inputs.specs.BulkInputs.{bulk_argument_refusal, database_refusal, first_text, no_models_text, replacement_refusal, update_refusal, with_model_ids}
use Rattle.driver_inputs.specs.Inputs.{dotted_text, else_text, has_dot}
use Rattle.driver_inputs.proofs.ModelNamespaces.{same_namespace}

-- where no message stands neither part has one
first_none : (first other : Option (List ℕ)) → else_text first other ≡ None → first ≡ None
first_none None other is = refl
first_none (Some text) other is = absurd (none_is_some text (sym is))

other_none : (first other : Option (List ℕ)) → else_text first other ≡ None → other ≡ None
other_none None other is = is
other_none (Some text) other is = absurd (none_is_some text (sym is))

-- a name that is not refused has no dot
undotted_by : (dot : Bool) (text : List ℕ) → ◌≡◌ {A = Option (List ℕ)} (if dot then Some text else None) None → dot ≡ false
undotted_by true text is = absurd (none_is_some text (sym is))
undotted_by false text is = refl

-- a model that is not refused for its database's name
model_undotted : (model : WriteModel) → database_refusal model ≡ None → IsUndotted model
unfolding has_dot
model_undotted model is = undotted_by (has_dot (namespace_of model).db) (dotted_text (namespace_of model).db) is

-- models that are not refused for theirs
all_undotted : (ids : List ObjectId) (models : List WriteModel) → first_text database_refusal models ≡ None → AllByRecursion IsUndotted (with_model_ids ids models)
all_undotted [] models is = tt
all_undotted (id ∷ ids) [] is = tt
all_undotted (id ∷ ids) (model ∷ models) is = (
  subst (λ namespace. list_any is_dot namespace.db ≡ false) (sym (same_namespace id model)) (model_undotted model (first_none (database_refusal model) (first_text database_refusal models) is)),
  all_undotted ids models (other_none (database_refusal model) (first_text database_refusal models) is),
)

-- so it is where the arguments are in order
pub accepted_undotted : (ids : List ObjectId) (models : List WriteModel) → bulk_argument_refusal models ≡ None → AllByRecursion IsUndotted (with_model_ids ids models)
accepted_undotted ids [] is = absurd (none_is_some no_models_text (sym is))
accepted_undotted ids (model ∷ models) is =
    all_undotted ids (model ∷ models)
    (first_none (first_text database_refusal (model ∷ models)) (else_text (first_text update_refusal (model ∷ models)) (first_text replacement_refusal (model ∷ models))) is)

-- so for each command that it may build the bulk write asks for something, where each op has a place
pub bulk_bodies : (target : OperationTarget) (first : ℕ) (given options : BulkWriteOptions) {R : Type 0} (tells : ResultSpec R) (store now : StoreTells) (models : List WriteModel) (ops own : List OwnOp) (places : List Place)
    → PreparesOps store now models options (Ok own) → ops ≡ own → length places ≡ length own → HasBodies (bulk_spec tells target first ops given) places
bulk_bodies target first given options tells store now models ops own places prepared same each =
    subst (λ known. HasBodies (bulk_spec tells target first known given) places) (sym same)
    (bulk_bodies_of target first own given tells (with_model_ids prepared.1.ids models) places prepared.1.are_ops (accepted_undotted prepared.1.ids models prepared.0.arguments) each)
