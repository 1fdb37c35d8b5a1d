-- The ops and the models that are left of a call's, and what a bulk write of them asks for.
use Rattle.std.proofs.Common.{◌≡◌, ℕ, zero, suc, List, [], ◌∷◌, drop, length, sym, ap, subst, ◌∙◌}
use Rattle.std.specs.Prelude.{Ok}
use Rattle.std.specs.List.{AllByRecursion}
use Rattle.bulk_outcomes.specs.BulkResults.{ResultSpec}
use Rattle.driver_options.specs.declared.models.WriteModel.{WriteModel}
use Rattle.driver_options.specs.declared.write_options.BulkWriteOptions.{BulkWriteOptions}
use Rattle.driver_link.specs.declared.machine.Place.{Place}
use Rattle.driver_session.specs.StoreTells.{StoreTells}
use Rattle.driver_ops.specs.declared.target.OperationTarget.{OperationTarget}
use Rattle.driver_ops.specs.Operations.{HasBodies}
use Rattle.bulk_fronts.specs.declared.own_op.OwnOp.{OwnOp}
use Rattle.bulk_fronts.specs.BulkOps.{AreOps, IsUndotted}
use Rattle.bulk_ops.specs.BulkSpec.{bulk_spec}
use Rattle.bulk_ops.proofs.BulkCommand.{bulk_bodies_of}
use Rattle.many_actions.specs.BatchPlans.{places_from}
use Rattle.many_actions.proofs.BatchPlaces.{places_length}
use Rattle.bulk_actions.specs.BulkIds.{OwnsOps, PreparesOps}
use Rattle.bulk_actions.specs.inside.BulkBatches.{AreBulkOps}
use Rattle.bulk_actions.proofs.BulkBodies.{accepted_undotted}
use Rattle.driver_inputs.specs.BulkInputs.{IsBulkAccepted, with_model_ids}

-- the ops that are left are those of the models that are left
pub ops_left : (at : ℕ) (models : List WriteModel) (own : List OwnOp) → AreOps models own → AreOps (drop at models) (drop at own)
ops_left zero models own are = are
ops_left (suc at) [] [] are = tt
ops_left (suc at) [] (one ∷ own) are = absurd are
ops_left (suc at) (model ∷ models) [] are = absurd are
ops_left (suc at) (model ∷ models) (one ∷ own) are = ops_left at models own are.1

-- no database of those that are left has a dot in its name
pub undotted_left : (at : ℕ) (models : List WriteModel) → AllByRecursion IsUndotted models → AllByRecursion IsUndotted (drop at models)
undotted_left zero models plain = plain
undotted_left (suc at) [] plain = tt
undotted_left (suc at) (model ∷ models) plain = undotted_left at models plain.1

-- for each command that it may build a bulk write of the ops that are left asks for something, with their places
pub left_bodies : {R : Type 0} (tells : ResultSpec R) (options given : BulkWriteOptions) (target : OperationTarget) (index at call : ℕ) (own ops : List OwnOp) (places : List Place) → AreBulkOps own → ops ≡ drop at own
    → given ≡ options → places ≡ places_from call at (length (drop at own)) → HasBodies (bulk_spec tells target index ops given) places
left_bodies tells options given target index at call own ops places are is same is_places =
    subst (λ left. HasBodies (bulk_spec tells target index left given) places) (sym is)
    (bulk_bodies_of target index (drop at own) given tells (drop at are.models) places (ops_left at are.models own are.are_ops) (undotted_left at are.models are.undotted)
    (ap length is_places ∙ places_length call at (length (drop at own))))

-- the ops of accepted models are those of models
pub owned_ops : (store now : StoreTells) (models : List WriteModel) (options : BulkWriteOptions) (own : List OwnOp) → IsBulkAccepted models options → OwnsOps store now models own → AreBulkOps own
owned_ops store now models options own accepted owns = record {
  models = with_model_ids owns.ids models;
  are_ops = owns.are_ops;
  undotted = accepted_undotted owns.ids models accepted.arguments;
}

-- the same of a later batch of a caller's models
pub later_bodies : (target : OperationTarget) (first at : ℕ) (given options : BulkWriteOptions) {R : Type 0} (tells : ResultSpec R) (store now : StoreTells) (models : List WriteModel) (ops own : List OwnOp) (places : List Place)
    → PreparesOps store now models options (Ok own) → ops ≡ drop at own → length places ≡ length ops → HasBodies (bulk_spec tells target first ops given) places
later_bodies target first at given options tells store now models ops own places prepared same each =
    let are = owned_ops store now models options own prepared.0 prepared.1 in
    subst (λ known. HasBodies (bulk_spec tells target first known given) places) (sym same)
    (bulk_bodies_of target first (drop at own) given tells (drop at are.models) places (ops_left at are.models own are.are_ops) (undotted_left at are.models are.undotted) (each ∙ ap length same))
