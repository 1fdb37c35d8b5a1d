-- The batches of a bulk write as a plan: what each asks for, of the models that are left, in the places of their indexes.
use Rattle.std.proofs.Common.{◌≡◌, ℕ, zero, suc, ◌+◌, ◌<◌, true, List, [], ◌∷◌, drop, length, take, refl, sym, ap, subst, ◌∙◌, inl, arith}
use Rattle.std.specs.Prelude.{Some, slice_get}
use Rattle.std.specs.List.{AllByRecursion}
use Rattle.bulk_outcomes.specs.BulkResults.{ResultSpec}
use Rattle.driver_error.specs.Error.{kind_of, source_of}
use Rattle.driver_options.specs.declared.models.WriteModel.{WriteModel}
use Rattle.driver_options.specs.declared.write_options.BulkWriteOptions.{BulkWriteOptions}
use Rattle.driver_link.specs.declared.machine.Place.{Place}
use Rattle.driver_link.specs.declared.machine.PlacedWrite.{PlacedWrite}
use Rattle.driver_link.specs.declared.machine.SendBody.{SendBody}
use Rattle.driver_link.specs.declared.machine.SendBody.TheVariants.{Write}
use Rattle.driver_link.specs.declared.machine.SendCommand.TheVariants as command
use Rattle.driver_link.specs.Cases.{body_writes}
use Rattle.driver_link.proofs.Lists.{none_is_some, some_is_some}
use Rattle.driver_ops.specs.Operations.{AsksFor}
use Rattle.bulk_fronts.specs.declared.own_op.OwnOp.{OwnOp}
use Rattle.bulk_ops.specs.BulkLawful.{bulk_lawful}
use Rattle.bulk_fronts.specs.BulkOps.{AreOps, IsUndotted, model_writes, model_written}
use Rattle.bulk_ops.specs.BulkSpec.{admin_target, bulk_spec}
use Rattle.bulk_fronts.specs.BulkWrites.{bulk_is_ordered}
use Rattle.many_actions.specs.BatchPlans.{places_from, rest_of}
use Rattle.driver_actions.specs.CallParts.{HasWriteOf}
use Rattle.many_actions.proofs.BatchWrites.{in_front, in_rest, place_at}
use Rattle.many_actions.proofs.BatchPlaces.{places_length}
use Rattle.many_actions.proofs.PlannedBatches.{PlanWrites, StandsAt, place_in}
use Rattle.bulk_actions.specs.BulkBatches.{bulk_plan}
use Rattle.bulk_actions.proofs.BulkEnds.{followed_read}
use Rattle.bulk_actions.proofs.OpsLeft.{ops_left, undotted_left}

-- what holds of each of these models, the first at an index of the caller's list
abbrev pub EachModel : (ℕ → WriteModel → Type 0) → ℕ → List WriteModel → Type 0
EachModel G index models = (at : ℕ) (model : WriteModel) → slice_get models at ≡ Some model → G (index + at) model

-- it holds of the rest
pub rest_is : (G : ℕ → WriteModel → Type 0) (index count : ℕ) (models : List WriteModel) → EachModel G index models → EachModel G (index + count) (drop count models)
rest_is G index count models each = λ at model is.
    let here : index + (count + at) ≡ index + count + at = omega arith in
    subst (λ n. G n model) here (each (count + at) model (in_rest count models at model is))

-- the ops of models of which each is such, the first at an index of the caller's list
pub record GoodModels (G : ℕ → WriteModel → Type 0) (index : ℕ) (own : List OwnOp) : Type 0 where
  pub models : List WriteModel
  pub are : AreOps models own
  pub undotted : AllByRecursion IsUndotted models
  pub each : EachModel G index models

-- a write is that of such a model, in the place of its index in a call
pub record IsOfModel (G : ℕ → WriteModel → Type 0) (call : ℕ) (write : PlacedWrite) : Type 0 where
  pub model : WriteModel
  pub given : G write.place.index model
  pub of_call : write.place.call ≡ call
  pub is : write.written ≡ model_written model

-- a write of models, by its position
record WritesModel (models : List WriteModel) (places : List Place) (at : ℕ) (write : PlacedWrite) : Type 0 where
  model : WriteModel
  place : Place
  stands : slice_get models at ≡ Some model
  placed : slice_get places at ≡ Some place
  is : record { place = place; written = model_written model } ≡ write

-- each is so
writes_at : (models : List WriteModel) (places : List Place) (at : ℕ) (write : PlacedWrite) → slice_get (model_writes models places) at ≡ Some write → WritesModel models places at write
writes_at [] places at write is = absurd (none_is_some write is)
writes_at (model ∷ models) [] at write is = absurd (none_is_some write is)
writes_at (model ∷ models) (place ∷ places) zero write is = record { model = model; place = place; stands = refl; placed = refl; is = some_is_some (record { place = place; written = model_written model }) write is }
writes_at (model ∷ models) (place ∷ places) (suc at) write is =
    let rest = writes_at models places at write is in
    record { model = rest.model; place = rest.place; stands = rest.stands; placed = rest.placed; is = rest.is }

-- the bulk write of so many of the ops that are left
module _ {R : Type 0} (tells : ResultSpec R) (options : BulkWriteOptions) (call : ℕ) (G : ℕ → WriteModel → Type 0) where
  -- what it asks for
  abbrev pub bulk_body : (index : ℕ) (own : List OwnOp) → GoodModels G index own → ℕ → SendBody
  bulk_body index own good count = Write command.BulkWrite (bulk_is_ordered options) (model_writes (take count good.models) (take count (places_from call index (length own))))

  pub bulk_asks : (index : ℕ) (own : List OwnOp) (good : GoodModels G index own) (count : ℕ) → AsksFor (bulk_spec tells admin_target index own options) (rest_of call index own count) (bulk_body index own good count)
  bulk_asks index own good count = record { models = good.models; are_ops = good.are; undotted = good.undotted; each_placed = places_length call index (length own); is = refl }

  -- its writes stand in the places of their indexes
  pub bulk_stands : (index : ℕ) (own : List OwnOp) (good : GoodModels G index own) (count at : ℕ) (write : PlacedWrite) → slice_get (body_writes (bulk_body index own good count)) at ≡ Some write
      → StandsAt (IsOfModel G call) call index count at write
  bulk_stands index own good count at write is =
      let found = writes_at (take count good.models) (take count (places_from call index (length own))) at write is in
      let front = in_front count good.models at found.model found.stands in
      let placed = in_front count (places_from call index (length own)) at found.place found.placed in
      let place_is : write.place ≡ place_in call (index + at) = ap (λ w. w.place) (sym found.is) ∙ place_at call index (length own) at found.place placed.1 in
      let index_is : write.place.index ≡ index + at = ap (λ place. place.index) place_is in
      record {
        place_is = place_is;
        below = front.0;
        is = record {
          model = found.model;
          given = subst (λ n. G n found.model) (sym index_is) (good.each at found.model front.1);
          of_call = ap (λ place. place.call) place_is;
          is = ap (λ w. w.written) (sym found.is);
        };
      }

  -- one of them is of the call, where there is one
  pub one_of : (index : ℕ) (models : List WriteModel) (own : List OwnOp) (count : ℕ) → AreOps models own → 0 < count → 0 < length own
      → HasWriteOf call (model_writes (take count models) (take count (places_from call index (length own))))
  one_of index [] [] count are some left = absurd (omega (arith, left))
  one_of index [] (op ∷ own) count are some left = absurd are
  one_of index (model ∷ models) [] count are some left = absurd are
  one_of index (model ∷ models) (op ∷ own) zero are some left = absurd (omega (arith, some))
  one_of index (model ∷ models) (op ∷ own) (suc count) are some left = inl refl

  -- what the bulk writes of a call ask for
  abbrev pub bulk_planned : PlanWrites true (bulk_plan tells options) call (GoodModels G) (IsOfModel G call)
  bulk_planned = record {
    good_rest = λ index count own good. record {
      models = drop count good.models;
      are = ops_left count good.models own good.are;
      undotted = undotted_left count good.models good.undotted;
      each = rest_is G index count good.models good.each;
    };
    body = bulk_body;
    asks = bulk_asks;
    writes = λ index own good count. tt;
    stands = bulk_stands;
    has_one = λ index own good count some left. one_of index good.models own count good.are some left;
    some = λ index own statements made commanded. commanded.some;
    within = λ index own statements made commanded. commanded.within;
    lawful = λ index own. bulk_lawful tells admin_target index own options;
    pages = λ index own. refl;
    read = λ error on. followed_read (bulk_is_ordered options) (kind_of error) (source_of error) on;
  }
