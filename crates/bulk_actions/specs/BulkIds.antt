-- The ops of a bulk write as they are sent: ids are drawn in order for the documents that have none, once for the whole call.
use Rattle.std.specs.Prelude.{◌≡◌, ℕ, List, [], ◌∷◌, take, ◌⊎◌, Result, Ok, Err}
use Rattle.bson_lite.specs.declared.bson.ObjectId.{ObjectId}
use Rattle.bson_lite.specs.Fields.{id_key, value_of}
use Rattle.driver_error.specs.declared.error.Error.{Error}
use Rattle.driver_error.specs.declared.kind.ErrorKind.TheVariants.{Memory}
use Rattle.driver_error.specs.Error.{kind_of}
use Rattle.driver_options.specs.declared.models.WriteModel.{WriteModel}
use Rattle.driver_options.specs.declared.models.WriteModel.TheVariants.{InsertOne}
use Rattle.driver_options.specs.declared.write_options.BulkWriteOptions.{BulkWriteOptions}
use Rattle.driver_session.specs.StoreTells.{StoreTells}
use Rattle.bulk_fronts.specs.declared.own_op.OwnOp.{OwnOp}
use Rattle.bulk_fronts.specs.BulkOps.{AreOps}
use Rattle.driver_actions.specs.OwnIds.{DrawsOwnId}
use Rattle.driver_inputs.specs.BulkInputs.{IsBulkAccepted, TellsBulkInput, with_model_ids}
use Rattle.driver_inputs.specs.ManyInputs.{AreTwelve}

-- for a model that inserts a document without an id this one is drawn, the next to come; for another nothing is
abbrev pub DrawsModelId : WriteModel → StoreTells → StoreTells → ObjectId → Type 0
DrawsModelId (InsertOne model) store now id = DrawsOwnId (value_of id_key model.document) store now id
DrawsModelId other store now id = now ≡ store

-- so it is for each model, in order
abbrev pub DrawsModelIds : StoreTells → StoreTells → List WriteModel → List ObjectId → Type 0
DrawsModelIds store now [] [] = now ≡ store
DrawsModelIds store now [] (id ∷ ids) = ⊥
DrawsModelIds store now (model ∷ models) [] = ⊥
DrawsModelIds store now (model ∷ models) (id ∷ ids) = (mid : StoreTells) × (DrawsModelId model store mid id × DrawsModelIds mid now models ids)

-- the ops of the caller's models as they are sent, whose documents have the ids that were drawn where they had none
pub record OwnsOps (store store_now : StoreTells) (given : List WriteModel) (own : List OwnOp) : Type 0 where
  pub ids : List ObjectId
  pub twelve : AreTwelve ids
  pub draws : DrawsModelIds store store_now given ids
  pub are_ops : AreOps (with_model_ids ids given) own

-- ids were drawn for so many models at the front, in order
pub record DrawsForModels (store now : StoreTells) (given : List WriteModel) : Type 0 where
  pub count : ℕ
  pub ids : List ObjectId
  pub twelve : AreTwelve ids
  pub draws : DrawsModelIds store now (take count given) ids

-- the input was accepted and the ops were made; or nothing was drawn, and the error tells why the input is refused, or of want of
-- memory; or there was no memory for the ops of an accepted one
abbrev pub PreparesOps : StoreTells → StoreTells → List WriteModel → BulkWriteOptions → Result (List OwnOp) Error → Type 0
PreparesOps store now models options (Ok own) = IsBulkAccepted models options × OwnsOps store now models own
PreparesOps store now models options (Err error) =
    ((now ≡ store) × TellsBulkInput models options error) ⊎ (IsBulkAccepted models options × ((kind_of error ≡ Memory) × DrawsForModels store now models))
