-- The namespace of a model that gets an id.
use Rattle.std.proofs.Common.{◌≡◌, refl}
use Rattle.bson_lite.specs.declared.bson.ObjectId.{ObjectId}
use Rattle.driver_options.specs.declared.models.WriteModel.{WriteModel}
use Rattle.driver_options.specs.declared.models.WriteModel.TheVariants.{InsertOne, UpdateOne, UpdateMany, ReplaceOne, DeleteOne, DeleteMany}
use Rattle.driver_options.specs.Models.{namespace_of}
use Rattle.driver_inputs.specs.BulkInputs.{with_model_id}

-- an id changes no namespace
pub same_namespace : (id : ObjectId) (model : WriteModel) → namespace_of (with_model_id id model) ≡ namespace_of model
same_namespace id (InsertOne model) = refl
same_namespace id (UpdateOne model) = refl
same_namespace id (UpdateMany model) = refl
same_namespace id (ReplaceOne model) = refl
same_namespace id (DeleteOne model) = refl
same_namespace id (DeleteMany model) = refl
