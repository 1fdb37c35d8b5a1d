-- The models of a bulk write: where each writes, what it does, and whether to all documents that are found.
use Rattle.std.specs.Prelude.{Bool, true, false, Option, None, Some, unwrap_or}
use Rattle.bson_lite.specs.declared.namespace.Namespace.{Namespace}
use Rattle.driver_options.specs.declared.models.OperationType.{OperationType}
use Rattle.driver_options.specs.declared.models.OperationType.TheVariants as operation
use Rattle.driver_options.specs.declared.models.WriteModel.{WriteModel}
use Rattle.driver_options.specs.declared.models.WriteModel.TheVariants.{InsertOne, UpdateOne, UpdateMany, ReplaceOne, DeleteOne, DeleteMany}

-- the collection that a model writes to
abbrev pub namespace_of : WriteModel → Namespace
namespace_of (InsertOne model) = model.namespace
namespace_of (UpdateOne model) = model.namespace
namespace_of (UpdateMany model) = model.namespace
namespace_of (ReplaceOne model) = model.namespace
namespace_of (DeleteOne model) = model.namespace
namespace_of (DeleteMany model) = model.namespace

-- what a model does: a replacement is an update
abbrev pub operation_of : WriteModel → OperationType
operation_of (InsertOne model) = operation.Insert
operation_of (UpdateOne model) = operation.Update
operation_of (UpdateMany model) = operation.Update
operation_of (ReplaceOne model) = operation.Update
operation_of (DeleteOne model) = operation.Delete
operation_of (DeleteMany model) = operation.Delete

-- whether a model is of all documents found, which an insert does not say
abbrev pub multi_of : WriteModel → Option Bool
multi_of (InsertOne model) = None
multi_of (UpdateOne model) = Some false
multi_of (UpdateMany model) = Some true
multi_of (ReplaceOne model) = Some false
multi_of (DeleteOne model) = Some false
multi_of (DeleteMany model) = Some true

-- a model is of all documents found
abbrev pub is_multi : WriteModel → Bool
is_multi model = unwrap_or (multi_of model) false
