-- The ops of the caller's models, and what was drawn for them, also where that ended with an error.
use Rattle.std.specs.Prelude.{◌≡◌, ℕ, List, length, slice_get, Some, ◌⊎◌, Result, Ok, Err}
use Rattle.bson_lite.specs.declared.bson.ObjectId.{ObjectId}
use Rattle.driver_error.specs.declared.error.Error.{Error}
use Rattle.driver_error.specs.declared.kind.ErrorKind.TheVariants.{Memory}
use Rattle.driver_error.specs.Error.{IsAlone}
use Rattle.driver_error.specs.LabelTexts.{no_labels}
use Rattle.driver_options.specs.declared.models.WriteModel.{WriteModel}
use Rattle.driver_session.specs.StoreTells.{StoreTells}
use Rattle.driver_ops.specs.Encoding.{IsUnspelled}
use Rattle.bulk_fronts.specs.declared.own_op.OwnOp.{OwnOp}
use Rattle.bulk_fronts.specs.BulkOps.{IsOpOf, op_document}
use Rattle.bulk_actions.specs.BulkIds.{DrawsModelId}
use Rattle.driver_inputs.specs.BulkInputs.{with_model_id}

-- a model's op as it is sent, whose document has an id, which was drawn where it had none
pub record IsSentOp (store now : StoreTells) (given : WriteModel) (own : OwnOp) : Type 0 where
  pub id : ObjectId
  pub twelve : length id.bytes ≡ 12
  pub draws : DrawsModelId given store now id
  pub is_op : IsOpOf (with_model_id id given) own

-- with an id of twelve bytes a model's op has no spelling, and the error tells why and nothing else
pub record IsModelError (given : WriteModel) (error : Error) : Type 0 where
  pub id : ObjectId
  pub twelve : length id.bytes ≡ 12
  pub unspelled : IsUnspelled (op_document 0 (with_model_id id given)) error

-- a model's op is sent so, or the error tells why it has no spelling, or of want of memory
abbrev pub SendsOp : StoreTells → StoreTells → WriteModel → Result OwnOp Error → Type 0
SendsOp store now given (Ok own) = IsSentOp store now given own
SendsOp store now given (Err error) = IsAlone Memory no_labels error ⊎ IsModelError given error

-- an id was drawn for a model, where it inserts a document without one
pub record DrawsForModel (store now : StoreTells) (given : WriteModel) : Type 0 where
  pub id : ObjectId
  pub twelve : length id.bytes ≡ 12
  pub draws : DrawsModelId given store now id

-- for a model an id was drawn where it has none, or nothing was
abbrev pub MayDrawForModel : StoreTells → StoreTells → WriteModel → Type 0
MayDrawForModel store now given = (now ≡ store) ⊎ DrawsForModel store now given

-- one of the models is refused so
pub record IsErrorOfModel (models : List WriteModel) (error : Error) : Type 0 where
  pub at : ℕ
  pub model : WriteModel
  pub stands : slice_get models at ≡ Some model
  pub own : IsModelError model error

-- the same, or want of memory
abbrev pub TellsOneModel : List WriteModel → Error → Type 0
TellsOneModel models error = IsAlone Memory no_labels error ⊎ IsErrorOfModel models error
