-- The caller's documents with their ids, and what was drawn for them, also where that ended with an error.
use Rattle.std.specs.Prelude.{◌≡◌, ℕ, List, length, take, slice_get, Some, ◌⊎◌}
use Rattle.bson_lite.specs.declared.bson.Bson.{Bson}
use Rattle.bson_lite.specs.declared.bson.ObjectId.{ObjectId}
use Rattle.bson_lite.specs.declared.document.Pair.{Pair}
use Rattle.bson_lite.specs.Spelling.{Spells}
use Rattle.driver_error.specs.declared.error.Error.{Error}
use Rattle.driver_error.specs.declared.kind.ErrorKind.TheVariants.{Memory}
use Rattle.driver_error.specs.Error.{IsAlone}
use Rattle.driver_error.specs.LabelTexts.{no_labels}
use Rattle.driver_session.specs.StoreTells.{DrawsObjectId, StoreTells}
use Rattle.write_ops.specs.declared.own_document.OwnDocument.{OwnDocument}
use Rattle.driver_actions.specs.Causes.{IsOwnError}
use Rattle.driver_actions.specs.ManyIds.{DrawsOwnIds}
use Rattle.driver_actions.specs.OwnIds.{HasOwnId}
use Rattle.driver_inputs.specs.ManyInputs.{AreTwelve}

-- a caller's document as it is sent, with its id, which was drawn where it had none
pub record IsSent (store store_now : StoreTells) (given : List (Pair Bson)) (own : OwnDocument) : Type 0 where
  pub sent : List (Pair Bson)
  pub document : HasOwnId store store_now given sent own.id
  pub spelled : Spells sent own.bytes

-- an object id of twelve bytes was drawn, and nothing else changed
pub record DrawsTwelve (store now : StoreTells) : Type 0 where
  pub id : ObjectId
  pub twelve : length id.bytes ≡ 12
  pub draws : DrawsObjectId store now id.bytes

-- one was drawn, or nothing changed
abbrev pub MayDrawTwelve : StoreTells → StoreTells → Type 0
MayDrawTwelve store now = (now ≡ store) ⊎ DrawsTwelve store now

-- ids were drawn for so many documents at the front, in order
pub record DrawsFront (store now : StoreTells) (given : List (List (Pair Bson))) : Type 0 where
  pub count : ℕ
  pub ids : List ObjectId
  pub twelve : AreTwelve ids
  pub draws : DrawsOwnIds store now (take count given) ids

-- one of the documents has no spelling with an id of twelve bytes, and the error tells why and nothing else
pub record IsErrorOfOne (documents : List (List (Pair Bson))) (error : Error) : Type 0 where
  pub at : ℕ
  pub document : List (Pair Bson)
  pub stands : slice_get documents at ≡ Some document
  pub own : IsOwnError document error

-- the same, or want of memory
abbrev pub TellsOneRefusal : List (List (Pair Bson)) → Error → Type 0
TellsOneRefusal documents error = IsAlone Memory no_labels error ⊎ IsErrorOfOne documents error
