-- Why a call ended as it did, by what the link answered in it, over any link and any store.
use Rattle.std.specs.Prelude.{◌≡◌, List, [], ◌∷◌, length, Option, None, Some, ◌⊎◌, Result, Ok, Err}
use Rattle.bson_lite.specs.declared.bson.Bson.{Bson}
use Rattle.bson_lite.specs.declared.bson.ObjectId.{ObjectId}
use Rattle.bson_lite.specs.declared.document.Pair.{Pair}
use Rattle.bson_lite.specs.declared.namespace.Namespace.{Namespace}
use Rattle.bson_lite.specs.Fields.{id_key, value_of, with_id}
use Rattle.bson_lite.specs.Spelling.{Spells}
use Rattle.driver_error.specs.declared.error.Error.{Error}
use Rattle.driver_error.specs.declared.kind.ErrorKind.TheVariants as kind
use Rattle.driver_error.specs.Conversions.{Converts}
use Rattle.driver_error.specs.Error.{ErrorKind, IsAlone}
use Rattle.driver_error.specs.LabelTexts.{no_labels}
use Rattle.driver_options.specs.declared.write_options.InsertManyOptions.{InsertManyOptions}
use Rattle.driver_ops.specs.Encoding.{IsUnspelled}
use Rattle.driver_ops.specs.Operations.{OperationSpec}
use Rattle.driver_ops.specs.SendKinds.{first}
use Rattle.driver_ops.specs.Targets.{in_collection}
use Rattle.write_ops.specs.declared.own_document.OwnDocument.{OwnDocument}
use Rattle.write_ops.specs.InsertSpec.{insert_spec}
use Rattle.statement_ops.specs.StatementSpec.{delete_spec, find_spec, update_spec}
use Rattle.driver_attempt.specs.Causes.{ErrorOutline, end_of}
use Rattle.driver_attempt.specs.Moment.{Moment}
use Rattle.driver_exec.specs.OperationCauses.{Caused}
use Rattle.driver_actions.specs.OwnIds.{DrawsOwn}
use Rattle.driver_inputs.specs.Forms.{WriteForm, deletes, finds, inserts, updates}
use Rattle.driver_inputs.specs.Inputs.{InputRefused, TellsInput}

-- an end tells of an error of this kind without labels, or of want of memory
abbrev pub TellsKind : ErrorKind → Option ErrorOutline → Type 0
TellsKind why None = ⊥
TellsKind why (Some found) = ((found.kind ≡ why) × (found.labels ≡ no_labels)) ⊎ (found.kind ≡ kind.Memory)

-- a write whose input is refused is answered so, and nothing changed: no id was drawn, and nothing asked of the link
pub record RefusesFirst (before now : Moment) (form : WriteForm) (ended : Option ErrorOutline) : Type 0 where
  pub tells : (why : ErrorKind) → InputRefused form why → TellsKind why ended
  pub undone : (why : ErrorKind) → InputRefused form why → now ≡ before

-- a document has no spelling with an id of twelve bytes, and the error tells why and nothing else
pub record IsOwnError (document : List (Pair Bson)) (error : Error) : Type 0 where
  pub id : ObjectId
  pub twelve : length id.bytes ≡ 12
  pub unspelled : IsUnspelled (with_id id document) error

-- the same, or want of memory
abbrev pub TellsOwnRefusal : List (Pair Bson) → Error → Type 0
TellsOwnRefusal document error = IsAlone kind.Memory no_labels error ⊎ IsOwnError document error

-- a write ended before the link was asked: its input is refused, or there was no memory
pub record EndsEarly {A : Type 0} (before now : Moment) (form : WriteForm) (result : Result A Error) : Type 0 where
  pub unasked : now.link ≡ before.link
  pub error : Error
  pub is : result ≡ Err error
  pub why : TellsInput form error

-- an Ok of an operation is one of its call, and its error takes the form of a single write's
abbrev pub BecomesEnd : {A B : Type 0} → Result A Error → Result B Error → Type 0
BecomesEnd (Ok output) (Ok given) = Unit {0}
BecomesEnd (Err error) (Err now) = Converts error now
BecomesEnd executed result = ⊥

-- an operation of one statement ended with its cause, and so did its call
pub record EndsAsCaused {A B : Type 0} (spec : OperationSpec B) (before now : Moment) (result : Result A Error) : Type 0 where
  pub executed : Result B Error
  pub caused : Caused spec first (Some 1) before now (end_of executed)
  pub becomes : BecomesEnd executed result

-- so did the operation of an insert of the caller's document with its id, its own or the one that was drawn
pub record InsertCaused {A : Type 0} (before now : Moment) (namespace : Namespace) (document : List (Pair Bson)) (options : InsertManyOptions) (result : Result A Error) : Type 0 where
  pub id : ObjectId
  pub mid : Moment
  pub draws : DrawsOwn before mid document id
  pub own : OwnDocument
  pub spelled : Spells (with_id id document) own.bytes
  pub found : value_of id_key (with_id id document) ≡ Some own.id
  pub ends : EndsAsCaused (insert_spec (in_collection namespace) 0 (own ∷ []) options) mid now result

-- the operation of a write ended with its cause
abbrev pub OperationCaused : {A : Type 0} → Moment → Moment → WriteForm → Result A Error → Type 0
OperationCaused before now (inserts namespace document options) result = InsertCaused before now namespace document options result
OperationCaused before now (updates namespace filter change multi options) result =
    EndsAsCaused (update_spec (in_collection namespace) filter change multi options) before now result
OperationCaused before now (deletes namespace filter multi options) result = EndsAsCaused (delete_spec (in_collection namespace) filter multi options) before now result
OperationCaused before now (finds namespace filter modification options) result = EndsAsCaused (find_spec (in_collection namespace) filter modification options) before now result

-- a single write ended with its cause, and input that is refused was refused before anything was drawn or asked
pub record WriteCaused {A : Type 0} (before now : Moment) (form : WriteForm) (result : Result A Error) : Type 0 where
  pub caused : EndsEarly before now form result ⊎ OperationCaused before now form result
  pub refused : RefusesFirst before now form (end_of result)
