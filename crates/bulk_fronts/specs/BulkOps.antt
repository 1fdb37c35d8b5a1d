-- The ops of a bulk write, field by field: what each model comes to in a command, and which write it is.
use Rattle.std.specs.Prelude.{◌≡◌, ℕ, pos, Bool, true, false, List, [], ◌∷◌, ◌++◌, drop, take, Option, None, Some, unwrap_or, ◌⊎◌, Result, Ok, Err}
use Rattle.std.specs.List.{list_any}
use Rattle.bson_lite.specs.declared.bson.Bson.{Bson}
use Rattle.bson_lite.specs.declared.bson.Bson as bson
use Rattle.bson_lite.specs.declared.document.Pair.{Pair}
use Rattle.bson_lite.specs.declared.fields.TheConstants.{ID_KEY}
use Rattle.bson_lite.specs.Fields.{value_of}
use Rattle.bson_lite.specs.Namespace.{dotted}
use Rattle.bson_lite.specs.Spelling.{Spells, four}
use Rattle.driver_error.specs.declared.error.Error.{Error}
use Rattle.driver_error.specs.declared.kind.ErrorKind.TheVariants.{Memory}
use Rattle.driver_error.specs.Error.{IsAlone}
use Rattle.driver_error.specs.LabelTexts.{no_labels}
use Rattle.driver_options.specs.declared.models.OperationType.{OperationType}
use Rattle.driver_options.specs.declared.models.OperationType.TheVariants as operation
use Rattle.driver_options.specs.declared.models.ReplaceOneModel.{ReplaceOneModel}
use Rattle.driver_options.specs.declared.models.UpdateManyModel.{UpdateManyModel}
use Rattle.driver_options.specs.declared.models.UpdateOneModel.{UpdateOneModel}
use Rattle.driver_options.specs.declared.models.WriteModel.{WriteModel}
use Rattle.driver_options.specs.declared.models.WriteModel.TheVariants.{InsertOne, UpdateOne, UpdateMany, ReplaceOne, DeleteOne, DeleteMany}
use Rattle.driver_options.specs.declared.updates.UpdateModifications.{UpdateModifications}
use Rattle.driver_options.specs.declared.updates.UpdateModifications.TheVariants as modifications
use Rattle.driver_options.specs.Models.{is_multi, namespace_of, operation_of}
use Rattle.wire_keys.specs.declared.keys.TheConstants.{DELETE, DOCUMENT, INSERT, NAMESPACE, UPDATE}
use Rattle.driver_link.specs.declared.machine.Place.{Place}
use Rattle.driver_link.specs.declared.machine.PlacedWrite.{PlacedWrite}
use Rattle.driver_link.specs.declared.machine.WriteKind.TheVariants as kind
use Rattle.driver_link.specs.declared.machine.Written.{Written}
use Rattle.driver_link.specs.Numbers.{field}
use Rattle.driver_link.specs.Writes.{is_dot, write_on}
use Rattle.driver_ops.specs.declared.keys.TheConstants.{ARRAY_FILTERS, COLLATION, FILTER, HINT, MULTI, SORT, UPDATE_MODIFICATIONS, UPSERT}
use Rattle.driver_ops.specs.Encoding.{IsUnspelled}
use Rattle.driver_ops.specs.OptionFields.{document_in, documents_value, flag_of, option_field}
use Rattle.bulk_fronts.specs.declared.own_op.OpWork.{OpWork}
use Rattle.bulk_fronts.specs.declared.own_op.OpWork.TheVariants as work
use Rattle.bulk_fronts.specs.declared.own_op.OwnOp.{OwnOp}

-- what an update does, as a value: operators, or the stages of a pipeline
abbrev pub modifications_value : UpdateModifications → Bson
modifications_value (modifications.Document document) = bson.Document document
modifications_value (modifications.Pipeline stages) = documents_value stages

-- values as those of an array, where they are set
abbrev pub values_of : Option (List Bson) → Option Bson
values_of None = None
values_of (Some values) = Some (bson.Array values)

-- the fields of an update of one document behind its namespace
unfoldable pub update_one_fields : UpdateOneModel → List (Pair Bson)
update_one_fields model =
    (((((field MULTI.now (bson.Boolean false) ∷ field FILTER.now (bson.Document model.filter) ∷ field UPDATE_MODIFICATIONS.now (modifications_value model.update) ∷ [])
    ++ option_field ARRAY_FILTERS.now (values_of model.array_filters))
    ++ option_field COLLATION.now (document_in model.collation))
    ++ option_field HINT.now model.hint)
    ++ option_field UPSERT.now (flag_of model.upsert))
    ++ option_field SORT.now (document_in model.sort)

-- those of an update of all documents found
unfoldable pub update_many_fields : UpdateManyModel → List (Pair Bson)
update_many_fields model =
    ((((field MULTI.now (bson.Boolean true) ∷ field FILTER.now (bson.Document model.filter) ∷ field UPDATE_MODIFICATIONS.now (modifications_value model.update) ∷ [])
    ++ option_field ARRAY_FILTERS.now (values_of model.array_filters))
    ++ option_field COLLATION.now (document_in model.collation))
    ++ option_field HINT.now model.hint)
    ++ option_field UPSERT.now (flag_of model.upsert)

-- those of a replacement
unfoldable pub replace_one_fields : ReplaceOneModel → List (Pair Bson)
replace_one_fields model =
    ((((field MULTI.now (bson.Boolean false) ∷ field FILTER.now (bson.Document model.filter) ∷ field UPDATE_MODIFICATIONS.now (bson.Document model.replacement) ∷ [])
    ++ option_field COLLATION.now (document_in model.collation))
    ++ option_field HINT.now model.hint)
    ++ option_field UPSERT.now (flag_of model.upsert))
    ++ option_field SORT.now (document_in model.sort)

-- those of a delete, of one document or of all that are found
unfoldable pub delete_fields : Bool → List (Pair Bson) → Option (List (Pair Bson)) → Option Bson → List (Pair Bson)
delete_fields multi filter collation hint =
    ((field MULTI.now (bson.Boolean multi) ∷ field FILTER.now (bson.Document filter) ∷ [])
    ++ option_field COLLATION.now (document_in collation))
    ++ option_field HINT.now hint

-- the fields of a model's op behind its namespace
abbrev pub op_fields : WriteModel → List (Pair Bson)
op_fields (InsertOne model) = field DOCUMENT.now (bson.Document model.document) ∷ []
op_fields (UpdateOne model) = update_one_fields model
op_fields (UpdateMany model) = update_many_fields model
op_fields (ReplaceOne model) = replace_one_fields model
op_fields (DeleteOne model) = delete_fields false model.filter model.collation model.hint
op_fields (DeleteMany model) = delete_fields true model.filter model.collation model.hint

-- the key under which an op has the number of its namespace
abbrev pub op_key : OperationType → List ℕ
op_key operation.Insert = INSERT.now
op_key operation.Update = UPDATE.now
op_key operation.Delete = DELETE.now

-- a model's op, on the namespace of this number
abbrev pub op_document : ℕ → WriteModel → List (Pair Bson)
op_document number model = field (op_key (operation_of model)) (bson.Int32 (pos number)) ∷ op_fields model

-- the document that describes a namespace by its text
abbrev pub namespace_document : List ℕ → List (Pair Bson)
namespace_document text = field NAMESPACE.now (bson.String text) ∷ []

-- the write of a model: the document that it inserts, else its op without the namespace
abbrev pub model_written : WriteModel → Written
model_written (InsertOne model) = write_on kind.Insert model.namespace model.document
model_written (UpdateOne model) = write_on kind.Update model.namespace (update_one_fields model)
model_written (UpdateMany model) = write_on kind.Update model.namespace (update_many_fields model)
model_written (ReplaceOne model) = write_on kind.Update model.namespace (replace_one_fields model)
model_written (DeleteOne model) = write_on kind.Delete model.namespace (delete_fields false model.filter model.collation model.hint)
model_written (DeleteMany model) = write_on kind.Delete model.namespace (delete_fields true model.filter model.collation model.hint)

-- the writes of models, each under the place beside it
abbrev pub model_writes : List WriteModel → List Place → List PlacedWrite
model_writes [] places = []
model_writes (model ∷ models) [] = []
model_writes (model ∷ models) (place ∷ places) = record { place = place; written = model_written model } ∷ model_writes models places

-- the name of the database has no dot, so the text of the namespace is cut where they meet
abbrev pub IsUndotted : WriteModel → Type 0
IsUndotted model = list_any is_dot (namespace_of model).db ≡ false

-- the id of an inserted document, which each that is sent has
abbrev pub id_told : List (Pair Bson) → Bson
id_told document = unwrap_or (value_of ID_KEY.now document) bson.Null

-- what the op of a model does
abbrev pub work_of : WriteModel → OpWork
work_of (InsertOne model) = work.Insert (id_told model.document)
work_of (UpdateOne model) = work.Update
work_of (UpdateMany model) = work.Update
work_of (ReplaceOne model) = work.Update
work_of (DeleteOne model) = work.Delete
work_of (DeleteMany model) = work.Delete

-- an op as it is sent is that of a model: the text of its namespace, its spelling on the namespace of number 0, whether it is
-- of all documents found, and what it does
pub record IsOpOf (model : WriteModel) (own : OwnOp) : Type 0 where
  pub namespace : own.namespace ≡ dotted (namespace_of model)
  pub spelled : Spells (op_document 0 model) own.bytes
  pub multi : own.multi ≡ is_multi model
  pub work : own.work ≡ work_of model

-- each op is that of the model at its place
abbrev pub AreOps : List WriteModel → List OwnOp → Type 0
AreOps [] [] = Unit {0}
AreOps [] (own ∷ rest) = ⊥
AreOps (model ∷ models) [] = ⊥
AreOps (model ∷ models) (own ∷ rest) = IsOpOf model own × AreOps models rest

-- a model's op as it is sent, or the error that tells why it has no spelling, or want of memory
abbrev pub SpellsOp : WriteModel → Result OwnOp Error → Type 0
SpellsOp model (Ok own) = IsOpOf model own
SpellsOp model (Err error) = IsAlone Memory no_labels error ⊎ IsUnspelled (op_document 0 model) error

-- the bytes of an op with the number of its namespace in their place: the document's length, a type and a key of six letters
-- stand before it
abbrev pub numbered : ℕ → List ℕ → List ℕ
numbered number bytes = take 12 bytes ++ (four number ++ drop 16 bytes)

-- an op of these is of all documents found
abbrev pub has_multi : List OwnOp → Bool
has_multi ops = list_any (λ (own : OwnOp). own.multi) ops
