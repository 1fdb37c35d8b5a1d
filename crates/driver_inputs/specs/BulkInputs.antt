-- What is wrong with the input of a bulk write, found test by test over all models, before anything is drawn or sent.
use Rattle.std.specs.Prelude.{◌≡◌, ℕ, Bool, false, ◌||◌, List, [], ◌∷◌, ◌++◌, length, codes, Option, None, Some, ◌⊎◌}
use Rattle.std.specs.List.{flat_map, list_any}
use Rattle.bson_lite.specs.declared.bson.Bson.{Bson}
use Rattle.bson_lite.specs.declared.bson.Bson as bson
use Rattle.bson_lite.specs.declared.bson.ObjectId.{ObjectId}
use Rattle.bson_lite.specs.declared.fault.EncodeFault.{EncodeFault}
use Rattle.bson_lite.specs.Fields.{with_id}
use Rattle.bson_lite.specs.Namespace.{dotted}
use Rattle.driver_error.specs.declared.error.Error.{Error}
use Rattle.driver_error.specs.declared.kind.ErrorKind.TheVariants as kind
use Rattle.driver_error.specs.Error.{ErrorKind, IsAlone}
use Rattle.driver_error.specs.LabelTexts.{no_labels}
use Rattle.driver_options.specs.declared.models.WriteModel.{WriteModel}
use Rattle.driver_options.specs.declared.models.WriteModel.TheVariants.{InsertOne, UpdateOne, UpdateMany, ReplaceOne, DeleteOne, DeleteMany}
use Rattle.driver_options.specs.declared.updates.UpdateOrReplace.TheVariants.{Replacement, UpdateModifications}
use Rattle.driver_options.specs.declared.write_options.BulkWriteOptions.{BulkWriteOptions}
use Rattle.driver_options.specs.Models.{namespace_of}
use Rattle.driver_ops.specs.OptionFields.{document_in}
use Rattle.bulk_fronts.specs.BulkOps.{namespace_document, op_document}
use Rattle.bulk_fronts.specs.BulkWrites.{bulk_command}
use Rattle.driver_inputs.specs.Inputs.{change_refusal, change_values, else_text, is_long, name_refusal, value_list, values_refusal}
use Rattle.driver_inputs.specs.ManyInputs.{AreTwelve}

-- the message about a list without a model
unfoldable pub no_models_text : List ℕ
no_models_text = codes "bulk_write must be provided at least one write operation"

-- why a model is refused by its database's name, or none where it is not
abbrev pub database_refusal : WriteModel → Option (List ℕ)
database_refusal model = name_refusal (namespace_of model)

-- why a model's update is refused by its first key, or none where it has none or it is not refused
abbrev pub update_refusal : WriteModel → Option (List ℕ)
update_refusal (UpdateOne model) = change_refusal (UpdateModifications model.update)
update_refusal (UpdateMany model) = change_refusal (UpdateModifications model.update)
update_refusal other = None

-- the same of a model's replacement
abbrev pub replacement_refusal : WriteModel → Option (List ℕ)
replacement_refusal (ReplaceOne model) = change_refusal (Replacement model.replacement)
replacement_refusal other = None

-- the first of the messages about models by one test
abbrev pub first_text : (WriteModel → Option (List ℕ)) → List WriteModel → Option (List ℕ)
first_text test [] = None
first_text test (model ∷ models) = else_text (test model) (first_text test models)

-- why a bulk write is refused as an argument, or none where it is not: there are no models; else by a database's name, else by an
-- update, else by a replacement, and each test goes over all models before the next
abbrev pub bulk_argument_refusal : List WriteModel → Option (List ℕ)
bulk_argument_refusal [] = Some no_models_text
bulk_argument_refusal (model ∷ models) =
    else_text (first_text database_refusal (model ∷ models))
    (else_text (first_text update_refusal (model ∷ models)) (first_text replacement_refusal (model ∷ models)))

-- values that are set, each by itself
abbrev pub set_values : Option (List Bson) → List Bson
set_values None = []
set_values (Some values) = values

-- the documents, filters and option values of a model, each by itself
abbrev pub model_values : WriteModel → List Bson
model_values (InsertOne model) = bson.Document model.document ∷ []
model_values (UpdateOne model) =
    bson.Document model.filter ∷ change_values (UpdateModifications model.update) ++ (set_values model.array_filters
    ++ (value_list (document_in model.collation) ++ (value_list model.hint ++ value_list (document_in model.sort))))
model_values (UpdateMany model) =
    bson.Document model.filter ∷ change_values (UpdateModifications model.update) ++ (set_values model.array_filters
    ++ (value_list (document_in model.collation) ++ value_list model.hint))
model_values (ReplaceOne model) =
    bson.Document model.filter ∷ bson.Document model.replacement ∷ (value_list (document_in model.collation)
    ++ (value_list model.hint ++ value_list (document_in model.sort)))
model_values (DeleteOne model) = bson.Document model.filter ∷ (value_list (document_in model.collation) ++ value_list model.hint)
model_values (DeleteMany model) = bson.Document model.filter ∷ (value_list (document_in model.collation) ++ value_list model.hint)

-- those of all models, and of the options
abbrev pub bulk_values : List WriteModel → BulkWriteOptions → List Bson
bulk_values models options = flat_map model_values models ++ (value_list (document_in options.let_vars) ++ value_list options.comment)

-- a model's op is longer than the format can state, or the document that describes its namespace is
abbrev pub is_long_model : WriteModel → Bool
is_long_model model = is_long (op_document 0 model) || is_long (namespace_document (dotted (namespace_of model)))

-- one of these models is so, or the command is too long without its ops and the executor's fields, whichever results it asks for
abbrev pub bulk_is_long : List WriteModel → BulkWriteOptions → Bool
bulk_is_long models options = list_any is_long_model models || is_long (bulk_command options false)

-- a model as it is sent: where it inserts, its document has its own id, or else this one put first
abbrev pub with_model_id : ObjectId → WriteModel → WriteModel
with_model_id id (InsertOne model) = InsertOne (record model { document = with_id id model.document })
with_model_id id other = other

-- models as they are sent, each with the id at its place
abbrev pub with_model_ids : List ObjectId → List WriteModel → List WriteModel
with_model_ids [] models = []
with_model_ids (id ∷ ids) [] = []
with_model_ids (id ∷ ids) (model ∷ models) = with_model_id id model ∷ with_model_ids ids models

-- why the values of a bulk write are refused, or none where they are not: one nests too deep, else one holds a zero byte, else
-- something is too long. Inserted documents are judged with their ids, whichever those are
abbrev pub RefusesBulkValues : List WriteModel → BulkWriteOptions → Option EncodeFault → Type 0
RefusesBulkValues models options why =
    (ids : List ObjectId) → length ids ≡ length models → AreTwelve ids
    → values_refusal (bulk_values (with_model_ids ids models) options) (bulk_is_long (with_model_ids ids models) options) ≡ why

-- the input of a bulk write is refused with this kind of error: as an argument, else for its values
abbrev pub BulkInputRefused : List WriteModel → BulkWriteOptions → ErrorKind → Type 0
BulkInputRefused models options (kind.InvalidArgument message) = bulk_argument_refusal models ≡ Some message
BulkInputRefused models options (kind.BsonSerialization fault) = (bulk_argument_refusal models ≡ None) × RefusesBulkValues models options (Some fault)
BulkInputRefused models options _ = ⊥

-- it is not refused
pub record IsBulkAccepted (models : List WriteModel) (options : BulkWriteOptions) : Type 0 where
  pub arguments : bulk_argument_refusal models ≡ None
  pub values : RefusesBulkValues models options None

-- an input is refused, and the error tells why and nothing else
pub record IsBulkInputError (models : List WriteModel) (options : BulkWriteOptions) (error : Error) : Type 0 where
  pub why : ErrorKind
  pub refused : BulkInputRefused models options why
  pub is : IsAlone why no_labels error

-- an error that tells why an input is refused, or of want of memory
abbrev pub TellsBulkInput : List WriteModel → BulkWriteOptions → Error → Type 0
TellsBulkInput models options error = IsAlone kind.Memory no_labels error ⊎ IsBulkInputError models options error

-- an input is accepted, or there is an error
abbrev pub JudgesBulkInput : List WriteModel → BulkWriteOptions → Option Error → Type 0
JudgesBulkInput models options None = IsBulkAccepted models options
JudgesBulkInput models options (Some error) = TellsBulkInput models options error
