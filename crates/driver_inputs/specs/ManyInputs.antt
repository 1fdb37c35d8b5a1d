-- What is wrong with the input of an insert of many documents, found before anything is drawn or sent.
use Rattle.std.specs.Prelude.{◌≡◌, ℕ, Bool, ◌||◌, List, [], ◌∷◌, ◌++◌, length, codes, Option, None, Some, ◌⊎◌}
use Rattle.std.specs.List.{list_any}
use Rattle.bson_lite.specs.declared.bson.Bson.{Bson}
use Rattle.bson_lite.specs.declared.bson.ObjectId.{ObjectId}
use Rattle.bson_lite.specs.declared.document.Pair.{Pair}
use Rattle.bson_lite.specs.declared.fault.EncodeFault.{EncodeFault}
use Rattle.bson_lite.specs.declared.namespace.Namespace.{Namespace}
use Rattle.bson_lite.specs.Fields.{with_id}
use Rattle.driver_error.specs.declared.error.Error.{Error}
use Rattle.driver_error.specs.declared.kind.ErrorKind.TheVariants as kind
use Rattle.driver_error.specs.Error.{ErrorKind, IsAlone}
use Rattle.driver_error.specs.LabelTexts.{no_labels}
use Rattle.driver_options.specs.declared.write_options.InsertManyOptions.{InsertManyOptions}
use Rattle.driver_ops.specs.Inserts.{insert_command}
use Rattle.driver_inputs.specs.Inputs.{document_values, is_long, name_refusal, value_list, values_refusal}

-- the message about a list without a document
unfoldable pub none_given_text : List ℕ
none_given_text = codes "No documents provided to insert_many"

-- why an insert of documents is refused as an argument, or none where it is not: there are none, else for its database's name
abbrev pub many_argument_refusal : Namespace → List (List (Pair Bson)) → Option (List ℕ)
many_argument_refusal namespace [] = Some none_given_text
many_argument_refusal namespace (document ∷ documents) = name_refusal namespace

-- documents as they are sent: each with its own id, or else with the one at its place put first
abbrev pub with_ids : List ObjectId → List (List (Pair Bson)) → List (List (Pair Bson))
with_ids [] documents = []
with_ids (id ∷ ids) [] = []
with_ids (id ∷ ids) (document ∷ documents) = with_id id document ∷ with_ids ids documents

-- each id has twelve bytes
abbrev pub AreTwelve : List ObjectId → Type 0
AreTwelve [] = Unit {0}
AreTwelve (id ∷ ids) = (length id.bytes ≡ 12) × AreTwelve ids

-- the documents and option values of an insert of documents, each by itself
abbrev pub many_values : List (List (Pair Bson)) → InsertManyOptions → List Bson
many_values documents options = document_values documents ++ value_list options.comment

-- a document is longer than the format can state, or the command is without its documents and the executor's fields
abbrev pub many_is_long : Namespace → List (List (Pair Bson)) → InsertManyOptions → Bool
many_is_long namespace documents options = list_any is_long documents || is_long (insert_command namespace options)

-- why the values of an insert of documents are refused, or none where they are not: one nests too deep, else one holds a zero
-- byte, else something is too long. The documents are judged with their ids, whichever those are
abbrev pub RefusesManyValues : Namespace → List (List (Pair Bson)) → InsertManyOptions → Option EncodeFault → Type 0
RefusesManyValues namespace documents options why =
    (ids : List ObjectId) → length ids ≡ length documents → AreTwelve ids
    → values_refusal (many_values (with_ids ids documents) options) (many_is_long namespace (with_ids ids documents) options) ≡ why

-- the input of an insert of documents is refused with this kind of error: as an argument, else for its values
abbrev pub ManyInputRefused : Namespace → List (List (Pair Bson)) → InsertManyOptions → ErrorKind → Type 0
ManyInputRefused namespace documents options (kind.InvalidArgument message) = many_argument_refusal namespace documents ≡ Some message
ManyInputRefused namespace documents options (kind.BsonSerialization fault) =
    (many_argument_refusal namespace documents ≡ None) × RefusesManyValues namespace documents options (Some fault)
ManyInputRefused namespace documents options _ = ⊥

-- it is not refused
pub record IsManyAccepted (namespace : Namespace) (documents : List (List (Pair Bson))) (options : InsertManyOptions) : Type 0 where
  pub arguments : many_argument_refusal namespace documents ≡ None
  pub values : RefusesManyValues namespace documents options None

-- an input is refused, and the error tells why and nothing else
pub record IsManyInputError (namespace : Namespace) (documents : List (List (Pair Bson))) (options : InsertManyOptions) (error : Error) : Type 0 where
  pub why : ErrorKind
  pub refused : ManyInputRefused namespace documents options why
  pub is : IsAlone why no_labels error

-- an error that tells why an input is refused, or of want of memory
abbrev pub TellsManyInput : Namespace → List (List (Pair Bson)) → InsertManyOptions → Error → Type 0
TellsManyInput namespace documents options error = IsAlone kind.Memory no_labels error ⊎ IsManyInputError namespace documents options error

-- an input is accepted, or there is an error
abbrev pub JudgesManyInput : Namespace → List (List (Pair Bson)) → InsertManyOptions → Option Error → Type 0
JudgesManyInput namespace documents options None = IsManyAccepted namespace documents options
JudgesManyInput namespace documents options (Some error) = TellsManyInput namespace documents options error
