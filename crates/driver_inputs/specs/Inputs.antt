-- What is wrong with the input of a write, found before anything is drawn or sent.
use Rattle.std.specs.Prelude.{◌≡◌, ℕ, Bool, ◌==◌, ◌||◌, List, [], ◌∷◌, ◌++◌, length, map, codes, nat_lt, Option, None, Some, ◌⊎◌, if◌then◌else◌}
use Rattle.std.specs.List.{list_any}
use Rattle.bson_lite.specs.declared.bson.Bson.{Bson}
use Rattle.bson_lite.specs.declared.bson.Bson as bson
use Rattle.bson_lite.specs.declared.bson.ObjectId.{ObjectId}
use Rattle.bson_lite.specs.declared.document.Pair.{Pair}
use Rattle.bson_lite.specs.declared.fault.EncodeFault.{EncodeFault}
use Rattle.bson_lite.specs.declared.fault.EncodeFault.TheVariants.{TooDeep, TooLong, ZeroByte}
use Rattle.bson_lite.specs.declared.namespace.Namespace.{Namespace}
use Rattle.bson_lite.specs.Fields.{begins_with_operator, with_id}
use Rattle.bson_lite.specs.Spelling.{depth, spelling, zero_within}
use Rattle.driver_error.specs.declared.error.Error.{Error}
use Rattle.driver_error.specs.declared.kind.ErrorKind.TheVariants as kind
use Rattle.driver_error.specs.Error.{ErrorKind, IsAlone}
use Rattle.driver_error.specs.LabelTexts.{no_labels}
use Rattle.driver_options.specs.declared.find_options.FindAndModifyOptions.{FindAndModifyOptions}
use Rattle.driver_options.specs.declared.updates.Modification.{Modification}
use Rattle.driver_options.specs.declared.updates.Modification.TheVariants.{Delete, Update}
use Rattle.driver_options.specs.declared.updates.UpdateModifications.TheVariants.{Document, Pipeline}
use Rattle.driver_options.specs.declared.updates.UpdateOrReplace.{UpdateOrReplace}
use Rattle.driver_options.specs.declared.updates.UpdateOrReplace.TheVariants.{Replacement, UpdateModifications}
use Rattle.driver_options.specs.declared.write_options.DeleteOptions.{DeleteOptions}
use Rattle.driver_options.specs.declared.write_options.UpdateOptions.{UpdateOptions}
use Rattle.driver_ops.specs.OptionFields.{document_in, hint_of}
use Rattle.driver_inputs.specs.Forms.{WriteForm, command_body, deletes, finds, inserts, namespace_in, updates}

-- a name has a dot
unfoldable pub has_dot : List ℕ → Bool
has_dot name = list_any (λ byte. byte == 46) name

-- the message about the name of a database that has one
unfoldable pub dotted_text : List ℕ → List ℕ
dotted_text name = codes "invalid database name " ++ name ++ codes ": name cannot contain period"

-- the message about an update that does not begin with an operator
unfoldable pub update_text : List ℕ
update_text = codes "update document must begin with an update operator"

-- the message about a replacement that does
unfoldable pub replacement_text : List ℕ
replacement_text = codes "replacement document must not begin with an update operator"

-- why a change is refused by its first key, or none where it is not; a pipeline is not judged so
abbrev pub change_refusal : UpdateOrReplace → Option (List ℕ)
change_refusal (UpdateModifications (Document document)) = if begins_with_operator document then None else Some update_text
change_refusal (UpdateModifications (Pipeline stages)) = None
change_refusal (Replacement document) = if begins_with_operator document then Some replacement_text else None

-- the same of what a findAndModify does; where it takes the document out there is nothing to judge
abbrev pub modification_refusal : Modification → Option (List ℕ)
modification_refusal Delete = None
modification_refusal (Update change) = change_refusal change

-- the same of a write
abbrev pub operator_refusal : WriteForm → Option (List ℕ)
operator_refusal (inserts namespace document options) = None
operator_refusal (updates namespace filter change multi options) = change_refusal change
operator_refusal (deletes namespace filter multi options) = None
operator_refusal (finds namespace filter modification options) = modification_refusal modification

-- why a collection is refused by its database's name, or none where it is not
abbrev pub name_refusal : Namespace → Option (List ℕ)
name_refusal namespace = if has_dot namespace.db then Some (dotted_text namespace.db) else None

-- a message, else another
abbrev pub else_text : Option (List ℕ) → Option (List ℕ) → Option (List ℕ)
else_text (Some text) other = Some text
else_text None other = other

-- why a write is refused as an argument, or none where it is not: for its database's name, else for its first key
abbrev pub argument_refusal : WriteForm → Option (List ℕ)
argument_refusal form = else_text (name_refusal (namespace_in form)) (operator_refusal form)

-- the value of an option that is set
abbrev pub value_list : Option Bson → List Bson
value_list None = []
value_list (Some value) = value ∷ []

-- documents as values, each by itself
abbrev pub document_values : List (List (Pair Bson)) → List Bson
document_values documents = map (λ document. bson.Document document) documents

-- the same of an option
abbrev pub option_values : Option (List (List (Pair Bson))) → List Bson
option_values None = []
option_values (Some documents) = document_values documents

-- the documents of a change, each by itself
abbrev pub change_values : UpdateOrReplace → List Bson
change_values (UpdateModifications (Document document)) = bson.Document document ∷ []
change_values (UpdateModifications (Pipeline stages)) = document_values stages
change_values (Replacement document) = bson.Document document ∷ []

-- and of what a findAndModify does
abbrev pub modification_values : Modification → List Bson
modification_values Delete = []
modification_values (Update change) = change_values change

-- the values of the options of an update
abbrev pub update_values : UpdateOptions → List Bson
update_values options =
    option_values options.array_filters ++ (value_list (hint_of options.hint) ++ (value_list (document_in options.collation)
    ++ (value_list (document_in options.let_vars) ++ (value_list options.comment ++ value_list (document_in options.sort)))))

-- of a delete
abbrev pub delete_values : DeleteOptions → List Bson
delete_values options =
    value_list (document_in options.collation) ++ (value_list (hint_of options.hint) ++ (value_list (document_in options.let_vars) ++ value_list options.comment))

-- and of a findAndModify
abbrev pub find_values : FindAndModifyOptions → List Bson
find_values options =
    value_list (document_in options.sort) ++ (option_values options.array_filters ++ (value_list (document_in options.projection)
    ++ (value_list (document_in options.collation) ++ (value_list (hint_of options.hint) ++ (value_list (document_in options.let_vars) ++ value_list options.comment)))))

-- the documents, filters and option values of a write, each by itself
abbrev pub values_in : WriteForm → List Bson
values_in (inserts namespace document options) = bson.Document document ∷ value_list options.comment
values_in (updates namespace filter change multi options) = bson.Document filter ∷ change_values change ++ update_values options
values_in (deletes namespace filter multi options) = bson.Document filter ∷ delete_values options
values_in (finds namespace filter modification options) = bson.Document filter ∷ modification_values modification ++ find_values options

-- a value nests deeper than a caller's may: the command that carries it adds some levels of its own
abbrev pub is_deep : Bson → Bool
is_deep value = nat_lt 96 (depth value)

-- a document is longer than the format can state
abbrev pub is_long : List (Pair Bson) → Bool
is_long document = nat_lt 2147483647 (length (spelling document))

-- why values are refused, tested in this order, by whether something is too long
abbrev pub values_refusal : List Bson → Bool → Option EncodeFault
values_refusal values long = if list_any is_deep values then Some TooDeep else (if list_any zero_within values then Some ZeroByte else (if long then Some TooLong else None))

-- why the values of a write are refused, or none where they are not: one nests too deep, else one holds a zero byte, else the
-- command is too long without the executor's fields; an insert's document is judged with its id, whichever that is, and has to
-- be short enough by itself
abbrev pub RefusesValues : WriteForm → Option EncodeFault → Type 0
RefusesValues (inserts namespace document options) why =
    (id : ObjectId) → length id.bytes ≡ 12
    → values_refusal (values_in (inserts namespace (with_id id document) options)) (is_long (with_id id document) || is_long (command_body (inserts namespace document options))) ≡ why
RefusesValues (updates namespace filter change multi options) why =
    values_refusal (values_in (updates namespace filter change multi options)) (is_long (command_body (updates namespace filter change multi options))) ≡ why
RefusesValues (deletes namespace filter multi options) why =
    values_refusal (values_in (deletes namespace filter multi options)) (is_long (command_body (deletes namespace filter multi options))) ≡ why
RefusesValues (finds namespace filter modification options) why =
    values_refusal (values_in (finds namespace filter modification options)) (is_long (command_body (finds namespace filter modification options))) ≡ why

-- the input of a write is refused with this kind of error: as an argument, else for its values
abbrev pub InputRefused : WriteForm → ErrorKind → Type 0
InputRefused form (kind.InvalidArgument message) = argument_refusal form ≡ Some message
InputRefused form (kind.BsonSerialization fault) = (argument_refusal form ≡ None) × RefusesValues form (Some fault)
InputRefused form _ = ⊥

-- it is not refused
pub record IsAccepted (form : WriteForm) : Type 0 where
  pub arguments : argument_refusal form ≡ None
  pub values : RefusesValues form None

-- an input is refused, and the error tells why and nothing else
pub record IsInputError (form : WriteForm) (error : Error) : Type 0 where
  pub why : ErrorKind
  pub refused : InputRefused form why
  pub is : IsAlone why no_labels error

-- an error that tells why an input is refused, or of want of memory
abbrev pub TellsInput : WriteForm → Error → Type 0
TellsInput form error = IsAlone kind.Memory no_labels error ⊎ IsInputError form error

-- an input is accepted, or there is an error
abbrev pub JudgesInput : WriteForm → Option Error → Type 0
JudgesInput form None = IsAccepted form
JudgesInput form (Some error) = TellsInput form error
