-- Why models are refused, test by test and one by one.
use Rattle.std.specs.Prelude.{ℕ, pos, List, [], ◌∷◌, ◌++◌, Option, None, is_some, if◌then◌else◌}
use Rattle.bson_lite.specs.declared.bson.Bson.{Bson}
use Rattle.bson_lite.specs.declared.bson.Bson as bson
use Rattle.bson_lite.specs.declared.document.Pair.{Pair}
use Rattle.bson_lite.specs.declared.fault.EncodeFault.{EncodeFault}
use Rattle.bson_lite.specs.Fields.{id_key, value_of, with_id}
use Rattle.bson_lite.specs.Namespace.{dotted}
use Rattle.driver_options.specs.declared.models.WriteModel.{WriteModel}
use Rattle.driver_options.specs.declared.models.WriteModel.TheVariants.{InsertOne}
use Rattle.driver_options.specs.Models.{namespace_of}
use Rattle.wire_keys.specs.declared.keys.TheConstants.{DOCUMENT, INSERT}
use Rattle.driver_link.specs.Numbers.{field}
use Rattle.driver_ops.specs.OptionFields.{document_in}
use Rattle.bulk_fronts.specs.BulkOps.{namespace_document, op_document}
use Rattle.driver_inputs.specs.declared.bulk_refusal.ModelTest.{ModelTest}
use Rattle.driver_inputs.specs.declared.bulk_refusal.ModelTest.TheVariants.{Databases, Updates, Replacements}
use Rattle.driver_inputs.specs.BulkInputs.{database_refusal, model_values, replacement_refusal, update_refusal}
use Rattle.driver_inputs.specs.Inputs.{value_list}
use Rattle.driver_inputs.specs.Faults.{first_of, length_fault, values_fault}
use Rattle.driver_inputs.specs.ManyFaults.{own_fault, zero_id}

-- why a model is refused by a test, or none where it is not
abbrev pub test_refusal : ModelTest → WriteModel → Option (List ℕ)
test_refusal Databases = database_refusal
test_refusal Updates = update_refusal
test_refusal Replacements = replacement_refusal

-- the values of a delete, each by itself
abbrev pub delete_values : List (Pair Bson) → Option (List (Pair Bson)) → Option Bson → List Bson
delete_values filter collation hint = bson.Document filter ∷ (value_list (document_in collation) ++ value_list hint)

-- the op that inserts a document, on the namespace of number 0
abbrev pub insert_op : List (Pair Bson) → List (Pair Bson)
insert_op document = field INSERT.now (bson.Int32 (pos 0)) ∷ field DOCUMENT.now (bson.Document document) ∷ []

-- the fault of a document's op once the document has an id, which is as long whichever id it gets
unfoldable pub insert_length_fault : List (Pair Bson) → Option EncodeFault
insert_length_fault document = length_fault (insert_op (with_id zero_id document))

-- how long an inserted document may be, which has an id of its own or gets one
abbrev pub longest_inserted : List (Pair Bson) → ℕ
longest_inserted document = if is_some (value_of id_key document) then 2147483620 else 2147483603

-- the fault of a namespace that is too long to be described
abbrev pub text_fault : List ℕ → Option EncodeFault
text_fault text = length_fault (namespace_document text)

-- the fault of a model's values and of its op, once its document has an id where it inserts one
abbrev pub model_fault : WriteModel → Option EncodeFault
model_fault (InsertOne model) = first_of (own_fault model.document) (insert_length_fault model.document)
model_fault other = first_of (values_fault (model_values other)) (length_fault (op_document 0 other))

-- the first fault of models and of their namespaces
abbrev pub model_faults : List WriteModel → Option EncodeFault
model_faults [] = None
model_faults (model ∷ models) = first_of (model_fault model) (first_of (text_fault (dotted (namespace_of model))) (model_faults models))
