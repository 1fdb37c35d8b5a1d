-- The faults of models with their ids, whichever those are, and what is judged by them.
use Rattle.std.proofs.Common.{◌≡◌, ℕ, suc, ◌+◌, ◌<◌, Bool, true, false, ◌||◌, List, [], ◌∷◌, ◌++◌, drop, get_or, length, nat_lt, refl, sym, ap, ◌∙◌, arith}
use Rattle.std.specs.Prelude.{Option}
use Rattle.std.specs.List.{flat_map, list_any}
use Rattle.std.proofs.lemmas.Bool.Decides.{nat_tests}
use Rattle.std.proofs.lemmas.List.{drop_more}
use Rattle.bson_lite.specs.declared.bson.Bson as bson
use Rattle.bson_lite.specs.declared.bson.Bson.{Bson}
use Rattle.bson_lite.specs.declared.bson.ObjectId.{ObjectId}
use Rattle.bson_lite.specs.declared.document.Pair.{Pair}
use Rattle.bson_lite.specs.declared.fault.EncodeFault.{EncodeFault}
use Rattle.bson_lite.specs.Fields.{with_id}
use Rattle.bson_lite.specs.Namespace.{dotted}
use Rattle.bson_lite.specs.Spelling.{nesting, spelling, zero_in, zero_within}
use Rattle.bson_lite.proofs.Named.{by_tests}
use Rattle.driver_options.specs.declared.models.WriteModel.{WriteModel}
use Rattle.driver_options.specs.declared.models.WriteModel.TheVariants.{InsertOne, UpdateOne, UpdateMany, ReplaceOne, DeleteOne, DeleteMany}
use Rattle.driver_options.specs.declared.write_options.BulkWriteOptions.{BulkWriteOptions}
use Rattle.driver_options.specs.Models.{namespace_of}
use Rattle.driver_ops.specs.OptionFields.{document_in}
use Rattle.bulk_fronts.specs.BulkOps.{namespace_document, op_document}
use Rattle.bulk_fronts.specs.BulkWrites.{bulk_command}
use Rattle.bulk_fronts.proofs.BulkSizes.{insert_length}
use Rattle.driver_inputs.specs.BulkInputs.{RefusesBulkValues, is_long_model, model_values, with_model_id, with_model_ids}
use Rattle.driver_inputs.specs.Inputs.{is_deep, is_long, value_list, values_refusal}
use Rattle.driver_inputs.specs.ManyInputs.{AreTwelve}
use Rattle.driver_inputs.specs.Faults.{first_of, length_fault, value_fault, values_fault}
use Rattle.driver_inputs.specs.ManyFaults.{own_fault, zero_id}
use Rattle.driver_inputs.specs.inside.ModelFaults.{insert_length_fault, insert_op, model_fault, model_faults, text_fault}
use Rattle.driver_inputs.proofs.ModelNamespaces.{same_namespace}
use Rattle.driver_inputs.proofs.InputFaults.{depth_of, faults_joined, first_twice, tests_first, zero_of}
use Rattle.driver_inputs.proofs.ManyFaults.{own_refused}
use Rattle.driver_inputs.proofs.Refusals.{length_alike}

-- truth values
or_false : (a : Bool) → (a || false) ≡ a
or_false true = refl
or_false false = refl

or_joined : (a b c : Bool) → ((a || b) || c) ≡ (a || (b || c))
or_joined true b c = refl
or_joined false b c = refl

or_within : (a b : Bool) → (a ≡ true → b ≡ true) → (a || b) ≡ b
or_within true b within = sym (within refl)
or_within false b within = refl

-- a test of values behind others
any_joined : (test : Bson → Bool) (xs ys : List Bson) → list_any test (xs ++ ys) ≡ (list_any test xs || list_any test ys)
any_joined test [] ys = refl
any_joined test (x ∷ xs) ys = ap (λ (b : Bool). test x || b) (any_joined test xs ys) ∙ sym (or_joined (test x) (list_any test xs) (list_any test ys))

-- what values are refused with, one after another
values_tested : (values : List Bson) → values_fault values ≡ by_tests (list_any is_deep values) (list_any zero_within values) false
values_tested [] = refl
values_tested (value ∷ values) =
    ap (first_of (by_tests (is_deep value) (zero_within value) false)) (values_tested values)
    ∙ tests_first (is_deep value) (zero_within value) false (list_any is_deep values) (list_any zero_within values) false

-- beside a length
values_first : (values : List Bson) (long : Bool) → first_of (values_fault values) (by_tests false false long) ≡ values_refusal values long
values_first values long =
    ap (λ (fault : Option EncodeFault). first_of fault (by_tests false false long)) (values_tested values)
    ∙ tests_first (list_any is_deep values) (list_any zero_within values) false false false long
    ∙ ap (λ (b : Bool). by_tests b (list_any zero_within values || false) long) (or_false (list_any is_deep values))
    ∙ ap (λ (b : Bool). by_tests (list_any is_deep values) b long) (or_false (list_any zero_within values))

-- the refusal of values behind others, by whether something is too long here or there
refusals_joined : (xs ys : List Bson) (long more : Bool) → first_of (values_refusal xs long) (values_refusal ys more) ≡ values_refusal (xs ++ ys) (long || more)
refusals_joined xs ys long more =
    tests_first (list_any is_deep xs) (list_any zero_within xs) long (list_any is_deep ys) (list_any zero_within ys) more
    ∙ ap (λ (b : Bool). by_tests b (list_any zero_within xs || list_any zero_within ys) (long || more)) (sym (any_joined is_deep xs ys))
    ∙ ap (λ (b : Bool). by_tests (list_any is_deep (xs ++ ys)) b (long || more)) (sym (any_joined zero_within xs ys))

-- a document that is too long makes the op that inserts it too long
longer : (document op : ℕ) → op ≡ document + 27 → nat_lt 2147483647 document ≡ true → nat_lt 2147483647 op ≡ true
longer document op is long = grind (arith, nat_tests)

long_within : (document : List (Pair Bson)) → (is_long document || is_long (insert_op document)) ≡ is_long (insert_op document)
long_within document = or_within (is_long document) (is_long (insert_op document)) (λ long. longer (length (spelling document)) (length (spelling (insert_op document))) (insert_length document) long)

-- an op is as long with each id
op_alike : (document : List (Pair Bson)) (id : ObjectId) → length id.bytes ≡ 12 → is_long (insert_op (with_id zero_id document)) ≡ is_long (insert_op (with_id id document))
unfolding zero_id
op_alike document id twelve =
    ap (λ (count : ℕ). nat_lt 2147483647 count)
    (insert_length (with_id zero_id document) ∙ ap (λ (count : ℕ). count + 27) (length_alike document zero_id id refl twelve) ∙ sym (insert_length (with_id id document)))

-- an insert by its document with an id
insert_tested : (document : List (Pair Bson)) (id : ObjectId) → length id.bytes ≡ 12
    → first_of (own_fault document) (insert_length_fault document) ≡ values_refusal (bson.Document (with_id id document) ∷ []) (is_long (insert_op (with_id id document)))
unfolding insert_length_fault
insert_tested document id twelve =
    let sent : List (Pair Bson) = with_id id document in
    ap (λ (fault : Option EncodeFault). first_of fault (length_fault (insert_op (with_id zero_id document)))) (sym (own_refused document id twelve))
    ∙ ap (λ (long : Bool). first_of (by_tests (nat_lt 96 (nesting sent)) (zero_in sent) (is_long sent)) (by_tests false false long)) (op_alike document id twelve)
    ∙ tests_first (nat_lt 96 (nesting sent)) (zero_in sent) (is_long sent) false false (is_long (insert_op sent))
    ∙ ap (λ (long : Bool). by_tests (nat_lt 96 (nesting sent) || false) (zero_in sent || false) long) (long_within sent)
    ∙ ap (λ (deep : ℕ). by_tests (nat_lt 96 deep || false) (zero_in sent || false) (is_long (insert_op sent))) (sym (depth_of sent))
    ∙ ap (λ (zero : Bool). by_tests (is_deep (bson.Document sent) || false) (zero || false) (is_long (insert_op sent))) (sym (zero_of sent))

-- a model by its values with an id
pub model_tested : (model : WriteModel) (id : ObjectId) → length id.bytes ≡ 12
    → model_fault model ≡ values_refusal (model_values (with_model_id id model)) (is_long (op_document 0 (with_model_id id model)))
model_tested (InsertOne model) id twelve = insert_tested model.document id twelve
model_tested (UpdateOne model) id twelve = values_first (model_values (UpdateOne model)) (is_long (op_document 0 (UpdateOne model)))
model_tested (UpdateMany model) id twelve = values_first (model_values (UpdateMany model)) (is_long (op_document 0 (UpdateMany model)))
model_tested (ReplaceOne model) id twelve = values_first (model_values (ReplaceOne model)) (is_long (op_document 0 (ReplaceOne model)))
model_tested (DeleteOne model) id twelve = values_first (model_values (DeleteOne model)) (is_long (op_document 0 (DeleteOne model)))
model_tested (DeleteMany model) id twelve = values_first (model_values (DeleteMany model)) (is_long (op_document 0 (DeleteMany model)))

-- the namespace of a model is as long with an id
text_tested : (model : WriteModel) (id : ObjectId) → text_fault (dotted (namespace_of model)) ≡ by_tests false false (is_long (namespace_document (dotted (namespace_of (with_model_id id model)))))
text_tested model id = ap (λ namespace. by_tests false false (is_long (namespace_document (dotted namespace)))) (sym (same_namespace id model))

some_length : (count : ℕ) → suc count ≡ 0 → ⊥
some_length count is = omega (arith, is)

one_less : (a b : ℕ) → suc a ≡ suc b → a ≡ b
one_less a b is = omega (arith, is)

-- models by their values with ids
pub models_tested : (ids : List ObjectId) (models : List WriteModel) → length ids ≡ length models → AreTwelve ids
    → model_faults models ≡ values_refusal (flat_map model_values (with_model_ids ids models)) (list_any is_long_model (with_model_ids ids models))
models_tested [] [] same twelve = refl
models_tested [] (model ∷ models) same twelve = absurd (some_length (length models) (sym same))
models_tested (id ∷ ids) [] same twelve = absurd (some_length (length ids) same)
models_tested (id ∷ ids) (model ∷ models) same twelve =
    let sent : WriteModel = with_model_id id model in
    let rest : List WriteModel = with_model_ids ids models in
    let values : List Bson = flat_map model_values rest in
    let op : Bool = is_long (op_document 0 sent) in
    let text : Bool = is_long (namespace_document (dotted (namespace_of sent))) in
    let more : Bool = list_any is_long_model rest in
    ap (λ (fault : Option EncodeFault). first_of fault (first_of (text_fault (dotted (namespace_of model))) (model_faults models))) (model_tested model id twelve.0)
    ∙ ap (λ (fault : Option EncodeFault). first_of (values_refusal (model_values sent) op) (first_of fault (model_faults models))) (text_tested model id)
    ∙ ap (λ (fault : Option EncodeFault). first_of (values_refusal (model_values sent) op) (first_of (by_tests false false text) fault)) (models_tested ids models (one_less (length ids) (length models) same) twelve.1)
    ∙ ap (first_of (values_refusal (model_values sent) op)) (tests_first false false text (list_any is_deep values) (list_any zero_within values) more)
    ∙ refusals_joined (model_values sent) values op (text || more)
    ∙ ap (values_refusal (model_values sent ++ values)) (sym (or_joined op text more))

-- a bulk write is refused for its models, else for its options, else for the length of its command
pub refused_values : (models : List WriteModel) (options : BulkWriteOptions) (by_models by_vars by_comment by_length : Option EncodeFault) → by_models ≡ model_faults models
    → by_vars ≡ values_fault (value_list (document_in options.let_vars)) → by_comment ≡ values_fault (value_list options.comment) → by_length ≡ length_fault (bulk_command options false)
    → RefusesBulkValues models options (first_of by_models (first_of (first_of by_vars by_comment) by_length))
refused_values models options by_models by_vars by_comment by_length is_models is_vars is_comment is_length = λ ids same twelve.
    let sent : List WriteModel = with_model_ids ids models in
    let vars : List Bson = value_list (document_in options.let_vars) in
    let comment : List Bson = value_list options.comment in
    let body : Bool = is_long (bulk_command options false) in
    sym (
    ap (λ (fault : Option EncodeFault). first_of fault (first_of (first_of by_vars by_comment) by_length)) (is_models ∙ models_tested ids models same twelve)
    ∙ ap (λ (fault : Option EncodeFault). first_of (values_refusal (flat_map model_values sent) (list_any is_long_model sent)) (first_of (first_of fault by_comment) by_length)) is_vars
    ∙ ap (λ (fault : Option EncodeFault). first_of (values_refusal (flat_map model_values sent) (list_any is_long_model sent)) (first_of (first_of (values_fault vars) fault) by_length)) is_comment
    ∙ ap (λ (fault : Option EncodeFault). first_of (values_refusal (flat_map model_values sent) (list_any is_long_model sent)) (first_of (first_of (values_fault vars) (values_fault comment)) fault)) is_length
    ∙ ap (λ (fault : Option EncodeFault). first_of (values_refusal (flat_map model_values sent) (list_any is_long_model sent)) (first_of fault (by_tests false false body))) (sym (faults_joined vars comment))
    ∙ ap (first_of (values_refusal (flat_map model_values sent) (list_any is_long_model sent))) (values_first (vars ++ comment) body)
    ∙ refusals_joined (flat_map model_values sent) (vars ++ comment) (list_any is_long_model sent) body
    )

-- the fault of a value, else of those behind it
pub led : (one other : Option EncodeFault) (value : Bson) (values : List Bson) → one ≡ value_fault value → other ≡ values_fault values → first_of one other ≡ values_fault (value ∷ values)
led one other value values is is_other = λ i. first_of (is i) (is_other i)

-- the fault of one model more and of its namespace
pub fault_more : (models : List WriteModel) (at : ℕ) (model : WriteModel) (fault of_model next of_text last : Option EncodeFault) → at < length models → model ≡ get_or models at model
    → next ≡ first_of fault of_model → of_model ≡ model_fault model → last ≡ first_of next of_text → of_text ≡ text_fault (dotted (namespace_of model))
    → first_of fault (model_faults (drop at models)) ≡ model_faults models → first_of last (model_faults (drop (at + 1) models)) ≡ model_faults models
fault_more models at model fault of_model next of_text last within read next_is of_model_is last_is of_text_is so_far =
    let rest : Option EncodeFault = model_faults (drop (at + 1) models) in
    let text : Option EncodeFault = text_fault (dotted (namespace_of model)) in
    let here : model_faults (drop at models) ≡ first_of (model_fault model) (first_of text rest) =
    ap model_faults (drop_more models at model within ∙ ap (λ (one : WriteModel). one ∷ drop (at + 1) models) (sym read)) in
    (λ i. first_of (last_is i) rest)
    ∙ (λ i. first_of (first_of (next_is i) (of_text_is i)) rest)
    ∙ (λ i. first_of (first_of (first_of fault (of_model_is i)) text) rest)
    ∙ first_twice (first_of fault (model_fault model)) text rest
    ∙ first_twice fault (model_fault model) (first_of text rest)
    ∙ ap (first_of fault) (sym here)
    ∙ so_far
