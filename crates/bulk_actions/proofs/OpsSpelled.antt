-- Models that are not refused for their values have ops with a spelling, whichever ids they get.
use Rattle.std.proofs.Common.{◌≡◌, ℕ, suc, ◌≤◌, Bool, true, false, ◌||◌, List, [], ◌∷◌, ◌++◌, map, nat_lt, refl, ◌∙◌, arith, rules}
use Rattle.std.specs.Prelude.{pos, Option, None, Some}
use Rattle.std.specs.List.{list_any}
use Rattle.std.proofs.lemmas.Bool.{or_from, or_parts}
use Rattle.std.proofs.lemmas.Bool.Decides.{nat_tests}
use Rattle.bson_lite.specs.declared.bson.Bson as bson
use Rattle.bson_lite.specs.declared.bson.Bson.{Bson}
use Rattle.bson_lite.specs.declared.document.Pair.{Pair}
use Rattle.bson_lite.specs.Spelling.{deepest, deepest_pair, depth, holds_zero, nesting, on_value, refusal, zero_in, zero_in_pairs, zero_in_values, zero_within}
use Rattle.bson_lite.proofs.Named.{by_tests}
use Rattle.driver_options.specs.declared.models.WriteModel.{WriteModel}
use Rattle.driver_options.specs.declared.models.WriteModel.TheVariants.{InsertOne, UpdateOne, UpdateMany, ReplaceOne, DeleteOne, DeleteMany}
use Rattle.driver_options.specs.declared.updates.UpdateModifications.{UpdateModifications}
use Rattle.driver_options.specs.declared.updates.UpdateModifications.TheVariants as modifications
use Rattle.driver_options.specs.declared.updates.UpdateOrReplace.TheVariants as change
use Rattle.driver_options.specs.Models.{operation_of}
use Rattle.wire_keys.specs.declared.keys.TheConstants.{DOCUMENT}
use Rattle.driver_link.specs.Numbers.{field}
use Rattle.driver_ops.specs.declared.keys.TheConstants.{ARRAY_FILTERS, COLLATION, FILTER, HINT, MULTI, SORT, UPDATE_MODIFICATIONS, UPSERT}
use Rattle.driver_ops.specs.OptionFields.{document_in, flag_of, option_field}
use Rattle.bulk_fronts.specs.BulkOps.{delete_fields, modifications_value, op_document, op_fields, op_key, replace_one_fields, update_many_fields, update_one_fields, values_of}
use Rattle.driver_inputs.specs.BulkInputs.{model_values, set_values}
use Rattle.driver_inputs.specs.Inputs.{change_values, document_values, is_deep, is_long, value_list, values_refusal}

-- values that nest no deeper than a caller's may, without a zero byte
abbrev ArePlain : List Bson → Type 0
ArePlain [] = Unit {0}
ArePlain (value ∷ values) = ((depth value ≤ 96) × (zero_within value ≡ false)) × ArePlain values

not_deep : (d : ℕ) → nat_lt 96 d ≡ false → d ≤ 96
not_deep d is = grind (arith, nat_tests)

all_plain : (values : List Bson) → list_any is_deep values ≡ false → list_any zero_within values ≡ false → ArePlain values
all_plain [] deep zeros = tt
all_plain (value ∷ values) deep zeros =
    let deep_parts = or_parts (is_deep value) (list_any is_deep values) deep in
    let zero_parts = or_parts (zero_within value) (list_any zero_within values) zeros in
    ((not_deep (depth value) deep_parts.0, zero_parts.0), all_plain values deep_parts.1 zero_parts.1)

plain_first : (xs ys : List Bson) → ArePlain (xs ++ ys) → ArePlain xs
plain_first [] ys plain = tt
plain_first (x ∷ xs) ys plain = (plain.0, plain_first xs ys plain.1)

plain_second : (xs ys : List Bson) → ArePlain (xs ++ ys) → ArePlain ys
plain_second [] ys plain = plain
plain_second (x ∷ xs) ys plain = plain_second xs ys plain.1

-- fields that nest one level more at most, without a zero byte
record AreSound (fields : List (Pair Bson)) : Type 0 where
  deep : deepest_pair (map (on_value depth) fields) ≤ 97
  zeros : zero_in_pairs (map (on_value zero_within) fields) ≡ false

deep_join : (a b : List (Pair Bson)) → deepest_pair (map (on_value depth) a) ≤ 97 → deepest_pair (map (on_value depth) b) ≤ 97 → deepest_pair (map (on_value depth) (a ++ b)) ≤ 97
deep_join [] b first second = second
deep_join (pair ∷ a) b first second =
    let here : depth pair.value ≤ 97 = omega (arith, first) in
    let rest : deepest_pair (map (on_value depth) (a ++ b)) ≤ 97 = deep_join a b (omega (arith, first)) second in
    omega (arith, here, rest)

zero_join : (a b : List (Pair Bson)) → zero_in_pairs (map (on_value zero_within) a) ≡ false → zero_in_pairs (map (on_value zero_within) b) ≡ false
    → zero_in_pairs (map (on_value zero_within) (a ++ b)) ≡ false
zero_join [] b first second = second
zero_join (pair ∷ a) b first second =
    let parts = or_parts (holds_zero pair.key || zero_within pair.value) (zero_in_pairs (map (on_value zero_within) a)) first in
    or_from (holds_zero pair.key || zero_within pair.value) (zero_in_pairs (map (on_value zero_within) (a ++ b))) parts.0 (zero_join a b parts.1 second)

joined : (a b : List (Pair Bson)) → AreSound a → AreSound b → AreSound (a ++ b)
joined a b first second = record { deep = deep_join a b first.deep second.deep; zeros = zero_join a b first.zeros second.zeros }

nothing : AreSound []
nothing = record { deep = omega arith; zeros = refl }

one : (key : List ℕ) (value : Bson) → holds_zero key ≡ false → depth value ≤ 97 → zero_within value ≡ false → AreSound (field key value ∷ [])
one key value no_zero shallow zeros = record {
  deep = omega (arith, shallow);
  zeros = or_from (holds_zero key || zero_within value) false (or_from (holds_zero key) (zero_within value) no_zero zeros) refl;
}

-- a flag and a number nest nothing
flag_depth : (flag : Bool) → depth (bson.Boolean flag) ≡ 0
flag_depth flag = search (rules, bson.the_lemmas)

flag_zero : (flag : Bool) → zero_within (bson.Boolean flag) ≡ false
flag_zero flag = search (rules, bson.the_lemmas)

number_depth : depth (bson.Int32 (pos 0)) ≡ 0
number_depth = search (rules, bson.the_lemmas)

number_zero : zero_within (bson.Int32 (pos 0)) ≡ false
number_zero = search (rules, bson.the_lemmas)

flag_sound : (key : List ℕ) (flag : Bool) → holds_zero key ≡ false → AreSound (field key (bson.Boolean flag) ∷ [])
flag_sound key flag no_zero = one key (bson.Boolean flag) no_zero (omega (arith, flag_depth flag)) (flag_zero flag)

number_sound : (key : List ℕ) → holds_zero key ≡ false → AreSound (field key (bson.Int32 (pos 0)) ∷ [])
number_sound key no_zero = one key (bson.Int32 (pos 0)) no_zero (omega (arith, number_depth)) number_zero

-- an array nests one level more than its values
array_depth : (values : List Bson) → depth (bson.Array values) ≡ suc (deepest (map depth values))
array_depth values = search (rules, bson.the_lemmas)

array_zero : (values : List Bson) → zero_within (bson.Array values) ≡ zero_in_values (map zero_within values)
array_zero values = search (rules, bson.the_lemmas)

deepest_plain : (values : List Bson) → ArePlain values → deepest (map depth values) ≤ 96
deepest_plain [] plain = omega arith
deepest_plain (value ∷ values) plain =
    let here : depth value ≤ 96 = plain.0.0 in
    let rest : deepest (map depth values) ≤ 96 = deepest_plain values plain.1 in
    omega (arith, here, rest)

zero_plain : (values : List Bson) → ArePlain values → zero_in_values (map zero_within values) ≡ false
zero_plain [] plain = refl
zero_plain (value ∷ values) plain = or_from (zero_within value) (zero_in_values (map zero_within values)) plain.0.1 (zero_plain values plain.1)

array_sound : (key : List ℕ) (values : List Bson) → holds_zero key ≡ false → ArePlain values → AreSound (field key (bson.Array values) ∷ [])
array_sound key values no_zero plain =
    one key (bson.Array values) no_zero (omega (arith, array_depth values, deepest_plain values plain)) (array_zero values ∙ zero_plain values plain)

-- fields of options
value_sound : (key : List ℕ) (value : Option Bson) → holds_zero key ≡ false → ArePlain (value_list value) → AreSound (option_field key value)
value_sound key None no_zero plain = nothing
value_sound key (Some value) no_zero plain =
    let here : depth value ≤ 96 = plain.0.0 in
    one key value no_zero (omega (arith, here)) plain.0.1

upsert_sound : (flag : Option Bool) → AreSound (option_field UPSERT.now (flag_of flag))
upsert_sound None = nothing
upsert_sound (Some flag) = flag_sound UPSERT.now flag refl

filters_sound : (values : Option (List Bson)) → ArePlain (set_values values) → AreSound (option_field ARRAY_FILTERS.now (values_of values))
filters_sound None plain = nothing
filters_sound (Some values) plain = array_sound ARRAY_FILTERS.now values refl plain

-- what an update does
modifications_sound : (update : UpdateModifications) → ArePlain (change_values (change.UpdateModifications update)) → AreSound (field UPDATE_MODIFICATIONS.now (modifications_value update) ∷ [])
modifications_sound (modifications.Document document) plain =
    let here : depth (bson.Document document) ≤ 96 = plain.0.0 in
    one UPDATE_MODIFICATIONS.now (bson.Document document) refl (omega (arith, here)) plain.0.1
modifications_sound (modifications.Pipeline stages) plain = array_sound UPDATE_MODIFICATIONS.now (document_values stages) refl plain

-- a document under a key
document_sound : (key : List ℕ) (document : List (Pair Bson)) → holds_zero key ≡ false → (depth (bson.Document document) ≤ 96) × (zero_within (bson.Document document) ≡ false)
    → AreSound (field key (bson.Document document) ∷ [])
document_sound key document no_zero plain =
    let here : depth (bson.Document document) ≤ 96 = plain.0 in
    one key (bson.Document document) no_zero (omega (arith, here)) plain.1

-- the fields of a delete
delete_sound : (multi : Bool) (filter : List (Pair Bson)) (collation : Option (List (Pair Bson))) (hint : Option Bson)
    → ArePlain (bson.Document filter ∷ (value_list (document_in collation) ++ value_list hint)) → AreSound (delete_fields multi filter collation hint)
unfolding delete_fields
delete_sound multi filter collation hint plain =
    joined _ _ (joined _ _ (joined _ _ (flag_sound MULTI.now multi refl) (document_sound FILTER.now filter refl plain.0))
    (value_sound COLLATION.now (document_in collation) refl (plain_first (value_list (document_in collation)) (value_list hint) plain.1)))
    (value_sound HINT.now hint refl (plain_second (value_list (document_in collation)) (value_list hint) plain.1))

-- the fields of each model's op
fields_sound : (model : WriteModel) → ArePlain (model_values model) → AreSound (op_fields model)
unfolding update_one_fields update_many_fields replace_one_fields
fields_sound (InsertOne model) plain = document_sound DOCUMENT.now model.document refl plain.0
fields_sound (UpdateOne model) plain =
    let filters : List Bson = set_values model.array_filters in
    let collation : List Bson = value_list (document_in model.collation) in
    let hint : List Bson = value_list model.hint in
    let sort : List Bson = value_list (document_in model.sort) in
    let changes : List Bson = change_values (change.UpdateModifications model.update) in
    let behind = plain_second changes (filters ++ (collation ++ (hint ++ sort))) plain.1 in
    let behind_filters = plain_second filters (collation ++ (hint ++ sort)) behind in
    let behind_collation = plain_second collation (hint ++ sort) behind_filters in
    joined _ _ (joined _ _ (joined _ _ (joined _ _ (joined _ _
    (joined _ _ (flag_sound MULTI.now false refl) (joined _ _ (document_sound FILTER.now model.filter refl plain.0)
    (modifications_sound model.update (plain_first changes (filters ++ (collation ++ (hint ++ sort))) plain.1))))
    (filters_sound model.array_filters (plain_first filters (collation ++ (hint ++ sort)) behind)))
    (value_sound COLLATION.now (document_in model.collation) refl (plain_first collation (hint ++ sort) behind_filters)))
    (value_sound HINT.now model.hint refl (plain_first hint sort behind_collation)))
    (upsert_sound model.upsert))
    (value_sound SORT.now (document_in model.sort) refl (plain_second hint sort behind_collation))
fields_sound (UpdateMany model) plain =
    let filters : List Bson = set_values model.array_filters in
    let collation : List Bson = value_list (document_in model.collation) in
    let hint : List Bson = value_list model.hint in
    let changes : List Bson = change_values (change.UpdateModifications model.update) in
    let behind = plain_second changes (filters ++ (collation ++ hint)) plain.1 in
    let behind_filters = plain_second filters (collation ++ hint) behind in
    joined _ _ (joined _ _ (joined _ _ (joined _ _
    (joined _ _ (flag_sound MULTI.now true refl) (joined _ _ (document_sound FILTER.now model.filter refl plain.0)
    (modifications_sound model.update (plain_first changes (filters ++ (collation ++ hint)) plain.1))))
    (filters_sound model.array_filters (plain_first filters (collation ++ hint) behind)))
    (value_sound COLLATION.now (document_in model.collation) refl (plain_first collation hint behind_filters)))
    (value_sound HINT.now model.hint refl (plain_second collation hint behind_filters)))
    (upsert_sound model.upsert)
fields_sound (ReplaceOne model) plain =
    let collation : List Bson = value_list (document_in model.collation) in
    let hint : List Bson = value_list model.hint in
    let sort : List Bson = value_list (document_in model.sort) in
    let behind = plain_second collation (hint ++ sort) plain.1.1 in
    joined _ _ (joined _ _ (joined _ _ (joined _ _
    (joined _ _ (flag_sound MULTI.now false refl) (joined _ _ (document_sound FILTER.now model.filter refl plain.0) (document_sound UPDATE_MODIFICATIONS.now model.replacement refl plain.1.0)))
    (value_sound COLLATION.now (document_in model.collation) refl (plain_first collation (hint ++ sort) plain.1.1)))
    (value_sound HINT.now model.hint refl (plain_first hint sort behind)))
    (upsert_sound model.upsert))
    (value_sound SORT.now (document_in model.sort) refl (plain_second hint sort behind))
fields_sound (DeleteOne model) plain = delete_sound false model.filter model.collation model.hint plain
fields_sound (DeleteMany model) plain = delete_sound true model.filter model.collation model.hint plain

-- an op's key has no zero byte
key_sound : (model : WriteModel) → holds_zero (op_key (operation_of model)) ≡ false
key_sound (InsertOne model) = refl
key_sound (UpdateOne model) = refl
key_sound (UpdateMany model) = refl
key_sound (ReplaceOne model) = refl
key_sound (DeleteOne model) = refl
key_sound (DeleteMany model) = refl

shallow : (d : ℕ) → d ≤ 97 → nat_lt 100 (suc d) ≡ false
shallow d less = grind (arith, nat_tests)

none_by : (deep zeros long : Bool) → deep ≡ false → zeros ≡ false → long ≡ false → by_tests deep zeros long ≡ None
none_by true zeros long is_deep is_zero is_long = absurd (let e : true ≡ false = is_deep in cc)
none_by false true long is_deep is_zero is_long = absurd (let e : true ≡ false = is_zero in cc)
none_by false false true is_deep is_zero is_long = absurd (let e : true ≡ false = is_long in cc)
none_by false false false is_deep is_zero is_long = refl

-- what the tests of a refusal were, where there is none
tests_of : (deep zeros long : Bool) → by_tests deep zeros long ≡ None → (deep ≡ false) × ((zeros ≡ false) × (long ≡ false))
tests_of true zeros long is = absurd (let e : by_tests true zeros long ≡ None = is in cc)
tests_of false true long is = absurd (let e : by_tests false true long ≡ None = is in cc)
tests_of false false true is = absurd (let e : by_tests false false true ≡ None = is in cc)
tests_of false false false is = (refl, (refl, refl))

-- a model that is not refused for its values has an op with a spelling
pub op_has_spelling : (model : WriteModel) → values_refusal (model_values model) (is_long (op_document 0 model)) ≡ None → refusal (op_document 0 model) ≡ None
op_has_spelling model is =
    let tests = tests_of (list_any is_deep (model_values model)) (list_any zero_within (model_values model)) (is_long (op_document 0 model)) is in
    let fields = fields_sound model (all_plain (model_values model) tests.0 tests.1.0) in
    let all = joined (field (op_key (operation_of model)) (bson.Int32 (pos 0)) ∷ []) (op_fields model) (number_sound (op_key (operation_of model)) (key_sound model)) fields in
    none_by (nat_lt 100 (nesting (op_document 0 model))) (zero_in (op_document 0 model)) (is_long (op_document 0 model))
    (shallow (deepest_pair (map (on_value depth) (op_document 0 model))) all.deep) all.zeros tests.1.1
