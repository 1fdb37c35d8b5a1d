-- What a script plans for a send that is served is what a model server takes.
use Rattle.std.proofs.Common.{◌≡◌, ℕ, suc, ◌^◌, ◌<◌, ◌≤◌, ℤ, Bool, true, false, List, [], ◌∷◌, refl, ap, subst, ◌∙◌, arith}
use Rattle.std.proofs.lemmas.Bool.{and_parts}
use Rattle.std.proofs.lemmas.Bool.Decides.{nat_tests}
use Rattle.std.proofs.lemmas.Int.{ints}
use Rattle.std.specs.Prelude.{◌≢◌, ◌≤ℤ◌, pos, max, nat_lt, ◌&&◌, not, Option, None, Some, IfSome, is_some, if◌then◌else◌}
use Rattle.std.specs.Option.{option_map}
use Rattle.std.specs.Ordering.{int_eq}
use Rattle.bson_lite.specs.declared.bson.Bson.{Bson}
use Rattle.bson_lite.specs.declared.document.Pair.{Pair}
use Rattle.bson_lite.specs.declared.fault.EncodeFault.{EncodeFault}
use Rattle.bson_lite.specs.declared.fault.EncodeFault.TheVariants.{TooDeep}
use Rattle.bson_lite.specs.Spelling.{depth, nesting, refusal_within, zero_in}
use Rattle.bson_lite.proofs.Named.{by_tests}
use Rattle.driver_link.specs.declared.machine.Failing.{Failing}
use Rattle.driver_link.specs.declared.machine.Item.{Item}
use Rattle.driver_link.specs.declared.machine.Planned.{Planned}
use Rattle.driver_link.specs.declared.machine.PlannedConcern.{PlannedConcern}
use Rattle.driver_link.specs.Exchange.{reauthentication_required}
use Rattle.driver_link.specs.Numbers.{field}
use Rattle.driver_link.specs.WellFormed.{IsCount, IsItem, IsPlan, IsShallow, IsShallowValue}
use Rattle.driver_link.proofs.Lists.{none_is_some, none_told, some_is_some}
use Rattle.script_parts.specs.declared.keys.TheConstants.{CODE, FAIL, MESSAGE, MODIFIED, N, PAGE, RESULTS, UPSERTED, VALUE, WRITE_CONCERN_ERROR}
use Rattle.script_parts.specs.Json.{has_only, list_of, needed_part, optional_part}
use Rattle.driver_script.specs.Plans.{built_code, built_plan, concern_error_in, concern_error_of, concern_error_with, failing_in, failing_of, failing_with, is_built_code, is_spelled_within, may_be_found, may_be_upserted, plan_in, plan_with, planned_of, serve_in, serve_of, serve_with}
use Rattle.script_parts.specs.Values.{code_of, count_of, document_of, item_of, small_of, text_of, value_of}
use Rattle.driver_script.proofs.Readings.{chained, either, list_optional, mapped, optional_holds, where_so}
use Rattle.serde_json.specs.Data.{Data, null, boolean, number, string, array, object}
use Rattle.serde_json.specs.Find.{as_u64, at}
use Rattle.driver_inputs.specs.Inputs.{is_long}

-- a code other than that which asks for another authentication
abbrev IsOtherCode : ℤ → Type 0
IsOtherCode code = code ≢ reauthentication_required

-- a failure with another code
abbrev pub IsOther : Failing → Type 0
IsOther failing = failing.code ≢ reauthentication_required

-- a write concern error with another code
abbrev IsOtherError : PlannedConcern → Type 0
IsOtherError error = error.code ≢ reauthentication_required

-- a number that a schedule may give
abbrev IsSmall : ℕ → Type 0
IsSmall n = IsCount (pos n)

pub other_code : (code : ℤ) → is_built_code code ≡ true → code ≢ reauthentication_required
unfolding is_built_code
other_code code built same =
    let denied : false ≡ true = subst (λ (z : ℤ). not (int_eq z reauthentication_required) ≡ true) same built in cc

built_code_well : (code built : ℤ) → built_code code ≡ Some built → IsOtherCode built
unfolding built_code
built_code_well code built is =
    where_so IsOtherCode (is_built_code code) (Some code) (λ holds x here. subst IsOtherCode (some_is_some code x here) (other_code code holds)) built is

-- a number of 32 bits is one
below : (n : ℕ) → nat_lt n (2 ^ 32) ≡ true → n < 4294967296
below n fits = grind (arith, nat_tests)

at_least : (n : ℕ) → pos 0 ≤ℤ pos n
at_least n = omega (arith, ints)

at_most : (n : ℕ) → n < 4294967296 → pos n ≤ℤ pos 4294967295
at_most n within = omega (arith, ints)

small_count : (n : ℕ) → nat_lt n (2 ^ 32) ≡ true → IsSmall n
small_count n fits = (at_least n, at_most n (below n fits))

small_well : (d : Data) (n : ℕ) → small_of d ≡ Some n → IsSmall n
unfolding small_of
small_well (number m) n is =
    chained IsSmall (λ small. if nat_lt small (2 ^ 32) then Some small else None) (as_u64 m)
    (λ small _. where_so IsSmall (nat_lt small (2 ^ 32)) (Some small)
    (λ fits x here. subst IsSmall (some_is_some small x here) (small_count small fits))) n is
small_well null n is = absurd (none_is_some n is)
small_well (boolean flag) n is = absurd (none_is_some n is)
small_well (string text) n is = absurd (none_is_some n is)
small_well (array items) n is = absurd (none_is_some n is)
small_well (object _) n is = absurd (none_is_some n is)

widened_well : (n : Option ℕ) → IfSome n IsSmall → IfSome (option_map pos n) IsCount
widened_well None small = tt
widened_well (Some n) small = small

not_deep : (deep zero long : Bool) → by_tests deep zero long ≡ None → deep ≡ false
not_deep true zero long is = absurd (let e : ◌≡◌ {A = Option EncodeFault} (Some TooDeep) None = is in cc)
not_deep false zero long is = refl

-- what is refused at none of some levels is refused at none of more
at_more : (deep more zero long : Bool) → by_tests deep zero long ≡ None → more ≡ false → by_tests more zero long ≡ None
at_more true more zero long is fewer = absurd (let e : ◌≡◌ {A = Option EncodeFault} (Some TooDeep) None = is in cc)
at_more false more zero long is fewer = ap (λ b. by_tests b zero long) fewer ∙ is

less_deep : (n : ℕ) → nat_lt 95 n ≡ false → nat_lt 100 n ≡ false
less_deep n within = grind (arith, nat_tests)

depth_within : (n : ℕ) → nat_lt 95 n ≡ false → n ≤ 95
depth_within n within = grind (arith, nat_tests)

shallow : (document : List (Pair Bson)) → refusal_within 95 document ≡ None → IsShallow document
shallow document is =
    let within : nat_lt 95 (nesting document) ≡ false = not_deep (nat_lt 95 (nesting document)) (zero_in document) (is_long document) is in (
      at_more (nat_lt 95 (nesting document)) (nat_lt 100 (nesting document)) (zero_in document) (is_long document) is (less_deep (nesting document) within),
      depth_within (nesting document) within,
    )

found_well : (found : Option (List (Pair Bson))) → may_be_found found ≡ true → IfSome found IsShallow
unfolding is_spelled_within
found_well None may = tt
found_well (Some document) may = shallow document (none_told (refusal_within 95 document) may)

-- a document around a value
abbrev around : Bson → List (Pair Bson)
around value = field [] value ∷ []

less_around : (n : ℕ) → nat_lt 96 n ≡ false → nat_lt 100 n ≡ false
less_around n within = grind (arith, nat_tests)

value_within : (d : ℕ) → nat_lt 96 (suc (max d 0)) ≡ false → d ≤ 95
value_within d within = grind (arith, nat_tests)

shallow_value : (value : Bson) → refusal_within 96 (around value) ≡ None → IsShallowValue value
shallow_value value is =
    let within : nat_lt 96 (nesting (around value)) ≡ false = not_deep (nat_lt 96 (nesting (around value))) (zero_in (around value)) (is_long (around value)) is in (
      at_more (nat_lt 96 (nesting (around value))) (nat_lt 100 (nesting (around value))) (zero_in (around value)) (is_long (around value)) is (less_around (nesting (around value)) within),
      value_within (depth value) within,
    )

upserted_well : (upserted : Option Bson) → may_be_upserted upserted ≡ true → IfSome upserted IsShallowValue
unfolding is_spelled_within
upserted_well None may = tt
upserted_well (Some value) may = shallow_value value (none_told (refusal_within 96 (around value)) may)

-- a plan whose counts a schedule may give
built_plan_well : (planned : Planned) → IfSome planned.n IsCount → IfSome planned.modified IsCount → (found : Planned)
    → built_plan planned ≡ Some found → IsPlan found
unfolding built_plan
built_plan_well planned n modified found is =
    where_so IsPlan (may_be_upserted planned.upserted && may_be_found planned.value) (Some planned)
    (λ both x here. subst IsPlan (some_is_some planned x here) (record {
      n = n;
      modified = modified;
      upserted = upserted_well planned.upserted (and_parts (may_be_upserted planned.upserted) (may_be_found planned.value) both).0;
      value = found_well planned.value (and_parts (may_be_upserted planned.upserted) (may_be_found planned.value) both).1;
    })) found is

plan_in_well : (d : Data) (planned : Planned) → plan_in d ≡ Some planned → IsPlan planned
unfolding plan_in
plan_in_well d planned is =
    chained IsPlan _ (optional_part small_of N.now d)
    (λ n of_n. chained IsPlan _ (optional_part small_of MODIFIED.now d)
    (λ modified of_modified. chained IsPlan _ (optional_part value_of UPSERTED.now d)
    (λ upserted _. chained IsPlan _ (optional_part document_of VALUE.now d)
    (λ value _. built_plan_well (plan_with n modified upserted value)
    (widened_well n (optional_holds IsSmall small_of small_well N.now d n of_n))
    (widened_well modified (optional_holds IsSmall small_of small_well MODIFIED.now d modified of_modified)))))) planned is

planned_well : (d : Data) (planned : Planned) → planned_of d ≡ Some planned → IsPlan planned
unfolding planned_of
planned_well d planned is =
    where_so IsPlan (has_only (N.now ∷ MODIFIED.now ∷ UPSERTED.now ∷ VALUE.now ∷ []) d) (plan_in d) (λ _. plan_in_well d) planned is

failing_in_well : (d : Data) (failing : Failing) → failing_in d ≡ Some failing → IsOther failing
unfolding failing_in
failing_in_well d failing is =
    chained IsOther _ (item_of count_of 0 d)
    (λ place _. chained IsOther _ (item_of code_of 1 d)
    (λ code _. mapped IsOther (failing_with place) (built_code code) (built_code_well code))) failing is

failing_well : (d : Data) (failing : Failing) → failing_of d ≡ Some failing → IsOther failing
unfolding failing_of
failing_well d failing is =
    either IsOther (is_some (at 2 d)) None (failing_in d) (λ x here. absurd (none_is_some x here)) (failing_in_well d) failing is

concern_error_in_well : (d : Data) (error : PlannedConcern) → concern_error_in d ≡ Some error → IsOtherError error
unfolding concern_error_in
concern_error_in_well d error is =
    chained IsOtherError _ (needed_part code_of CODE.now d)
    (λ code _. chained IsOtherError _ (needed_part text_of MESSAGE.now d)
    (λ message _. mapped IsOtherError (concern_error_with message) (built_code code) (built_code_well code))) error is

concern_error_well : (d : Data) (error : PlannedConcern) → concern_error_of d ≡ Some error → IsOtherError error
unfolding concern_error_of
concern_error_well d error is =
    where_so IsOtherError (has_only (CODE.now ∷ MESSAGE.now ∷ []) d) (concern_error_in d) (λ _. concern_error_in_well d) error is

serve_in_well : (d : Data) (found : Item) → serve_in d ≡ Some found → IsItem found
unfolding serve_in
serve_in_well d found is =
    chained IsItem _ (optional_part (list_of planned_of) RESULTS.now d)
    (λ results of_results. chained IsItem _ (optional_part (list_of failing_of) FAIL.now d)
    (λ fail of_fail. chained IsItem _ (optional_part concern_error_of WRITE_CONCERN_ERROR.now d)
    (λ concern of_concern. mapped IsItem (serve_with results fail concern) (optional_part count_of PAGE.now d)
    (λ page of_page. (
      list_optional IsPlan planned_of planned_well RESULTS.now d results of_results,
      list_optional IsOther failing_of failing_well FAIL.now d fail of_fail,
      optional_holds IsOtherError concern_error_of concern_error_well WRITE_CONCERN_ERROR.now d concern of_concern,
    ))))) found is

-- a served send of a script is one that may be scheduled
pub serve_well : (d : Data) (found : Item) → serve_of d ≡ Some found → IsItem found
unfolding serve_of
serve_well d found is =
    where_so IsItem (has_only (RESULTS.now ∷ FAIL.now ∷ WRITE_CONCERN_ERROR.now ∷ PAGE.now ∷ []) d) (serve_in d) (λ _. serve_in_well d) found is
