-- How long the body of an insert's command without a comment is, and that it is short where the name of its collection is.
use Rattle.std.proofs.Common.{◌≡◌, ℕ, ◌+◌, ◌≤◌, Bool, true, false, List, [], ◌∷◌, ◌++◌, length, length-append, nat_lt, refl, sym, ap, ◌∙◌, arith}
use Rattle.std.specs.Prelude.{Option, None, Some, if◌then◌else◌}
use Rattle.std.proofs.lemmas.Bool.Decides.{nat_tests}
use denote.Hole.Carrier.{roll}
use Rattle.bson_lite.specs.declared.bson.Bson as bson
use Rattle.bson_lite.specs.declared.bson.Bson.{Bson}
use Rattle.bson_lite.specs.declared.bson.Bson.TheOpen.{Bson-F}
use Rattle.bson_lite.specs.declared.document.Pair.{Pair}
use Rattle.bson_lite.specs.declared.fault.EncodeFault.TheVariants.{TooLong}
use Rattle.bson_lite.specs.declared.namespace.Namespace.{Namespace}
use Rattle.bson_lite.specs.Spelling.{counted, element, four, framed, spelled, spelling}
use Rattle.bson_lite.proofs.Nested.{folded}
use Rattle.driver_options.specs.declared.write_options.InsertManyOptions.{InsertManyOptions}
use Rattle.wire_keys.specs.declared.keys.TheConstants.{INSERT, ORDERED}
use Rattle.driver_link.specs.Numbers.{field}
use Rattle.driver_ops.specs.declared.keys.TheConstants.{BYPASS_DOCUMENT_VALIDATION, COMMENT}
use Rattle.driver_ops.specs.Inserts.{insert_command, insert_is_ordered}
use Rattle.driver_ops.specs.OptionFields.{flag_of, option_field}
use Rattle.driver_inputs.specs.Faults.{length_fault}

-- a text as a value
text_spelled : (text : List ℕ) → spelled (bson.String text) ≡ (2, counted text)
unfolding bson.roll-Bson roll
text_spelled text = (folded (Bson-F.String text)).spells

-- a flag as a value
flag_spelled : (flag : Bool) → spelled (bson.Boolean flag) ≡ (8, (if flag then 1 else 0) ∷ [])
unfolding bson.roll-Bson roll
flag_spelled flag = (folded (Bson-F.Boolean flag)).spells

-- a document in bytes is five longer than its elements
framed_length : (parts : List ℕ) → length (framed parts) ≡ length parts + 5
framed_length parts = omega (arith, length-append (four (length parts + 5)) (parts ++ 0 ∷ []), length-append parts (0 ∷ []))

-- an element is longer than its value by its key and two bytes
element_length : (key : List ℕ) (form : ℕ) (value rest : List ℕ) → length (element key (form, value) ++ rest) ≡ length key + 2 + length value + length rest
element_length key form value rest = omega (arith, length-append (element key (form, value)) rest, length-append key (0 ∷ value))

-- a text in bytes is five longer
counted_length : (text : List ℕ) → length (counted text) ≡ length text + 5
counted_length text = omega (arith, length-append (four (length text + 1)) (text ++ 0 ∷ []), length-append text (0 ∷ []))

-- the body by its parts
abbrev body_parts : List ℕ → Option Bool → Bool → Option Bson → List (Pair Bson)
body_parts coll bypass ordered comment =
    (((field INSERT.now (bson.String coll) ∷ [])
    ++ option_field BYPASS_DOCUMENT_VALIDATION.now (flag_of bypass))
    ++ field ORDERED.now (bson.Boolean ordered) ∷ [])
    ++ option_field COMMENT.now comment

-- its length without a comment, by whether it says to bypass validation
plain_length : (coll : List ℕ) (ordered : Bool) → length (spelling (body_parts coll None ordered None)) ≡ length coll + 28
plain_length coll ordered =
    let first : length INSERT.now ≡ 6 = refl in
    let last : length ORDERED.now ≡ 7 = refl in
    let flag : List ℕ = (if ordered then 1 else 0) ∷ [] in
    let one : length flag ≡ 1 = refl in
    let rest : List ℕ = element ORDERED.now (8, flag) ++ [] in
    ap (λ (value : ℕ × List ℕ). length (framed (element INSERT.now value ++ (element ORDERED.now (spelled (bson.Boolean ordered)) ++ [])))) (text_spelled coll)
    ∙ ap (λ (value : ℕ × List ℕ). length (framed (element INSERT.now (2, counted coll) ++ (element ORDERED.now value ++ [])))) (flag_spelled ordered)
    ∙ omega (arith, first, last, one, framed_length (element INSERT.now (2, counted coll) ++ rest), element_length INSERT.now 2 (counted coll) rest, element_length ORDERED.now 8 flag [], counted_length coll)

bypassing_length : (coll : List ℕ) (bypass ordered : Bool) → length (spelling (body_parts coll (Some bypass) ordered None)) ≡ length coll + 55
bypassing_length coll bypass ordered =
    let first : length INSERT.now ≡ 6 = refl in
    let second : length BYPASS_DOCUMENT_VALIDATION.now ≡ 24 = refl in
    let last : length ORDERED.now ≡ 7 = refl in
    let told : List ℕ = (if bypass then 1 else 0) ∷ [] in
    let flag : List ℕ = (if ordered then 1 else 0) ∷ [] in
    let one : length flag ≡ 1 = refl in
    let other : length told ≡ 1 = refl in
    let rest : List ℕ = element ORDERED.now (8, flag) ++ [] in
    let more : List ℕ = element BYPASS_DOCUMENT_VALIDATION.now (8, told) ++ rest in
    ap (λ (value : ℕ × List ℕ). length (framed (element INSERT.now value ++ (element BYPASS_DOCUMENT_VALIDATION.now (spelled (bson.Boolean bypass)) ++ (element ORDERED.now (spelled (bson.Boolean ordered)) ++ []))))) (text_spelled coll)
    ∙ ap (λ (value : ℕ × List ℕ). length (framed (element INSERT.now (2, counted coll) ++ (element BYPASS_DOCUMENT_VALIDATION.now value ++ (element ORDERED.now (spelled (bson.Boolean ordered)) ++ []))))) (flag_spelled bypass)
    ∙ ap (λ (value : ℕ × List ℕ). length (framed (element INSERT.now (2, counted coll) ++ (element BYPASS_DOCUMENT_VALIDATION.now (8, told) ++ (element ORDERED.now value ++ []))))) (flag_spelled ordered)
    ∙ omega (arith, first, second, last, one, other, framed_length (element INSERT.now (2, counted coll) ++ more), element_length INSERT.now 2 (counted coll) more, element_length BYPASS_DOCUMENT_VALIDATION.now 8 told rest, element_length ORDERED.now 8 flag [], counted_length coll)

-- beside a short name that is no great length
within : (long name more : ℕ) → long ≡ name + more → more ≤ 55 → nat_lt name 1000000 ≡ true → nat_lt 2147483647 long ≡ false
within long name more is few short = grind (arith, nat_tests)

short_parts : (coll : List ℕ) (bypass : Option Bool) (ordered : Bool) → nat_lt (length coll) 1000000 ≡ true → None ≡ length_fault (body_parts coll bypass ordered None)
short_parts coll None ordered short =
    sym (ap (λ (long : Bool). if long then Some TooLong else None) (within (length (spelling (body_parts coll None ordered None))) (length coll) 28 (plain_length coll ordered) (omega arith) short))
short_parts coll (Some bypass) ordered short =
    sym (ap (λ (long : Bool). if long then Some TooLong else None) (within (length (spelling (body_parts coll (Some bypass) ordered None))) (length coll) 55 (bypassing_length coll bypass ordered) (omega arith) short))

pub short_body : (namespace : Namespace) (options : InsertManyOptions) → options.comment ≡ None → nat_lt (length namespace.coll) 1000000 ≡ true
    → None ≡ length_fault (insert_command namespace options)
unfolding insert_command
short_body namespace options none short =
    short_parts namespace.coll options.bypass_document_validation (insert_is_ordered options) short
    ∙ ap (λ (comment : Option Bson). length_fault (body_parts namespace.coll options.bypass_document_validation (insert_is_ordered options) comment)) (sym none)
