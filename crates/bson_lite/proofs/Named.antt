-- A document once an object id was put before its pairs: what that adds to its spelling, and why it has none then.
use Rattle.std.proofs.Common.{◌≡◌, ℕ, suc, ◌+◌, ◌<◌, ◌≤◌, Bool, true, false, List, [], ◌∷◌, ◌++◌, map, length, refl, sym, ap, subst, ◌∙◌, arith, rules, length-append}
use Rattle.std.proofs.lemmas.Bool.{cond-false, cond-true}
use Rattle.std.proofs.lemmas.Bool.Decides.{nat_tests}
use Rattle.std.proofs.lemmas.List.{take_all}
use Rattle.std.specs.Prelude.{Option, None, Some, is_some, nat_lt, max, ◌&&◌, ◌||◌, ◌==◌, Result, Ok, Err, if◌then◌else◌}
use Rattle.std.specs.Str.{chars, is_utf8}
use lib.Utf8.{encode}
use Rattle.bson_lite.specs.declared.bson.Bson as bson
use Rattle.bson_lite.specs.declared.bson.Bson.{Bson}
use Rattle.bson_lite.specs.declared.bson.ObjectId.{ObjectId}
use Rattle.bson_lite.specs.declared.document.Pair.{Pair}
use Rattle.bson_lite.specs.declared.fault.EncodeFault.{EncodeFault}
use Rattle.bson_lite.specs.declared.fault.EncodeFault.TheVariants.{TooDeep, ZeroByte, TooLong, Memory}
use Rattle.bson_lite.specs.Fields.{id_element, id_key, value_of, with_id}
use Rattle.bson_lite.specs.Spelling.{Encodes, EncodesWithin, HasSpelling, Spells, body_of, deepest_pair, depth, element, framed, nesting, on_value, refusal_within, spelled, spelling, valid, valid_pairs, zero_in, zero_within}
use Rattle.bson_lite.specs.Writing.{Puts}

-- the pair of an id
abbrev pub id_pair : ObjectId → Pair Bson
id_pair id = record { key = id_key; value = bson.ObjectId id }

depth_of_id : (id : ObjectId) → depth (bson.ObjectId id) ≡ 0
depth_of_id id = search (rules, bson.the_lemmas)

zero_of_id : (id : ObjectId) → zero_within (bson.ObjectId id) ≡ false
zero_of_id id = search (rules, bson.the_lemmas)

spelled_id : (id : ObjectId) → spelled (bson.ObjectId id) ≡ (7, id.bytes)
spelled_id id = search (rules, bson.the_lemmas)

valid_id : (id : ObjectId) → valid (bson.ObjectId id) ≡ (length id.bytes == 12)
valid_id id = search (rules, bson.the_lemmas)

max_zero : (n : ℕ) → max 0 n ≡ n
max_zero n = omega arith

-- it nests as deep as before
pub nesting_named : (id : ObjectId) (document : List (Pair Bson)) → nesting (id_pair id ∷ document) ≡ nesting document
nesting_named id document =
    let rest = deepest_pair (map (on_value depth) document) in
    ap (λ n. suc (max n rest)) (depth_of_id id) ∙ ap suc (max_zero rest)

-- no zero byte more stands where none may
pub zero_named : (id : ObjectId) (document : List (Pair Bson)) → zero_in (id_pair id ∷ document) ≡ zero_in document
zero_named id document = ap (λ b. (false || b) || zero_in document) (zero_of_id id)

-- its values are in their ranges as before
-- its key is a text
utf8_id : is_utf8 id_key ≡ true
unfolding is_utf8 chars encode
utf8_id = refl

valid_named : (id : ObjectId) (document : List (Pair Bson)) → length id.bytes ≡ 12 → valid_pairs document ≡ true → valid_pairs (id_pair id ∷ document) ≡ true
valid_named id document twelve all =
    ap (λ (key : Bool). (key && valid (bson.ObjectId id)) && valid_pairs document) utf8_id ∙ ap (λ b. (true && b) && valid_pairs document) (valid_id id) ∙ ap (λ n. (true && (n == 12)) && valid_pairs document) twelve ∙ all

-- the elements of the id, and those behind it
pub body_named : (id : ObjectId) (document : List (Pair Bson)) → body_of (id_pair id ∷ document) ≡ id_element id ++ body_of document
body_named id document = ap (λ value. element id_key value ++ body_of document) (spelled_id id)

length_framed : (body : List ℕ) → length (framed body) ≡ length body + 5
length_framed body = omega (arith, length-append body (0 ∷ []))

length_element : (id : ObjectId) (body : List ℕ) → length id.bytes ≡ 12 → length (framed (id_element id ++ body)) ≡ length (framed body) + 17
length_element id body twelve =
    length_framed (id_element id ++ body) ∙ omega (arith, length-append (id_element id) body, twelve, length_framed body)

-- it is longer by the element of the id
pub length_named : (id : ObjectId) (document : List (Pair Bson)) → length id.bytes ≡ 12 → length (spelling (id_pair id ∷ document)) ≡ length (spelling document) + 17
length_named id document twelve =
    ap (λ (body : List ℕ). length (framed body)) (body_named id document) ∙ length_element id (body_of document) twelve

-- a document without an id gets one in front
pub with_none : (id : ObjectId) (document : List (Pair Bson)) → is_some (value_of id_key document) ≡ false → with_id id document ≡ id_pair id ∷ document
with_none id document none = cond-false (is_some (value_of id_key document)) document (id_pair id ∷ document) none

-- one that has an id stays as it is
pub kept_with : (id : ObjectId) (document : List (Pair Bson)) (value : Bson) → ◌≡◌ {A = Option Bson} (Some value) (value_of id_key document) → with_id id document ≡ document
kept_with id document value found = cond-true (is_some (value_of id_key document)) document (id_pair id ∷ document) (ap is_some (sym found))

pub encodes_kept : (levels : ℕ) (id : ObjectId) (document : List (Pair Bson)) (value : Bson) (result : Result (List ℕ) EncodeFault) → ◌≡◌ {A = Option Bson} (Some value) (value_of id_key document)
    → EncodesWithin levels document result → EncodesWithin levels (with_id id document) result
encodes_kept levels id document value result found encodes =
    subst (λ (kept : List (Pair Bson)). EncodesWithin levels kept result) (sym (kept_with id document value found)) encodes

-- what is answered of a hundred levels is what `encode` answers
pub of_hundred : (document : List (Pair Bson)) (result : Result (List ℕ) EncodeFault) → EncodesWithin 100 document result → Encodes document result
of_hundred document (Ok bytes) encodes = encodes
of_hundred document (Err TooDeep) encodes = encodes
of_hundred document (Err ZeroByte) encodes = encodes
of_hundred document (Err TooLong) encodes = encodes
of_hundred document (Err Memory) encodes = encodes

-- a refusal by the tests of depth, zero bytes and length
abbrev pub by_tests : Bool → Bool → Bool → Option EncodeFault
by_tests deep zero long = if deep then Some TooDeep else (if zero then Some ZeroByte else (if long then Some TooLong else None))

-- with an id a document is judged as without one, but for its length
pub refusal_named : (levels : ℕ) (id : ObjectId) (document : List (Pair Bson)) → length id.bytes ≡ 12
    → refusal_within levels (id_pair id ∷ document) ≡ by_tests (nat_lt levels (nesting document)) (zero_in document) (nat_lt 2147483647 (length (spelling document) + 17))
refusal_named levels id document twelve =
    ap (λ n. by_tests (nat_lt levels n) (zero_in (id_pair id ∷ document)) (nat_lt 2147483647 (length (spelling (id_pair id ∷ document))))) (nesting_named id document)
    ∙ ap (λ b. by_tests (nat_lt levels (nesting document)) b (nat_lt 2147483647 (length (spelling (id_pair id ∷ document))))) (zero_named id document)
    ∙ ap (λ n. by_tests (nat_lt levels (nesting document)) (zero_in document) (nat_lt 2147483647 n)) (length_named id document twelve)

lt_longer : (long : ℕ) → nat_lt 2147483647 long ≡ true → nat_lt 2147483647 (long + 17) ≡ true
lt_longer long is = grind (arith, nat_tests)

longer_tests : (deep zero : Bool) (long : ℕ) (fault : EncodeFault) (b : Bool) → nat_lt 2147483647 long ≡ b → by_tests deep zero b ≡ Some fault
    → by_tests deep zero (nat_lt 2147483647 (long + 17)) ≡ Some fault
longer_tests true zero long fault b at is = is
longer_tests false true long fault b at is = is
longer_tests false false long fault true at is = ap (λ (test : Bool). by_tests false false test) (lt_longer long at) ∙ is
longer_tests false false long fault false at is = absurd (let e : ◌≡◌ {A = Option EncodeFault} None (Some fault) = is in cc)

-- one that is refused without an id is refused with one
pub refused_named : (levels : ℕ) (id : ObjectId) (document : List (Pair Bson)) (fault : EncodeFault) → length id.bytes ≡ 12 → refusal_within levels document ≡ Some fault
    → refusal_within levels (id_pair id ∷ document) ≡ Some fault
refused_named levels id document fault twelve is =
    refusal_named levels id document twelve
    ∙ longer_tests (nat_lt levels (nesting document)) (zero_in document) (length (spelling document)) fault (nat_lt 2147483647 (length (spelling document))) refl is

pub none_found : (document : List (Pair Bson)) → ◌≡◌ {A = Option Bson} (value_of id_key document) None → is_some (value_of id_key document) ≡ false
none_found document none = ap (λ (found : Option Bson). is_some found) none

refused_with : (levels : ℕ) (id : ObjectId) (document : List (Pair Bson)) (fault : EncodeFault) → ◌≡◌ {A = Option Bson} (value_of id_key document) None → length id.bytes ≡ 12
    → refusal_within levels document ≡ Some fault → refusal_within levels (with_id id document) ≡ Some fault
refused_with levels id document fault none twelve is =
    ap (refusal_within levels) (with_none id document (none_found document none)) ∙ refused_named levels id document fault twelve is

-- and that is what is answered
pub fails_named : (levels : ℕ) (id : ObjectId) (document : List (Pair Bson)) (fault : EncodeFault) → ◌≡◌ {A = Option Bson} (value_of id_key document) None → length id.bytes ≡ 12
    → refusal_within levels document ≡ Some fault → EncodesWithin levels (with_id id document) (Err fault)
fails_named levels id document TooDeep none twelve is = refused_with levels id document TooDeep none twelve is
fails_named levels id document ZeroByte none twelve is = refused_with levels id document ZeroByte none twelve is
fails_named levels id document TooLong none twelve is = refused_with levels id document TooLong none twelve is
fails_named levels id document Memory none twelve is = tt

long_test : (long : ℕ) → 2147483630 < long → nat_lt 2147483647 (long + 17) ≡ true
long_test long more = grind (arith, nat_tests)

fits_test : (long : ℕ) → long ≤ 2147483630 → nat_lt 2147483647 (long + 17) ≡ false
fits_test long fits = grind (arith, nat_tests)

-- what is not refused nests no deeper, and no zero byte stands where none may
pub tests_of_none : (deep zero long : Bool) → by_tests deep zero long ≡ None → (deep ≡ false) × (zero ≡ false)
tests_of_none true zero long is = absurd (let e : ◌≡◌ {A = Option EncodeFault} (Some TooDeep) None = is in cc)
tests_of_none false true long is = absurd (let e : ◌≡◌ {A = Option EncodeFault} (Some ZeroByte) None = is in cc)
tests_of_none false false long is = (refl, refl)

-- the refusal of one that is not refused without an id is by its length with the id
by_length : (levels : ℕ) (id : ObjectId) (document : List (Pair Bson)) (long : Bool) → ◌≡◌ {A = Option Bson} (value_of id_key document) None → length id.bytes ≡ 12
    → refusal_within levels document ≡ None → nat_lt 2147483647 (length (spelling document) + 17) ≡ long → refusal_within levels (with_id id document) ≡ by_tests false false long
by_length levels id document long none twelve taken at =
    let tests = tests_of_none (nat_lt levels (nesting document)) (zero_in document) (nat_lt 2147483647 (length (spelling document))) taken in
    ap (refusal_within levels) (with_none id document (none_found document none)) ∙ refusal_named levels id document twelve
    ∙ ap (λ (deep : Bool). by_tests deep (zero_in document) (nat_lt 2147483647 (length (spelling document) + 17))) tests.0
    ∙ ap (λ (zero : Bool). by_tests false zero (nat_lt 2147483647 (length (spelling document) + 17))) tests.1
    ∙ ap (λ (b : Bool). by_tests false false b) at

-- one that is too long with an id
pub too_long_named : (levels : ℕ) (id : ObjectId) (document : List (Pair Bson)) → ◌≡◌ {A = Option Bson} (value_of id_key document) None → length id.bytes ≡ 12
    → refusal_within levels document ≡ None → 2147483630 < length (spelling document) → EncodesWithin levels (with_id id document) (Err TooLong)
too_long_named levels id document none twelve taken more = by_length levels id document true none twelve taken (long_test (length (spelling document)) more)

-- one that is not has a spelling
has_named : (id : ObjectId) (document : List (Pair Bson)) → length id.bytes ≡ 12 → HasSpelling document → length (spelling document) ≤ 2147483630 → HasSpelling (id_pair id ∷ document)
has_named id document twelve has fits =
    let n : nesting (id_pair id ∷ document) ≡ nesting document = nesting_named id document in
    let l : length (spelling (id_pair id ∷ document)) ≡ length (spelling document) + 17 = length_named id document twelve in
    record {
      nests = subst (λ (deep : ℕ). deep ≤ 100) (sym n) has.nests;
      zero_free = zero_named id document ∙ has.zero_free;
      well_formed = valid_named id document twelve has.well_formed;
      short = subst (λ (long : ℕ). long ≤ 2147483647) (sym l) (omega (arith, fits));
    }

-- there is room for it in so many bytes
pub room_named : (id : ObjectId) (document : List (Pair Bson)) (bytes : List ℕ) → length id.bytes ≡ 12 → length bytes ≡ length (spelling document) + 17
    → 0 + length (framed (id_element id ++ body_of document)) ≤ length bytes
room_named id document bytes twelve size = omega (arith, size, length_element id (body_of document) twelve)

-- which it fills
pub spells_named : (levels : ℕ) (id : ObjectId) (document : List (Pair Bson)) (old new : List ℕ) (end : ℕ) → ◌≡◌ {A = Option Bson} (value_of id_key document) None → length id.bytes ≡ 12
    → refusal_within levels document ≡ None → HasSpelling document → length (spelling document) ≤ 2147483630 → length old ≡ length (spelling document) + 17
    → Puts (framed (id_element id ++ body_of document)) 0 old new end → EncodesWithin levels (with_id id document) (Ok new)
spells_named levels id document old new end none twelve taken has fits size puts =
    let whole : length new ≤ end = omega (arith, puts.0, puts.2, size, length_element id (body_of document) twelve) in
    let is : new ≡ framed (id_element id ++ body_of document) = sym (take_all end new whole) ∙ puts.1 in
    let spells : Spells (id_pair id ∷ document) new = record {
      has = has_named id document twelve has fits;
      is = is ∙ ap framed (sym (body_named id document));
    } in (
      by_length levels id document false none twelve taken (fits_test (length (spelling document)) fits),
      subst (λ (named : List (Pair Bson)). Spells named new) (sym (with_none id document (none_found document none))) spells,
    )
