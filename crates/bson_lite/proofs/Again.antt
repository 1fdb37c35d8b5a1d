-- What is spelled is read again: the parts of values, and values that hold no others.
use Rattle.std.proofs.Common.{◌≡◌, ℕ, ℤ, pos, negsuc, ◌+◌, ◌-◌, ◌≤◌, ◌<◌, ◌^◌, Bool, true, false, ◌==◌, if◌then◌else◌, ltb, eqb, List, [], ◌∷◌, ◌++◌, length, Some, refl, ap, ◌∙◌, append_assoc, arith}
use Rattle.std.specs.Prelude.{decimal}
use Rattle.std.specs.Int.{w32, w64, cast_unsigned, cast_signed}
use Rattle.std.specs.List.{list_any, position_or_len}
use Rattle.std.specs.Str.{is_utf8}
use Rattle.std.proofs.lemmas.Bool.{ltb-true, le-ltb, lt-ltb, eqb-true, ne_eqb, or_parts, and_parts}
use Rattle.std.proofs.lemmas.Fmt.{IsAscii-decimal}
use Rattle.std.proofs.lemmas.Int.{to_z-of_z}
use Rattle.std.proofs.lemmas.List.{take_at, drop_at, length-append}
use Rattle.std.proofs.lemmas.Str.{is_utf8-from_IsUtf8, IsUtf8-from_ascii}
use mir.Val.{SFits}
use denote.Hole.Carrier.{roll}
use Rattle.bson_lite.specs.declared.bson.Bson as bson
use Rattle.bson_lite.specs.declared.bson.Bson.{Bson, map-Bson, roll-Bson}
use Rattle.bson_lite.specs.declared.bson.Bson.TheOpen.{Bson-F}
use Rattle.bson_lite.specs.Parts.{made, byte_at, number_at, zero_ended, text_at, binary_at, regex_at, stamp_at, flag_at, leaf_at, more_at, type_at, is_type, frame_at}
use Rattle.bson_lite.specs.Ranges.{fits}
use Rattle.bson_lite.specs.Spelling.{four, eight, counted, step, zero_step, valid_step, spelled, zero_within, valid, holds_zero}
use Rattle.bson_lite.proofs.Numbers.{some_again, four_again, eight_again}

-- ---- texts that end with a zero byte

zero_place : (text rest : List ℕ) → holds_zero text ≡ false → position_or_len (λ byte. byte == 0) (text ++ 0 ∷ rest) ≡ length text
zero_place [] rest e = refl
zero_place (byte ∷ text) rest e =
    let parts = or_parts (eqb byte 0) (list_any (λ b. eqb b 0) text) e in
    rw (parts.0, zero_place text rest parts.1) (omega arith)

pub zero_again : (text rest : List ℕ) → holds_zero text ≡ false → is_utf8 text ≡ true → zero_ended (text ++ 0 ∷ rest) ≡ Some (text, rest)
unfolding zero_ended
zero_again text rest z u =
    let inside : ltb (length text) (length (text ++ 0 ∷ rest)) ≡ true = lt-ltb (length text) (length (text ++ 0 ∷ rest)) (omega (arith, length-append text (0 ∷ rest))) in
    rw (zero_place text rest z, inside, take_at text (0 ∷ rest) (length text) refl, drop_at text (0 ∷ rest) (length text) refl, u) refl

-- ---- texts with their length

pub text_again : (head text rest : List ℕ) → head ≡ four (length text + 1) → is_utf8 text ≡ true → length text + 1 ≤ 2147483647 → text_at ((head ++ (text ++ 0 ∷ [])) ++ rest) ≡ Some (text, rest)
unfolding text_at byte_at
text_again head text rest e u short =
    let many : eqb (length text + 1) 0 ≡ false = ne_eqb (length text + 1) 0 (λ h. omega arith) in
    let few : ltb 2147483647 (length text + 1) ≡ false = le-ltb 2147483647 (length text + 1) short in
    let less : length text + 1 - 1 ≡ length text = omega arith in
    rw (append_assoc head (text ++ 0 ∷ []) rest, append_assoc text (0 ∷ []) rest, four_again head (text ++ 0 ∷ rest) (length text + 1) e (omega arith), many, few, less, some_again text (0 ∷ rest) (length text) refl, u) refl

pub binary_again : (head bytes rest : List ℕ) (subtype : ℕ) → head ≡ four (length bytes) → length bytes ≤ 2147483647 → binary_at ((head ++ subtype ∷ bytes) ++ rest) ≡ Some (record { subtype = subtype; bytes = bytes }, rest)
unfolding binary_at byte_at
binary_again head bytes rest subtype e short =
    let few : ltb 2147483647 (length bytes) ≡ false = le-ltb 2147483647 (length bytes) short in
    rw (append_assoc head (subtype ∷ bytes) rest, four_again head (subtype ∷ (bytes ++ rest)) (length bytes) e (omega arith), few, some_again bytes rest (length bytes) refl) refl

pub regex_again : (pattern options rest : List ℕ) → holds_zero pattern ≡ false → holds_zero options ≡ false → is_utf8 pattern ≡ true → is_utf8 options ≡ true
    → regex_at ((pattern ++ 0 ∷ (options ++ 0 ∷ [])) ++ rest) ≡ Some (record { pattern = pattern; options = options }, rest)
unfolding regex_at
regex_again pattern options rest p q u v =
    rw (append_assoc pattern (0 ∷ (options ++ 0 ∷ [])) rest, append_assoc options (0 ∷ []) rest, zero_again pattern (options ++ 0 ∷ rest) p u, zero_again options rest q v) refl

pub stamp_again : (first second rest : List ℕ) (increment time : ℕ) → first ≡ four increment → second ≡ four time → increment < 2 ^ 32 → time < 2 ^ 32
    → stamp_at ((first ++ second) ++ rest) ≡ Some (record { time = time; increment = increment }, rest)
unfolding stamp_at
stamp_again first second rest increment time e f i t =
    rw (append_assoc first second rest, four_again first (second ++ rest) increment e i, four_again second rest time f t) refl

-- ---- numbers with a sign

fits_32 : (z : ℤ) → fits 0x8000_0000 z ≡ true → SFits w32 z × (cast_unsigned w32 z < 2 ^ 32)
fits_32 (pos n) e = let lt : n < 2147483648 = ltb-true n 2147483648 e in (record { sfits = lt }, omega arith)
fits_32 (negsuc n) e = let lt : n < 2147483648 = ltb-true n 2147483648 e in (record { sfits = lt }, omega arith)

fits_64 : (z : ℤ) → fits 0x8000_0000_0000_0000 z ≡ true → SFits w64 z × (cast_unsigned w64 z < 2 ^ 64)
fits_64 (pos n) e = let lt : n < 0x8000_0000_0000_0000 = ltb-true n 0x8000_0000_0000_0000 e in (record { sfits = lt }, omega arith)
fits_64 (negsuc n) e = let lt : n < 0x8000_0000_0000_0000 = ltb-true n 0x8000_0000_0000_0000 e in (record { sfits = lt }, omega arith)

signed_32 : (make : ℤ → Bson) (z : ℤ) (rest : List ℕ) → fits 0x8000_0000 z ≡ true → made (λ n. make (cast_signed w32 n)) (number_at w32 (four (cast_unsigned w32 z) ++ rest)) ≡ Some (make z, rest)
signed_32 make z rest e =
    let f = fits_32 z e in
    ap (made (λ n. make (cast_signed w32 n))) (four_again (four (cast_unsigned w32 z)) rest (cast_unsigned w32 z) refl f.1)
    ∙ ap (λ (y : ℤ). Some (make y, rest)) (to_z-of_z w32 z f.0)

signed_64 : (make : ℤ → Bson) (z : ℤ) (rest : List ℕ) → fits 0x8000_0000_0000_0000 z ≡ true → made (λ n. make (cast_signed w64 n)) (number_at w64 (eight (cast_unsigned w64 z) ++ rest)) ≡ Some (make z, rest)
signed_64 make z rest e =
    let f = fits_64 z e in
    ap (made (λ n. make (cast_signed w64 n))) (eight_again (eight (cast_unsigned w64 z)) rest (cast_unsigned w64 z) refl f.1)
    ∙ ap (λ (y : ℤ). Some (make y, rest)) (to_z-of_z w64 z f.0)

flag_again : (flag : Bool) (rest : List ℕ) → flag_at ((if flag then 1 else 0) ∷ rest) ≡ Some (flag, rest)
unfolding flag_at byte_at
flag_again true rest = refl
flag_again false rest = refl

-- ---- values that hold no others

-- the layer is no document and no array
abbrev pub IsLeaf : Bson-F Bson → Type 0
IsLeaf (Bson-F.Document pairs) = ⊥
IsLeaf (Bson-F.Array values) = ⊥
IsLeaf _ = Unit {0}

-- the type byte and the bytes of a layer
abbrev pub laid : Bson-F Bson → ℕ × List ℕ
laid b = step (map-Bson Bson (ℕ × List ℕ) spelled b)

abbrev pub zero_laid : Bson-F Bson → Bool
zero_laid b = zero_step (map-Bson Bson Bool zero_within b)

abbrev pub valid_laid : Bson-F Bson → Bool
valid_laid b = valid_step (map-Bson Bson Bool valid b)

counted_short : (text : List ℕ) → length (counted text) ≤ 2147483647 → length text + 1 ≤ 2147483647
counted_short text h = omega (arith, length-append text (0 ∷ []))

pub leaf_again : (b : Bson-F Bson) (rest : List ℕ) → IsLeaf b → zero_laid b ≡ false → valid_laid b ≡ true → length (laid b).1 ≤ 2147483647
    → leaf_at (laid b).0 ((laid b).1 ++ rest) ≡ Some (roll-Bson b, rest)
unfolding leaf_at more_at roll-Bson roll
leaf_again (Bson-F.Double double) rest l z v s = ap (made bson.Double) (some_again double rest 8 (eqb-true (length double) 8 v))
leaf_again (Bson-F.String text) rest l z v s = ap (made bson.String) (text_again (four (length text + 1)) text rest refl v (counted_short text s))
leaf_again (Bson-F.Document pairs) rest l z v s = absurd l
leaf_again (Bson-F.Array values) rest l z v s = absurd l
leaf_again (Bson-F.Binary binary) rest l z v s = ap (made bson.Binary) (binary_again (four (length binary.bytes)) binary.bytes rest binary.subtype refl (omega arith))
leaf_again Bson-F.Undefined rest l z v s = refl
leaf_again (Bson-F.ObjectId id) rest l z v s = ap (made (λ bytes. bson.ObjectId (record { bytes = bytes }))) (some_again id.bytes rest 12 (eqb-true (length id.bytes) 12 v))
leaf_again (Bson-F.Boolean flag) rest l z v s = ap (made bson.Boolean) (flag_again flag rest)
leaf_again (Bson-F.DateTime millis) rest l z v s = signed_64 bson.DateTime millis rest v
leaf_again Bson-F.Null rest l z v s = refl
leaf_again (Bson-F.RegularExpression regex) rest l z v s =
    let free = or_parts (holds_zero regex.pattern) (holds_zero regex.options) z in
    let texts = and_parts (is_utf8 regex.pattern) (is_utf8 regex.options) v in
    ap (made bson.RegularExpression) (regex_again regex.pattern regex.options rest free.0 free.1 texts.0 texts.1)
leaf_again (Bson-F.JavaScriptCode code) rest l z v s = ap (made bson.JavaScriptCode) (text_again (four (length code + 1)) code rest refl v (counted_short code s))
leaf_again (Bson-F.Symbol symbol) rest l z v s = ap (made bson.Symbol) (text_again (four (length symbol + 1)) symbol rest refl v (counted_short symbol s))
leaf_again (Bson-F.Int32 number) rest l z v s = signed_32 bson.Int32 number rest v
leaf_again (Bson-F.Timestamp stamp) rest l z v s =
    let parts = and_parts (ltb stamp.time 4294967296) (ltb stamp.increment 4294967296) v in
    ap (made bson.Timestamp) (stamp_again (four stamp.increment) (four stamp.time) rest stamp.increment stamp.time refl refl (ltb-true stamp.increment 4294967296 parts.1) (ltb-true stamp.time 4294967296 parts.0))
leaf_again (Bson-F.Int64 number) rest l z v s = signed_64 bson.Int64 number rest v
leaf_again (Bson-F.Decimal128 decimal) rest l z v s = ap (made bson.Decimal128) (some_again decimal rest 16 (eqb-true (length decimal) 16 v))
leaf_again Bson-F.MinKey rest l z v s = refl
leaf_again Bson-F.MaxKey rest l z v s = refl

-- ---- the head of an element, and the frame of a document

pub type_again : (byte : ℕ) (rest : List ℕ) → is_type byte ≡ true → type_at (byte ∷ rest) ≡ Some (byte, rest)
unfolding type_at byte_at
type_again byte rest e = rw e refl

pub ascii_utf8 : (place : ℕ) → place < 2 ^ 64 → is_utf8 (decimal place) ≡ true
ascii_utf8 place h = is_utf8-from_IsUtf8 (decimal place) (IsUtf8-from_ascii (decimal place) (IsAscii-decimal place h))

pub frame_again : (head elements rest : List ℕ) → head ≡ four (length elements + 5) → length elements + 5 ≤ 2147483647
    → frame_at ((head ++ (elements ++ 0 ∷ [])) ++ rest) ≡ Some (record { elements = elements; last = 0 }, rest)
unfolding frame_at byte_at
frame_again head elements rest e short =
    let many : ltb (length elements + 5) 5 ≡ false = le-ltb (length elements + 5) 5 (omega arith) in
    let few : ltb 2147483647 (length elements + 5) ≡ false = le-ltb 2147483647 (length elements + 5) short in
    let less : length elements + 5 - 5 ≡ length elements = omega arith in
    rw (append_assoc head (elements ++ 0 ∷ []) rest, append_assoc elements (0 ∷ []) rest, four_again head (elements ++ 0 ∷ rest) (length elements + 5) e (omega arith), many, few, less, some_again elements (0 ∷ rest) (length elements) refl) refl
