-- The one spelling of a document in bytes, and which documents have one: the layout of BSON 1.1, whose
-- productions stand in brackets beside the definitions.
use Rattle.std.specs.Prelude.{◌≡◌, ℕ, suc, ◌+◌, ◌≤◌, max, Bool, true, false, ◌&&◌, ◌||◌, nat_lt, ◌==◌, if◌then◌else◌, List, [], ◌∷◌, ◌++◌, map, length, decimal, Option, Some, None, Result, Ok, Err}
use Rattle.std.specs.Int.{w32, w64, to_le_bytes, cast_unsigned}
use Rattle.std.specs.List.{list_any}
use Rattle.std.specs.Str.{is_utf8}
use Rattle.bson_lite.specs.declared.bson.Bson.{Bson, fold-Bson}
use Rattle.bson_lite.specs.declared.bson.Bson.TheOpen.{Bson-F}
use Rattle.bson_lite.specs.declared.document.Pair.{Pair}
use Rattle.bson_lite.specs.declared.fault.EncodeFault.{EncodeFault}
use Rattle.bson_lite.specs.declared.fault.EncodeFault.TheVariants.{TooDeep, ZeroByte, TooLong, Memory}
use Rattle.bson_lite.specs.Ranges.{fits}

-- a number of 32 bits, the low byte first (int32)
abbrev pub four : ℕ → List ℕ
four n = to_le_bytes w32 n

-- the same of 64 bits (int64)
abbrev pub eight : ℕ → List ℕ
eight n = to_le_bytes w64 n

-- a text with its length before it: the length counts the zero byte that ends it (string)
abbrev pub counted : List ℕ → List ℕ
counted text = four (length text + 1) ++ (text ++ 0 ∷ [])

-- a document's elements between its length, which counts itself too, and the zero byte that ends it (document)
abbrev pub framed : List ℕ → List ℕ
framed elements = four (length elements + 5) ++ (elements ++ 0 ∷ [])

-- an element: the type byte, the key with a zero byte at its end, the value (element, e_name, cstring)
abbrev pub element : List ℕ → ℕ × List ℕ → List ℕ
element key value = value.0 ∷ (key ++ 0 ∷ value.1)

-- a pair with its value changed
abbrev pub on_value : {A B : Type 0} → (A → B) → Pair A → Pair B
on_value f pair = record { key = pair.key; value = f pair.value }

-- the elements of a document, whose values are spelled already (e_list)
abbrev pub elements : List (Pair (ℕ × List ℕ)) → List ℕ
elements [] = []
elements (pair ∷ pairs) = element pair.key pair.value ++ elements pairs

-- the elements of an array, whose keys are its places in decimal
abbrev pub numbered : ℕ → List (ℕ × List ℕ) → List ℕ
numbered place [] = []
numbered place (value ∷ values) = element (decimal place) value ++ numbered (place + 1) values

-- the type byte and the bytes of a value, from those of the values in it (the alternatives of element;
-- binary and subtype at Binary, two cstrings at RegularExpression)
abbrev pub step : Bson-F (ℕ × List ℕ) → ℕ × List ℕ
step (Bson-F.Double double) = (1, double)
step (Bson-F.String text) = (2, counted text)
step (Bson-F.Document pairs) = (3, framed (elements pairs))
step (Bson-F.Array values) = (4, framed (numbered 0 values))
step (Bson-F.Binary binary) = (5, four (length binary.bytes) ++ binary.subtype ∷ binary.bytes)
step Bson-F.Undefined = (6, [])
step (Bson-F.ObjectId id) = (7, id.bytes)
step (Bson-F.Boolean flag) = (8, (if flag then 1 else 0) ∷ [])
step (Bson-F.DateTime millis) = (9, eight (cast_unsigned w64 millis))
step Bson-F.Null = (10, [])
step (Bson-F.RegularExpression regex) = (11, regex.pattern ++ 0 ∷ (regex.options ++ 0 ∷ []))
step (Bson-F.JavaScriptCode code) = (13, counted code)
step (Bson-F.Symbol symbol) = (14, counted symbol)
step (Bson-F.Int32 number) = (16, four (cast_unsigned w32 number))
step (Bson-F.Timestamp stamp) = (17, four stamp.increment ++ four stamp.time)
step (Bson-F.Int64 number) = (18, eight (cast_unsigned w64 number))
step (Bson-F.Decimal128 decimal) = (19, decimal)
step Bson-F.MinKey = (255, [])
step Bson-F.MaxKey = (127, [])

-- the type byte and the bytes of a value
abbrev pub spelled : Bson → ℕ × List ℕ
spelled = fold-Bson (ℕ × List ℕ) step

-- the elements of a document
abbrev pub body_of : List (Pair Bson) → List ℕ
body_of pairs = elements (map (on_value spelled) pairs)

-- the bytes of a document
abbrev pub spelling : List (Pair Bson) → List ℕ
spelling pairs = framed (body_of pairs)

-- the greatest of the values' depths
abbrev pub deepest_pair : List (Pair ℕ) → ℕ
deepest_pair [] = 0
deepest_pair (pair ∷ pairs) = max pair.value (deepest_pair pairs)

abbrev pub deepest : List ℕ → ℕ
deepest [] = 0
deepest (depth ∷ depths) = max depth (deepest depths)

-- how deep documents and arrays nest in a value
abbrev pub depth_step : Bson-F ℕ → ℕ
depth_step (Bson-F.Document pairs) = suc (deepest_pair pairs)
depth_step (Bson-F.Array values) = suc (deepest values)
depth_step _ = 0

abbrev pub depth : Bson → ℕ
depth = fold-Bson ℕ depth_step

-- how deep documents and arrays nest, the document itself counting 1
abbrev pub nesting : List (Pair Bson) → ℕ
nesting pairs = suc (deepest_pair (map (on_value depth) pairs))

-- a text holds a zero byte
abbrev pub holds_zero : List ℕ → Bool
holds_zero text = list_any (λ byte. byte == 0) text

-- a key holds a zero byte, or a value does where it may not
abbrev pub zero_in_pairs : List (Pair Bool) → Bool
zero_in_pairs [] = false
zero_in_pairs (pair ∷ pairs) = (holds_zero pair.key || pair.value) || zero_in_pairs pairs

abbrev pub zero_in_values : List Bool → Bool
zero_in_values [] = false
zero_in_values (value ∷ values) = value || zero_in_values values

-- a key in a value, or a text of a regular expression, holds a zero byte
abbrev pub zero_step : Bson-F Bool → Bool
zero_step (Bson-F.Document pairs) = zero_in_pairs pairs
zero_step (Bson-F.Array values) = zero_in_values values
zero_step (Bson-F.RegularExpression regex) = holds_zero regex.pattern || holds_zero regex.options
zero_step _ = false

abbrev pub zero_within : Bson → Bool
zero_within = fold-Bson Bool zero_step

-- a key or a text of a regular expression holds a zero byte
abbrev pub zero_in : List (Pair Bson) → Bool
zero_in pairs = zero_in_pairs (map (on_value zero_within) pairs)

-- keys are UTF-8, and the values are in their types' ranges
abbrev pub valid_elements : List (Pair Bool) → Bool
valid_elements [] = true
valid_elements (pair ∷ pairs) = (is_utf8 pair.key && pair.value) && valid_elements pairs

abbrev pub valid_values : List Bool → Bool
valid_values [] = true
valid_values (value ∷ values) = value && valid_values values

-- what the types say of every value that a program holds: texts are UTF-8, numbers are in range
abbrev pub valid_step : Bson-F Bool → Bool
valid_step (Bson-F.Double double) = length double == 8
valid_step (Bson-F.String text) = is_utf8 text
valid_step (Bson-F.Document pairs) = valid_elements pairs
valid_step (Bson-F.Array values) = valid_values values
valid_step (Bson-F.ObjectId id) = length id.bytes == 12
valid_step (Bson-F.DateTime millis) = fits 0x8000_0000_0000_0000 millis
valid_step (Bson-F.RegularExpression regex) = is_utf8 regex.pattern && is_utf8 regex.options
valid_step (Bson-F.JavaScriptCode code) = is_utf8 code
valid_step (Bson-F.Symbol symbol) = is_utf8 symbol
valid_step (Bson-F.Int32 number) = fits 0x8000_0000 number
valid_step (Bson-F.Timestamp stamp) = nat_lt stamp.time 4294967296 && nat_lt stamp.increment 4294967296
valid_step (Bson-F.Int64 number) = fits 0x8000_0000_0000_0000 number
valid_step (Bson-F.Decimal128 decimal) = length decimal == 16
valid_step _ = true

abbrev pub valid : Bson → Bool
valid = fold-Bson Bool valid_step

-- every key and value of a document is one that a program can hold
abbrev pub valid_pairs : List (Pair Bson) → Bool
valid_pairs pairs = valid_elements (map (on_value valid) pairs)

-- a document that has a spelling
pub record HasSpelling (document : List (Pair Bson)) : Type 0 where
  pub nests : nesting document ≤ 100
  pub zero_free : zero_in document ≡ false
  pub well_formed : valid_pairs document ≡ true
  pub short : length (spelling document) ≤ 2147483647

-- the bytes are the spelling of the document
pub record Spells (document : List (Pair Bson)) (bytes : List ℕ) : Type 0 where
  pub has : HasSpelling document
  pub is : bytes ≡ spelling document

-- why a document that may nest so many levels deep is refused, tested in this order
abbrev pub refusal_within : ℕ → List (Pair Bson) → Option EncodeFault
refusal_within levels document =
    if nat_lt levels (nesting document) then Some TooDeep else (
    if zero_in document then Some ZeroByte else (
    if nat_lt 2147483647 (length (spelling document)) then Some TooLong else None))

-- why a document has no spelling
abbrev pub refusal : List (Pair Bson) → Option EncodeFault
refusal document = refusal_within 100 document

-- what may be answered where a document may nest so many levels deep
abbrev pub EncodesWithin : ℕ → List (Pair Bson) → Result (List ℕ) EncodeFault → Type 0
EncodesWithin levels document (Ok bytes) = (refusal_within levels document ≡ None) × Spells document bytes
EncodesWithin levels document (Err TooDeep) = refusal_within levels document ≡ Some TooDeep
EncodesWithin levels document (Err ZeroByte) = refusal_within levels document ≡ Some ZeroByte
EncodesWithin levels document (Err TooLong) = refusal_within levels document ≡ Some TooLong
EncodesWithin levels document (Err Memory) = Unit {0}

-- what `encode` may answer
abbrev pub Encodes : List (Pair Bson) → Result (List ℕ) EncodeFault → Type 0
Encodes document (Ok bytes) = (refusal document ≡ None) × Spells document bytes
Encodes document (Err TooDeep) = refusal document ≡ Some TooDeep
Encodes document (Err ZeroByte) = refusal document ≡ Some ZeroByte
Encodes document (Err TooLong) = refusal document ≡ Some TooLong
Encodes document (Err Memory) = Unit {0}
