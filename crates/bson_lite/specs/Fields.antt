-- The fields of a document by their keys.
use Rattle.std.specs.Prelude.{ℕ, Bool, false, ◌==◌, if◌then◌else◌, List, [], ◌∷◌, ◌++◌, codes, Option, Some, None, is_some, ℤ, pos, bytes_eq}
use Rattle.bson_lite.specs.declared.bson.Bson as bson
use Rattle.bson_lite.specs.declared.bson.Bson.{Bson, out-Bson}
use Rattle.bson_lite.specs.declared.bson.Bson.TheOpen.{Bson-F}
use Rattle.bson_lite.specs.declared.bson.ObjectId.{ObjectId}
use Rattle.bson_lite.specs.declared.document.Pair.{Pair}

-- the value of the first pair with this key
abbrev pub value_of : List ℕ → List (Pair Bson) → Option Bson
value_of key [] = None
value_of key (pair ∷ pairs) = if bytes_eq pair.key key then Some pair.value else value_of key pairs

-- the key of a document's id
abbrev pub id_key : List ℕ
id_key = codes "_id"

-- the document with this id as its first pair, unless it has an id
abbrev pub with_id : ObjectId → List (Pair Bson) → List (Pair Bson)
with_id id document = if is_some (value_of id_key document) then document else record { key = id_key; value = bson.ObjectId id } ∷ document

-- the element of an object id under the key of a document's id
abbrev pub id_element : ObjectId → List ℕ
id_element id = 7 ∷ (id_key ++ 0 ∷ id.bytes)

-- a key that names an operator begins with `$`
abbrev pub is_operator : List ℕ → Bool
is_operator [] = false
is_operator (byte ∷ bytes) = byte == 36

-- the first key names an operator
abbrev pub begins_with_operator : List (Pair Bson) → Bool
begins_with_operator [] = false
begins_with_operator (pair ∷ pairs) = is_operator pair.key

-- the double 1.0 and the double 0.0
abbrev pub one_double : List ℕ
one_double = 0 ∷ 0 ∷ 0 ∷ 0 ∷ 0 ∷ 0 ∷ 240 ∷ 63 ∷ []

abbrev pub zero_double : List ℕ
zero_double = 0 ∷ 0 ∷ 0 ∷ 0 ∷ 0 ∷ 0 ∷ 0 ∷ 0 ∷ []

-- the whole number that a double stands for, of 1.0 and 0.0 alone
abbrev pub int_of_double : List ℕ → Option ℤ
int_of_double double =
    if bytes_eq double one_double then Some (pos 1) else (
    if bytes_eq double zero_double then Some (pos 0) else None)

abbrev pub int_of_layer : {A : Type 0} → Bson-F A → Option ℤ
int_of_layer (Bson-F.Int32 number) = Some number
int_of_layer (Bson-F.Int64 number) = Some number
int_of_layer (Bson-F.Double double) = int_of_double double
int_of_layer _ = None

-- the whole number that a value stands for
abbrev pub int_of : Bson → Option ℤ
int_of value = int_of_layer (out-Bson value)
