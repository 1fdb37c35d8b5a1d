-- How a script writes texts, namespaces, values and documents.
use Rattle.std.specs.Prelude.{ℕ, ◌^◌, if◌then◌else◌, ℤ, List, [], ◌∷◌, Option, None, Some, nat_lt, is_some, bytes_eq}
use Rattle.std.specs.Option.{option_and_then, option_map}
use Rattle.std.specs.Result.{result_ok}
use Rattle.bson_lite.specs.declared.bson.Bson as bson
use Rattle.bson_lite.specs.declared.bson.Bson.{Bson}
use Rattle.bson_lite.specs.declared.bson.Timestamp.{Timestamp}
use Rattle.bson_lite.specs.declared.document.Pair.{Pair}
use Rattle.bson_lite.specs.declared.namespace.Namespace.{Namespace}
use Rattle.bson_lite.specs.Ranges.{fits}
use Rattle.driver_link.specs.Writes.{cut}
use Rattle.script_parts.specs.declared.keys.TheConstants.{ARRAY, BYTES, DATE, DOC, DOUBLE, INT64, OID, TS}
use Rattle.hex.specs.Hex.{decode_of, decode_sized}
use Rattle.serde_json.specs.Data.{Data, null, boolean, number, string, array, object, Items, no_items, item, no_members, member}
use Rattle.serde_json.specs.Find.{at, as_i64, as_u64}

-- a text
unfoldable pub text_of : Data → Option (List ℕ)
text_of (string text) = Some text
text_of d = None

-- the thing at a place of a list
unfoldable pub item_of : {A : Type 0} → (Data → Option A) → ℕ → Data → Option A
item_of form place d = option_and_then form (at place d)

-- a list of a database and a collection, and no more
unfoldable pub two_texts : Data → Option Namespace
two_texts d =
    if is_some (at 2 d) then None else
    option_and_then (λ db. option_map (λ coll. record { db = db; coll = coll }) (item_of text_of 1 d)) (item_of text_of 0 d)

-- a namespace: a text that is cut at its first dot, or two texts
unfoldable pub namespace_of : Data → Option Namespace
namespace_of (string text) = cut text
namespace_of (array items) = two_texts (array items)
namespace_of d = None

-- a whole number as a value: an Int32 where it fits, else an Int64
unfoldable pub whole_number : ℤ → Bson
whole_number z = if fits (2 ^ 31) z then bson.Int32 z else bson.Int64 z

-- a whole number of 64 bits with a sign
unfoldable pub whole_of : Data → Option ℤ
whole_of (number n) = as_i64 n
whole_of d = None

-- a number of 32 bits without a sign
unfoldable pub small_of : Data → Option ℕ
small_of (number n) = option_and_then (λ small. if nat_lt small (2 ^ 32) then Some small else None) (as_u64 n)
small_of d = None

-- a whole number of 64 bits without a sign
unfoldable pub count_of : Data → Option ℕ
count_of (number n) = as_u64 n
count_of d = None

-- a code: a whole number of 32 bits with a sign
unfoldable pub code_of : Data → Option ℤ
code_of (number n) = option_and_then (λ code. if fits (2 ^ 31) code then Some code else None) (as_i64 n)
code_of d = None

-- a list of a time and an increment, and no more
unfoldable pub stamp_of : Data → Option Timestamp
stamp_of d =
    if is_some (at 2 d) then None else
    option_and_then (λ time. option_map (λ increment. record { time = time; increment = increment }) (item_of small_of 1 d)) (item_of small_of 0 d)

-- so many bytes, two hexadecimal digits of either case for each
unfoldable pub sized_of : ℕ → Data → Option (List ℕ)
sized_of count (string text) = result_ok (decode_sized text count)
sized_of count d = None

-- bytes of any number, written so
unfoldable pub bytes_of : Data → Option (List ℕ)
bytes_of (string text) = result_ok (decode_of text)
bytes_of d = None

-- a value that holds no other, under a key that says what it is
unfoldable pub tagged_leaf : List ℕ → Data → Option Bson
tagged_leaf key d =
    if bytes_eq key INT64.now then option_map bson.Int64 (whole_of d) else (
    if bytes_eq key DATE.now then option_map bson.DateTime (whole_of d) else (
    if bytes_eq key TS.now then option_map bson.Timestamp (stamp_of d) else (
    if bytes_eq key OID.now then option_map (λ id. bson.ObjectId (record { bytes = id })) (sized_of 12 d) else (
    if bytes_eq key DOUBLE.now then option_map bson.Double (sized_of 8 d) else (
    if bytes_eq key BYTES.now then option_map (λ bytes. bson.Binary (record { subtype = 0; bytes = bytes })) (bytes_of d) else None)))))

-- the value under a key that says what it is, where what stands there is also read as a document and as an array
unfoldable pub tagged : List ℕ → Data → Option (List (Pair Bson)) → Option (List Bson) → Option Bson
tagged key d document items =
    if bytes_eq key DOC.now then option_map bson.Document document else (
    if bytes_eq key ARRAY.now then option_map bson.Array items else tagged_leaf key d)

unfoldable mutual
  -- a value: a text, true, false, null, a whole number of 64 bits with a sign, or an object with one key
  -- that says what stands under it
  pub value_of : Data → Option Bson
  value_of null = Some bson.Null
  value_of (boolean flag) = Some (bson.Boolean flag)
  value_of (number n) = option_map whole_number (as_i64 n)
  value_of (string text) = Some (bson.String text)
  value_of (array items) = None
  value_of (object (member key d no_members)) = tagged key d (document_of d) (array_of d)
  value_of (object _) = None

  -- a document: a list of pairs
  pub document_of : Data → Option (List (Pair Bson))
  document_of (array items) = pairs_of items
  document_of d = None

  -- each pair in its order, or none where one of them is wrong
  pub pairs_of : Items → Option (List (Pair Bson))
  pairs_of no_items = Some []
  pairs_of (item d items) = option_and_then (λ found. option_map (λ rest. found ∷ rest) (pairs_of items)) (pair_of d)

  -- a pair: a list of a key and a value, and no more
  pub pair_of : Data → Option (Pair Bson)
  pair_of (array (item key (item d no_items))) =
      option_and_then (λ text. option_map (λ value. record { key = text; value = value }) (value_of d)) (text_of key)
  pair_of d = None

  -- an array: a list of values
  pub array_of : Data → Option (List Bson)
  array_of (array items) = values_of items
  array_of d = None

  -- each value in its order, or none where one of them is wrong
  pub values_of : Items → Option (List Bson)
  values_of no_items = Some []
  values_of (item d items) = option_and_then (λ found. option_map (λ rest. found ∷ rest) (values_of items)) (value_of d)
