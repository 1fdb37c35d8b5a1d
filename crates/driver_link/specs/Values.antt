-- Values read as what a command holds.
use Rattle.std.specs.Prelude.{ℕ, ℤ, Bool, List, Option, None, Some}
use Rattle.bson_lite.specs.declared.bson.Binary.{Binary}
use Rattle.bson_lite.specs.declared.bson.Bson.{Bson, out-Bson}
use Rattle.bson_lite.specs.declared.bson.Bson.TheOpen.{Bson-F}
use Rattle.bson_lite.specs.declared.document.Pair.{Pair}

-- a value one level deep: its text, its flag, its number, its pairs, its values, its bytes
abbrev pub as_text : Bson-F Bson → Option (List ℕ)
as_text (Bson-F.String text) = Some text
as_text _ = None

abbrev pub as_bool : Bson-F Bson → Option Bool
as_bool (Bson-F.Boolean flag) = Some flag
as_bool _ = None

abbrev pub as_int32 : Bson-F Bson → Option ℤ
as_int32 (Bson-F.Int32 number) = Some number
as_int32 _ = None

abbrev pub as_int64 : Bson-F Bson → Option ℤ
as_int64 (Bson-F.Int64 number) = Some number
as_int64 _ = None

abbrev pub as_document : Bson-F Bson → Option (List (Pair Bson))
as_document (Bson-F.Document pairs) = Some pairs
as_document _ = None

abbrev pub as_array : Bson-F Bson → Option (List Bson)
as_array (Bson-F.Array values) = Some values
as_array _ = None

abbrev pub as_binary : Bson-F Bson → Option Binary
as_binary (Bson-F.Binary binary) = Some binary
as_binary _ = None

-- the text of a string value
abbrev pub text_of : Bson → Option (List ℕ)
text_of value = as_text (out-Bson value)

-- the flag of a boolean value
abbrev pub bool_of : Bson → Option Bool
bool_of value = as_bool (out-Bson value)

-- the number of an Int32 value
abbrev pub int32_of : Bson → Option ℤ
int32_of value = as_int32 (out-Bson value)

-- the number of an Int64 value
abbrev pub int64_of : Bson → Option ℤ
int64_of value = as_int64 (out-Bson value)

-- the pairs of a document value
abbrev pub document_of : Bson → Option (List (Pair Bson))
document_of value = as_document (out-Bson value)

-- the values of an array value
abbrev pub array_of : Bson → Option (List Bson)
array_of value = as_array (out-Bson value)

-- the bytes of a binary value, with their subtype
abbrev pub binary_of : Bson → Option Binary
binary_of value = as_binary (out-Bson value)
