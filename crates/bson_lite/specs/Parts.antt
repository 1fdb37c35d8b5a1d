-- Parts of a document, read from the front of bytes: the part and the bytes after it, or nothing.
use Rattle.std.specs.Prelude.{ℕ, ◌-◌, Bool, true, false, ◌||◌, ◌&&◌, nat_lt, nat_le, ◌==◌, if◌then◌else◌, bytes_eq, List, [], ◌∷◌, length, take, drop, position, decimal, Option, Some, None}
use Rattle.std.specs.Int.{Width, w32, w64, byte_len, to_le_bytes, from_le_bytes, cast_signed}
use Rattle.std.specs.Str.{is_utf8}
use Rattle.bson_lite.specs.declared.bson.Bson as bson
use Rattle.bson_lite.specs.declared.bson.Bson.{Bson}
use Rattle.bson_lite.specs.declared.bson.Binary.{Binary}
use Rattle.bson_lite.specs.declared.bson.Regex.{Regex}
use Rattle.bson_lite.specs.declared.bson.Timestamp.{Timestamp}

-- the second step, if the first gave a value
infixl 10 ◌>>=◌
abbrev pub ◌>>=◌ : {A B : Type 0} → Option A → (A → Option B) → Option B
None >>= f = None
(Some x) >>= f = f x

-- the part, made into something else
abbrev pub made : {A B : Type 0} → (A → B) → Option (A × List ℕ) → Option (B × List ℕ)
made f None = None
made f (Some part) = Some (f part.0, part.1)

-- as many bytes as count
unfoldable pub some_at : ℕ → List ℕ → Option (List ℕ × List ℕ)
some_at count bytes = if nat_lt (length bytes) count then None else Some (take count bytes, drop count bytes)

-- one byte
unfoldable pub byte_at : List ℕ → Option (ℕ × List ℕ)
byte_at [] = None
byte_at (byte ∷ bytes) = Some (byte, bytes)

-- the number that these bytes are, the low byte first
unfoldable pub number_of : Width → List ℕ → Option ℕ
number_of w bytes = if bytes_eq (to_le_bytes w (from_le_bytes w bytes)) bytes then Some (from_le_bytes w bytes) else None

-- a number of this width
unfoldable pub number_at : Width → List ℕ → Option (ℕ × List ℕ)
number_at w bytes = do
  part ← some_at (byte_len w) bytes
  number ← number_of w part.0
  Some (number, part.1)

-- the bytes, if they are UTF-8
abbrev pub utf8_of : List ℕ → Option (List ℕ)
utf8_of bytes = if is_utf8 bytes then Some bytes else None

-- UTF-8 without a zero byte, then a zero byte
unfoldable pub zero_ended : List ℕ → Option (List ℕ × List ℕ)
zero_ended bytes = do
  place ← position (λ byte. byte == 0) bytes
  text ← utf8_of (take place bytes)
  Some (text, drop 1 (drop place bytes))

-- a length that counts a zero byte, UTF-8 of the rest of that length, the zero byte
unfoldable pub text_at : List ℕ → Option (List ℕ × List ℕ)
text_at bytes = do
  count ← number_at w32 bytes
  if count.0 == 0 || nat_lt 2147483647 count.0 then None else (do
    part ← some_at (count.0 - 1) count.1
    last ← byte_at part.1
    if last.0 == 0 then (do
      text ← utf8_of part.0
      Some (text, last.1)) else None)

-- a length, a subtype, as many bytes as the length says
unfoldable pub binary_at : List ℕ → Option (Binary × List ℕ)
binary_at bytes = do
  count ← number_at w32 bytes
  if nat_lt 2147483647 count.0 then None else (do
    subtype ← byte_at count.1
    part ← some_at count.0 subtype.1
    Some (record { subtype = subtype.0; bytes = part.0 }, part.1))

-- a pattern and options, each with a zero byte at its end
unfoldable pub regex_at : List ℕ → Option (Regex × List ℕ)
regex_at bytes = do
  pattern ← zero_ended bytes
  options ← zero_ended pattern.1
  Some (record { pattern = pattern.0; options = options.0 }, options.1)

-- an increment, then a time
unfoldable pub stamp_at : List ℕ → Option (Timestamp × List ℕ)
stamp_at bytes = do
  increment ← number_at w32 bytes
  time ← number_at w32 increment.1
  Some (record { time = time.0; increment = increment.0 }, time.1)

-- one byte that is 0 or 1
unfoldable pub flag_at : List ℕ → Option (Bool × List ℕ)
flag_at bytes = do
  byte ← byte_at bytes
  if byte.0 == 0 then Some (false, byte.1) else (if byte.0 == 1 then Some (true, byte.1) else None)

-- a value of one of the later types that holds no document
unfoldable pub more_at : ℕ → List ℕ → Option (Bson × List ℕ)
more_at type bytes =
    if type == 11 then made bson.RegularExpression (regex_at bytes) else (
    if type == 13 then made bson.JavaScriptCode (text_at bytes) else (
    if type == 14 then made bson.Symbol (text_at bytes) else (
    if type == 16 then made (λ n. bson.Int32 (cast_signed w32 n)) (number_at w32 bytes) else (
    if type == 17 then made bson.Timestamp (stamp_at bytes) else (
    if type == 18 then made (λ n. bson.Int64 (cast_signed w64 n)) (number_at w64 bytes) else (
    if type == 19 then made bson.Decimal128 (some_at 16 bytes) else (
    if type == 255 then Some (bson.MinKey, bytes) else (
    if type == 127 then Some (bson.MaxKey, bytes) else None))))))))

-- a value that holds no document
unfoldable pub leaf_at : ℕ → List ℕ → Option (Bson × List ℕ)
leaf_at type bytes =
    if type == 1 then made bson.Double (some_at 8 bytes) else (
    if type == 2 then made bson.String (text_at bytes) else (
    if type == 5 then made bson.Binary (binary_at bytes) else (
    if type == 6 then Some (bson.Undefined, bytes) else (
    if type == 7 then made (λ id. bson.ObjectId (record { bytes = id })) (some_at 12 bytes) else (
    if type == 8 then made bson.Boolean (flag_at bytes) else (
    if type == 9 then made (λ n. bson.DateTime (cast_signed w64 n)) (number_at w64 bytes) else (
    if type == 10 then Some (bson.Null, bytes) else more_at type bytes)))))))

-- the byte of a type of the table
abbrev pub is_type : ℕ → Bool
is_type byte = (nat_le 1 byte && nat_le byte 11) || (byte == 13 || byte == 14) || (nat_le 16 byte && nat_le byte 19) || (byte == 127 || byte == 255)

unfoldable pub type_at : List ℕ → Option (ℕ × List ℕ)
type_at bytes = do
  byte ← byte_at bytes
  if is_type byte.0 then Some byte else None

-- the key of an array's value: its place in decimal
unfoldable pub place_at : ℕ → List ℕ → Option (List ℕ)
place_at place bytes = do
  key ← zero_ended bytes
  if bytes_eq key.0 (decimal place) then Some key.1 else None

-- What stands between a document's length and its end: its elements, and its last byte.
pub record Frame : Type 0 where
  pub elements : List ℕ
  pub last : ℕ

-- a length that counts itself, the elements and the last byte
unfoldable pub frame_at : List ℕ → Option (Frame × List ℕ)
frame_at bytes = do
  count ← number_at w32 bytes
  if nat_lt count.0 5 || nat_lt 2147483647 count.0 then None else (do
    part ← some_at (count.0 - 5) count.1
    last ← byte_at part.1
    Some (record { elements = part.0; last = last.0 }, last.1))

-- a frame that is all of the bytes
unfoldable pub whole_at : List ℕ → Option Frame
whole_at bytes = do
  frame ← frame_at bytes
  if length frame.1 == 0 then Some frame.0 else None
