-- Reading a document from bytes, from left to right: the document, or the offset of the first broken item.
use Rattle.std.specs.Prelude.{◌≡◌, ℕ, zero, suc, ◌+◌, ◌-◌, ◌||◌, ◌==◌, if◌then◌else◌, List, [], ◌∷◌, length, Option, Some, None, Result, Ok, Err}
use Rattle.bson_lite.specs.declared.bson.Bson as bson
use Rattle.bson_lite.specs.declared.bson.Bson.{Bson}
use Rattle.bson_lite.specs.declared.document.Pair.{Pair}
use Rattle.bson_lite.specs.declared.fault.DecodeFault.{DecodeFault}
use Rattle.bson_lite.specs.declared.fault.DecodeFault.TheVariants.{At, Memory}
use Rattle.bson_lite.specs.Parts.{Frame, leaf_at, type_at, zero_ended, place_at, frame_at, whole_at}

-- the given answer is broken at the fault's offset; want of memory says nothing
abbrev pub Failed : {B : Type 0} → DecodeFault → Result B ℕ → Type 0
Failed (At offset) given = given ≡ Err offset
Failed Memory given = Unit {0}

-- the answer is the one given, seen by a function, unless memory ran out
abbrev pub Gives : {A B : Type 0} → (A → B) → Result A DecodeFault → Result B ℕ → Type 0
Gives seen (Ok value) given = given ≡ Ok (seen value)
Gives seen (Err fault) given = Failed fault given

-- the second step, if the first gave a value
infixl 10 ◌>>=◌
abbrev pub ◌>>=◌ : {A B : Type 0} → Result A ℕ → (A → Result B ℕ) → Result B ℕ
(Ok x) >>= f = f x
(Err offset) >>= f = Err offset

-- a part that is not there is broken at this offset
abbrev pub or_at : {A : Type 0} → ℕ → Option A → Result A ℕ
or_at offset None = Err offset
or_at offset (Some x) = Ok x

-- The reader of a type of value takes the offset at which its bytes end: its place is that offset
-- less the number of the bytes.

-- the value of a type, where `nested` reads documents and arrays
unfoldable pub value_with : (ℕ → ℕ → List ℕ → Result (Bson × List ℕ) ℕ) → ℕ → ℕ → List ℕ → Result (Bson × List ℕ) ℕ
value_with nested type end bytes = if type == 3 || type == 4 then nested type end bytes else or_at (end - length bytes) (leaf_at type bytes)

-- an element of a document
unfoldable pub pair_with : (ℕ → ℕ → List ℕ → Result (Bson × List ℕ) ℕ) → ℕ → List ℕ → Result (Pair Bson × List ℕ) ℕ
pair_with nested end bytes = do
  type ← or_at (end - length bytes) (type_at bytes)
  key ← or_at (end - length type.1) (zero_ended type.1)
  value ← value_with nested type.0 end key.1
  Ok (record { key = key.0; value = value.0 }, value.1)

-- an element of an array, whose key is its place
unfoldable pub item_with : (ℕ → ℕ → List ℕ → Result (Bson × List ℕ) ℕ) → ℕ → ℕ → List ℕ → Result (Bson × List ℕ) ℕ
item_with nested end place bytes = do
  type ← or_at (end - length bytes) (type_at bytes)
  after ← or_at (end - length type.1) (place_at place type.1)
  value_with nested type.0 end after

-- one after the other, each told its place, until no bytes are left; each takes a byte at least
unfoldable pub many_with : {A : Type 0} → (ℕ → List ℕ → Result (A × List ℕ) ℕ) → ℕ → ℕ → List ℕ → Result (List A) ℕ
many_with one zero place bytes = Ok []
many_with one (suc turns) place [] = Ok []
many_with one (suc turns) place (byte ∷ bytes) = do
  first ← one place (byte ∷ bytes)
  others ← many_with one turns (place + 1) first.1
  Ok (first.0 ∷ others)

-- the elements of a document
unfoldable pub pairs_with : (ℕ → ℕ → List ℕ → Result (Bson × List ℕ) ℕ) → ℕ → List ℕ → Result (List (Pair Bson)) ℕ
pairs_with nested end bytes = many_with (λ place. pair_with nested end) (length bytes) 0 bytes

-- the elements of an array
unfoldable pub items_with : (ℕ → ℕ → List ℕ → Result (Bson × List ℕ) ℕ) → ℕ → List ℕ → Result (List Bson) ℕ
items_with nested end bytes = many_with (item_with nested end) (length bytes) 0 bytes

-- the last byte is zero, else it is broken
abbrev pub closed : {A : Type 0} → ℕ → ℕ → A → Result A ℕ
closed offset last x = if last == 0 then Ok x else Err offset

-- the elements of a frame, by their reader, and then its last byte, which stands before this offset
unfoldable pub inside_with : {A : Type 0} → (ℕ → List ℕ → Result A ℕ) → ℕ → Frame → Result A ℕ
inside_with inside end frame = do
  x ← inside (end - 1) frame.elements
  closed (end - 1) frame.last x

-- a length, and what it frames
unfoldable pub framed_with : {A : Type 0} → (ℕ → List ℕ → Result A ℕ) → ℕ → List ℕ → Result (A × List ℕ) ℕ
framed_with inside end bytes = do
  frame ← or_at (end - length bytes) (frame_at bytes)
  x ← inside_with inside (end - length frame.1) frame.0
  Ok (x, frame.1)

-- a document or an array, where so many levels may still come
unfoldable pub nested_at : ℕ → ℕ → ℕ → List ℕ → Result (Bson × List ℕ) ℕ
nested_at zero type end bytes = Err (end - length bytes)
nested_at (suc levels) type end bytes = if type == 3
    then (framed_with (pairs_with (nested_at levels)) end bytes >>= λ x. Ok (bson.Document x.0, x.1))
    else (framed_with (items_with (nested_at levels)) end bytes >>= λ x. Ok (bson.Array x.0, x.1))

-- the document that all of the bytes spell, or the offset of the first broken item
unfoldable pub read : List ℕ → Result (List (Pair Bson)) ℕ
read bytes = do
  frame ← or_at 0 (whole_at bytes)
  inside_with (pairs_with (nested_at 99)) (length bytes) frame
