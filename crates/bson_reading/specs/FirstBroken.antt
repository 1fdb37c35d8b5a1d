-- Where bytes that spell no document are broken: the offset of the first broken item, by the rules of the
-- layout of BSON 1.1. There is one case for each rule. In each case this item is broken, and every item
-- before it, in the order of reading, is whole.
use Rattle.std.specs.Prelude.{◌≡◌, ℕ, zero, suc, ◌+◌, ◌≤◌, true, false, List, [], ◌∷◌, ◌++◌, length, take, decimal}
use Rattle.std.specs.Str.{is_utf8}
use Rattle.bson_lite.specs.declared.bson.Bson.{Bson}
use Rattle.bson_lite.specs.Parts.{Frame, is_type}
use Rattle.bson_lite.specs.Spelling.{four, spelled, depth, zero_within, holds_zero, valid}

-- what holds elements
pub data Form : Type 0 where
  a_document : Form
  an_array : Form

-- the type byte of a value of this form
abbrev pub type_of : Form → ℕ
type_of a_document = 3
type_of an_array = 4

-- in an array the key is the right number; a document has any keys
abbrev pub IsNumbered : Form → ℕ → List ℕ → Type 0
IsNumbered a_document place key = Unit {0}
IsNumbered an_array place key = key ≡ decimal place

-- a key: UTF-8 without a zero byte, in an array the right number
pub record IsKey (form : Form) (place : ℕ) (key : List ℕ) : Type 0 where
  pub utf8 : is_utf8 key ≡ true
  pub zero_free : holds_zero key ≡ false
  pub numbered : IsNumbered form place key

-- a whole value of this type: it has the form of the table, and nests at most so many levels
pub record IsValue (levels type : ℕ) (bytes : List ℕ) : Type 0 where
  pub value : Bson
  pub typed : (spelled value).0 ≡ type
  pub spells : (spelled value).1 ≡ bytes
  pub nests : depth value ≤ levels
  pub zero_free : zero_within value ≡ false
  pub well_formed : valid value ≡ true

-- a whole element, and then the others: its type byte, its key with a zero byte at its end, its value
pub record IsElement (levels : ℕ) (form : Form) (place : ℕ) (bytes others : List ℕ) : Type 0 where
  pub type : ℕ
  pub key : List ℕ
  pub value : List ℕ
  pub parts : bytes ≡ type ∷ (key ++ 0 ∷ (value ++ others))
  pub has_key : IsKey form place key
  pub has_value : IsValue levels type value

-- whole elements and nothing else, from the first place to the one before the next
pub data AreWhole (levels : ℕ) (form : Form) : ℕ → ℕ → List ℕ → Type 0 where
  no_more : (place next : ℕ) (bytes : List ℕ) → next ≡ place → bytes ≡ [] → AreWhole levels form place next bytes
  one_more : (place next : ℕ) (bytes others : List ℕ) → IsElement levels form place bytes others
      → AreWhole levels form (place + 1) next others → AreWhole levels form place next bytes

-- the length of a document that has these bytes for its room: four bytes are there and hold a number from
-- 5 to the room, which a signed number of 32 bits can state
pub record IsLength (count : ℕ) (bytes : List ℕ) : Type 0 where
  pub held : take 4 bytes ≡ four count
  pub least : 5 ≤ count
  pub most : count ≤ length bytes
  pub stated : count ≤ 2147483647

-- a document in front of the bytes, and then the rest: its length, its elements, its last byte
pub record IsFrame (frame : Frame) (bytes rest : List ℕ) : Type 0 where
  pub parts : bytes ≡ four (length frame.elements + 5) ++ (frame.elements ++ frame.last ∷ rest)
  pub stated : length frame.elements + 5 ≤ 2147483647

-- In what begins at `start`, whole elements come first, then a type byte of the table and a key: the value
-- of this type is to stand at this offset, in front of the rest of the elements' bytes.
pub record IsValueAt (levels : ℕ) (form : Form) (start : ℕ) (elements : List ℕ) (type : ℕ) (rest : List ℕ) (offset : ℕ) : Type 0 where
  pub place : ℕ
  pub front : List ℕ
  pub key : List ℕ
  pub whole : AreWhole levels form 0 place front
  pub parts : elements ≡ front ++ type ∷ (key ++ 0 ∷ rest)
  pub known : is_type type ≡ true
  pub has_key : IsKey form place key
  pub stands : offset ≡ start + 4 + length front + 1 + length key + 1

-- The document or array that begins at `start` has a whole length, below it so many levels may nest, and its
-- first broken item stands at the offset. What is before the last byte is the elements' bytes.
pub data IsBrokenInside : ℕ → Form → ℕ → Frame → ℕ → Type 0 where
  -- after whole elements, before the last byte, stands a byte that is no type byte of the table
  its_type : (levels : ℕ) (form : Form) (start : ℕ) (frame : Frame) (offset place type : ℕ) (front rest : List ℕ)
      → AreWhole levels form 0 place front → frame.elements ≡ front ++ type ∷ rest → is_type type ≡ false
      → offset ≡ start + 4 + length front → IsBrokenInside levels form start frame offset
  -- after whole elements and a type byte of the table no key ends before the last byte
  its_key : (levels : ℕ) (form : Form) (start : ℕ) (frame : Frame) (offset place type : ℕ) (front rest : List ℕ)
      → AreWhole levels form 0 place front → frame.elements ≡ front ++ type ∷ rest → is_type type ≡ true
      → ((key others : List ℕ) → rest ≡ key ++ 0 ∷ others → IsKey form place key → ⊥)
      → offset ≡ start + 4 + length front + 1 → IsBrokenInside levels form start frame offset
  -- after a key no value of its type ends before the last byte; the type is that of no document and no array
  its_value : (levels : ℕ) (form : Form) (start : ℕ) (frame : Frame) (offset type : ℕ) (rest : List ℕ)
      → IsValueAt levels form start frame.elements type rest offset
      → ((nested : Form) → type ≡ type_of nested → ⊥)
      → ((value others : List ℕ) → rest ≡ value ++ others → IsValue levels type value → ⊥)
      → IsBrokenInside levels form start frame offset
  -- the value is to be a document or an array, and no more levels may nest
  too_deep : (form : Form) (start : ℕ) (frame : Frame) (offset : ℕ) (nested : Form) (rest : List ℕ)
      → IsValueAt zero form start frame.elements (type_of nested) rest offset
      → IsBrokenInside zero form start frame offset
  -- the value is to be a document or an array, and its length is broken; its room ends before the last byte
  its_length : (below : ℕ) (form : Form) (start : ℕ) (frame : Frame) (offset : ℕ) (nested : Form) (rest : List ℕ)
      → IsValueAt (suc below) form start frame.elements (type_of nested) rest offset
      → ((count : ℕ) → IsLength count rest → ⊥) → IsBrokenInside (suc below) form start frame offset
  -- the value is a document or an array with a whole length, and it is broken inside by these rules
  inside_it : (below : ℕ) (form : Form) (start : ℕ) (frame : Frame) (offset : ℕ) (nested : Form) (begin : ℕ) (inner : Frame) (rest others : List ℕ)
      → IsValueAt (suc below) form start frame.elements (type_of nested) rest begin → IsFrame inner rest others
      → IsBrokenInside below nested begin inner offset → IsBrokenInside (suc below) form start frame offset
  -- all elements are whole, and the last byte is not zero
  its_last : (levels : ℕ) (form : Form) (start : ℕ) (frame : Frame) (offset place : ℕ)
      → AreWhole levels form 0 place frame.elements → (frame.last ≡ 0 → ⊥)
      → offset ≡ start + 4 + length frame.elements → IsBrokenInside levels form start frame offset

-- The bytes spell no document, and their first broken item stands at the offset. The document itself is the
-- first of 100 levels.
pub data IsFirstBroken (bytes : List ℕ) : ℕ → Type 0 where
  -- the outermost length is broken: it is to be that of all the bytes
  whole_length : (offset : ℕ) → (IsLength (length bytes) bytes → ⊥) → offset ≡ 0 → IsFirstBroken bytes offset
  -- the outermost length is whole, and an item after it is broken
  inside_whole : (offset : ℕ) (frame : Frame) → IsFrame frame bytes [] → IsBrokenInside 99 a_document 0 frame offset
      → IsFirstBroken bytes offset
