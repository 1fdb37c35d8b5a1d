-- The op of an insert in bytes, from those of its document.
use Rattle.std.specs.Prelude.{◌≡◌, ℕ, ◌+◌, ◌≤◌, List, ◌++◌, length}
use Rattle.bson_lite.specs.Spelling.{element, four, framed}
use Rattle.wire_keys.specs.declared.keys.TheConstants.{DOCUMENT, INSERT}

-- the elements of the op that inserts the document in these bytes, on the namespace of number 0
abbrev pub insert_elements : List ℕ → List ℕ
insert_elements own = element INSERT.now (16, four 0) ++ element DOCUMENT.now (3, own)

-- bytes are a document of these elements, which is not too long
pub record FramesInsert (own bytes : List ℕ) : Type 0 where
  pub is : bytes ≡ framed (insert_elements own)
  pub short : length own + 27 ≤ 2147483647
