-- Bytes that spell a document.
use Rattle.std.specs.Prelude.{ℕ, List}
use Rattle.bson_lite.specs.Spelling.{Spells}
use Rattle.bson_lite.specs.declared.bson.Bson.{Bson}
use Rattle.bson_lite.specs.declared.document.Pair.{Pair}

-- there is a document that the bytes spell
pub record IsSpelling (bytes : List ℕ) : Type 0 where
  pub document : List (Pair Bson)
  pub spells : Spells document bytes
