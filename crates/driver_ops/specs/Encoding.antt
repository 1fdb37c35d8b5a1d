-- Documents in bytes, with the driver's error where they have no spelling.
use Rattle.std.specs.Prelude.{◌≡◌, ℕ, List, None, Some, ◌⊎◌, Result, Ok, Err}
use Rattle.bson_lite.specs.declared.bson.Bson.{Bson}
use Rattle.bson_lite.specs.declared.document.Pair.{Pair}
use Rattle.bson_lite.specs.declared.fault.EncodeFault.{EncodeFault}
use Rattle.bson_lite.specs.Spelling.{Spells, refusal}
use Rattle.driver_error.specs.declared.error.Error.{Error}
use Rattle.driver_error.specs.declared.kind.ErrorKind.TheVariants.{BsonSerialization, Memory}
use Rattle.driver_error.specs.Error.{IsAlone}
use Rattle.driver_error.specs.LabelTexts.{no_labels}

-- a document has no spelling, and the error tells why and nothing else
pub record IsUnspelled (document : List (Pair Bson)) (error : Error) : Type 0 where
  pub fault : EncodeFault
  pub refused : refusal document ≡ Some fault
  pub is : IsAlone (BsonSerialization fault) no_labels error

-- a document's spelling, or the error that tells why it has none, or want of memory
abbrev pub Encoded : List (Pair Bson) → Result (List ℕ) Error → Type 0
Encoded document (Ok bytes) = (refusal document ≡ None) × Spells document bytes
Encoded document (Err error) = IsAlone Memory no_labels error ⊎ IsUnspelled document error
