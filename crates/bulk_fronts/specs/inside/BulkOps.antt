-- Parts of an op, and an op in bytes, as the functions that make them say it.
use Rattle.std.specs.Prelude.{◌≡◌, ℕ, pos, Bool, List, [], ◌∷◌, Option, ◌⊎◌, Result, Ok, Err}
use Rattle.bson_lite.specs.declared.bson.Bson.{Bson}
use Rattle.bson_lite.specs.declared.bson.Bson as bson
use Rattle.bson_lite.specs.declared.document.Pair.{Pair}
use Rattle.bson_lite.specs.Spelling.{Spells}
use Rattle.driver_error.specs.declared.error.Error.{Error}
use Rattle.driver_error.specs.declared.kind.ErrorKind.TheVariants.{Memory}
use Rattle.driver_error.specs.Error.{IsAlone}
use Rattle.driver_error.specs.LabelTexts.{no_labels}
use Rattle.wire_keys.specs.declared.keys.TheConstants.{DELETE, DOCUMENT, INSERT}
use Rattle.driver_link.specs.Numbers.{field}
use Rattle.driver_ops.specs.declared.keys.TheConstants.{FILTER, MULTI}
use Rattle.driver_ops.specs.Encoding.{IsUnspelled}
use Rattle.bulk_fronts.specs.declared.own_op.OpWork.{OpWork}
use Rattle.bulk_fronts.specs.declared.own_op.OwnOp.{OwnOp}
use Rattle.bulk_fronts.specs.BulkOps.{delete_fields}

-- the fields of an op that finds documents before its options, on the namespace of number 0
abbrev pub finding_fields : List ℕ → Bool → List (Pair Bson) → List (Pair Bson)
finding_fields key multi filter =
    field key (bson.Int32 (pos 0)) ∷ field MULTI.now (bson.Boolean multi) ∷ field FILTER.now (bson.Document filter) ∷ []

-- the op of the insert of a document on it
abbrev pub insert_op : List (Pair Bson) → List (Pair Bson)
insert_op document = field INSERT.now (bson.Int32 (pos 0)) ∷ field DOCUMENT.now (bson.Document document) ∷ []

-- the op of a delete on it
abbrev pub delete_op : Bool → List (Pair Bson) → Option (List (Pair Bson)) → Option Bson → List (Pair Bson)
delete_op multi filter collation hint = field DELETE.now (bson.Int32 (pos 0)) ∷ delete_fields multi filter collation hint

-- an op has these parts and the spelling of this document
pub record HasParts (op : List (Pair Bson)) (namespace : List ℕ) (multi : Bool) (does : OpWork) (own : OwnOp) : Type 0 where
  pub namespace_is : own.namespace ≡ namespace
  pub spelled : Spells op own.bytes
  pub multi_is : own.multi ≡ multi
  pub work_is : own.work ≡ does

-- it is so, or the error tells why the document has no spelling, or of want of memory
abbrev pub SpellsParts : List (Pair Bson) → List ℕ → Bool → OpWork → Result OwnOp Error → Type 0
SpellsParts op namespace multi does (Ok own) = HasParts op namespace multi does own
SpellsParts op namespace multi does (Err error) = IsAlone Memory no_labels error ⊎ IsUnspelled op error
