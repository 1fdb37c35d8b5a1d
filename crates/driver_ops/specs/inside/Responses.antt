-- The parts of reading a reply, as its functions say them.
use Rattle.std.specs.Prelude.{◌≡◌, ℕ, List, ◌⊎◌, Option, None, Some, Result, Ok, Err}
use Rattle.bson_lite.specs.declared.bson.Bson.{Bson}
use Rattle.bson_lite.specs.declared.document.Pair.{Pair}
use Rattle.bson_lite.specs.Spelling.{Spells}
use Rattle.driver_error.specs.declared.error.Error.{Error}
use Rattle.driver_error.specs.declared.kind.ErrorKind.TheVariants as kind
use Rattle.driver_error.specs.Conversions.{IsMade}
use Rattle.driver_error.specs.Error.{kind_of}
use Rattle.driver_error.specs.LabelTexts.{no_labels, label_set}
use Rattle.driver_ops.specs.Responses.{Said, IsNoDocument, done, fails, breaks}

-- the error that a reply says, without the reply, or want of memory
abbrev pub IsSaid : Said → Option Error → Type 0
IsSaid done found = found ≡ None
IsSaid (fails body) None = ⊥
IsSaid (fails body) (Some error) = IsMade (kind.Command body.command_error) (label_set body.error_labels) error
IsSaid (breaks message) None = ⊥
IsSaid (breaks message) (Some error) = IsMade (kind.InvalidResponse message) no_labels error

-- the document that the bytes spell, or the error that tells that they spell none, or want of memory
abbrev pub ReadsDocument : List ℕ → Result (List (Pair Bson)) Error → Type 0
ReadsDocument bytes (Ok reply) = Spells reply bytes
ReadsDocument bytes (Err error) = (kind_of error ≡ kind.Memory) ⊎ IsNoDocument bytes error
