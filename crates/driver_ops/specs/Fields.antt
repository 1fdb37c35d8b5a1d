-- The fields that the executor appends to a built command.
use Rattle.std.specs.Prelude.{◌≡◌, ℕ, ℤ, true, List, [], ◌∷◌, ◌++◌, length, Option, None, Some, ◌⊎◌, Result, Ok, Err}
use Rattle.bson_lite.specs.declared.bson.Bson.{Bson}
use Rattle.bson_lite.specs.declared.bson.Bson as bson
use Rattle.bson_lite.specs.declared.document.Pair.{Pair}
use Rattle.bson_lite.specs.Fields.{value_of}
use Rattle.bson_lite.specs.Spelling.{Spells}
use Rattle.driver_error.specs.declared.error.Error.{Error}
use Rattle.driver_error.specs.declared.kind.ErrorKind.TheVariants.{Memory}
use Rattle.driver_error.specs.Error.{IsAlone}
use Rattle.driver_error.specs.LabelTexts.{no_labels}
use Rattle.driver_options.specs.declared.concerns.WriteConcern.{WriteConcern}
use Rattle.wire_keys.specs.declared.keys.TheConstants.{SESSION, SESSION_ID, TRANSACTION_NUMBER, DATABASE, UUID_SUBTYPE, WRITE_CONCERN}
use Rattle.driver_link.specs.Framed.{Framed}
use Rattle.driver_link.specs.Numbers.{field}
use Rattle.driver_link.specs.Writes.{common_keys, is_common}
use Rattle.driver_ops.specs.declared.command.Command.{Command}
use Rattle.driver_ops.specs.ConcernFields.{concern_value}
use Rattle.driver_ops.specs.Encoding.{IsUnspelled}
use Rattle.driver_ops.specs.OptionFields.{option_field}

-- the id of a session as a command carries it: a document with a UUID
unfoldable pub session_document : List ℕ → List (Pair Bson)
session_document id = field SESSION_ID.now (bson.Binary (record { subtype = UUID_SUBTYPE; bytes = id })) ∷ []

-- the field that names a session, where a command is under one
unfoldable pub session_field : Option (List ℕ) → List (Pair Bson)
session_field None = []
session_field (Some id) = field SESSION.now (bson.Document (session_document id)) ∷ []

-- the field of a transaction number, where a command has one
unfoldable pub number_field : Option ℤ → List (Pair Bson)
number_field None = []
number_field (Some number) = field TRANSACTION_NUMBER.now (bson.Int64 number) ∷ []

-- what the executor's fields come from at one exchange: the session and the number that the command is under, and the write
-- concern that it goes with, of which each may be missing
pub record SendContext : Type 0 where
  pub session : Option (List ℕ)
  pub number : Option ℤ
  pub concern : Option WriteConcern

-- under this session and this number, with this concern
abbrev pub in_context : Option (List ℕ) → Option ℤ → Option WriteConcern → SendContext
in_context session number concern = record { session = session; number = number; concern = concern }

-- the same without a concern, which a send does not tell
abbrev pub under : Option (List ℕ) → Option ℤ → SendContext
under session number = in_context session number None

-- the executor's fields of a command that goes to a database
unfoldable pub executor_fields : SendContext → List ℕ → List (Pair Bson)
executor_fields context database =
    session_field context.session ++ number_field context.number ++ option_field WRITE_CONCERN.now (concern_value context.concern) ++ field DATABASE.now (bson.String database) ∷ []

-- the command with the executor's fields behind its own
abbrev pub with_fields : SendContext → Command → Command
with_fields context command = record command { body = command.body ++ executor_fields context command.database }

-- the id of a session, where there is one, has 16 bytes
abbrev pub IsSixteen : Option (List ℕ) → Type 0
IsSixteen None = Unit {0}
IsSixteen (Some id) = length id ≡ 16

-- a body has none of these keys
abbrev pub LacksAll : List (List ℕ) → List (Pair Bson) → Type 0
LacksAll [] body = Unit {0}
LacksAll (key ∷ keys) body = (value_of key body ≡ None) × LacksAll keys body

-- a body has none of the fields that stand in commands of every kind
abbrev pub IsPlain : List (Pair Bson) → Type 0
IsPlain body = LacksAll common_keys body

-- all these are fields that stand in commands of every kind
abbrev pub AreCommon : List (Pair Bson) → Type 0
AreCommon [] = Unit {0}
AreCommon (pair ∷ fields) = (is_common pair ≡ true) × AreCommon fields

-- the frame has the command's database and sequences, and its bytes spell the body
pub record IsFrameOf (command : Command) (frame : Framed) : Type 0 where
  pub database : frame.database ≡ command.database
  pub sequences : frame.sequences ≡ command.sequences
  pub spelled : Spells command.body frame.body

-- a command in bytes, or the error that tells why its body has no spelling, or want of memory
abbrev pub Frames : Command → Result Framed Error → Type 0
Frames command (Ok frame) = IsFrameOf command frame
Frames command (Err error) = IsAlone Memory no_labels error ⊎ IsUnspelled command.body error

-- the same with the executor's fields
abbrev pub FramesUnder : SendContext → Command → Result Framed Error → Type 0
FramesUnder context command result = IsSixteen context.session × Frames (with_fields context command) result
