-- What the reply to a command says by its common fields: that the command was done, the error that it spells, or
-- that it breaks the form of replies.
use Rattle.std.specs.Prelude.{◌≡◌, ℕ, ℤ, pos, Bool, true, false, ◌&&◌, List, codes, ◌⊎◌, Option, None, Some, Result, Ok, Err, if◌then◌else◌}
use Rattle.std.specs.Ordering.{int_eq}
use Rattle.bson_lite.specs.declared.bson.Bson.{Bson, out-Bson}
use Rattle.bson_lite.specs.declared.bson.Bson.TheOpen.{Bson-F}
use Rattle.bson_lite.specs.declared.document.Pair.{Pair}
use Rattle.bson_lite.specs.Fields.{value_of, int_of}
use Rattle.bson_lite.specs.Spelling.{Spells}
use Rattle.server_answers.specs.declared.command.CommandErrorBody.{CommandErrorBody}
use Rattle.driver_error.specs.declared.error.Error.{Error}
use Rattle.driver_error.specs.declared.kind.ErrorKind.TheVariants as kind
use Rattle.driver_error.specs.Error.{ErrorKind, HasResponse, IsAlone, kind_of, labels_of, source_of, response_of, wire_version_of}
use Rattle.driver_error.specs.LabelTexts.{LabelSet, no_labels, label_set}
use Rattle.wire_keys.specs.declared.keys.TheConstants.{CLUSTER_TIME, OK}
use Rattle.driver_ops.specs.declared.response.CommandResponse.{CommandResponse}
use Rattle.driver_ops.specs.Readings.{command_error_in}

-- what a reply says: its command was done, or failed with an error, or the reply breaks the form of replies
pub data Said : Type 0 where
  done : Said
  fails : CommandErrorBody → Said
  breaks : List ℕ → Said

-- the message about bytes that spell no document
unfoldable pub no_document_text : List ℕ
no_document_text = codes "the reply is no document"

-- the message about a reply without `ok`
unfoldable pub missing_ok_text : List ℕ
missing_ok_text = codes "missing 'ok' value in response"

-- the message about an `ok` that is no number
unfoldable pub odd_ok_text : List ℕ
odd_ok_text = codes "expected ok value to be a number"

-- the message about a cluster time of another form
unfoldable pub odd_time_text : List ℕ
odd_time_text = codes "the reply has a $clusterTime of another form"

-- the message about a failed command without an error of the right form
unfoldable pub odd_error_text : List ℕ
odd_error_text = codes "the reply to a failed command has no error of the right form"

-- the error of a failed command, if there is one
abbrev pub failed_with : Option CommandErrorBody → Said
failed_with None = breaks odd_error_text
failed_with (Some body) = fails body

-- the value is a timestamp
abbrev pub is_timestamp_layer : {A : Type 0} → Bson-F A → Bool
is_timestamp_layer (Bson-F.Timestamp stamp) = true
is_timestamp_layer _ = false

abbrev pub is_timestamp : Option Bson → Bool
is_timestamp None = false
is_timestamp (Some value) = is_timestamp_layer (out-Bson value)

-- the value is a document
abbrev pub is_document_layer : {A : Type 0} → Bson-F A → Bool
is_document_layer (Bson-F.Document pairs) = true
is_document_layer _ = false

abbrev pub is_document : Option Bson → Bool
is_document None = false
is_document (Some value) = is_document_layer (out-Bson value)

-- the fields of a cluster time have their form
abbrev pub is_time_in : List (Pair Bson) → Bool
is_time_in time = is_timestamp (value_of (codes "clusterTime") time) && is_document (value_of (codes "signature") time)

-- a cluster time is a document of a timestamp and of a signature, which is a document
abbrev pub is_time_layer : Bson-F Bson → Bool
is_time_layer (Bson-F.Document time) = is_time_in time
is_time_layer _ = false

-- a reply has a cluster time of its form, or none
abbrev pub has_time_form : Option Bson → Bool
has_time_form None = true
has_time_form (Some time) = is_time_layer (out-Bson time)

-- what a reply with this number of `ok` says, once its form stands
abbrev pub said_in_form : ℤ → List (Pair Bson) → Said
said_in_form number reply = if int_eq number (pos 1) then done else failed_with (command_error_in reply)

-- what a reply says by the number of `ok`: its cluster time is looked at before that number is
abbrev pub said_by : Option ℤ → List (Pair Bson) → Said
said_by None reply = breaks odd_ok_text
said_by (Some number) reply = if has_time_form (value_of CLUSTER_TIME.now reply) then said_in_form number reply else breaks odd_time_text

-- what a reply says by the value of `ok`
abbrev pub said_with : Option Bson → List (Pair Bson) → Said
said_with None reply = breaks missing_ok_text
said_with (Some value) reply = said_by (int_of value) reply

-- what a reply says
unfoldable pub said : List (Pair Bson) → Said
said reply = said_with (value_of OK.now reply) reply

-- an error of this kind with these labels, as a reply in these bytes spelled it
pub record IsSpelledBy (bytes : List ℕ) (why : ErrorKind) (labels : LabelSet) (error : Error) : Type 0 where
  pub kind_is : kind_of error ≡ why
  pub labels_are : labels_of error ≡ labels
  pub no_version : wire_version_of error ≡ None
  pub no_source : source_of error ≡ None
  pub response_is : response_of error ≡ Some bytes

-- the error that a reply in these bytes says
abbrev pub SpellsError : List ℕ → Said → Error → Type 0
SpellsError bytes done error = ⊥
SpellsError bytes (fails body) error = IsSpelledBy bytes (kind.Command body.command_error) (label_set body.error_labels) error
SpellsError bytes (breaks message) error = IsSpelledBy bytes (kind.InvalidResponse message) no_labels error

-- the bytes spell no document, and the error says so
pub record IsNoDocument (bytes : List ℕ) (error : Error) : Type 0 where
  pub none : (reply : List (Pair Bson)) → Spells reply bytes → ⊥
  pub is : IsAlone (kind.InvalidResponse no_document_text) no_labels error

-- the bytes spell a reply, and the error is the one that it says
pub record SaysError (bytes : List ℕ) (error : Error) : Type 0 where
  pub reply : List (Pair Bson)
  pub spelled : Spells reply bytes
  pub is : SpellsError bytes (said reply) error

-- the same error with the reply in these bytes, or want of memory
abbrev pub KeepsReply : List ℕ → Error → Error → Type 0
KeepsReply bytes old now = (kind_of now ≡ kind.Memory) ⊎ HasResponse (Some bytes) old now

-- the error of a reply, or want of memory
abbrev pub TellsResponse : List ℕ → Error → Type 0
TellsResponse bytes error = (kind_of error ≡ kind.Memory) ⊎ (IsNoDocument bytes error ⊎ SaysError bytes error)

-- the bytes spell a reply which says that the command was done
pub record SaysDone (bytes : List ℕ) (response : CommandResponse) : Type 0 where
  pub spelled : Spells response.body bytes
  pub ok : response.ok ≡ pos 1
  pub is : said response.body ≡ done

-- a reply is taken exactly where it says that the command was done
abbrev pub ReadsResponse : List ℕ → Result CommandResponse Error → Type 0
ReadsResponse bytes (Ok response) = SaysDone bytes response
ReadsResponse bytes (Err error) = TellsResponse bytes error
