-- The body of an insert without options under a session and a number, and what it says.
use Rattle.std.specs.Prelude.{◌≡◌, ℕ, ℤ, Bool, true, false, List, [], ◌∷◌, length, Option, None, Some}
use Rattle.std.specs.Option.{option_and_then}
use Rattle.std.specs.Str.{IsUtf8}
use Rattle.bson_lite.specs.declared.bson.Bson.{Bson}
use Rattle.bson_lite.specs.declared.bson.Bson as bson
use Rattle.bson_lite.specs.declared.document.Pair.{Pair}
use Rattle.bson_lite.specs.declared.namespace.Namespace.{Namespace}
use Rattle.bson_lite.specs.Ranges.{fits}
use Rattle.bson_lite.specs.Spelling.{spelling}
use Rattle.driver_link.specs.declared.frame.Documents.{Documents}
use Rattle.wire_keys.specs.declared.keys.TheConstants.{DATABASE, DOCUMENTS, INSERT, ORDERED, SESSION, SESSION_ID, TRANSACTION_NUMBER, UUID_SUBTYPE}
use Rattle.driver_link.specs.declared.machine.Place.{Place}
use Rattle.driver_link.specs.declared.machine.Send.{Send}
use Rattle.driver_link.specs.declared.machine.SendBody.{SendBody}
use Rattle.driver_link.specs.declared.machine.SendCommand.TheVariants as command
use Rattle.driver_link.specs.declared.machine.WriteKind.TheVariants as kind
use Rattle.driver_link.specs.Asking.{asks_writes, only_sequence}
use Rattle.driver_link.specs.Numbers.{field}
use Rattle.driver_link.specs.Writes.{writes_on}
use Rattle.frame_reading.specs.declared.plain_insert.PlainInsert.{PlainInsert}

-- its fields
abbrev pub collection_field : List ℕ → List (Pair Bson)
collection_field collection = field INSERT.now (bson.String collection) ∷ []

abbrev pub order_field : Bool → List (Pair Bson)
order_field ordered = field ORDERED.now (bson.Boolean ordered) ∷ []

-- the document that names a session
abbrev pub session_document : List ℕ → List (Pair Bson)
session_document id = field SESSION_ID.now (bson.Binary (record { subtype = UUID_SUBTYPE; bytes = id })) ∷ []

abbrev pub session_field : List ℕ → List (Pair Bson)
session_field id = field SESSION.now (bson.Document (session_document id)) ∷ []

abbrev pub number_field : ℤ → List (Pair Bson)
number_field number = field TRANSACTION_NUMBER.now (bson.Int64 number) ∷ []

abbrev pub database_field : List ℕ → List (Pair Bson)
database_field database = field DATABASE.now (bson.String database) ∷ []

-- the body
abbrev pub plain_body : PlainInsert → List (Pair Bson)
plain_body plain =
    field INSERT.now (bson.String plain.namespace.coll)
    ∷ field ORDERED.now (bson.Boolean plain.ordered)
    ∷ field SESSION.now (bson.Document (session_document plain.session))
    ∷ field TRANSACTION_NUMBER.now (bson.Int64 plain.number)
    ∷ field DATABASE.now (bson.String plain.namespace.db)
    ∷ []

-- its values are in their ranges
pub record IsSound (plain : PlainInsert) : Type 0 where
  pub collection : IsUtf8 plain.namespace.coll
  pub database : IsUtf8 plain.namespace.db
  pub session : length plain.session ≡ 16
  pub number : fits 0x8000_0000_0000_0000 plain.number ≡ true

-- bytes are those of such a body that names this database
pub record IsPlainInsert (database bytes : List ℕ) (plain : PlainInsert) : Type 0 where
  pub names : plain.namespace.db ≡ database
  pub is : bytes ≡ spelling (plain_body plain)
  pub sound : IsSound plain

-- the same, where something was found
abbrev pub ReadsPlain : List ℕ → List ℕ → Option PlainInsert → Type 0
ReadsPlain database bytes None = Unit {0}
ReadsPlain database bytes (Some plain) = IsPlainInsert database bytes plain

-- what an insert of documents asks for
abbrev pub asks_inserts : Namespace → Bool → List Place → List (List (Pair Bson)) → Option SendBody
asks_inserts namespace ordered places documents = asks_writes command.Insert ordered places (writes_on kind.Insert namespace documents)

-- the same of those in its one sequence
abbrev pub asks_documents : Namespace → Bool → List Documents → List Place → Option SendBody
asks_documents namespace ordered sequences places = option_and_then (λ documents. asks_inserts namespace ordered places documents) (only_sequence DOCUMENTS.now sequences)

-- the send of such an insert
abbrev pub plain_send : PlainInsert → SendBody → Send
plain_send plain asked =
    record { session = Some plain.session; number = Some plain.number; start = false; in_transaction = false; body = asked }
