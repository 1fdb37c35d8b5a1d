-- The fields of a command's body: by which it says its session, its transaction number and whether it is in
-- a transaction, as MongoDB's sessions and transactions specifications have them.
use Rattle.std.specs.Prelude.{ℕ, Bool, true, false, List, length, Option, None, Some, ◌==◌, ◌&&◌, if◌then◌else◌, bytes_eq}
use Rattle.std.specs.Option.{option_and_then, option_map, option_map_or}
use Rattle.bson_lite.specs.declared.bson.Binary.{Binary}
use Rattle.bson_lite.specs.declared.bson.Bson.{Bson}
use Rattle.bson_lite.specs.declared.document.Pair.{Pair}
use Rattle.bson_lite.specs.Fields.{value_of}
use Rattle.wire_keys.specs.declared.keys.TheConstants.{AUTOCOMMIT, DATABASE, SESSION, SESSION_ID, START_TRANSACTION, TRANSACTION_NUMBER, UUID_SUBTYPE}
use Rattle.driver_link.specs.declared.machine.Send.{Send}
use Rattle.driver_link.specs.declared.machine.SendBody.{SendBody}
use Rattle.driver_link.specs.Values.{text_of, bool_of, int64_of, document_of, binary_of}

-- a field that is there and has its form
unfoldable pub needed : {A : Type 0} → (Bson → Option A) → List ℕ → List (Pair Bson) → Option A
needed form key body = option_and_then form (value_of key body)

-- a value that is missing, or has its form
unfoldable pub optional_value : {A : Type 0} → (Bson → Option A) → Option Bson → Option (Option A)
optional_value form None = Some None
optional_value form (Some value) = option_map (λ found. Some found) (form value)

-- a field that is missing, or has its form
abbrev pub optional : {A : Type 0} → (Bson → Option A) → List ℕ → List (Pair Bson) → Option (Option A)
optional form key body = optional_value form (value_of key body)

-- a flag has the one value that it may have
abbrev pub same_flag : Bool → Option Bool → Option Bool
same_flag true (Some true) = Some true
same_flag false (Some false) = Some true
same_flag value found = None

-- whether a flag stands that has one value or is missing
unfoldable pub flag_value : Bool → Option Bson → Option Bool
flag_value value None = Some false
flag_value value (Some found) = same_flag value (bool_of found)

-- the same by its key
abbrev pub flag : Bool → List ℕ → List (Pair Bson) → Option Bool
flag value key body = flag_value value (value_of key body)

-- the sixteen bytes of a UUID
unfoldable pub uuid_in : Binary → Option (List ℕ)
uuid_in binary = if (binary.subtype == UUID_SUBTYPE) && (length binary.bytes == 16) then Some binary.bytes else None

-- the id of a session: a document with the UUID under its one known key
unfoldable pub session_id_of : Bson → Option (List ℕ)
session_id_of value =
    option_and_then (λ pairs. option_and_then (λ id. option_and_then uuid_in (binary_of id)) (value_of SESSION_ID.now pairs)) (document_of value)

-- the body names the database to which the command goes
unfoldable pub goes_to : List ℕ → List (Pair Bson) → Bool
goes_to database body = option_map_or (λ text. bytes_eq text database) (needed text_of DATABASE.now body) false

-- the send of what a command asks for, under the session, the number and the transaction that its body says
unfoldable pub sent_as : List (Pair Bson) → SendBody → Option Send
sent_as body asked =
    option_and_then (λ session.
    option_and_then (λ number.
    option_and_then (λ start.
    option_map (λ in_transaction. record { session = session; number = number; start = start; in_transaction = in_transaction; body = asked })
    (flag false AUTOCOMMIT.now body))
    (flag true START_TRANSACTION.now body))
    (optional int64_of TRANSACTION_NUMBER.now body))
    (optional session_id_of SESSION.now body)
