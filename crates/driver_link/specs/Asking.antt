-- What a command asks for, by its body and the documents beside it.
use Rattle.std.specs.Prelude.{ℕ, ℤ, pos, Bool, true, false, List, [], ◌∷◌, Option, None, Some, bytes_eq, if◌then◌else◌}
use Rattle.std.specs.Option.{option_and_then, option_map}
use Rattle.std.specs.Ordering.{int_eq}
use Rattle.bson_lite.specs.declared.bson.Bson.{Bson}
use Rattle.bson_lite.specs.declared.document.Pair.{Pair}
use Rattle.bson_lite.specs.declared.namespace.Namespace.{Namespace}
use Rattle.driver_link.specs.declared.command.CommandName.{CommandName}
use Rattle.driver_link.specs.declared.command.CommandName.TheVariants as name
use Rattle.driver_link.specs.declared.frame.Documents.{Documents}
use Rattle.wire_keys.specs.declared.keys.TheConstants.{ADMIN, COLLECTION, CURSORS, DELETES, DOCUMENTS, NAMESPACES, OPS, ORDERED, UPDATES}
use Rattle.driver_link.specs.declared.machine.Place.{Place}
use Rattle.driver_link.specs.declared.machine.Send.{Send}
use Rattle.driver_link.specs.declared.machine.SendBody.{SendBody}
use Rattle.driver_link.specs.declared.machine.SendBody.TheVariants.{Write, Commit, Abort, More, Kill}
use Rattle.driver_link.specs.declared.machine.SendCommand.{SendCommand}
use Rattle.driver_link.specs.declared.machine.SendCommand.TheVariants as command
use Rattle.driver_link.specs.declared.machine.WriteKind.{WriteKind}
use Rattle.driver_link.specs.declared.machine.WriteKind.TheVariants as kind
use Rattle.driver_link.specs.declared.machine.Written.{Written}
use Rattle.driver_link.specs.CommandNames.{command_named}
use Rattle.driver_link.specs.Commands.{needed, goes_to, sent_as}
use Rattle.driver_link.specs.Values.{text_of, bool_of, int32_of, int64_of, array_of}
use Rattle.driver_link.specs.Writes.{placed, write_on, writes_on, documents_in, own_fields, namespaces_in, ops_of}

-- the documents of the one sequence beside a body, under its name
unfoldable pub only_sequence : List ℕ → List Documents → Option (List (List (Pair Bson)))
only_sequence key (sequence ∷ []) = if bytes_eq sequence.name key then Some sequence.documents else None
only_sequence key others = None

-- nothing stands beside the body
abbrev pub no_sequence : List Documents → Bool
no_sequence [] = true
no_sequence others = false

-- a command of writes, each with its place
unfoldable pub asks_writes : SendCommand → Bool → List Place → List Written → Option SendBody
asks_writes does ordered places writes = option_map (λ list. Write does ordered list) (placed writes places)

-- the namespace of a command whose first field names a collection
unfoldable pub target : List ℕ → Bson → Option Namespace
target database value = option_map (λ collection. record { db = database; coll = collection }) (text_of value)

-- insert: documents in a sequence
unfoldable pub asks_insert : Namespace → List (Pair Bson) → List Documents → List Place → Option SendBody
asks_insert namespace body sequences places =
    option_and_then (λ ordered.
    option_and_then (λ documents. asks_writes command.Insert ordered places (writes_on kind.Insert namespace documents))
    (only_sequence DOCUMENTS.now sequences))
    (needed bool_of ORDERED.now body)

-- update and delete: statements in an array of the body
unfoldable pub asks_statements : SendCommand → WriteKind → List ℕ → Namespace → List (Pair Bson) → List Place → Option SendBody
asks_statements does change key namespace body places =
    option_and_then (λ ordered.
    option_and_then (λ statements. asks_writes does ordered places (writes_on change namespace statements))
    (option_and_then documents_in (needed array_of key body)))
    (needed bool_of ORDERED.now body)

-- findAndModify: one write, of the command's own fields
unfoldable pub asks_one : Namespace → List (Pair Bson) → List Place → Option SendBody
asks_one namespace body places = asks_writes command.FindAndModify true places (write_on kind.FindAndModify namespace (own_fields body) ∷ [])

-- the ops and the namespaces of a bulk write
unfoldable pub asks_ops : Bool → List Place → List (List (Pair Bson)) → List (List (Pair Bson)) → Option SendBody
asks_ops ordered places namespaces ops =
    option_and_then (λ known. option_and_then (asks_writes command.BulkWrite ordered places) (ops_of known ops)) (namespaces_in namespaces)

-- bulkWrite: namespaces in one sequence and ops in another
unfoldable pub asks_bulk : List (Pair Bson) → List Documents → List Place → Option SendBody
asks_bulk body (namespaces ∷ rest) places =
    if bytes_eq namespaces.name NAMESPACES.now
    then option_and_then (λ ordered. option_and_then (asks_ops ordered places namespaces.documents) (only_sequence OPS.now rest)) (needed bool_of ORDERED.now body)
    else None
asks_bulk body [] places = None

-- the value 1 of a command that names nothing
unfoldable pub is_plain_one : Bson → Bool
is_plain_one value = equals_one (int32_of value)
  where
    equals_one : Option ℤ → Bool
    equals_one None = false
    equals_one (Some number) = int_eq number (pos 1)

-- a command without writes has no places
abbrev pub without_places : List Place → SendBody → Option SendBody
without_places [] asked = Some asked
without_places (place ∷ places) asked = None

-- getMore: the cursor, of a collection
unfoldable pub asks_more : Bson → List (Pair Bson) → Option SendBody
asks_more value body = option_and_then (λ collection. option_map (λ cursor. More cursor) (int64_of value)) (needed text_of COLLECTION.now body)

-- the one cursor of a list
unfoldable pub only_cursor : List Bson → Option ℤ
only_cursor (cursor ∷ []) = int64_of cursor
only_cursor others = None

-- killCursors: a collection, and one cursor
unfoldable pub asks_kill : Bson → List (Pair Bson) → Option SendBody
asks_kill value body =
    option_and_then (λ collection. option_map (λ cursor. Kill cursor) (option_and_then only_cursor (needed array_of CURSORS.now body))) (text_of value)

-- what a command with nothing beside its body asks for
unfoldable pub asks_alone : CommandName → List ℕ → Bson → List (Pair Bson) → List Place → Option SendBody
asks_alone name.Update database value body places =
    option_and_then (λ namespace. asks_statements command.Update kind.Update UPDATES.now namespace body places) (target database value)
asks_alone name.Delete database value body places =
    option_and_then (λ namespace. asks_statements command.Delete kind.Delete DELETES.now namespace body places) (target database value)
asks_alone name.FindAndModify database value body places = option_and_then (λ namespace. asks_one namespace body places) (target database value)
asks_alone name.CommitTransaction database value body places = if is_plain_one value then without_places places Commit else None
asks_alone name.AbortTransaction database value body places = if is_plain_one value then without_places places Abort else None
asks_alone name.GetMore database value body places = option_and_then (without_places places) (asks_more value body)
asks_alone name.KillCursors database value body places = option_and_then (without_places places) (asks_kill value body)
asks_alone other database value body places = None

-- what a command asks for, by its name and the value of its first field
unfoldable pub asks_as : CommandName → List ℕ → Bson → List (Pair Bson) → List Documents → List Place → Option SendBody
asks_as name.Insert database value body sequences places =
    option_and_then (λ namespace. asks_insert namespace body sequences places) (target database value)
asks_as name.BulkWrite database value body sequences places = if is_plain_one value then asks_bulk body sequences places else None
asks_as other database value body sequences places = if no_sequence sequences then asks_alone other database value body places else None

-- a command that names no collection of its own goes to one database
abbrev pub is_of_admin : CommandName → Bool
is_of_admin name.BulkWrite = true
is_of_admin name.CommitTransaction = true
is_of_admin name.AbortTransaction = true
is_of_admin other = false

-- a command goes to a database to which it may go
unfoldable pub may_go_to : CommandName → List ℕ → Bool
may_go_to does database = if is_of_admin does then bytes_eq database ADMIN.now else true

-- what a body and the documents beside it ask for
unfoldable pub asks : List ℕ → List (Pair Bson) → List Documents → List Place → Option SendBody
asks database [] sequences places = None
asks database (first ∷ fields) sequences places =
    option_and_then (λ does. if may_go_to does database then asks_as does database first.value (first ∷ fields) sequences places else None) (command_named first.key)

-- the send that a command's body spells, with the documents beside it and the places of its writes
unfoldable pub spelled : List ℕ → List (Pair Bson) → List Documents → List Place → Option Send
spelled database body sequences places =
    if goes_to database body then option_and_then (sent_as body) (asks database body sequences places) else None
