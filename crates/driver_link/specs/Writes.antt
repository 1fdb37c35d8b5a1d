-- The writes of commands: documents, statements and ops, by MongoDB's command reference.
use Rattle.std.specs.Prelude.{ℕ, ℤ, pos, Bool, List, [], ◌∷◌, length, map, filter, not, Option, None, Some, ◌==◌, nat_lt, bytes_eq, slice_get, if◌then◌else◌}
use Rattle.std.specs.List.{list_any, position_or_len, before_first, after_first}
use Rattle.std.specs.Option.{option_and_then, option_map}
use Rattle.bson_lite.specs.declared.bson.Bson.{Bson}
use Rattle.bson_lite.specs.declared.document.Pair.{Pair}
use Rattle.bson_lite.specs.declared.namespace.Namespace.{Namespace}
use Rattle.driver_link.specs.declared.command.CommandName.{CommandName}
use Rattle.driver_link.specs.declared.command.CommandName.TheVariants as name
use Rattle.wire_keys.specs.declared.keys.TheConstants.{AUTOCOMMIT, CLUSTER_TIME, DATABASE, DOCUMENT, NAMESPACE, READ_CONCERN, RECOVERY_TOKEN, SESSION, START_TRANSACTION, TRANSACTION_NUMBER, WRITE_CONCERN}
use Rattle.driver_link.specs.declared.machine.Place.{Place}
use Rattle.driver_link.specs.declared.machine.PlacedWrite.{PlacedWrite}
use Rattle.driver_link.specs.declared.machine.WriteKind.{WriteKind}
use Rattle.driver_link.specs.declared.machine.WriteKind.TheVariants as kind
use Rattle.driver_link.specs.declared.machine.Written.{Written}
use Rattle.driver_link.specs.CommandNames.{command_named}
use Rattle.driver_link.specs.Commands.{needed}
use Rattle.driver_link.specs.Values.{text_of, int32_of, document_of}

-- a write of one document, statement or op
abbrev pub write_on : WriteKind → Namespace → List (Pair Bson) → Written
write_on does namespace document = record { kind = does; namespace = namespace; document = document }

-- writes of one kind on one namespace
abbrev pub writes_on : WriteKind → Namespace → List (List (Pair Bson)) → List Written
writes_on does namespace documents = map (write_on does namespace) documents

-- writes with their places; as many of one as of the other, else none
unfoldable pub placed : List Written → List Place → Option (List PlacedWrite)
placed [] [] = Some []
placed [] (place ∷ places) = None
placed (written ∷ rest) [] = None
placed (written ∷ rest) (place ∷ places) = option_map (λ writes. record { place = place; written = written } ∷ writes) (placed rest places)

-- the documents of a list of values that are all documents
unfoldable pub documents_in : List Bson → Option (List (List (Pair Bson)))
documents_in [] = Some []
documents_in (value ∷ values) =
    option_and_then (λ document. option_map (λ rest. document ∷ rest) (documents_in values)) (document_of value)

-- the keys of the fields that stand in commands of every kind
abbrev pub common_keys : List (List ℕ)
common_keys =
    SESSION.now ∷ TRANSACTION_NUMBER.now ∷ READ_CONCERN.now ∷ START_TRANSACTION.now ∷ AUTOCOMMIT.now
    ∷ RECOVERY_TOKEN.now ∷ WRITE_CONCERN.now ∷ CLUSTER_TIME.now ∷ DATABASE.now ∷ []

-- a field that stands in commands of every kind
unfoldable pub is_common : Pair Bson → Bool
is_common pair = list_any (λ key. bytes_eq key pair.key) common_keys

-- the fields of a body that are its command's own
abbrev pub own_fields : List (Pair Bson) → List (Pair Bson)
own_fields body = filter (λ pair. not (is_common pair)) body

-- a dot
abbrev pub is_dot : ℕ → Bool
is_dot byte = byte == 46

-- a namespace in one text, cut at its first dot; a text without a dot is none
unfoldable pub cut : List ℕ → Option Namespace
cut text =
    if nat_lt (position_or_len is_dot text) (length text)
    then Some (record { db = before_first is_dot text; coll = after_first is_dot text })
    else None

-- the namespace in a document that names one
unfoldable pub namespace_in : List (Pair Bson) → Option Namespace
namespace_in document = option_and_then cut (needed text_of NAMESPACE.now document)

-- the namespaces of documents that all name one
unfoldable pub namespaces_in : List (List (Pair Bson)) → Option (List Namespace)
namespaces_in [] = Some []
namespaces_in (document ∷ documents) =
    option_and_then (λ namespace. option_map (λ rest. namespace ∷ rest) (namespaces_in documents)) (namespace_in document)

-- the namespace at an index
abbrev pub namespace_at : List Namespace → ℤ → Option Namespace
namespace_at namespaces (pos index) = slice_get namespaces index
namespace_at namespaces negative = None

-- the namespace that the first field of an op names by its index
unfoldable pub namespace_by : List Namespace → Bson → Option Namespace
namespace_by namespaces value = option_and_then (namespace_at namespaces) (int32_of value)

-- the write of an op by its other fields: the document that it inserts, else all of them
unfoldable pub op_write : CommandName → Namespace → List (Pair Bson) → Option Written
op_write name.Insert namespace fields = option_map (write_on kind.Insert namespace) (needed document_of DOCUMENT.now fields)
op_write name.Update namespace fields = Some (write_on kind.Update namespace fields)
op_write name.Delete namespace fields = Some (write_on kind.Delete namespace fields)
op_write other namespace fields = None

-- the write of an op: its first field says what it does, and to which namespace
unfoldable pub op_of : List Namespace → List (Pair Bson) → Option Written
op_of namespaces [] = None
op_of namespaces (first ∷ fields) =
    option_and_then (λ does. option_and_then (λ namespace. op_write does namespace fields) (namespace_by namespaces first.value)) (command_named first.key)

-- the writes of ops
unfoldable pub ops_of : List Namespace → List (List (Pair Bson)) → Option (List Written)
ops_of namespaces [] = Some []
ops_of namespaces (op ∷ ops) = option_and_then (λ write. option_map (λ rest. write ∷ rest) (ops_of namespaces ops)) (op_of namespaces op)
