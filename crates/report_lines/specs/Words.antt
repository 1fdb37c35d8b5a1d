-- The words of a report: ids, numbers, places, values and errors.
use Rattle.std.specs.Prelude.{ℕ, ◌/◌, ◌%◌, ◌==◌, false, if◌then◌else◌, ℤ, List, [], ◌∷◌, ◌++◌, map, codes, decimal, Option, None, Some, is_none}
use Rattle.std.specs.Fmt.{digits, digit_glyph, signed_decimal}
use Rattle.bson_lite.specs.declared.bson.Bson.{Bson, out-Bson}
use Rattle.bson_lite.specs.declared.bson.Bson.TheOpen.{Bson-F}
use Rattle.bson_lite.specs.declared.document.Pair.{Pair}
use Rattle.bson_lite.specs.declared.fault.EncodeFault.{EncodeFault}
use Rattle.bson_lite.specs.declared.fault.EncodeFault.TheVariants as fault
use Rattle.bson_lite.specs.Spelling.{spelling, refusal}
use Rattle.driver_error.specs.declared.error.Error.{Error}
use Rattle.driver_error.specs.declared.kind.ErrorKind.TheVariants as kind
use Rattle.driver_error.specs.declared.kind.IoKind.{IoKind}
use Rattle.driver_error.specs.declared.kind.IoKind.TheVariants as io
use Rattle.server_answers.specs.declared.results.PartialBulkWriteResult.{PartialBulkWriteResult}
use Rattle.server_answers.specs.declared.results.SummaryBulkWriteResult.{SummaryBulkWriteResult}
use Rattle.driver_error.specs.declared.write.BulkWriteError.{BulkWriteError}
use Rattle.driver_error.specs.declared.write.IndexedWriteError.{IndexedWriteError}
use Rattle.driver_error.specs.declared.write.InsertManyError.{InsertManyError}
use Rattle.driver_error.specs.declared.write.WriteConcernError.{WriteConcernError}
use Rattle.driver_error.specs.declared.write.WriteFailure.{WriteFailure}
use Rattle.driver_error.specs.declared.write.WriteFailure.TheVariants as failure
use Rattle.driver_error.specs.BulkErrors.{partial_counts}
use Rattle.driver_error.specs.Error.{ErrorKind, kind_of, labels_of, source_of}
use Rattle.driver_error.specs.LabelTexts.{in_order}
use Rattle.driver_link.specs.declared.machine.Place.{Place}
use Rattle.report_lines.specs.declared.failed_writes.FailedWrite.{FailedWrite}
use Rattle.report_lines.specs.FailedWrites.{failed_by_index, failed_in_order}

-- a byte as two hexadecimal digits
abbrev pub two_digits : ℕ → List ℕ
two_digits byte = digit_glyph false (byte / 16) ∷ digit_glyph false (byte % 16) ∷ []

-- bytes, two digits each
unfoldable pub hex : List ℕ → List ℕ
hex [] = []
hex (byte ∷ bytes) = two_digits byte ++ hex bytes

-- bytes as one hexadecimal number, the high byte first, without leading zeros
unfoldable pub plain_hex : List ℕ → List ℕ
plain_hex [] = codes "0"
plain_hex (byte ∷ bytes) = if byte == 0 then plain_hex bytes else digits 16 false byte ++ hex bytes

-- a session's id, or `-`
abbrev pub session_text : Option (List ℕ) → List ℕ
session_text None = codes "-"
session_text (Some id) = plain_hex id

-- a transaction number, or `-`
abbrev pub number_text : Option ℤ → List ℕ
number_text None = codes "-"
number_text (Some number) = signed_decimal number

-- the texts after the first, a comma before each
unfoldable pub more_texts : List (List ℕ) → List ℕ
more_texts [] = []
more_texts (text ∷ texts) = codes "," ++ text ++ more_texts texts

-- texts with commas between them, or `-` where there is none
unfoldable pub listed : List (List ℕ) → List ℕ
listed [] = codes "-"
listed (text ∷ texts) = text ++ more_texts texts

-- the place of a write: its call and its index
abbrev pub place_text : Place → List ℕ
place_text place = decimal place.call ++ codes "." ++ decimal place.index

-- the document with one value under `v`
abbrev pub lone : Bson → List (Pair Bson)
lone value = record { key = codes "v"; value = value } ∷ []

-- the spelling of a document, or nothing where it has none
abbrev pub spelled_or_nothing : List (Pair Bson) → List ℕ
spelled_or_nothing document = if is_none (refusal document) then spelling document else []

-- the hexadecimal digits of an object id, an integer in decimal, and of other values their spelling
abbrev pub value_layer : Bson → Bson-F Bson → List ℕ
value_layer value (Bson-F.ObjectId id) = hex id.bytes
value_layer value (Bson-F.Int32 number) = signed_decimal number
value_layer value (Bson-F.Int64 number) = signed_decimal number
value_layer value _ = codes "bson:" ++ hex (spelled_or_nothing (lone value))

-- the text of an id
unfoldable pub value_text : Bson → List ℕ
value_text value = value_layer value (out-Bson value)

-- the text of an id, or `-`
abbrev pub value_text_or_none : Option Bson → List ℕ
value_text_or_none None = codes "-"
value_text_or_none (Some value) = value_text value

-- why a document has no spelling
unfoldable pub fault_name : EncodeFault → List ℕ
fault_name fault.TooDeep = codes "TooDeep"
fault_name fault.ZeroByte = codes "ZeroByte"
fault_name fault.TooLong = codes "TooLong"
fault_name fault.Memory = codes "Memory"

-- how reading or writing failed
unfoldable pub io_name : IoKind → List ℕ
io_name io.TimedOut = codes "TimedOut"
io_name io.ConnectionReset = codes "ConnectionReset"
io_name io.ConnectionRefused = codes "ConnectionRefused"
io_name io.BrokenPipe = codes "BrokenPipe"
io_name io.UnexpectedEof = codes "UnexpectedEof"
io_name io.Other = codes "Other"

-- the name of an error's kind
unfoldable pub kind_name : ErrorKind → List ℕ
kind_name (kind.InvalidArgument message) = codes "InvalidArgument"
kind_name (kind.Authentication message) = codes "Authentication"
kind_name (kind.BsonDeserialization text) = codes "BsonDeserialization"
kind_name (kind.BsonSerialization fault) = codes "BsonSerialization"
kind_name (kind.InsertMany failures) = codes "InsertMany"
kind_name (kind.BulkWrite failures) = codes "BulkWrite"
kind_name (kind.Command error) = codes "Command"
kind_name (kind.DnsResolve message) = codes "DnsResolve"
kind_name (kind.GridFs failure) = codes "GridFs"
kind_name (kind.Internal message) = codes "Internal"
kind_name (kind.Io failure) = codes "Io"
kind_name (kind.ConnectionPoolCleared message) = codes "ConnectionPoolCleared"
kind_name (kind.InvalidResponse message) = codes "InvalidResponse"
kind_name (kind.ServerSelection message) = codes "ServerSelection"
kind_name kind.SessionsNotSupported = codes "SessionsNotSupported"
kind_name (kind.InvalidTlsConfig message) = codes "InvalidTlsConfig"
kind_name (kind.Write failure) = codes "Write"
kind_name (kind.Transaction message) = codes "Transaction"
kind_name (kind.IncompatibleServer message) = codes "IncompatibleServer"
kind_name kind.MissingResumeToken = codes "MissingResumeToken"
kind_name (kind.Custom text) = codes "Custom"
kind_name kind.Shutdown = codes "Shutdown"
kind_name kind.Memory = codes "Memory"

-- why a single write failed: which of the two, and its code
unfoldable pub failure_text : WriteFailure → List ℕ
failure_text (failure.WriteConcernError error) = codes "WriteConcernError " ++ signed_decimal error.code
failure_text (failure.WriteError error) = codes "WriteError " ++ signed_decimal error.code

-- a write that failed: its index and the code
unfoldable pub failed_text : FailedWrite → List ℕ
failed_text write = decimal write.index ++ codes ":" ++ signed_decimal write.code

-- the writes of these errors in order of their indexes, or `-` where there is none
abbrev pub failed_or_none : Option (List IndexedWriteError) → List ℕ
failed_or_none None = codes "-"
failed_or_none (Some errors) = listed (map failed_text (failed_in_order errors))

-- the same behind their name
unfoldable pub write_errors_text : Option (List IndexedWriteError) → List ℕ
write_errors_text errors = codes "errors=" ++ failed_or_none errors

-- the code of a write concern error, or `-`
abbrev pub concern_code : Option WriteConcernError → List ℕ
concern_code None = codes "-"
concern_code (Some error) = signed_decimal error.code

-- the same behind its name
unfoldable pub concern_text : Option WriteConcernError → List ℕ
concern_text concern = codes " writeConcern=" ++ concern_code concern

-- why an insert of many failed: its write errors and its write concern error
unfoldable pub many_failure_text : InsertManyError → List ℕ
many_failure_text many = write_errors_text many.write_errors ++ concern_text many.write_concern_error

-- the code of a write concern error
abbrev pub error_code : WriteConcernError → List ℕ
error_code error = signed_decimal error.code

-- the five counts of a bulk write: of documents inserted, matched, modified, upserted and deleted
abbrev pub five_of : SummaryBulkWriteResult → List ℤ
five_of counts =
    counts.inserted_count ∷ counts.matched_count ∷ counts.modified_count ∷ counts.upserted_count ∷ counts.deleted_count ∷ []

-- the same with commas between them
unfoldable pub five_text : SummaryBulkWriteResult → List ℕ
five_text counts = listed (map signed_decimal (five_of counts))

-- those of what succeeded, or `-` where nothing did
abbrev pub partial_text : Option PartialBulkWriteResult → List ℕ
partial_text None = codes "-"
partial_text (Some result) = five_text (partial_counts result)

-- why a bulk write failed: its write errors in order of their indexes, its write concern errors, and what succeeded
unfoldable pub bulk_failure_text : BulkWriteError → List ℕ
bulk_failure_text failures =
    codes "errors=" ++ listed (map failed_text (failed_by_index failures.write_errors)) ++ codes " writeConcerns="
    ++ listed (map error_code failures.write_concern_errors) ++ codes " partial=" ++ partial_text failures.partial_result

-- what belongs to an error's kind, or `-`
unfoldable pub detail : ErrorKind → List ℕ
detail (kind.InvalidArgument message) = message
detail (kind.Authentication message) = message
detail (kind.BsonSerialization fault) = fault_name fault
detail (kind.InsertMany many) = many_failure_text many
detail (kind.BulkWrite failures) = bulk_failure_text failures
detail (kind.Command error) = signed_decimal error.code
detail (kind.DnsResolve message) = message
detail (kind.Internal message) = message
detail (kind.Io failure) = io_name failure
detail (kind.ConnectionPoolCleared message) = message
detail (kind.InvalidResponse message) = message
detail (kind.ServerSelection message) = message
detail (kind.InvalidTlsConfig message) = message
detail (kind.Write failure) = failure_text failure
detail (kind.Transaction message) = message
detail (kind.IncompatibleServer message) = message
detail (kind.Custom text) = text
detail _ = codes "-"

-- the kind of an error's source, or `-`
abbrev pub source_text : Option Error → List ℕ
source_text None = codes "-"
source_text (Some source) = kind_name (kind_of source)

-- an error: its kind, its labels in the order of their bytes, and the kind of its source
unfoldable pub error_text : Error → List ℕ
error_text error =
    codes "err " ++ kind_name (kind_of error) ++ codes " " ++ detail (kind_of error)
    ++ codes " labels=" ++ listed (in_order (labels_of error)) ++ codes " source=" ++ source_text (source_of error)
