-- What an error becomes when what a server said in messages, details and replies is taken out of it and of all below it; ids and counts stay.
use Rattle.std.specs.Prelude.{ℕ, suc, zero, true, List, [], ◌∷◌, map, codes, Option, None}
use Rattle.std.specs.Option.{option_map}
use Rattle.bson_lite.specs.declared.bson.Bson as bson
use Rattle.bson_lite.specs.declared.bson.Bson.{Bson}
use Rattle.bson_lite.specs.declared.document.Pair.{Pair}
use Rattle.bson_lite.specs.Indexed.{changed}
use Rattle.bson_lite.specs.Spelling.{spelling}
use Rattle.server_answers.specs.declared.command.CommandError.{CommandError}
use Rattle.driver_error.specs.declared.error.Error.{Error, Error-F, out-Error, roll-Error}
use Rattle.driver_error.specs.declared.kind.ErrorKind.TheVariants as kind
use Rattle.driver_error.specs.declared.write.BulkWriteError.{BulkWriteError}
use Rattle.driver_error.specs.declared.write.IndexedWriteError.{IndexedWriteError}
use Rattle.driver_error.specs.declared.write.InsertManyError.{InsertManyError}
use Rattle.driver_error.specs.declared.write.WriteConcernError.{WriteConcernError}
use Rattle.driver_error.specs.declared.write.WriteError.{WriteError}
use Rattle.driver_error.specs.declared.write.WriteFailure.{WriteFailure}
use Rattle.driver_error.specs.declared.write.WriteFailure.TheVariants as failure
use Rattle.driver_error.specs.Chains.{depth}
use Rattle.driver_error.specs.Error.{ErrorKind, source_of}

-- what stands in place of a message
unfoldable pub redacted_text : List ℕ
redacted_text = codes "REDACTED"

abbrev pub redacted_command : CommandError → CommandError
redacted_command error = record error { message = redacted_text }

abbrev pub redacted_concern : WriteConcernError → WriteConcernError
redacted_concern error = record error { message = redacted_text; details = None }

abbrev pub redacted_write : WriteError → WriteError
redacted_write error = record error { message = redacted_text; details = None }

abbrev pub redacted_indexed : IndexedWriteError → IndexedWriteError
redacted_indexed error = record error { message = redacted_text; details = None }

abbrev pub redacted_failure : WriteFailure → WriteFailure
redacted_failure (failure.WriteConcernError error) = failure.WriteConcernError (redacted_concern error)
redacted_failure (failure.WriteError error) = failure.WriteError (redacted_write error)

-- the inserted ids stay
abbrev pub redacted_many : InsertManyError → InsertManyError
redacted_many error =
    record error {
      write_errors = option_map (map redacted_indexed) error.write_errors;
      write_concern_error = option_map redacted_concern error.write_concern_error;
    }

-- the partial result stays
abbrev pub redacted_bulk : BulkWriteError → BulkWriteError
redacted_bulk error =
    record error {
      write_concern_errors = map redacted_concern error.write_concern_errors;
      write_errors = changed redacted_write error.write_errors;
    }

-- all other kinds stay
abbrev pub redacted_kind : ErrorKind → ErrorKind
redacted_kind (kind.InsertMany error) = kind.InsertMany (redacted_many error)
redacted_kind (kind.BulkWrite error) = kind.BulkWrite (redacted_bulk error)
redacted_kind (kind.Command error) = kind.Command (redacted_command error)
redacted_kind (kind.Write failure) = kind.Write (redacted_failure failure)
redacted_kind why = why

-- the document `{redacted: true}`
abbrev pub redacted_document : List (Pair Bson)
redacted_document = record { key = codes "redacted"; value = bson.Boolean true } ∷ []

-- what stands in place of a reply
unfoldable pub redacted_reply : List ℕ
redacted_reply = spelling redacted_document

-- an error over its redacted source
abbrev pub redacted_layer : Error-F Error → Option Error → Error-F Error
redacted_layer layer source =
    record layer {
      kind = redacted_kind layer.kind;
      source = source;
      server_response = option_map (λ _. redacted_reply) layer.server_response;
    }

-- an error redacted, and so many of those below it
abbrev pub redacted_down : ℕ → Error → Error
redacted_down zero error = roll-Error (redacted_layer (out-Error error) None)
redacted_down (suc count) error = roll-Error (redacted_layer (out-Error error) (option_map (redacted_down count) (source_of error)))

-- an error redacted, and all those below it
unfoldable pub redacted : Error → Error
redacted error = redacted_down (depth error) error
