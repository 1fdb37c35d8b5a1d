-- What the reply to a command of writes tells of writes that failed and of a write concern that was not met.
use Rattle.std.specs.Prelude.{List, [], ◌∷◌, Option, Some, unwrap_or}
use Rattle.std.specs.Option.{option_and_then, option_map}
use Rattle.bson_lite.specs.declared.bson.Bson.{Bson}
use Rattle.bson_lite.specs.declared.document.Pair.{Pair}
use Rattle.driver_error.specs.declared.write.IndexedWriteError.{IndexedWriteError}
use Rattle.driver_error.specs.declared.write.WriteConcernError.{WriteConcernError}
use Rattle.wire_keys.specs.declared.keys.TheConstants.{CODE, ERROR_MESSAGE, INDEX, WRITE_CONCERN_ERROR, WRITE_ERRORS}
use Rattle.driver_link.specs.Commands.{needed, optional}
use Rattle.driver_link.specs.Values.{array_of, document_of, text_of}
use Rattle.driver_ops.specs.declared.keys.TheConstants.{CODE_NAME, ERROR_INFO}
use Rattle.driver_ops.specs.Readings.{labels_in, natural_of, small_of, text_in}

-- a write error by its fields: its index and its code are needed
unfoldable pub indexed_error_in : List (Pair Bson) → Option IndexedWriteError
indexed_error_in document =
    option_and_then (λ index.
    option_and_then (λ code.
    option_and_then (λ name.
    option_and_then (λ message.
    option_map (λ details. record { index = index; code = code; code_name = name; message = message; details = details })
    (optional document_of ERROR_INFO.now document))
    (text_in ERROR_MESSAGE.now document))
    (optional text_of CODE_NAME.now document))
    (needed small_of CODE.now document))
    (needed natural_of INDEX.now document)

-- a document that is a write error
unfoldable pub indexed_error_of : Bson → Option IndexedWriteError
indexed_error_of value = option_and_then indexed_error_in (document_of value)

-- write errors, each in its form
unfoldable pub indexed_errors : List Bson → Option (List IndexedWriteError)
indexed_errors [] = Some []
indexed_errors (value ∷ values) = option_and_then (λ error. option_map (λ rest. error ∷ rest) (indexed_errors values)) (indexed_error_of value)

-- an array of write errors
unfoldable pub indexed_errors_of : Bson → Option (List IndexedWriteError)
indexed_errors_of value = option_and_then indexed_errors (array_of value)

-- the write errors of a reply; a list that is missing is empty
unfoldable pub write_errors_in : List (Pair Bson) → Option (List IndexedWriteError)
write_errors_in reply = option_map (λ found. unwrap_or found []) (optional indexed_errors_of WRITE_ERRORS.now reply)

-- a write concern error by its fields: its code is needed
unfoldable pub concern_error_in : List (Pair Bson) → Option WriteConcernError
concern_error_in document =
    option_and_then (λ code.
    option_and_then (λ name.
    option_and_then (λ message.
    option_and_then (λ details.
    option_map (λ labels. record { code = code; code_name = name; message = message; details = details; labels = labels })
    (labels_in document))
    (optional document_of ERROR_INFO.now document))
    (text_in ERROR_MESSAGE.now document))
    (text_in CODE_NAME.now document))
    (needed small_of CODE.now document)

-- a document that is a write concern error
unfoldable pub concern_error_of : Bson → Option WriteConcernError
concern_error_of value = option_and_then concern_error_in (document_of value)

-- the write concern error of a reply, which may be missing
abbrev pub reply_concern_error : List (Pair Bson) → Option (Option WriteConcernError)
reply_concern_error reply = optional concern_error_of WRITE_CONCERN_ERROR.now reply
