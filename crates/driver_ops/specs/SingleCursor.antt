-- The first document of the cursor in a reply.
use Rattle.std.specs.Prelude.{◌≡◌, ℕ, List, [], ◌∷◌, codes, Option, None, Some, ◌⊎◌, Result, Ok, Err}
use Rattle.std.specs.Option.{option_and_then, option_map}
use Rattle.bson_lite.specs.declared.bson.Bson.{Bson}
use Rattle.bson_lite.specs.declared.document.Pair.{Pair}
use Rattle.driver_error.specs.declared.error.Error.{Error}
use Rattle.driver_error.specs.declared.kind.ErrorKind.TheVariants as kind
use Rattle.driver_error.specs.Error.{IsAlone, kind_of}
use Rattle.driver_error.specs.LabelTexts.{no_labels}
use Rattle.wire_keys.specs.declared.keys.TheConstants.{CURSOR, FIRST_BATCH}
use Rattle.driver_link.specs.Commands.{needed}
use Rattle.driver_link.specs.Values.{array_of, document_of}
use Rattle.driver_ops.specs.declared.single_cursor.SingleCursorResult.{SingleCursorResult}

-- the first of these values, which is a document where there is one
abbrev pub first_document : List Bson → Option (Option (List (Pair Bson)))
first_document [] = Some None
first_document (value ∷ values) = option_map (λ document. Some document) (document_of value)

-- an array that is empty or begins with a document
unfoldable pub batch_of_one : Bson → Option (Option (List (Pair Bson)))
batch_of_one value = option_and_then first_document (array_of value)

-- a document whose first page is one
unfoldable pub cursor_of_one : Bson → Option (Option (List (Pair Bson)))
cursor_of_one value = option_and_then (needed batch_of_one FIRST_BATCH.now) (document_of value)

-- the first document of a reply's cursor
unfoldable pub single_cursor : List (Pair Bson) → Option (Option (List (Pair Bson)))
single_cursor reply = needed cursor_of_one CURSOR.now reply

-- the message about a reply whose cursor has not its form
unfoldable pub no_cursor_text : List ℕ
no_cursor_text = codes "the reply has no cursor that begins with a document"

-- it is read so, and refused exactly where the cursor has not its form; unless memory runs out
abbrev pub ReadsSingleCursor : List (Pair Bson) → Result SingleCursorResult Error → Type 0
ReadsSingleCursor reply (Ok given) = single_cursor reply ≡ Some given.first
ReadsSingleCursor reply (Err error) =
    (kind_of error ≡ kind.Memory) ⊎ ((single_cursor reply ≡ None) × IsAlone (kind.InvalidResponse no_cursor_text) no_labels error)
