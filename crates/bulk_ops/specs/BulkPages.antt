-- The pages of the answer to a bulk write, where each says that its command was done: the reply with its counts and the first
-- results, and the pages behind it.
use Rattle.std.specs.Prelude.{ℕ, ℤ, pos, List, [], ◌∷◌, codes, Option, None, Some, is_some, unwrap_or, if◌then◌else◌}
use Rattle.std.specs.Option.{option_and_then, option_map}
use Rattle.bson_lite.specs.declared.bson.Bson.{Bson}
use Rattle.bson_lite.specs.declared.document.Pair.{Pair}
use Rattle.bson_lite.specs.declared.fields.TheConstants.{ID_KEY}
use Rattle.bson_lite.specs.declared.namespace.Namespace.{Namespace}
use Rattle.bson_lite.specs.Fields.{int_of, value_of}
use Rattle.server_answers.specs.declared.results.SummaryBulkWriteResult.{SummaryBulkWriteResult}
use Rattle.driver_error.specs.declared.write.WriteError.{WriteError}
use Rattle.wire_keys.specs.declared.keys.TheConstants.{CODE, CURSOR, CURSOR_ID, CURSOR_NAMESPACE, ERROR_MESSAGE, FIRST_BATCH, N, N_DELETED, N_ERRORS, N_INSERTED, N_MATCHED, N_MODIFIED, N_UPSERTED, NEXT_BATCH, RESULT_INDEX, UPSERTED}
use Rattle.driver_link.specs.Commands.{needed, optional}
use Rattle.driver_link.specs.Values.{array_of, document_of, text_of}
use Rattle.driver_link.specs.Writes.{cut}
use Rattle.driver_ops.specs.declared.keys.TheConstants.{CODE_NAME, ERROR_INFO}
use Rattle.driver_ops.specs.Readings.{labels_in, natural_of, small_of, text_in}
use Rattle.driver_ops.specs.WriteReplies.{reply_concern_error}
use Rattle.bulk_ops.specs.declared.bulk_reply.BulkReply.{BulkReply}
use Rattle.bulk_ops.specs.declared.bulk_reply.OpOutcome.{OpOutcome}
use Rattle.bulk_ops.specs.declared.bulk_reply.OpOutcome.TheVariants.{Counted, Failed}
use Rattle.bulk_ops.specs.declared.bulk_reply.OpResult.{OpResult}
use Rattle.bulk_ops.specs.declared.bulk_reply.ResultsPage.{ResultsPage}

-- a write error by its fields: its code is needed
unfoldable pub op_error_in : List (Pair Bson) → Option WriteError
op_error_in document =
    option_and_then (λ code.
    option_and_then (λ name.
    option_and_then (λ message.
    option_map (λ details. record { code = code; code_name = name; message = message; details = details })
    (optional document_of ERROR_INFO.now document))
    (text_in ERROR_MESSAGE.now document))
    (optional text_of CODE_NAME.now document))
    (needed small_of CODE.now document)

-- the id of a document that was put in: a document that has one
unfoldable pub upsert_of : Bson → Option Bson
upsert_of value = option_and_then (value_of ID_KEY.now) (document_of value)

-- what an op counted: how many documents it found, which is needed, how many it changed, none where that is missing, and the id
-- of the document that it put in, if it did
unfoldable pub op_counts_in : List (Pair Bson) → Option OpOutcome
op_counts_in document =
    option_and_then (λ n.
    option_and_then (λ modified.
    option_map (λ upserted. Counted n (unwrap_or modified 0) upserted)
    (optional upsert_of UPSERTED.now document))
    (optional natural_of N_MODIFIED.now document))
    (needed natural_of N.now document)

-- what became of an op: it failed where there is a code, else it counted
unfoldable pub op_outcome_in : List (Pair Bson) → Option OpOutcome
op_outcome_in document =
    if is_some (value_of CODE.now document) then option_map (λ error. Failed error) (op_error_in document) else op_counts_in document

-- a results document: the index of an op, which is needed, and what became of it
unfoldable pub op_result_in : List (Pair Bson) → Option OpResult
op_result_in document =
    option_and_then (λ index.
    option_map (λ outcome. record { index = index; outcome = outcome })
    (op_outcome_in document))
    (needed natural_of RESULT_INDEX.now document)

-- a value that is one
unfoldable pub op_result_of : Bson → Option OpResult
op_result_of value = option_and_then op_result_in (document_of value)

-- results documents, each in its form
unfoldable pub op_results : List Bson → Option (List OpResult)
op_results [] = Some []
op_results (value ∷ values) = option_and_then (λ result. option_map (λ rest. result ∷ rest) (op_results values)) (op_result_of value)

-- an array of them
unfoldable pub op_results_of : Bson → Option (List OpResult)
op_results_of value = option_and_then op_results (array_of value)

-- the namespace that a cursor is asked for under, cut at its first dot
unfoldable pub cursor_namespace : List (Pair Bson) → Option Namespace
cursor_namespace document = option_and_then cut (needed text_of CURSOR_NAMESPACE.now document)

-- the namespace that the pages of a bulk write's results are asked for under
abbrev pub bulk_namespace : Namespace
bulk_namespace = record { db = codes "admin"; coll = codes "$cmd.bulkWrite" }

-- the cursor of a page: its number, the namespace that it is asked for under, and under a key the results
unfoldable pub cursor_in : List ℕ → List (Pair Bson) → Option ResultsPage
cursor_in batch document =
    option_and_then (λ cursor.
    option_and_then (λ namespace.
    option_map (λ results. record { cursor = cursor; namespace = namespace; results = results })
    (needed op_results_of batch document))
    (cursor_namespace document))
    (needed int_of CURSOR_ID.now document)

-- the page in a reply, which is needed
unfoldable pub page_in : List ℕ → List (Pair Bson) → Option ResultsPage
page_in batch reply = option_and_then (cursor_in batch) (needed document_of CURSOR.now reply)

-- a page behind the first
abbrev pub next_page : List (Pair Bson) → Option ResultsPage
next_page reply = page_in NEXT_BATCH.now reply

-- a count of a reply: a number that is not negative
unfoldable pub count_in : List ℕ → List (Pair Bson) → Option ℤ
count_in key reply = option_map (λ count. pos count) (needed natural_of key reply)

-- the counts of a reply, each of which is needed
unfoldable pub counts_in : List (Pair Bson) → Option SummaryBulkWriteResult
counts_in reply =
    option_and_then (λ inserted.
    option_and_then (λ matched.
    option_and_then (λ modified.
    option_and_then (λ upserted.
    option_map (λ deleted. record {
      inserted_count = inserted;
      matched_count = matched;
      modified_count = modified;
      upserted_count = upserted;
      deleted_count = deleted;
    })
    (count_in N_DELETED.now reply))
    (count_in N_UPSERTED.now reply))
    (count_in N_MODIFIED.now reply))
    (count_in N_MATCHED.now reply))
    (count_in N_INSERTED.now reply)

-- the fields of the reply, each in its form: the six counts and the first page are needed
unfoldable pub bulk_reply : List (Pair Bson) → Option BulkReply
bulk_reply reply =
    option_and_then (λ errors.
    option_and_then (λ counts.
    option_and_then (λ concern.
    option_and_then (λ labels.
    option_map (λ page. record { errors = errors; counts = counts; concern = concern; labels = labels; page = page })
    (page_in FIRST_BATCH.now reply))
    (labels_in reply))
    (reply_concern_error reply))
    (counts_in reply))
    (needed natural_of N_ERRORS.now reply)

-- the message about a reply that has not its form
unfoldable pub odd_bulk_text : List ℕ
odd_bulk_text = codes "the reply does not tell of a bulk write"

-- and about a page that has not
unfoldable pub odd_page_text : List ℕ
odd_page_text = codes "the page does not tell of the results of a bulk write"
