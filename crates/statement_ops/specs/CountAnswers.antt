-- What the replies to an update and to a delete say, where they say that the command was done.
use Rattle.std.specs.Prelude.{◌≡◌, ℕ, List, [], ◌∷◌, codes, Option, None, Some, ◌⊎◌, Result, Ok, Err}
use Rattle.std.specs.Option.{option_and_then, option_map}
use Rattle.bson_lite.specs.declared.bson.Bson.{Bson}
use Rattle.bson_lite.specs.declared.document.Pair.{Pair}
use Rattle.bson_lite.specs.declared.fields.TheConstants.{ID_KEY}
use Rattle.bson_lite.specs.Fields.{value_of}
use Rattle.driver_error.specs.declared.error.Error.{Error}
use Rattle.driver_error.specs.declared.kind.ErrorKind.TheVariants as kind
use Rattle.server_answers.specs.declared.results.DeleteResult.{DeleteResult}
use Rattle.server_answers.specs.declared.results.UpdateResult.{UpdateResult}
use Rattle.driver_error.specs.declared.write.WriteFailure.{WriteFailure}
use Rattle.driver_error.specs.Conversions.{IsMade, IsNew, first_failure}
use Rattle.driver_error.specs.Error.{kind_of}
use Rattle.driver_error.specs.LabelTexts.{no_labels}
use Rattle.wire_keys.specs.declared.keys.TheConstants.{N, N_MODIFIED, UPSERTED}
use Rattle.driver_link.specs.declared.machine.Counted.{Counted}
use Rattle.driver_link.specs.declared.machine.Entry.{Entry}
use Rattle.driver_link.specs.Commands.{needed}
use Rattle.driver_link.specs.Values.{array_of, document_of}
use Rattle.driver_ops.specs.Readings.{labels_in, natural, natural_of}
use Rattle.driver_ops.specs.WriteReplies.{reply_concern_error, write_errors_in}
use Rattle.statement_ops.specs.declared.failed_write.FailedWrite.{FailedWrite}
use Rattle.statement_ops.specs.declared.update.UpdateReply.{UpdateReply}
use Rattle.statement_ops.specs.declared.delete.DeleteReply.{DeleteReply}

-- the failure that a reply tells of, if any, the first write error before the write concern error, with the reply's labels
unfoldable pub failed_write_in : List (Pair Bson) → Option FailedWrite
failed_write_in reply =
    option_and_then (λ errors.
    option_and_then (λ concern.
    option_map (λ labels. record { failure = first_failure (Some errors) concern; labels = labels })
    (labels_in reply))
    (reply_concern_error reply))
    (write_errors_in reply)

-- the id in the first of these values, where it is a document that has one
abbrev pub first_id : List Bson → Option Bson
first_id [] = None
first_id (value ∷ values) = option_and_then (value_of ID_KEY.now) (document_of value)

-- the id of the document that an update put in, where it did
unfoldable pub upserted_in : List (Pair Bson) → Option Bson
upserted_in reply = option_and_then first_id (option_and_then array_of (value_of UPSERTED.now reply))

-- the fields of the reply to an update, each in its form
unfoldable pub update_reply : List (Pair Bson) → Option UpdateReply
update_reply reply =
    option_and_then (λ n.
    option_and_then (λ modified.
    option_map (λ failed. record { n = n; modified = modified; upserted = upserted_in reply; failed = failed })
    (failed_write_in reply))
    (needed natural_of N_MODIFIED.now reply))
    (needed natural_of N.now reply)

-- the fields of the reply to a delete, each in its form
unfoldable pub delete_reply : List (Pair Bson) → Option DeleteReply
delete_reply reply =
    option_and_then (λ n.
    option_map (λ failed. record { n = n; failed = failed })
    (failed_write_in reply))
    (needed natural_of N.now reply)

-- the messages about replies that tell of no update and of no delete
unfoldable pub odd_update_text : List ℕ
odd_update_text = codes "the reply does not tell of an update"

unfoldable pub odd_delete_text : List ℕ
odd_delete_text = codes "the reply does not tell of a delete"

-- how many documents an update found: none where it put one in
abbrev pub matched_of : ℕ → Option Bson → ℕ
matched_of n None = n
matched_of n (Some id) = 0

-- the result of an update that counted so
abbrev pub update_result : ℕ → ℕ → Option Bson → UpdateResult
update_result n modified upserted = record { matched_count = matched_of n upserted; modified_count = modified; upserted_id = upserted }

-- the result of a delete that counted so
abbrev pub delete_result : ℕ → DeleteResult
delete_result n = record { deleted_count = n }

-- a write that did not fail is answered by its result, and one that did by its failure with the labels of the reply
abbrev pub AnswersFailed : {A : Type 0} → FailedWrite → A → Result A Error → Type 0
AnswersFailed failed made (Ok output) = (failed.failure ≡ None) × (output ≡ made)
AnswersFailed failed made (Err error) = (failure : WriteFailure) × ((failed.failure ≡ Some failure) × IsNew (kind.Write failure) failed.labels error)

-- the reply to an update is answered so by its fields, unless memory runs out
abbrev pub AnswersUpdate : Option UpdateReply → Result UpdateResult Error → Type 0
AnswersUpdate None (Ok output) = ⊥
AnswersUpdate None (Err error) = IsMade (kind.InvalidResponse odd_update_text) no_labels error
AnswersUpdate (Some reply) result = AnswersFailed reply.failed (update_result reply.n reply.modified reply.upserted) result

-- an update's reply is read so, unless memory runs out
abbrev pub ReadsUpdate : List (Pair Bson) → Result UpdateResult Error → Type 0
ReadsUpdate reply (Ok output) = AnswersUpdate (update_reply reply) (Ok output)
ReadsUpdate reply (Err error) = (kind_of error ≡ kind.Memory) ⊎ AnswersUpdate (update_reply reply) (Err error)

-- the reply to a delete is answered so by its fields
abbrev pub AnswersDelete : Option DeleteReply → Result DeleteResult Error → Type 0
AnswersDelete None (Ok output) = ⊥
AnswersDelete None (Err error) = IsMade (kind.InvalidResponse odd_delete_text) no_labels error
AnswersDelete (Some reply) result = AnswersFailed reply.failed (delete_result reply.n) result

-- a delete's reply is read so, unless memory runs out
abbrev pub ReadsDelete : List (Pair Bson) → Result DeleteResult Error → Type 0
ReadsDelete reply (Ok output) = AnswersDelete (delete_reply reply) (Ok output)
ReadsDelete reply (Err error) = (kind_of error ≡ kind.Memory) ⊎ AnswersDelete (delete_reply reply) (Err error)

-- the result of an update by what its entry counts; counts are not negative
abbrev pub updated_by : Counted → Option UpdateResult
updated_by result =
    option_and_then (λ n. option_map (λ modified. update_result n modified result.upserted) (natural result.modified)) (natural result.n)

-- the result of a delete by what its entry counts
abbrev pub deleted_by : Counted → Option DeleteResult
deleted_by result = option_map delete_result (natural result.n)

-- the output of an update is told by its one entry
abbrev pub TellsUpdate : List Entry → UpdateResult → Type 0
TellsUpdate (entry ∷ []) output = updated_by entry.result ≡ Some output
TellsUpdate entries output = ⊥

-- the output of a delete is told by its one entry
abbrev pub TellsDelete : List Entry → DeleteResult → Type 0
TellsDelete (entry ∷ []) output = deleted_by entry.result ≡ Some output
TellsDelete entries output = ⊥
