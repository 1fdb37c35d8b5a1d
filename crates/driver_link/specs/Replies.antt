-- The replies of the model server, as documents: their fields in order.
use Rattle.std.specs.Prelude.{ℕ, ◌+◌, ℤ, pos, ◌+ℤ◌, Bool, true, false, List, [], ◌∷◌, ◌++◌, map, count_by, filter, filter_map, Option, None, Some, is_none, is_some, if◌then◌else◌}
use Rattle.std.specs.Option.{option_map_or}
use Rattle.bson_lite.specs.declared.bson.Bson.{Bson}
use Rattle.bson_lite.specs.declared.bson.Bson as bson
use Rattle.bson_lite.specs.declared.document.Pair.{Pair}
use Rattle.bson_lite.specs.declared.fields.TheConstants.{ID_KEY}
use Rattle.driver_error.specs.declared.labels.TheConstants.{TRANSIENT_TRANSACTION_ERROR}
use Rattle.wire_keys.specs.declared.keys.TheConstants.{BULK_NAMESPACE, CODE, CURSOR, CURSOR_ID, CURSOR_NAMESPACE, ERROR_LABELS, ERROR_MESSAGE, FIRST_BATCH, INDEX, N, N_DELETED, N_ERRORS, N_INSERTED, N_MATCHED, N_MODIFIED, N_UPSERTED, NEXT_BATCH, OK, SCHEDULED, UPSERTED, VALUE, WRITE_CONCERN_ERROR, WRITE_ERRORS}
use Rattle.driver_link.specs.declared.machine.Counted.{Counted}
use Rattle.driver_link.specs.declared.machine.KnownSession.{KnownSession}
use Rattle.driver_link.specs.declared.machine.PlacedWrite.{PlacedWrite}
use Rattle.driver_link.specs.declared.machine.PlannedConcern.{PlannedConcern}
use Rattle.driver_link.specs.declared.machine.Send.{Send}
use Rattle.driver_link.specs.declared.machine.SendBody.{SendBody}
use Rattle.driver_link.specs.declared.machine.SendBody.TheVariants.{Write, More, Kill}
use Rattle.driver_link.specs.declared.machine.SendCommand.{SendCommand}
use Rattle.driver_link.specs.declared.machine.SendCommand.TheVariants as command
use Rattle.driver_link.specs.declared.machine.Server.{Server}
use Rattle.driver_link.specs.declared.machine.ServerTransaction.{ServerTransaction}
use Rattle.driver_link.specs.declared.machine.ServerTransaction.TheVariants as state
use Rattle.driver_link.specs.declared.machine.Statement.{Statement}
use Rattle.driver_link.specs.declared.machine.Statement.TheVariants.{Kept, Ran, Failed}
use Rattle.driver_link.specs.declared.machine.WriteKind.{WriteKind}
use Rattle.driver_link.specs.declared.machine.WriteKind.TheVariants as kind
use Rattle.driver_link.specs.Cases.{Case, too_old, of_cursor, denied, case_of, known_of, results_of}
use Rattle.driver_link.specs.Cursors.{Reply, rows, first_page, pages_left, cursor_number, results_left}
use Rattle.driver_link.specs.Numbers.{field, reply_number, reply_count}
use Rattle.driver_link.specs.Serving.{Plan, done_in}
use Rattle.driver_link.specs.Sessions.{is_committed}
use Rattle.driver_link.specs.Statements.{is_failed}

-- the first field of a reply that is no error
abbrev pub done_field : Pair Bson
done_field = field OK.now (bson.Int32 (pos 1))

-- the reply that spells an error
unfoldable pub error_reply : ℤ → List (List ℕ) → Reply
error_reply code labels =
    field OK.now (bson.Int32 (pos 0))
    ∷ field CODE.now (bson.Int32 code)
    ∷ field ERROR_MESSAGE.now (bson.String SCHEDULED.now)
    ∷ field ERROR_LABELS.now (bson.Array (map (λ label. bson.String label) labels))
    ∷ []

-- 225: the number is below the greatest of its session
abbrev pub transaction_too_old : ℤ
transaction_too_old = pos 225

-- 251: the transaction takes no such send
abbrev pub no_such_transaction : ℤ
no_such_transaction = pos 251

-- 43: the cursor is not open
abbrev pub cursor_not_found : ℤ
cursor_not_found = pos 43

-- what a statement counts: one that failed counts nothing
abbrev pub result_of : Statement → Option Counted
result_of (Kept result) = Some result
result_of (Ran result) = Some result
result_of (Failed code) = None

-- the results of the statements that did not fail, in order
abbrev pub results_in : List Statement → List Counted
results_in done = filter_map result_of done

-- the sum of a number over results
unfoldable pub sum_of : (Counted → ℤ) → List Counted → ℤ
sum_of number [] = pos 0
sum_of number (result ∷ results) = number result +ℤ sum_of number results

-- two writes do the same
abbrev pub is_kind : WriteKind → WriteKind → Bool
is_kind kind.Insert kind.Insert = true
is_kind kind.Update kind.Update = true
is_kind kind.Delete kind.Delete = true
is_kind kind.FindAndModify kind.FindAndModify = true
is_kind a b = false

-- the result of a statement beside those of others, where its write is of a kind
abbrev pub kept_where : Bool → Option Counted → List Counted → List Counted
kept_where true (Some result) rest = result ∷ rest
kept_where counts found rest = rest

-- the results of the writes of one kind, in order
unfoldable pub results_of_kind : WriteKind → List PlacedWrite → List Statement → List Counted
results_of_kind does [] done = []
results_of_kind does (write ∷ writes) [] = []
results_of_kind does (write ∷ writes) (statement ∷ done) =
    kept_where (is_kind does write.written.kind) (result_of statement) (results_of_kind does writes done)

-- a write error, with its position
abbrev pub write_error : ℕ → ℤ → Bson
write_error at code =
    bson.Document (field INDEX.now (reply_count at) ∷ field CODE.now (bson.Int32 code) ∷ field ERROR_MESSAGE.now (bson.String SCHEDULED.now) ∷ [])

-- the write error of a statement beside those of the later ones
abbrev pub write_errors_by : ℕ → Statement → List Bson → List Bson
write_errors_by at (Failed code) rest = write_error at code ∷ rest
write_errors_by at other rest = rest

-- the write errors of statements, the first at a position
unfoldable pub write_errors : ℕ → List Statement → List Bson
write_errors at [] = []
write_errors at (statement ∷ done) = write_errors_by at statement (write_errors (at + 1) done)

-- a list of write errors, where there are some
abbrev pub errors_field : List Bson → Reply
errors_field [] = []
errors_field (error ∷ errors) = field WRITE_ERRORS.now (bson.Array (error ∷ errors)) ∷ []

-- the write concern error, where there is one
abbrev pub concern_field : Option PlannedConcern → Reply
concern_field None = []
concern_field (Some concern) =
    field WRITE_CONCERN_ERROR.now (bson.Document (field CODE.now (bson.Int32 concern.code) ∷ field ERROR_MESSAGE.now (bson.String concern.message) ∷ [])) ∷ []

-- the document that an update inserted, with the position of its statement
abbrev pub upserted_at : ℕ → Option Bson → List Bson → List Bson
upserted_at at None rest = rest
upserted_at at (Some id) rest = bson.Document (field INDEX.now (reply_count at) ∷ field ID_KEY.now id ∷ []) ∷ rest

-- the same by what a statement counts
abbrev pub upserted_by : ℕ → Option Counted → List Bson → List Bson
upserted_by at None rest = rest
upserted_by at (Some result) rest = upserted_at at result.upserted rest

-- the documents that updates inserted, the first statement at a position
unfoldable pub upserts : ℕ → List Statement → List Bson
upserts at [] = []
upserts at (statement ∷ done) = upserted_by at (result_of statement) (upserts (at + 1) done)

-- the list of them, where there are some
abbrev pub upserted_field : List Bson → Reply
upserted_field [] = []
upserted_field (upsert ∷ upserts) = field UPSERTED.now (bson.Array (upsert ∷ upserts)) ∷ []

-- the value of a findAndModify: the document, or null
abbrev pub value_of_result : Option Counted → Bson
value_of_result None = bson.Null
value_of_result (Some result) = option_map_or (λ document. bson.Document document) result.value bson.Null

-- the value of the first statement
abbrev pub first_value : List Statement → Bson
first_value [] = bson.Null
first_value (statement ∷ done) = value_of_result (result_of statement)

-- the cursor of a bulk write's reply, or of a page's
abbrev pub cursor_field : List ℕ → ℕ → List Reply → Pair Bson
cursor_field batch number page =
    field CURSOR.now (bson.Document (
    field CURSOR_ID.now (reply_count number)
    ∷ field CURSOR_NAMESPACE.now (bson.String BULK_NAMESPACE.now)
    ∷ field batch (bson.Array (map (λ result. bson.Document result) page))
    ∷ []))

-- the counts of a bulk write's reply, and its cursor
abbrev pub bulk_fields : Option ℕ → List (Option (List Reply)) → List PlacedWrite → List Statement → Reply
bulk_fields page cursors writes done =
    field N_ERRORS.now (reply_count (count_by is_failed done))
    ∷ field N_INSERTED.now (reply_number (sum_of (λ result. result.n) (results_of_kind kind.Insert writes done)))
    ∷ field N_MATCHED.now (reply_number (sum_of (λ result. result.n) (filter (λ result. is_none result.upserted) (results_of_kind kind.Update writes done))))
    ∷ field N_MODIFIED.now (reply_number (sum_of (λ result. result.modified) (results_of_kind kind.Update writes done)))
    ∷ field N_UPSERTED.now (reply_count (count_by (λ result. is_some result.upserted) (results_of_kind kind.Update writes done)))
    ∷ field N_DELETED.now (reply_number (sum_of (λ result. result.n) (results_of_kind kind.Delete writes done)))
    ∷ cursor_field FIRST_BATCH.now (cursor_number (pages_left page (rows 0 writes done)) cursors) (first_page page (rows 0 writes done))
    ∷ []

-- the fields that a command's reply needs
abbrev pub needed_fields : SendCommand → Option ℕ → List (Option (List Reply)) → List PlacedWrite → List Statement → Reply
needed_fields command.Insert page cursors writes done =
    field N.now (reply_number (sum_of (λ result. result.n) (results_in done))) ∷ errors_field (write_errors 0 done)
needed_fields command.Update page cursors writes done =
    field N.now (reply_number (sum_of (λ result. result.n) (results_in done)))
    ∷ field N_MODIFIED.now (reply_number (sum_of (λ result. result.modified) (results_in done)))
    ∷ (upserted_field (upserts 0 done) ++ errors_field (write_errors 0 done))
needed_fields command.Delete page cursors writes done =
    field N.now (reply_number (sum_of (λ result. result.n) (results_in done))) ∷ errors_field (write_errors 0 done)
needed_fields command.FindAndModify page cursors writes done = field VALUE.now (first_value done) ∷ errors_field (write_errors 0 done)
needed_fields command.BulkWrite page cursors writes done = bulk_fields page cursors writes done

-- the reply to writes that were served
unfoldable pub write_reply : SendCommand → Option ℕ → Option PlannedConcern → List (Option (List Reply)) → List PlacedWrite → List Statement → Reply
write_reply does page concern cursors writes done = done_field ∷ (needed_fields does page cursors writes done ++ concern_field concern)

-- the reply to a commit or an abort that was served
unfoldable pub end_reply : Option PlannedConcern → Reply
end_reply concern = done_field ∷ concern_field concern

-- the reply to a question for the next page, which holds all that is left; an open cursor is needed
abbrev pub page_reply_of : Option PlannedConcern → Option (List Reply) → Reply
page_reply_of concern None = error_reply cursor_not_found []
page_reply_of concern (Some left) = done_field ∷ cursor_field NEXT_BATCH.now 0 left ∷ concern_field concern

-- the reply to an end to a cursor
abbrev pub kill_reply_of : Option PlannedConcern → Option (List Reply) → Reply
kill_reply_of concern None = error_reply cursor_not_found []
kill_reply_of concern (Some left) = done_field ∷ concern_field concern

-- the reply to a command of a cursor
unfoldable pub cursor_reply : SendBody → Option PlannedConcern → List (Option (List Reply)) → Reply
cursor_reply (More cursor) concern cursors = page_reply_of concern (results_left cursor cursors)
cursor_reply (Kill cursor) concern cursors = kill_reply_of concern (results_left cursor cursors)
cursor_reply other concern cursors = end_reply concern

-- the transaction of a session, or none where the send names none
abbrev pub transaction_of : Option KnownSession → ServerTransaction
transaction_of None = state.None
transaction_of (Some known) = known.transaction

-- the reply to a send that was denied in its transaction: transient, unless that is committed
unfoldable pub denied_reply : ServerTransaction → Reply
denied_reply transaction = error_reply no_such_transaction (if is_committed transaction then [] else TRANSIENT_TRANSACTION_ERROR.now ∷ [])

-- the reply to what a command asked for
abbrev pub body_reply : SendBody → Plan → List (Option (List Reply)) → List Statement → Reply
body_reply (Write does ordered writes) plan cursors done = write_reply does plan.page plan.concern cursors writes done
body_reply other plan cursors done = end_reply plan.concern

-- the reply to a send in its case
unfoldable pub reply_in : Case → Plan → List Statement → Server → Send → Reply
reply_in too_old plan done server send = error_reply transaction_too_old []
reply_in denied plan done server send = denied_reply (transaction_of (known_of server send))
reply_in of_cursor plan done server send = cursor_reply send.body plan.concern server.cursors
reply_in other plan done server send = body_reply send.body plan server.cursors done

-- the reply to a send that is served by a plan, by the server before it
unfoldable pub served_reply : Plan → Server → Send → Reply
served_reply plan server send =
    let case = case_of server send in
    reply_in case plan (done_in case plan (results_of (known_of server send)) send.body) server send
