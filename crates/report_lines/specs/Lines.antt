-- The lines of a report: one for each call, each send and each entry of the log.
use Rattle.std.specs.Prelude.{ℕ, ◌+◌, List, [], ◌∷◌, ◌++◌, map, codes, decimal, Option, Result, Ok, Err}
use Rattle.std.specs.FinMap as finite
use Rattle.std.specs.Fmt.{signed_decimal}
use Rattle.bson_lite.specs.declared.bson.Bson.{Bson}
use Rattle.bson_lite.specs.declared.document.Pair.{Pair}
use Rattle.driver_error.specs.declared.error.Error.{Error}
use Rattle.server_answers.specs.declared.results.DeleteResult.{DeleteResult}
use Rattle.server_answers.specs.declared.results.InsertManyResult.{InsertManyResult}
use Rattle.server_answers.specs.declared.results.InsertOneResult.{InsertOneResult}
use Rattle.server_answers.specs.declared.results.SummaryBulkWriteResult.{SummaryBulkWriteResult}
use Rattle.server_answers.specs.declared.results.UpdateResult.{UpdateResult}
use Rattle.server_answers.specs.declared.results.VerboseBulkWriteResult.{VerboseBulkWriteResult}
use Rattle.wire_keys.specs.declared.keys.TheConstants.{ABORT_TRANSACTION, BULK_WRITE, COMMIT_TRANSACTION, DELETE, FIND_AND_MODIFY, GET_MORE, INSERT, KILL_CURSORS, UPDATE}
use Rattle.driver_link.specs.declared.machine.Entry.{Entry}
use Rattle.driver_link.specs.declared.machine.Send.{Send}
use Rattle.driver_link.specs.declared.machine.SendBody.{SendBody}
use Rattle.driver_link.specs.declared.machine.SendBody.TheVariants.{Write, Commit, Abort, More, Kill}
use Rattle.driver_link.specs.declared.machine.SendCommand.{SendCommand}
use Rattle.driver_link.specs.declared.machine.SendCommand.TheVariants as command
use Rattle.driver_link.specs.Cases.{writes_of}
use Rattle.driver_ops.specs.OptionFields.{document_in}
use Rattle.script_parts.specs.declared.keys.TheConstants as script_key
use Rattle.script_parts.specs.declared.keys.TheConstants.{DELETE_MANY, DELETE_ONE, FIND_ONE_AND_DELETE, FIND_ONE_AND_REPLACE, FIND_ONE_AND_UPDATE, INSERT_MANY, INSERT_ONE, REPLACE_ONE, UPDATE_MANY, UPDATE_ONE}
use Rattle.report_lines.specs.Words.{session_text, number_text, listed, place_text, value_text, value_text_or_none, error_text}
use Rattle.driver_inputs.specs.declared.call.Answer.{Answer}
use Rattle.driver_inputs.specs.declared.call.Answer.TheVariants as answer
use Rattle.driver_inputs.specs.declared.call.Call.{Call}
use Rattle.driver_inputs.specs.declared.call.Call.TheVariants as call
use Rattle.driver_inputs.specs.declared.call.Outcome.{Outcome}
use Rattle.driver_inputs.specs.declared.call.SingleAnswer.TheVariants.{Deleted, Found, Inserted, Updated}
use Rattle.driver_inputs.specs.declared.single_write.SingleWrite.{SingleWrite}
use Rattle.driver_inputs.specs.declared.single_write.SingleWrite.TheVariants.{DeleteMany, DeleteOne, FindOneAndDelete, FindOneAndReplace, FindOneAndUpdate, InsertOne, ReplaceOne, UpdateMany, UpdateOne}

-- the end of a line
abbrev pub newline : List ℕ
newline = 10 ∷ []

-- what an insert answered: the id
unfoldable pub inserted_text : InsertOneResult → List ℕ
inserted_text inserted = codes "ok id=" ++ value_text inserted.inserted_id

-- a count behind its name
unfoldable pub count_text : List ℕ → ℕ → List ℕ
count_text name count = name ++ decimal count

-- how many documents an update found and changed
unfoldable pub counts_text : UpdateResult → List ℕ
counts_text updated = count_text (codes "ok matched=") updated.matched_count ++ count_text (codes " modified=") updated.modified_count

-- the id of the document that it put in
unfoldable pub upserted_text : Option Bson → List ℕ
upserted_text id = codes " upserted=" ++ value_text_or_none id

-- what an update answered
unfoldable pub updated_text : UpdateResult → List ℕ
updated_text updated = counts_text updated ++ upserted_text updated.upserted_id

-- what a delete answered: how many documents it took out
unfoldable pub deleted_text : DeleteResult → List ℕ
deleted_text deleted = codes "ok deleted=" ++ decimal deleted.deleted_count

-- what a write that answers a document found: the document as a value, or `-`
unfoldable pub found_text : Option (List (Pair Bson)) → List ℕ
found_text found = codes "ok found=" ++ value_text_or_none (document_in found)

-- what an insert of many answered: how many documents it inserted
unfoldable pub many_text : InsertManyResult → List ℕ
many_text many = codes "ok inserted=" ++ decimal (finite.len many.inserted_ids)

-- how many documents a bulk write inserted
unfoldable pub bulk_inserted : SummaryBulkWriteResult → List ℕ
bulk_inserted counts = codes " inserted=" ++ signed_decimal counts.inserted_count

-- how many its updates and replacements matched
unfoldable pub bulk_matched : SummaryBulkWriteResult → List ℕ
bulk_matched counts = codes " matched=" ++ signed_decimal counts.matched_count

-- how many they modified
unfoldable pub bulk_modified : SummaryBulkWriteResult → List ℕ
bulk_modified counts = codes " modified=" ++ signed_decimal counts.modified_count

-- how many they put in where none was found
unfoldable pub bulk_upserted : SummaryBulkWriteResult → List ℕ
bulk_upserted counts = codes " upserted=" ++ signed_decimal counts.upserted_count

-- how many it deleted
unfoldable pub bulk_deleted : SummaryBulkWriteResult → List ℕ
bulk_deleted counts = codes " deleted=" ++ signed_decimal counts.deleted_count

-- what a bulk write answered: these five counts
unfoldable pub summary_text : SummaryBulkWriteResult → List ℕ
summary_text counts =
    codes "ok" ++ bulk_inserted counts ++ bulk_matched counts ++ bulk_modified counts ++ bulk_upserted counts ++ bulk_deleted counts

-- how many results of writes a verbose bulk write answered: of inserts, of updates and of deletes
unfoldable pub results_in : VerboseBulkWriteResult → ℕ
results_in results = finite.len results.insert_results + finite.len results.update_results + finite.len results.delete_results

-- how many they are, behind their name
unfoldable pub results_text : VerboseBulkWriteResult → List ℕ
results_text results = codes " results=" ++ decimal (results_in results)

-- what a verbose bulk write answered: its five counts, and how many results of writes
unfoldable pub verbose_text : VerboseBulkWriteResult → List ℕ
verbose_text results = summary_text results.summary ++ results_text results

-- what a call answered
unfoldable pub answer_text : Answer → List ℕ
answer_text (answer.Single (Inserted inserted)) = inserted_text inserted
answer_text (answer.Single (Updated updated)) = updated_text updated
answer_text (answer.Single (Deleted deleted)) = deleted_text deleted
answer_text (answer.Single (Found found)) = found_text found
answer_text (answer.Many many) = many_text many
answer_text (answer.Summary counts) = summary_text counts
answer_text (answer.Verbose results) = verbose_text results

-- how a call ended
abbrev pub result_text : Result Answer Error → List ℕ
result_text (Ok answered) = answer_text answered
result_text (Err error) = error_text error

-- the key of a single write in a script
unfoldable pub single_name : SingleWrite → List ℕ
single_name (InsertOne write) = INSERT_ONE.now
single_name (UpdateOne write) = UPDATE_ONE.now
single_name (UpdateMany write) = UPDATE_MANY.now
single_name (ReplaceOne write) = REPLACE_ONE.now
single_name (DeleteOne write) = DELETE_ONE.now
single_name (DeleteMany write) = DELETE_MANY.now
single_name (FindOneAndDelete write) = FIND_ONE_AND_DELETE.now
single_name (FindOneAndUpdate write) = FIND_ONE_AND_UPDATE.now
single_name (FindOneAndReplace write) = FIND_ONE_AND_REPLACE.now

-- the key of a call in a script
unfoldable pub call_name : Call → List ℕ
call_name (call.Single write) = single_name write
call_name (call.InsertMany namespace documents options) = INSERT_MANY.now
call_name (call.BulkWrite models options verbose) = script_key.BULK_WRITE.now

-- the line of a call
unfoldable pub call_line : ℕ → Call → Outcome → List ℕ
call_line at called outcome =
    codes "call " ++ decimal at ++ codes " " ++ call_name called ++ codes ": " ++ result_text outcome.result ++ newline

-- the lines of calls with their outcomes, the first at a number
unfoldable pub call_lines : ℕ → List Call → List Outcome → List ℕ
call_lines at calls [] = []
call_lines at [] (outcome ∷ outcomes) = []
call_lines at (called ∷ calls) (outcome ∷ outcomes) = call_line at called outcome ++ call_lines (at + 1) calls outcomes

-- the name of a command that carries writes
unfoldable pub write_name : SendCommand → List ℕ
write_name command.Insert = INSERT.now
write_name command.Update = UPDATE.now
write_name command.Delete = DELETE.now
write_name command.FindAndModify = FIND_AND_MODIFY.now
write_name command.BulkWrite = BULK_WRITE.now

-- the name of what a send asks for
unfoldable pub command_name : SendBody → List ℕ
command_name (Write written ordered writes) = write_name written
command_name Commit = COMMIT_TRANSACTION.now
command_name Abort = ABORT_TRANSACTION.now
command_name (More cursor) = GET_MORE.now
command_name (Kill cursor) = KILL_CURSORS.now

-- the places of a send's writes
abbrev pub place_texts : Send → List (List ℕ)
place_texts send = map (λ write. place_text write.place) (writes_of send)

-- the line of a send
unfoldable pub send_line : ℕ → Send → List ℕ
send_line at send =
    codes "send " ++ decimal at ++ codes ": " ++ command_name send.body ++ codes " session=" ++ session_text send.session
    ++ codes " number=" ++ number_text send.number ++ codes " places=" ++ listed (place_texts send) ++ newline

-- the lines of sends, the first at a number
unfoldable pub send_lines : ℕ → List Send → List ℕ
send_lines at [] = []
send_lines at (send ∷ sends) = send_line at send ++ send_lines (at + 1) sends

-- the line of an entry of the log
unfoldable pub entry_line : ℕ → Entry → List ℕ
entry_line at entry =
    codes "entry " ++ decimal at ++ codes ": " ++ place_text entry.place ++ codes " session=" ++ session_text entry.session
    ++ codes " number=" ++ number_text entry.number ++ codes " n=" ++ signed_decimal entry.result.n ++ newline

-- the lines of a log, the first at a number
unfoldable pub entry_lines : ℕ → List Entry → List ℕ
entry_lines at [] = []
entry_lines at (entry ∷ entries) = entry_line at entry ++ entry_lines (at + 1) entries
