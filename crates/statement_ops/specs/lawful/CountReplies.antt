-- What the machine's replies to an update and a delete of one statement tell, where they are read as done: that statement ran now or
-- had its kept result, and its counts are those that are read.
use Rattle.std.proofs.Common.{◌≡◌, ℕ, List, [], ◌∷◌, ◌++◌, refl, sym, ap, subst, ◌∙◌}
use Rattle.std.specs.Prelude.{ℤ, pos, ◌+ℤ◌, Option, None, Some, Ok, unwrap_or}
use Rattle.std.specs.Option.{option_and_then, option_map}
use Rattle.std.proofs.Math.IntN.{+ℤ_idr}
use Rattle.bson_lite.specs.declared.bson.Bson.{Bson}
use Rattle.bson_lite.specs.declared.bson.Bson as bson
use Rattle.bson_lite.specs.declared.fields.TheConstants.{ID_KEY}
use Rattle.bson_lite.specs.Fields.{value_of}
use Rattle.server_answers.specs.declared.results.DeleteResult.{DeleteResult}
use Rattle.server_answers.specs.declared.results.UpdateResult.{UpdateResult}
use Rattle.driver_error.specs.declared.write.IndexedWriteError.{IndexedWriteError}
use Rattle.driver_error.specs.declared.write.WriteConcernError.{WriteConcernError}
use Rattle.driver_error.specs.Conversions.{first_failure}
use Rattle.wire_keys.specs.declared.keys.TheConstants.{INDEX, N, N_MODIFIED, WRITE_ERRORS}
use Rattle.driver_link.specs.declared.machine.Counted.{Counted}
use Rattle.driver_link.specs.declared.machine.PlacedWrite.{PlacedWrite}
use Rattle.driver_link.specs.declared.machine.PlannedConcern.{PlannedConcern}
use Rattle.driver_link.specs.declared.machine.SendCommand.TheVariants as command
use Rattle.driver_link.specs.declared.machine.Server.{Server}
use Rattle.driver_link.specs.declared.machine.Statement.{Statement}
use Rattle.driver_link.specs.declared.machine.Statement.TheVariants.{Kept, Ran, Failed}
use Rattle.driver_link.specs.Commands.{needed, optional_value}
use Rattle.driver_link.specs.Cursors.{Reply}
use Rattle.driver_link.specs.Numbers.{field, reply_count, reply_number}
use Rattle.driver_link.specs.Replies.{concern_field, done_field, errors_field, result_of, sum_of, upserted_at, upserted_field, upserts, write_error, write_errors, write_reply}
use Rattle.driver_link.specs.Serving.{Plan}
use Rattle.driver_link.proofs.Forms.{array_is, document_is}
use Rattle.driver_link.proofs.Lists.{none_is_some, some_is_some}
use Rattle.driver_link.proofs.OneWriteReplies.{one_reply}
use Rattle.driver_ops.specs.Readings.{labels_in, natural, natural_of}
use Rattle.driver_ops.specs.WriteReplies.{indexed_error_of, indexed_errors, indexed_errors_of, reply_concern_error, write_errors_in}
use Rattle.driver_ops.specs.lawful.ReplyNumbers.{reply_number_is}
use Rattle.statement_ops.specs.declared.delete.DeleteReply.{DeleteReply}
use Rattle.statement_ops.specs.declared.failed_write.FailedWrite.{FailedWrite}
use Rattle.statement_ops.specs.declared.update.UpdateReply.{UpdateReply}
use Rattle.statement_ops.specs.CountAnswers.{AnswersDelete, AnswersUpdate, delete_reply, delete_result, deleted_by, failed_write_in, first_id, update_reply, update_result, updated_by, upserted_in}

-- an update that was read as done
pub record IsUpdateRead (found : Reply) (output : UpdateResult) : Type 0 where
  pub n : ℕ
  pub modified : ℕ
  pub failed : FailedWrite
  pub n_is : needed natural_of N.now found ≡ Some n
  pub modified_is : needed natural_of N_MODIFIED.now found ≡ Some modified
  pub failed_is : failed_write_in found ≡ Some failed
  pub none : failed.failure ≡ None
  pub output_is : output ≡ update_result n modified (upserted_in found)

-- fields that were read are those that are there
update_found : (n modified : Option ℕ) (upserted : Option Bson) (failed : Option FailedWrite) (found : UpdateReply)
    → option_and_then (λ n.
    option_and_then (λ modified.
    option_map (λ failed. record { n = n; modified = modified; upserted = upserted; failed = failed })
    failed)
    modified) n ≡ Some found → (n ≡ Some found.n) × ((modified ≡ Some found.modified) × ((failed ≡ Some found.failed) × (upserted ≡ found.upserted)))
update_found (Some n) (Some modified) upserted (Some failed) found is =
    let same : record { n = n; modified = modified; upserted = upserted; failed = failed } ≡ found = cc is in
    (ap (λ r. Some r.n) same, (ap (λ r. Some r.modified) same, (ap (λ r. Some r.failed) same, ap (λ r. r.upserted) same)))
update_found None modified upserted failed found is = absurd (none_is_some found is)
update_found (Some n) None upserted failed found is = absurd (none_is_some found is)
update_found (Some n) (Some modified) upserted None found is = absurd (none_is_some found is)

update_read_by : (reply : Reply) (output : UpdateResult) (found : Option UpdateReply) → update_reply reply ≡ found → AnswersUpdate found (Ok output) → IsUpdateRead reply output
unfolding update_reply
update_read_by reply output None at answers = absurd answers
update_read_by reply output (Some found) at answers =
    let parts = update_found (needed natural_of N.now reply) (needed natural_of N_MODIFIED.now reply) (upserted_in reply) (failed_write_in reply) found at in
    record {
      n = found.n;
      modified = found.modified;
      failed = found.failed;
      n_is = parts.0;
      modified_is = parts.1.0;
      failed_is = parts.1.1.0;
      none = answers.0;
      output_is = answers.1 ∙ ap (λ upserted. update_result found.n found.modified upserted) (sym parts.1.1.1);
    }

-- a reply that is answered by a result was read so
pub update_read : (reply : Reply) (output : UpdateResult) → AnswersUpdate (update_reply reply) (Ok output) → IsUpdateRead reply output
update_read reply output answers = update_read_by reply output (update_reply reply) refl answers

-- a delete that was read as done
pub record IsDeleteRead (found : Reply) (output : DeleteResult) : Type 0 where
  pub n : ℕ
  pub failed : FailedWrite
  pub n_is : needed natural_of N.now found ≡ Some n
  pub failed_is : failed_write_in found ≡ Some failed
  pub none : failed.failure ≡ None
  pub output_is : output ≡ delete_result n

delete_found : (n : Option ℕ) (failed : Option FailedWrite) (found : DeleteReply)
    → option_and_then (λ n. option_map (λ failed. record { n = n; failed = failed }) failed) n ≡ Some found
    → (n ≡ Some found.n) × (failed ≡ Some found.failed)
delete_found (Some n) (Some failed) found is =
    let same : record { n = n; failed = failed } ≡ found = cc is in
    (ap (λ r. Some r.n) same, ap (λ r. Some r.failed) same)
delete_found None failed found is = absurd (none_is_some found is)
delete_found (Some n) None found is = absurd (none_is_some found is)

delete_read_by : (reply : Reply) (output : DeleteResult) (found : Option DeleteReply) → delete_reply reply ≡ found → AnswersDelete found (Ok output) → IsDeleteRead reply output
unfolding delete_reply
delete_read_by reply output None at answers = absurd answers
delete_read_by reply output (Some found) at answers =
    let parts = delete_found (needed natural_of N.now reply) (failed_write_in reply) found at in
    record { n = found.n; failed = found.failed; n_is = parts.0; failed_is = parts.1; none = answers.0; output_is = answers.1 }

-- a reply that is answered by a result was read so
pub delete_read : (reply : Reply) (output : DeleteResult) → AnswersDelete (delete_reply reply) (Ok output) → IsDeleteRead reply output
delete_read reply output answers = delete_read_by reply output (delete_reply reply) refl answers

-- write errors that are there are not read as none
not_none : (value : Bson) (values : List Bson) → indexed_errors (value ∷ values) ≡ Some [] → ⊥
unfolding indexed_errors
not_none value values is = by_first (indexed_error_of value) (indexed_errors values) is
  where
    by_first : (first : Option IndexedWriteError) (rest : Option (List IndexedWriteError))
        → option_and_then (λ error. option_map (λ rest. error ∷ rest) rest) first ≡ Some [] → ⊥
    by_first None rest is = none_is_some [] is
    by_first (Some error) None is = none_is_some [] is
    by_first (Some error) (Some rest) is = let e : ◌≡◌ {A = List IndexedWriteError} (error ∷ rest) [] = some_is_some _ _ is in cc

-- an array of one value is read by its value
array_read : (value : Bson) → optional_value indexed_errors_of (Some (bson.Array (value ∷ []))) ≡ option_map (λ found. Some found) (indexed_errors (value ∷ []))
unfolding optional_value indexed_errors_of
array_read value = ap (λ found. option_map (λ errors. Some errors) (option_and_then indexed_errors found)) (array_is (value ∷ []))

-- a reply that tells of a write error is read as one of a write that failed
pub errors_fail : (reply : Reply) (value : Bson) (failed : FailedWrite) → value_of WRITE_ERRORS.now reply ≡ Some (bson.Array (value ∷ [])) → failed_write_in reply ≡ Some failed
    → failed.failure ≡ None → ⊥
unfolding failed_write_in write_errors_in
errors_fail reply value failed at read none =
    by_errors (indexed_errors (value ∷ [])) refl (reply_concern_error reply) (labels_in reply) (subst (λ found.
    option_and_then (λ errors.
    option_and_then (λ concern.
    option_map (λ labels. record { failure = first_failure (Some errors) concern; labels = labels })
    (labels_in reply))
    (reply_concern_error reply))
    (option_map (λ list. unwrap_or list []) found) ≡ Some failed) (ap (optional_value indexed_errors_of) at ∙ array_read value) read)
  where
    by_errors : (errors : Option (List IndexedWriteError)) → indexed_errors (value ∷ []) ≡ errors → (concern : Option (Option WriteConcernError)) (labels : Option (List (List ℕ)))
        → option_and_then (λ errors.
        option_and_then (λ concern.
        option_map (λ labels. record { failure = first_failure (Some errors) concern; labels = labels })
        labels)
        concern)
        (option_map (λ list. unwrap_or list []) (option_map (λ found. Some found) errors)) ≡ Some failed → ⊥
    by_errors None is concern labels read = none_is_some failed read
    by_errors (Some []) is concern labels read = not_none value [] is
    by_errors (Some (error ∷ errors)) is None labels read = none_is_some failed read
    by_errors (Some (error ∷ errors)) is (Some concern) None read = none_is_some failed read
    by_errors (Some (error ∷ errors)) is (Some concern) (Some labels) read =
        let same = some_is_some _ _ read in
        none_is_some _ (sym none ∙ sym (ap (λ r. r.failure) same))

-- the reply to an update or a delete whose statement failed tells of a write error
update_errors : (plan : Plan) (server : Server) (write : PlacedWrite) (code : ℤ)
    → value_of WRITE_ERRORS.now (one_reply command.Update plan server write (Failed code)) ≡ Some (bson.Array (write_error 0 code ∷ []))
unfolding write_reply sum_of write_errors upserts
update_errors plan server write code = refl

delete_errors : (plan : Plan) (server : Server) (write : PlacedWrite) (code : ℤ)
    → value_of WRITE_ERRORS.now (one_reply command.Delete plan server write (Failed code)) ≡ Some (bson.Array (write_error 0 code ∷ []))
unfolding write_reply sum_of write_errors
delete_errors plan server write code = refl

-- so a statement whose reply tells of no failure has a result
pub update_counts : (plan : Plan) (server : Server) (write : PlacedWrite) (statement : Statement) (failed : FailedWrite)
    → failed_write_in (one_reply command.Update plan server write statement) ≡ Some failed → failed.failure ≡ None → (result : Counted) × (result_of statement ≡ Some result)
update_counts plan server write (Kept result) failed read none = (result, refl)
update_counts plan server write (Ran result) failed read none = (result, refl)
update_counts plan server write (Failed code) failed read none =
    absurd (errors_fail (one_reply command.Update plan server write (Failed code)) (write_error 0 code) failed (update_errors plan server write code) read none)

pub delete_counts : (plan : Plan) (server : Server) (write : PlacedWrite) (statement : Statement) (failed : FailedWrite)
    → failed_write_in (one_reply command.Delete plan server write statement) ≡ Some failed → failed.failure ≡ None → (result : Counted) × (result_of statement ≡ Some result)
delete_counts plan server write (Kept result) failed read none = (result, refl)
delete_counts plan server write (Ran result) failed read none = (result, refl)
delete_counts plan server write (Failed code) failed read none =
    absurd (errors_fail (one_reply command.Delete plan server write (Failed code)) (write_error 0 code) failed (delete_errors plan server write code) read none)

-- a number and nothing
pub plus_nothing : (n : ℤ) → n +ℤ pos 0 ≡ n
plus_nothing n = +ℤ_idr n

-- the count of one result
count_read : (n : ℤ) (count : ℕ) → natural_of (reply_number (n +ℤ pos 0)) ≡ Some count → natural n ≡ Some count
unfolding natural_of
count_read n count is = sym (ap (option_and_then natural) (reply_number_is (n +ℤ pos 0)) ∙ ap natural (plus_nothing n)) ∙ is

-- the id of a document that was put in is read in the reply
id_read : (id : Bson) → first_id (bson.Document (field INDEX.now (reply_count 0) ∷ field ID_KEY.now id ∷ []) ∷ []) ≡ Some id
id_read id = ap (option_and_then (value_of ID_KEY.now)) (document_is (field INDEX.now (reply_count 0) ∷ field ID_KEY.now id ∷ []))

pub upserted_read : (concern : Option PlannedConcern) (n modified : Bson) (upserted : Option Bson)
    → upserted_in (done_field ∷ ((field N.now n ∷ field N_MODIFIED.now modified ∷ (upserted_field (upserted_at 0 upserted []) ++ errors_field [])) ++ concern_field concern)) ≡ upserted
unfolding upserted_in
upserted_read None n modified None = refl
upserted_read (Some concern) n modified None = refl
upserted_read concern n modified (Some id) =
    ap (option_and_then first_id) (array_is (bson.Document (field INDEX.now (reply_count 0) ∷ field ID_KEY.now id ∷ []) ∷ [])) ∙ id_read id

-- the reply to an update whose statement has a result
abbrev pub reply_counted : Option PlannedConcern → Counted → Reply
reply_counted concern result =
    done_field ∷ ((field N.now (reply_number (result.n +ℤ pos 0)) ∷ field N_MODIFIED.now (reply_number (result.modified +ℤ pos 0))
    ∷ (upserted_field (upserted_at 0 result.upserted []) ++ errors_field [])) ++ concern_field concern)

-- what is read in it is what that counts
counted_by : (concern : Option PlannedConcern) (found result : Counted) (output : UpdateResult) → found ≡ result → IsUpdateRead (reply_counted concern found) output → updated_by result ≡ Some output
unfolding needed
counted_by concern found result output same read =
    ap updated_by (sym same)
    ∙ ap (option_and_then (λ n. option_map (λ modified. update_result n modified found.upserted) (natural found.modified))) (count_read found.n read.n read.n_is)
    ∙ ap (option_map (λ modified. update_result read.n modified found.upserted)) (count_read found.modified read.modified read.modified_is)
    ∙ ap (λ upserted. Some (update_result read.n read.modified upserted))
    (sym (upserted_read concern (reply_number (found.n +ℤ pos 0)) (reply_number (found.modified +ℤ pos 0)) found.upserted))
    ∙ ap (λ made. Some made) (sym read.output_is)

-- what is read in the reply to an update whose statement has a result is what that counts
pub update_by : (plan : Plan) (server : Server) (write : PlacedWrite) (statement : Statement) (result : Counted) (output : UpdateResult)
    → result_of statement ≡ Some result → IsUpdateRead (one_reply command.Update plan server write statement) output → updated_by result ≡ Some output
unfolding write_reply sum_of write_errors upserts
update_by plan server write (Kept found) result output counts read = counted_by plan.concern found result output (some_is_some _ _ counts) read
update_by plan server write (Ran found) result output counts read = counted_by plan.concern found result output (some_is_some _ _ counts) read
update_by plan server write (Failed code) result output counts read = let e : ◌≡◌ {A = Option Counted} None (Some result) = counts in cc

-- the reply to a delete whose statement has a result
abbrev pub reply_taken : Option PlannedConcern → Counted → Reply
reply_taken concern result = done_field ∷ ((field N.now (reply_number (result.n +ℤ pos 0)) ∷ errors_field []) ++ concern_field concern)

taken_by : (concern : Option PlannedConcern) (found result : Counted) (output : DeleteResult) → found ≡ result → IsDeleteRead (reply_taken concern found) output → deleted_by result ≡ Some output
unfolding needed
taken_by concern found result output same read =
    ap deleted_by (sym same) ∙ ap (option_map delete_result) (count_read found.n read.n read.n_is) ∙ ap (λ made. Some made) (sym read.output_is)

-- the same of a delete
pub delete_by : (plan : Plan) (server : Server) (write : PlacedWrite) (statement : Statement) (result : Counted) (output : DeleteResult)
    → result_of statement ≡ Some result → IsDeleteRead (one_reply command.Delete plan server write statement) output → deleted_by result ≡ Some output
unfolding write_reply sum_of write_errors
delete_by plan server write (Kept found) result output counts read = taken_by plan.concern found result output (some_is_some _ _ counts) read
delete_by plan server write (Ran found) result output counts read = taken_by plan.concern found result output (some_is_some _ _ counts) read
delete_by plan server write (Failed code) result output counts read = let e : ◌≡◌ {A = Option Counted} None (Some result) = counts in cc
