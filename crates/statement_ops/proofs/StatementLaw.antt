-- Over the machine's own reply an update and a delete of one statement are read as done exactly where that statement counts so.
use Rattle.std.proofs.Common.{◌≡◌, ℕ, Bool, List, [], ◌∷◌, ◌++◌, refl, sym, ap, subst, ◌∙◌, inl, inr}
use Rattle.std.specs.Prelude.{ℤ, pos, ◌+ℤ◌, ◌≤ℤ◌, negsuc, Option, None, Some, Ok, Err}
use Rattle.std.specs.Option.{option_and_then, option_map}
use Rattle.std.proofs.Common.{arith}
use Rattle.std.proofs.lemmas.Int.{ints}
use denote.Hole.Carrier.{out}
use Rattle.bson_lite.specs.declared.bson.Bson.{Bson}
use Rattle.bson_lite.specs.declared.bson.Bson as bson
use Rattle.bson_lite.specs.declared.document.Pair.{Pair}
use Rattle.bson_lite.specs.Spelling.{Spells}
use Rattle.driver_error.specs.declared.error.Error.{Error}
use Rattle.driver_error.specs.declared.kind.ErrorKind.TheVariants as kind
use Rattle.server_answers.specs.declared.results.DeleteResult.{DeleteResult}
use Rattle.server_answers.specs.declared.results.UpdateResult.{UpdateResult}
use Rattle.driver_error.specs.declared.write.WriteConcernError.{WriteConcernError}
use Rattle.driver_error.specs.Conversions.{first_failure}
use Rattle.driver_error.specs.Error.{kind_of}
use Rattle.driver_options.specs.declared.updates.UpdateOrReplace.{UpdateOrReplace}
use Rattle.driver_options.specs.declared.write_options.DeleteOptions.{DeleteOptions}
use Rattle.driver_options.specs.declared.write_options.UpdateOptions.{UpdateOptions}
use Rattle.wire_keys.specs.declared.keys.TheConstants.{N, N_MODIFIED}
use Rattle.driver_link.specs.declared.machine.Counted.{Counted}
use Rattle.driver_link.specs.declared.machine.PlacedWrite.{PlacedWrite}
use Rattle.driver_link.specs.declared.machine.PlannedConcern.{PlannedConcern}
use Rattle.driver_link.specs.declared.machine.Scheduled.{Scheduled}
use Rattle.driver_link.specs.declared.machine.Send.{Send}
use Rattle.driver_link.specs.declared.machine.SendCommand.{SendCommand}
use Rattle.driver_link.specs.declared.machine.SendCommand.TheVariants as command
use Rattle.driver_link.specs.declared.machine.Server.{Server}
use Rattle.driver_link.specs.declared.machine.Statement.{Statement}
use Rattle.driver_link.specs.declared.machine.Statement.TheVariants.{Kept, Ran, Failed}
use Rattle.driver_link.specs.declared.machine.WriteKind.TheVariants as write_kind
use Rattle.driver_link.specs.Commands.{needed, optional_value}
use Rattle.driver_link.specs.Cursors.{Reply}
use Rattle.driver_link.specs.Exchange.{after_picks, answered, traced}
use Rattle.driver_link.specs.Numbers.{field, reply_number}
use Rattle.driver_link.specs.Replies.{concern_field, done_field, errors_field, result_of, results_in, sum_of, upserted_at, upserted_field, upserts, write_errors, write_reply}
use Rattle.driver_link.specs.Retried.{IsDoneReply}
use Rattle.driver_link.specs.Statements.{has_failed}
use Rattle.driver_link.proofs.Lists.{none_is_some, some_is_some}
use Rattle.driver_ops.specs.declared.target.OperationTarget.{OperationTarget}
use Rattle.driver_ops.specs.OperationLaw.{TellsOutput}
use Rattle.driver_ops.specs.Operations.{OperationSpec, ReadsAnswer, ReadsOutput}
use Rattle.driver_ops.specs.Readings.{labels_in, natural, natural_of}
use Rattle.driver_ops.specs.Responses.{done, said}
use Rattle.driver_ops.specs.Served.{statements_in}
use Rattle.driver_ops.specs.Targets.{namespace_of}
use Rattle.driver_ops.specs.WriteReplies.{concern_error_of, write_errors_in}
use Rattle.driver_ops.specs.lawful.ReplyNumbers.{reply_number_is}
use Rattle.driver_ops.proofs.PlainReading.{may_be_done, only_memory}
use Rattle.statement_ops.specs.declared.delete.DeleteReply.{DeleteReply}
use Rattle.statement_ops.specs.declared.failed_write.FailedWrite.{FailedWrite}
use Rattle.statement_ops.specs.declared.update.UpdateReply.{UpdateReply}
use Rattle.statement_ops.specs.CountAnswers.{AnswersDelete, AnswersUpdate, ReadsDelete, ReadsUpdate, delete_reply, delete_result, deleted_by, failed_write_in, update_reply, update_result, updated_by, upserted_in}
use Rattle.statement_ops.specs.DeleteLawful.{delete_reading}
use Rattle.statement_ops.specs.Deleting.{delete_statement}
use Rattle.statement_ops.specs.StatementLaw.{CountsStatement, ExchangesStatement, IsReadAsCounted, planned_concern}
use Rattle.statement_ops.specs.StatementSpec.{delete_spec, statement_write, update_spec}
use Rattle.statement_ops.specs.UpdateLawful.{update_reading}
use Rattle.statement_ops.specs.Updating.{update_statement}
use Rattle.statement_ops.specs.lawful.CountReplies.{plus_nothing, reply_counted, reply_taken, upserted_read}
use Rattle.statement_ops.specs.lawful.OneWriteReplies.{IsOneCounted, IsOneOf, counted_unfailed, one_told}
use Rattle.statement_ops.specs.lawful.StatementReading.{output_told, told_by_reading}

-- a number of a reply is read as the count that it is
count_is : (n : ℤ) → natural_of (reply_number (n +ℤ pos 0)) ≡ natural n
unfolding natural_of
count_is n = ap (option_and_then natural) (reply_number_is (n +ℤ pos 0)) ∙ ap natural (plus_nothing n)

-- a number that is not negative is a count
counted_natural : (n : ℤ) → pos 0 ≤ℤ n → (count : ℕ) × (natural n ≡ Some count)
counted_natural (pos count) within = (count, refl)
counted_natural (negsuc count) within = absurd (below count within)
  where
    below : (count : ℕ) → pos 0 ≤ℤ negsuc count → ⊥
    below count within = omega (arith, ints)

-- nothing failed
abbrev pub unfailed : FailedWrite
unfailed = record { failure = None; labels = [] }

-- a write concern error that is told is a failure
abbrev failed_of : Option WriteConcernError → List (List ℕ) → FailedWrite
failed_of concern labels = record { failure = first_failure (Some []) concern; labels = labels }

pub concern_is_failure : (found : Option WriteConcernError) (failed : FailedWrite)
    → option_and_then (λ concern. option_map (λ labels. failed_of concern labels) (Some [])) (option_map (λ error. Some error) found) ≡ Some failed → failed.failure ≡ None → ⊥
concern_is_failure None failed read none = none_is_some failed read
concern_is_failure (Some error) failed read none = none_is_some _ (sym none ∙ sym (ap (λ r. r.failure) (some_is_some _ failed read)))

-- the one result of statements that are one
one_result : (statement : Statement) (result : Counted) → results_in (statement ∷ []) ≡ result ∷ [] → result_of statement ≡ Some result
one_result (Kept found) result is = let same : found ≡ result = cc is in ap (λ r. Some r) same
one_result (Ran found) result is = let same : found ≡ result = cc is in ap (λ r. Some r) same
one_result (Failed code) result is = absurd (let e : ◌≡◌ {A = List Counted} [] (result ∷ []) = is in cc)

result_one : (statement : Statement) (result : Counted) → result_of statement ≡ Some result → results_in (statement ∷ []) ≡ result ∷ []
result_one (Kept found) result is = ap (λ r. r ∷ []) (some_is_some found result is)
result_one (Ran found) result is = ap (λ r. r ∷ []) (some_is_some found result is)
result_one (Failed code) result is = absurd (none_is_some result is)

-- the reply to an update whose statement was done
update_is : (page : Option ℕ) (concern : Option PlannedConcern) (cursors : List (Option (List Reply))) (write : PlacedWrite) (statement : Statement) (result : Counted)
    → result_of statement ≡ Some result → write_reply command.Update page concern cursors (write ∷ []) (statement ∷ []) ≡ reply_counted concern result
unfolding write_reply sum_of write_errors upserts
update_is page concern cursors write (Kept found) result counts = ap (reply_counted concern) (some_is_some found result counts)
update_is page concern cursors write (Ran found) result counts = ap (reply_counted concern) (some_is_some found result counts)
update_is page concern cursors write (Failed code) result counts = absurd (none_is_some result counts)

-- and to a delete
delete_is : (page : Option ℕ) (concern : Option PlannedConcern) (cursors : List (Option (List Reply))) (write : PlacedWrite) (statement : Statement) (result : Counted)
    → result_of statement ≡ Some result → write_reply command.Delete page concern cursors (write ∷ []) (statement ∷ []) ≡ reply_taken concern result
unfolding write_reply sum_of write_errors
delete_is page concern cursors write (Kept found) result counts = ap (reply_taken concern) (some_is_some found result counts)
delete_is page concern cursors write (Ran found) result counts = ap (reply_taken concern) (some_is_some found result counts)
delete_is page concern cursors write (Failed code) result counts = absurd (none_is_some result counts)

-- such replies say that their command was done
fields_said : (n modified : Bson) (upserts : List Bson) (concern : Option PlannedConcern)
    → said (done_field ∷ ((field N.now n ∷ field N_MODIFIED.now modified ∷ (upserted_field upserts ++ errors_field [])) ++ concern_field concern)) ≡ done
unfolding said bson.out-Bson out
fields_said n modified [] None = refl
fields_said n modified [] (Some concern) = refl
fields_said n modified (upsert ∷ upserts) None = refl
fields_said n modified (upsert ∷ upserts) (Some concern) = refl

counted_said : (concern : Option PlannedConcern) (result : Counted) → said (reply_counted concern result) ≡ done
counted_said concern result = fields_said _ _ (upserted_at 0 result.upserted []) concern

taken_said : (concern : Option PlannedConcern) (result : Counted) → said (reply_taken concern result) ≡ done
unfolding said reply_number bson.out-Bson out
taken_said None result = refl
taken_said (Some concern) result = refl

-- without a write concern error they tell of no failure
counted_unfails : (n modified : Bson) (upserted : Option Bson)
    → failed_write_in (done_field ∷ ((field N.now n ∷ field N_MODIFIED.now modified ∷ (upserted_field (upserted_at 0 upserted []) ++ errors_field [])) ++ concern_field None)) ≡ Some unfailed
unfolding failed_write_in write_errors_in labels_in optional_value
counted_unfails n modified None = refl
counted_unfails n modified (Some id) = refl

taken_unfails : (n : Bson) → failed_write_in (done_field ∷ ((field N.now n ∷ errors_field []) ++ concern_field None)) ≡ Some unfailed
unfolding failed_write_in write_errors_in labels_in optional_value
taken_unfails n = refl

-- with one they tell of a failure
counted_fails : (n modified : Bson) (upserted : Option Bson) (concern : PlannedConcern) (failed : FailedWrite)
    → failed_write_in (done_field ∷ ((field N.now n ∷ field N_MODIFIED.now modified ∷ (upserted_field (upserted_at 0 upserted []) ++ errors_field [])) ++ concern_field (Some concern))) ≡ Some failed
    → failed.failure ≡ None → ⊥
unfolding failed_write_in write_errors_in labels_in optional_value
counted_fails n modified None concern failed read none = concern_is_failure (concern_error_of _) failed read none
counted_fails n modified (Some id) concern failed read none = concern_is_failure (concern_error_of _) failed read none

taken_fails : (n : Bson) (concern : PlannedConcern) (failed : FailedWrite)
    → failed_write_in (done_field ∷ ((field N.now n ∷ errors_field []) ++ concern_field (Some concern))) ≡ Some failed → failed.failure ≡ None → ⊥
unfolding failed_write_in write_errors_in labels_in optional_value
taken_fails n concern failed read none = concern_is_failure (concern_error_of _) failed read none

-- so one that is read as done has none
counted_concern : (concern : Option PlannedConcern) (result : Counted) (failed : FailedWrite) → failed_write_in (reply_counted concern result) ≡ Some failed → failed.failure ≡ None → concern ≡ None
counted_concern None result failed read none = refl
counted_concern (Some concern) result failed read none = absurd (counted_fails _ _ result.upserted concern failed read none)

taken_concern : (concern : Option PlannedConcern) (result : Counted) (failed : FailedWrite) → failed_write_in (reply_taken concern result) ≡ Some failed → failed.failure ≡ None → concern ≡ None
taken_concern None result failed read none = refl
taken_concern (Some concern) result failed read none = absurd (taken_fails _ concern failed read none)

-- the fields of the reply to an update
abbrev update_of : ℕ → ℕ → Option Bson → FailedWrite → UpdateReply
update_of n modified upserted failed = record { n = n; modified = modified; upserted = upserted; failed = failed }

counted_fields : (result : Counted) (n modified : ℕ) → natural result.n ≡ Some n → natural result.modified ≡ Some modified
    → update_reply (reply_counted None result) ≡ Some (update_of n modified result.upserted unfailed)
unfolding update_reply needed
counted_fields result n modified n_is modified_is =
    let reply = reply_counted None result in
    ap (option_and_then (λ n. option_and_then (λ m. option_map (λ failed. update_of n m (upserted_in reply) failed) (failed_write_in reply)) (natural_of (reply_number (result.modified +ℤ pos 0)))))
    (count_is result.n ∙ n_is)
    ∙ ap (option_and_then (λ m. option_map (λ failed. update_of n m (upserted_in reply) failed) (failed_write_in reply))) (count_is result.modified ∙ modified_is)
    ∙ ap (option_map (λ failed. update_of n modified (upserted_in reply) failed)) (counted_unfails _ _ result.upserted)
    ∙ ap (λ upserted. Some (update_of n modified upserted unfailed)) (upserted_read None _ _ result.upserted)

-- and of that to a delete
abbrev delete_of : ℕ → FailedWrite → DeleteReply
delete_of n failed = record { n = n; failed = failed }

taken_fields : (result : Counted) (n : ℕ) → natural result.n ≡ Some n → delete_reply (reply_taken None result) ≡ Some (delete_of n unfailed)
unfolding delete_reply needed
taken_fields result n n_is =
    let reply = reply_taken None result in
    ap (option_and_then (λ n. option_map (λ failed. delete_of n failed) (failed_write_in reply))) (count_is result.n ∙ n_is)
    ∙ ap (option_map (λ failed. delete_of n failed)) (taken_unfails _)

-- what counts an update's result
pub record CountsUpdate (result : Counted) (output : UpdateResult) : Type 0 where
  pub n : ℕ
  pub modified : ℕ
  pub n_is : natural result.n ≡ Some n
  pub modified_is : natural result.modified ≡ Some modified
  pub output_is : output ≡ update_result n modified result.upserted

counts_update : (result : Counted) (output : UpdateResult) → updated_by result ≡ Some output → CountsUpdate result output
counts_update result output is = by_counts (natural result.n) (natural result.modified) refl refl is
  where
    by_counts : (n modified : Option ℕ) → natural result.n ≡ n → natural result.modified ≡ modified
        → option_and_then (λ n. option_map (λ m. update_result n m result.upserted) modified) n ≡ Some output → CountsUpdate result output
    by_counts None modified n_is modified_is is = absurd (none_is_some output is)
    by_counts (Some n) None n_is modified_is is = absurd (none_is_some output is)
    by_counts (Some n) (Some modified) n_is modified_is is =
        record { n = n; modified = modified; n_is = n_is; modified_is = modified_is; output_is = sym (some_is_some _ output is) }

-- what counts a delete's
pub record CountsDelete (result : Counted) (output : DeleteResult) : Type 0 where
  pub n : ℕ
  pub n_is : natural result.n ≡ Some n
  pub output_is : output ≡ delete_result n

counts_delete : (result : Counted) (output : DeleteResult) → deleted_by result ≡ Some output → CountsDelete result output
counts_delete result output is = by_count (natural result.n) refl is
  where
    by_count : (n : Option ℕ) → natural result.n ≡ n → option_map delete_result n ≡ Some output → CountsDelete result output
    by_count None n_is is = absurd (none_is_some output is)
    by_count (Some n) n_is is = record { n = n; n_is = n_is; output_is = sym (some_is_some _ output is) }

-- the reply that tells of an update is read as its result, and as no error
module _ (result : Counted) (output : UpdateResult) (counts : CountsUpdate result output) where
  counted_read : ReadsUpdate (reply_counted None result) (Ok output)
  counted_read = subst (λ found. AnswersUpdate found (Ok output)) (sym (counted_fields result counts.n counts.modified counts.n_is counts.modified_is)) (refl, counts.output_is)

  counted_no_error : (error : Error) → ReadsUpdate (reply_counted None result) (Err error) → kind_of error ≡ kind.Memory
  counted_no_error error reads = elim reads [
    | inl memory ↦ memory
    | inr answers ↦ absurd (no_failure (subst (λ found. AnswersUpdate found (Err error)) (counted_fields result counts.n counts.modified counts.n_is counts.modified_is) answers))
  ]
    where
      no_failure : AnswersUpdate (Some (update_of counts.n counts.modified result.upserted unfailed)) (Err error) → ⊥
      no_failure answers = none_is_some answers.0 answers.1.0

-- so is that of a delete
module _ (result : Counted) (output : DeleteResult) (counts : CountsDelete result output) where
  taken_read : ReadsDelete (reply_taken None result) (Ok output)
  taken_read = subst (λ found. AnswersDelete found (Ok output)) (sym (taken_fields result counts.n counts.n_is)) (refl, counts.output_is)

  taken_no_error : (error : Error) → ReadsDelete (reply_taken None result) (Err error) → kind_of error ≡ kind.Memory
  taken_no_error error reads = elim reads [
    | inl memory ↦ memory
    | inr answers ↦ absurd (no_failure (subst (λ found. AnswersDelete found (Err error)) (taken_fields result counts.n counts.n_is) answers))
  ]
    where
      no_failure : AnswersDelete (Some (delete_of counts.n unfailed)) (Err error) → ⊥
      no_failure answers = none_is_some answers.0 answers.1.0

-- an exchange in which one statement is told to count so was answered by the reply that tells of it
module _ (asks : SendCommand) (server : Server) (send : Send) (step : Scheduled) (write : PlacedWrite) (one : IsOneOf asks send write) (found : Reply)
    (answer : answered server send step ≡ Some found) (result : Counted) (counts : CountsStatement server send step result) where
  pub told_reply : (page : Option ℕ) × ((cursors : List (Option (List Reply))) × ((statement : Statement)
      × ((result_of statement ≡ Some result) × (found ≡ write_reply asks page None cursors (write ∷ []) (statement ∷ [])))))
  unfolding answered statements_in
  told_reply =
      let before = traced (after_picks server step.deliver) send in
      let told = one_told asks before send write one step.item counts.done found counts.told answer in
      let none = sym (ap planned_concern told.item_is) ∙ counts.concern in
      let alone = one_result told.statement result (sym (ap results_in told.alone) ∙ counts.counts) in
      (told.plan.page, (before.cursors, (told.statement, (alone, told.is ∙ ap (λ concern. write_reply asks told.plan.page concern before.cursors (write ∷ []) (told.statement ∷ [])) none))))

-- the one statement of an exchange that is told counts so
pub counts_one : (asks : SendCommand) (server : Server) (send : Send) (step : Scheduled) (write : PlacedWrite) (found : Reply) (one : IsOneCounted asks server send step write found)
    → one.alone.plan.concern ≡ None → CountsStatement server send step one.result
counts_one asks server send step write found one none = record {
  done = one.done;
  told = one.told;
  unfailed = ap has_failed one.alone.alone ∙ counted_unfailed one.alone.statement one.result one.counts;
  counts = ap results_in one.alone.alone ∙ result_one one.alone.statement one.result one.counts;
  concern = ap planned_concern one.alone.item_is ∙ none;
}

module _ (target : OperationTarget) (filter : List (Pair Bson)) (change : UpdateOrReplace) (multi : Bool) (options : UpdateOptions) where
  abbrev spec : OperationSpec UpdateResult
  spec = update_spec target filter change multi options

  -- a reply that says that an update was done is read so
  pub update_plain : (write : PlacedWrite) (found : Reply) → IsDoneReply command.Update write_kind.Update write found → (bytes : List ℕ) → Spells found bytes
      → (error : Error) → ReadsAnswer spec 1 bytes (Err error) → kind_of error ≡ kind.Memory
  update_plain write found tells bytes spelled error reads =
      let n = counted_natural tells.result.n tells.well.0 in
      let modified = counted_natural tells.result.modified tells.well.1 in
      let is = tells.is ∙ update_is tells.page None tells.cursors write tells.statement tells.result tells.counts in
      let counts : CountsUpdate tells.result (update_result n.0 modified.0 tells.result.upserted) = record { n = n.0; modified = modified.0; n_is = n.1; modified_is = modified.1; output_is = refl } in
      only_memory spec 1 bytes (reply_counted None tells.result) (counted_said None tells.result) (subst (λ reply. Spells reply bytes) is spelled)
      (counted_no_error tells.result (update_result n.0 modified.0 tells.result.upserted) counts) error reads

  module _ (server : Server) (send : Send) (step : Scheduled) (reply : List ℕ)
      (made : ExchangesStatement command.Update write_kind.Update (namespace_of target) (update_statement filter change multi options) server send step reply) where
    abbrev write : PlacedWrite
    write = statement_write write_kind.Update (namespace_of target) (update_statement filter change multi options) made.asked.place

    one : IsOneOf command.Update send write
    one = record { out = ap (λ s. s.in_transaction) made.send_is; body = ap (λ s. s.body) made.send_is ∙ made.asked.is }

    -- an output that is read is told by the entry
    only_told : (output : UpdateResult) → ReadsOutput spec 1 reply output → TellsOutput spec server send step output
    only_told output reads = output_told (update_reading target filter change multi options) 1 server send step write made.found one made.answer reply made.spelled output reads

    -- and is what the statement counts
    only_counted : (output : UpdateResult) → ReadsOutput spec 1 reply output → (result : Counted) × (CountsStatement server send step result × (updated_by result ≡ Some output))
    only_counted output reads =
        let told = told_by_reading (update_reading target filter change multi options) 1 server send step write made.found one made.answer reply made.spelled output reads in
        let plan = told.one.alone.plan in
        let before = traced (after_picks server step.deliver) send in
        let is = told.one.alone.is ∙ update_is plan.page plan.concern before.cursors write told.one.alone.statement told.one.result told.one.counts in
        let none = counted_concern plan.concern told.one.result told.read.failed (subst (λ found. failed_write_in found ≡ Some told.read.failed) is told.read.failed_is) told.read.none in
        (told.one.result, (counts_one command.Update server send step write made.found told.one none, told.counts))

    -- the reply where the statement counts so
    spelled_so : (result : Counted) → CountsStatement server send step result → Spells (reply_counted None result) reply
    spelled_so result counts =
        let told = told_reply command.Update server send step write one made.found made.answer result counts in
        subst (λ document. Spells document reply) (told.1.1.1.1 ∙ update_is told.0 None told.1.0 write told.1.1.0 result told.1.1.1.0) made.spelled

    -- it is read as done exactly where its statement counts so, and there is no write concern error
    pub update_exactly : IsReadAsCounted spec updated_by server send step reply
    update_exactly = record {
      only = λ output reads. (only_counted output reads, only_told output reads);
      done = λ result output counts is.
          may_be_done spec 1 reply (reply_counted None result) (counted_said None result) (spelled_so result counts) output (counted_read result output (counts_update result output is));
      there = λ result output counts is error reads.
          only_memory spec 1 reply (reply_counted None result) (counted_said None result) (spelled_so result counts) (counted_no_error result output (counts_update result output is)) error reads;
    }

module _ (target : OperationTarget) (filter : List (Pair Bson)) (multi : Bool) (options : DeleteOptions) where
  abbrev delete_tells : OperationSpec DeleteResult
  delete_tells = delete_spec target filter multi options

  -- a reply that says that a delete was done is read so
  pub delete_plain : (write : PlacedWrite) (found : Reply) → IsDoneReply command.Delete write_kind.Delete write found → (bytes : List ℕ) → Spells found bytes
      → (error : Error) → ReadsAnswer delete_tells 1 bytes (Err error) → kind_of error ≡ kind.Memory
  delete_plain write found tells bytes spelled error reads =
      let n = counted_natural tells.result.n tells.well.0 in
      let is = tells.is ∙ delete_is tells.page None tells.cursors write tells.statement tells.result tells.counts in
      let counts : CountsDelete tells.result (delete_result n.0) = record { n = n.0; n_is = n.1; output_is = refl } in
      only_memory delete_tells 1 bytes (reply_taken None tells.result) (taken_said None tells.result) (subst (λ reply. Spells reply bytes) is spelled)
      (taken_no_error tells.result (delete_result n.0) counts) error reads

  module _ (server : Server) (send : Send) (step : Scheduled) (reply : List ℕ)
      (made : ExchangesStatement command.Delete write_kind.Delete (namespace_of target) (delete_statement filter multi options) server send step reply) where
    abbrev deleted : PlacedWrite
    deleted = statement_write write_kind.Delete (namespace_of target) (delete_statement filter multi options) made.asked.place

    one_delete : IsOneOf command.Delete send deleted
    one_delete = record { out = ap (λ s. s.in_transaction) made.send_is; body = ap (λ s. s.body) made.send_is ∙ made.asked.is }

    delete_told : (output : DeleteResult) → ReadsOutput delete_tells 1 reply output → TellsOutput delete_tells server send step output
    delete_told output reads = output_told (delete_reading target filter multi options) 1 server send step deleted made.found one_delete made.answer reply made.spelled output reads

    delete_counted : (output : DeleteResult) → ReadsOutput delete_tells 1 reply output → (result : Counted) × (CountsStatement server send step result × (deleted_by result ≡ Some output))
    delete_counted output reads =
        let told = told_by_reading (delete_reading target filter multi options) 1 server send step deleted made.found one_delete made.answer reply made.spelled output reads in
        let plan = told.one.alone.plan in
        let before = traced (after_picks server step.deliver) send in
        let is = told.one.alone.is ∙ delete_is plan.page plan.concern before.cursors deleted told.one.alone.statement told.one.result told.one.counts in
        let none = taken_concern plan.concern told.one.result told.read.failed (subst (λ found. failed_write_in found ≡ Some told.read.failed) is told.read.failed_is) told.read.none in
        (told.one.result, (counts_one command.Delete server send step deleted made.found told.one none, told.counts))

    deleted_so : (result : Counted) → CountsStatement server send step result → Spells (reply_taken None result) reply
    deleted_so result counts =
        let told = told_reply command.Delete server send step deleted one_delete made.found made.answer result counts in
        subst (λ document. Spells document reply) (told.1.1.1.1 ∙ delete_is told.0 None told.1.0 deleted told.1.1.0 result told.1.1.1.0) made.spelled

    -- it is read as done exactly where its statement counts so, and there is no write concern error
    pub delete_exactly : IsReadAsCounted delete_tells deleted_by server send step reply
    delete_exactly = record {
      only = λ output reads. (delete_counted output reads, delete_told output reads);
      done = λ result output counts is.
          may_be_done delete_tells 1 reply (reply_taken None result) (taken_said None result) (deleted_so result counts) output (taken_read result output (counts_delete result output is));
      there = λ result output counts is error reads.
          only_memory delete_tells 1 reply (reply_taken None result) (taken_said None result) (deleted_so result counts) (taken_no_error result output (counts_delete result output is)) error reads;
    }
