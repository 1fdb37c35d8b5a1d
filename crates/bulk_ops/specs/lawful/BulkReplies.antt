-- What the machine's reply to a bulk write is read as: its counts are those of the entries of its writes, where it counts no error
-- none of its statements failed, and its first page has the documents of its statements.
use Rattle.std.proofs.Common.{◌≡◌, ℕ, ◌+◌, Bool, true, false, cond, List, [], ◌∷◌, ◌==◌, filter, length, eqb-true, refl, sym, ap, ◌∙◌, arith}
use Rattle.std.specs.Prelude.{ℤ, pos, negsuc, ◌+ℤ◌, count_by, Option, None, Some, is_none, is_some, if◌then◌else◌}
use Rattle.std.specs.Option.{option_and_then, option_map}
use Rattle.std.proofs.Math.IntN.{+ℤ_idl}
use Rattle.std.proofs.lemmas.List.Sums.{sum_by-cons}
use Rattle.bson_lite.specs.declared.bson.Bson as bson
use Rattle.bson_lite.specs.declared.namespace.Namespace.{Namespace}
use Rattle.bson_lite.specs.Fields.{value_of}
use Rattle.server_answers.specs.declared.results.SummaryBulkWriteResult.{SummaryBulkWriteResult}
use Rattle.driver_error.specs.declared.write.WriteConcernError.{WriteConcernError}
use Rattle.wire_keys.specs.declared.keys.TheConstants.{BULK_NAMESPACE, CURSOR, CURSOR_ID, CURSOR_NAMESPACE, FIRST_BATCH, N_DELETED, N_ERRORS, N_INSERTED, N_MATCHED, N_MODIFIED, N_UPSERTED}
use Rattle.driver_link.specs.declared.machine.Counted.{Counted}
use Rattle.driver_link.specs.declared.machine.Entry.{Entry}
use Rattle.driver_link.specs.declared.machine.PlacedWrite.{PlacedWrite}
use Rattle.driver_link.specs.declared.machine.PlannedConcern.{PlannedConcern}
use Rattle.driver_link.specs.declared.machine.SendCommand.TheVariants as command
use Rattle.driver_link.specs.declared.machine.Statement.{Statement}
use Rattle.driver_link.specs.declared.machine.Statement.TheVariants.{Kept, Ran, Failed}
use Rattle.driver_link.specs.declared.machine.WriteKind.{WriteKind}
use Rattle.driver_link.specs.declared.machine.WriteKind.TheVariants as does
use Rattle.driver_link.specs.Commands.{needed}
use Rattle.driver_link.specs.Cursors.{Reply, cursor_number, first_page, pages_left, rows}
use Rattle.driver_link.specs.Numbers.{field, reply_count, reply_number}
use Rattle.driver_link.specs.Replies.{is_kind, kept_where, results_of_kind, sum_of, write_reply}
use Rattle.driver_link.specs.Statements.{has_failed, is_failed}
use Rattle.driver_link.specs.Values.{document_of}
use Rattle.driver_link.proofs.Forms.{array_is, document_is}
use Rattle.driver_link.proofs.Lists.{none_is_some, some_is_some}
use Rattle.driver_ops.specs.Readings.{labels_in, natural, natural_of}
use Rattle.driver_ops.specs.Served.{entries_counted}
use Rattle.driver_ops.specs.WriteReplies.{reply_concern_error}
use Rattle.driver_ops.specs.lawful.ReplyNumbers.{reply_number_is}
use Rattle.driver_ops.specs.lawful.InsertRead.{differ}
use Rattle.bulk_ops.specs.declared.bulk_reply.BulkReply.{BulkReply}
use Rattle.bulk_ops.specs.declared.bulk_reply.OpResult.{OpResult}
use Rattle.bulk_ops.specs.declared.bulk_reply.ResultsPage.{ResultsPage}
use Rattle.bulk_ops.specs.BulkAnswers.{are_none}
use Rattle.bulk_ops.specs.BulkEntries.{counts_by, sum_of_kind}
use Rattle.bulk_ops.specs.BulkPages.{bulk_reply, count_in, counts_in, cursor_in, cursor_namespace, op_results, op_results_of, page_in}
use Rattle.bulk_ops.specs.lawful.ResultRows.{as_values, number_read}

-- counts by their parts
abbrev pub counts_with : ℤ → ℤ → ℤ → ℤ → ℤ → SummaryBulkWriteResult
counts_with inserted matched modified upserted deleted = record {
  inserted_count = inserted;
  matched_count = matched;
  modified_count = modified;
  upserted_count = upserted;
  deleted_count = deleted;
}

-- the numbers of a bulk write's reply by its statements
module _ (writes : List PlacedWrite) (done : List Statement) where
  abbrev errors_in : ℤ
  errors_in = pos (count_by is_failed done)

  abbrev updates_in : List Counted
  updates_in = results_of_kind does.Update writes done

  abbrev pub inserted_in : ℤ
  inserted_in = sum_of (λ (result : Counted). result.n) (results_of_kind does.Insert writes done)

  abbrev pub matched_in : ℤ
  matched_in = sum_of (λ (result : Counted). result.n) (filter (λ (result : Counted). is_none result.upserted) updates_in)

  abbrev pub modified_in : ℤ
  modified_in = sum_of (λ (result : Counted). result.modified) updates_in

  abbrev pub upserted_in : ℤ
  upserted_in = pos (count_by (λ (result : Counted). is_some result.upserted) updates_in)

  abbrev pub deleted_in : ℤ
  deleted_in = sum_of (λ (result : Counted). result.n) (results_of_kind does.Delete writes done)

-- a sum of results that one of them joins where its write is of the kind
sum_joins : (counts : Bool) (number : Counted → ℤ) (result : Counted) (results : List Counted) (rest : ℤ) → sum_of number results ≡ rest
    → sum_of number (kept_where counts (Some result) results) ≡ (if counts then number result else pos 0) +ℤ rest
unfolding sum_of
sum_joins true number result results rest is = ap (λ (sum : ℤ). number result +ℤ sum) is
sum_joins false number result results rest is = is ∙ sym (+ℤ_idl rest)

-- a statement that failed joins nothing
sum_stays : (counts : Bool) (number : Counted → ℤ) (results : List Counted) (rest : ℤ) → sum_of number results ≡ rest → sum_of number (kept_where counts None results) ≡ rest
sum_stays true number results rest is = is
sum_stays false number results rest is = is

-- the sum over the results of writes of one kind is that over their entries
sum_told : (which : WriteKind) (number : Counted → ℤ) (session : Option (List ℕ)) (sent : Option ℤ) (writes : List PlacedWrite) (done : List Statement)
    → sum_of number (results_of_kind which writes done) ≡ sum_of_kind which (λ (entry : Entry). number entry.result) (entries_counted session sent writes done)
unfolding results_of_kind sum_of
sum_told which number session sent [] done = refl
sum_told which number session sent (write ∷ writes) [] = refl
sum_told which number session sent (write ∷ writes) (Kept result ∷ done) =
    sum_joins (is_kind which write.written.kind) number result (results_of_kind which writes done) (sum_of_kind which (λ (entry : Entry). number entry.result) (entries_counted session sent writes done))
    (sum_told which number session sent writes done)
sum_told which number session sent (write ∷ writes) (Ran result ∷ done) =
    sum_joins (is_kind which write.written.kind) number result (results_of_kind which writes done) (sum_of_kind which (λ (entry : Entry). number entry.result) (entries_counted session sent writes done))
    (sum_told which number session sent writes done)
sum_told which number session sent (write ∷ writes) (Failed code ∷ done) =
    sum_stays (is_kind which write.written.kind) number (results_of_kind which writes done) (sum_of_kind which (λ (entry : Entry). number entry.result) (entries_counted session sent writes done))
    (sum_told which number session sent writes done)

-- what an update matched by what it counts, and how many documents it put in
abbrev matched_number : Counted → ℤ
matched_number result = if is_none result.upserted then result.n else pos 0

abbrev upserted_number : Counted → ℤ
upserted_number result = if is_some result.upserted then pos 1 else pos 0

-- the sum over those that pass a test
sum_where : (passes : Bool) (number : ℤ) (result : Counted) (results : List Counted) (rest : ℤ) → result.n ≡ number → sum_of (λ (r : Counted). r.n) results ≡ rest
    → sum_of (λ (r : Counted). r.n) (cond passes (result ∷ results) results) ≡ (if passes then number else pos 0) +ℤ rest
unfolding sum_of
sum_where true number result results rest is_number is = ap (λ (n : ℤ). n +ℤ sum_of (λ (r : Counted). r.n) results) is_number ∙ ap (λ (sum : ℤ). number +ℤ sum) is
sum_where false number result results rest is_number is = is ∙ sym (+ℤ_idl rest)

matched_filtered : (results : List Counted) → sum_of (λ (r : Counted). r.n) (filter (λ (r : Counted). is_none r.upserted) results) ≡ sum_of matched_number results
unfolding sum_of
matched_filtered [] = refl
matched_filtered (result ∷ results) =
    sum_where (is_none result.upserted) result.n result (filter (λ (r : Counted). is_none r.upserted) results) (sum_of matched_number results) refl (matched_filtered results)

-- a count as a sum
count_joins : (passes : Bool) (count : ℕ) (rest : ℤ) → pos count ≡ rest → pos (cond passes 1 0 + count) ≡ (if passes then pos 1 else pos 0) +ℤ rest
count_joins true count rest is = ap (λ (n : ℤ). pos 1 +ℤ n) is
count_joins false count rest is = ap (λ (n : ℤ). pos 0 +ℤ n) is

upserted_counted : (results : List Counted) → pos (count_by (λ (r : Counted). is_some r.upserted) results) ≡ sum_of upserted_number results
unfolding sum_of
upserted_counted [] = refl
upserted_counted (result ∷ results) =
    ap (λ (n : ℕ). pos n) (sum_by-cons (λ (r : Counted). cond (is_some r.upserted) 1 0) result results)
    ∙ count_joins (is_some result.upserted) (count_by (λ (r : Counted). is_some r.upserted) results) (sum_of upserted_number results) (upserted_counted results)

-- the counts of the reply are those of the entries
pub counts_told : (session : Option (List ℕ)) (sent : Option ℤ) (writes : List PlacedWrite) (done : List Statement)
    → counts_with (inserted_in writes done) (matched_in writes done) (modified_in writes done) (upserted_in writes done) (deleted_in writes done)
    ≡ counts_by (entries_counted session sent writes done)
counts_told session sent writes done =
    let inserted = sum_told does.Insert (λ (r : Counted). r.n) session sent writes done in
    let matched = matched_filtered (results_of_kind does.Update writes done) ∙ sum_told does.Update matched_number session sent writes done in
    let modified = sum_told does.Update (λ (r : Counted). r.modified) session sent writes done in
    let upserted = upserted_counted (results_of_kind does.Update writes done) ∙ sum_told does.Update upserted_number session sent writes done in
    let deleted = sum_told does.Delete (λ (r : Counted). r.n) session sent writes done in
    λ i. counts_with (inserted i) (matched i) (modified i) (upserted i) (deleted i)

-- where no failure is counted none is there
more_than_none : (count : ℕ) → 1 + count ≡ 0 → ⊥
more_than_none count is = omega (arith, is)

none_left : (count all : ℕ) → all ≡ 0 + count → all ≡ 0 → count ≡ 0
none_left count all is none = omega (arith, is, none)

pub none_failed : (done : List Statement) → count_by is_failed done ≡ 0 → has_failed done ≡ false
none_failed [] none = refl
none_failed (Kept result ∷ done) none =
    none_failed done (none_left (count_by is_failed done) (count_by is_failed (Kept result ∷ done)) (sum_by-cons (λ (s : Statement). cond (is_failed s) 1 0) (Kept result) done) none)
none_failed (Ran result ∷ done) none =
    none_failed done (none_left (count_by is_failed done) (count_by is_failed (Ran result ∷ done)) (sum_by-cons (λ (s : Statement). cond (is_failed s) 1 0) (Ran result) done) none)
none_failed (Failed code ∷ done) none =
    absurd (more_than_none (count_by is_failed done) (sym (sum_by-cons (λ (s : Statement). cond (is_failed s) 1 0) (Failed code) done) ∙ none))

-- the document of a cursor with a page of results
abbrev pub cursor_document : List ℕ → ℕ → List Reply → Reply
cursor_document batch number page =
    field CURSOR_ID.now (reply_count number) ∷ field CURSOR_NAMESPACE.now (bson.String BULK_NAMESPACE.now) ∷ field batch (bson.Array (as_values page)) ∷ []

-- a page by its parts
abbrev pub page_with : ℤ → Namespace → List OpResult → ResultsPage
page_with cursor namespace results = record { cursor = cursor; namespace = namespace; results = results }

-- the parts as they are read
abbrev pub page_chain : Option (List OpResult) → Option Namespace → Option ℤ → Option ResultsPage
page_chain results namespace cursor =
    option_and_then (λ cursor. option_and_then (λ namespace. option_map (λ results. page_with cursor namespace results) results) namespace) cursor

-- a page that was read has the cursor's number, and the results that its documents are read as
pub record IsPageTold (number : ℕ) (page : List Reply) (found : ResultsPage) : Type 0 where
  pub cursor : found.cursor ≡ pos number
  pub results : op_results (as_values page) ≡ Some found.results

page_by : (number : ℕ) (page : List Reply) (results : Option (List OpResult)) → op_results (as_values page) ≡ results → (namespace : Option Namespace) (found : ResultsPage)
    → page_chain results namespace (Some (pos number)) ≡ Some found → IsPageTold number page found
page_by number page None read None found is = absurd (none_is_some found is)
page_by number page (Some results) read None found is = absurd (none_is_some found is)
page_by number page None read (Some namespace) found is = absurd (none_is_some found is)
page_by number page (Some results) read (Some namespace) found is =
    let same : page_with (pos number) namespace results ≡ found = some_is_some (page_with (pos number) namespace results) found is in
    record { cursor = sym (ap (λ (p : ResultsPage). p.cursor) same); results = read ∙ ap (λ (p : ResultsPage). Some p.results) same }

-- a page by the parts of its cursor
pub page_parts : (batch : List ℕ) (number : ℕ) (page : List Reply) (reply : Reply)
    → value_of batch (cursor_document batch number page) ≡ Some (bson.Array (as_values page)) → value_of CURSOR.now reply ≡ Some (bson.Document (cursor_document batch number page))
    → page_in batch reply ≡ page_chain (op_results (as_values page)) (cursor_namespace (cursor_document batch number page)) (Some (pos number))
unfolding page_in needed cursor_in op_results_of
page_parts batch number page reply there at =
    let document = cursor_document batch number page in
    let results : needed op_results_of batch document ≡ op_results (as_values page)
    = ap (option_and_then op_results_of) there ∙ ap (option_and_then op_results) (array_is (as_values page)) in
    let read : page_in batch reply ≡ cursor_in batch document
    = ap (λ value. option_and_then (cursor_in batch) (option_and_then document_of value)) at ∙ ap (option_and_then (cursor_in batch)) (document_is document) in
    let whole : cursor_in batch document ≡ page_chain (op_results (as_values page)) (cursor_namespace document) (Some (pos number))
    = λ i. page_chain (results i) (cursor_namespace document) (reply_number_is (pos number) i) in
    read ∙ whole

pub cursor_told : (batch : List ℕ) (number : ℕ) (page : List Reply) (reply : Reply) (found : ResultsPage)
    → value_of batch (cursor_document batch number page) ≡ Some (bson.Array (as_values page)) → value_of CURSOR.now reply ≡ Some (bson.Document (cursor_document batch number page))
    → page_in batch reply ≡ Some found → IsPageTold number page found
cursor_told batch number page reply found there at is =
    page_by number page (op_results (as_values page)) refl (cursor_namespace (cursor_document batch number page)) found (sym (page_parts batch number page reply there at) ∙ is)

-- a number as a count of a reply
abbrev pub count_of : ℤ → Option ℤ
count_of number = option_map (λ (count : ℕ). pos count) (natural number)

pub count_read : (reply : Reply) (key : List ℕ) (number : ℤ) → value_of key reply ≡ Some (reply_number number) → count_in key reply ≡ count_of number
unfolding count_in needed
count_read reply key number there =
    ap (λ value. option_map (λ (count : ℕ). pos count) (option_and_then natural_of value)) there ∙ ap (option_map (λ (count : ℕ). pos count)) (number_read number)

-- the counts as they are read
abbrev pub counts_chain : Option ℤ → Option ℤ → Option ℤ → Option ℤ → Option ℤ → Option SummaryBulkWriteResult
counts_chain deleted upserted modified matched inserted =
    option_and_then (λ inserted.
    option_and_then (λ matched.
    option_and_then (λ modified.
    option_and_then (λ upserted.
    option_map (λ deleted. counts_with inserted matched modified upserted deleted)
    deleted) upserted) modified) matched) inserted

counts_are : (inserted matched modified upserted deleted : ℤ) (found : SummaryBulkWriteResult)
    → counts_chain (count_of deleted) (count_of upserted) (count_of modified) (count_of matched) (count_of inserted) ≡ Some found
    → found ≡ counts_with inserted matched modified upserted deleted
counts_are (negsuc inserted) matched modified upserted deleted found is = absurd (none_is_some found is)
counts_are (pos inserted) (negsuc matched) modified upserted deleted found is = absurd (none_is_some found is)
counts_are (pos inserted) (pos matched) (negsuc modified) upserted deleted found is = absurd (none_is_some found is)
counts_are (pos inserted) (pos matched) (pos modified) (negsuc upserted) deleted found is = absurd (none_is_some found is)
counts_are (pos inserted) (pos matched) (pos modified) (pos upserted) (negsuc deleted) found is = absurd (none_is_some found is)
counts_are (pos inserted) (pos matched) (pos modified) (pos upserted) (pos deleted) found is =
    sym (some_is_some (counts_with (pos inserted) (pos matched) (pos modified) (pos upserted) (pos deleted)) found is)

-- fields by their parts
abbrev pub fields_with : ℕ → SummaryBulkWriteResult → Option WriteConcernError → List (List ℕ) → ResultsPage → BulkReply
fields_with errors counts concern labels page = record { errors = errors; counts = counts; concern = concern; labels = labels; page = page }

-- fields that were read are those that are there
pub record HasFields (reply : Reply) (found : BulkReply) : Type 0 where
  pub errors : needed natural_of N_ERRORS.now reply ≡ Some found.errors
  pub counts : counts_in reply ≡ Some found.counts
  pub page : page_in FIRST_BATCH.now reply ≡ Some found.page

fields_by : (reply : Reply) (found : BulkReply) (page : Option ResultsPage) → page_in FIRST_BATCH.now reply ≡ page → (labels : Option (List (List ℕ))) (concern : Option (Option WriteConcernError))
    (counts : Option SummaryBulkWriteResult) → counts_in reply ≡ counts → (errors : Option ℕ) → needed natural_of N_ERRORS.now reply ≡ errors
    → option_and_then (λ errors.
    option_and_then (λ counts.
    option_and_then (λ concern.
    option_and_then (λ labels.
    option_map (λ page. fields_with errors counts concern labels page)
    page) labels) concern) counts) errors ≡ Some found → HasFields reply found
fields_by reply found page at_page labels concern counts at_counts None at_errors is = absurd (none_is_some found is)
fields_by reply found page at_page labels concern None at_counts (Some errors) at_errors is = absurd (none_is_some found is)
fields_by reply found page at_page labels None (Some counts) at_counts (Some errors) at_errors is = absurd (none_is_some found is)
fields_by reply found page at_page None (Some concern) (Some counts) at_counts (Some errors) at_errors is = absurd (none_is_some found is)
fields_by reply found None at_page (Some labels) (Some concern) (Some counts) at_counts (Some errors) at_errors is = absurd (none_is_some found is)
fields_by reply found (Some page) at_page (Some labels) (Some concern) (Some counts) at_counts (Some errors) at_errors is =
    let same : fields_with errors counts concern labels page ≡ found = some_is_some (fields_with errors counts concern labels page) found is in
    record {
      errors = at_errors ∙ ap (λ (r : BulkReply). Some r.errors) same;
      counts = at_counts ∙ ap (λ (r : BulkReply). Some r.counts) same;
      page = at_page ∙ ap (λ (r : BulkReply). Some r.page) same;
    }

pub has_fields : (reply : Reply) (found : BulkReply) → bulk_reply reply ≡ Some found → HasFields reply found
unfolding bulk_reply
has_fields reply found is =
    fields_by reply found (page_in FIRST_BATCH.now reply) refl (labels_in reply) (reply_concern_error reply) (counts_in reply) refl (needed natural_of N_ERRORS.now reply) refl is

-- the machine's reply to a bulk write is read so
module _ (writes : List PlacedWrite) (done : List Statement) (page : Option ℕ) (concern : Option PlannedConcern) (cursors : List (Option (List Reply))) where
  abbrev own_reply : Reply
  own_reply = write_reply command.BulkWrite page concern cursors writes done

  -- as many errors as statements that failed
  pub errors_read : (found : BulkReply) → HasFields own_reply found → found.errors ≡ count_by is_failed done
  unfolding write_reply needed
  errors_read found has = some_is_some found.errors (count_by is_failed done) (sym has.errors ∙ number_read (pos (count_by is_failed done)))

  -- the counts of the entries
  pub counts_read : (found : BulkReply) → HasFields own_reply found → (session : Option (List ℕ)) (sent : Option ℤ) → found.counts ≡ counts_by (entries_counted session sent writes done)
  unfolding write_reply counts_in
  counts_read found has session sent =
      let inserted = count_read own_reply N_INSERTED.now (inserted_in writes done) refl in
      let matched = count_read own_reply N_MATCHED.now (matched_in writes done) refl in
      let modified = count_read own_reply N_MODIFIED.now (modified_in writes done) refl in
      let upserted = count_read own_reply N_UPSERTED.now (upserted_in writes done) refl in
      let deleted = count_read own_reply N_DELETED.now (deleted_in writes done) refl in
      let whole : counts_in own_reply ≡ counts_chain (count_of (deleted_in writes done)) (count_of (upserted_in writes done)) (count_of (modified_in writes done)) (count_of (matched_in writes done)) (count_of (inserted_in writes done))
      = λ i. counts_chain (deleted i) (upserted i) (modified i) (matched i) (inserted i) in
      counts_are (inserted_in writes done) (matched_in writes done) (modified_in writes done) (upserted_in writes done) (deleted_in writes done) found.counts (sym whole ∙ has.counts)
      ∙ counts_told session sent writes done

  -- and the first page of the documents of its statements
  pub page_read : (found : BulkReply) → HasFields own_reply found
      → IsPageTold (cursor_number (pages_left page (rows 0 writes done)) cursors) (first_page page (rows 0 writes done)) found.page
  unfolding write_reply
  page_read found has =
      cursor_told FIRST_BATCH.now (cursor_number (pages_left page (rows 0 writes done)) cursors) (first_page page (rows 0 writes done)) own_reply found.page refl refl has.page

-- where no error was seen, and so many as were counted, none was counted
none_counted : (failed : List ℕ) (errors : ℕ) → are_none failed ≡ true → (length failed == errors) ≡ true → errors ≡ 0
none_counted [] errors clean counted = sym (eqb-true 0 errors counted)
none_counted (index ∷ failed) errors clean counted = absurd (differ clean)

-- then none of the statements failed
pub unfailed_by : (done : List Statement) (failed : List ℕ) (errors : ℕ) → errors ≡ count_by is_failed done → are_none failed ≡ true → (length failed == errors) ≡ true
    → has_failed done ≡ false
unfailed_by done failed errors is clean counted = none_failed done (sym is ∙ none_counted failed errors clean counted)
