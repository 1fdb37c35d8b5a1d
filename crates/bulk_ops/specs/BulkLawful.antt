-- A bulk write keeps the law of operations.
use Rattle.std.proofs.Common.{◌≡◌, ℕ, ◌+◌, ◌==◌, Bool, true, false, List, [], ◌∷◌, ◌++◌, length, take, take-append-drop, refl, sym, ap, subst, ◌∙◌, inl, inr, arith}
use Rattle.std.specs.Prelude.{ℤ, pos, Option, None, Some, Result, Ok, if◌then◌else◌}
use Rattle.std.specs.Option.{option_and_then}
use Rattle.std.specs.Ordering.{int_eq}
use Rattle.std.proofs.lemmas.Bool.{and_parts}
use Rattle.std.proofs.lemmas.Bool.Decides.{Decides-int_eq}
use Rattle.std.proofs.lemmas.List.{append-nil}
use Rattle.bson_lite.specs.declared.namespace.Namespace.{Namespace}
use Rattle.driver_error.specs.declared.error.Error.{Error}
use Rattle.bulk_outcomes.specs.BulkResults.{ResultSpec}
use Rattle.driver_options.specs.declared.write_options.BulkWriteOptions.{BulkWriteOptions}
use Rattle.wire_keys.specs.declared.keys.TheConstants.{OK}
use Rattle.driver_link.specs.declared.machine.PlacedWrite.{PlacedWrite}
use Rattle.driver_link.specs.declared.machine.Scheduled.{Scheduled}
use Rattle.driver_link.specs.declared.machine.Send.{Send}
use Rattle.driver_link.specs.declared.machine.SendBody.TheVariants.{More, Write}
use Rattle.driver_link.specs.declared.machine.SendCommand.TheVariants as command
use Rattle.driver_link.specs.declared.machine.Server.{Server}
use Rattle.driver_link.specs.declared.machine.Statement.{Statement}
use Rattle.driver_link.specs.Cases.{body_writes, known_of, results_of}
use Rattle.driver_link.specs.Cursors.{Reply, cursor_number, cursors_with, first_page, pages_left, results_left, rows, with_cursor}
use Rattle.driver_link.specs.Exchange.{after_picks, answered, exchanged, met, traced}
use Rattle.driver_link.specs.Replies.{body_reply, write_reply}
use Rattle.driver_link.specs.Serving.{done_in, served, served_in}
use Rattle.driver_link.specs.Settled.{IsWrite}
use Rattle.driver_link.specs.Statements.{has_failed}
use Rattle.driver_link.proofs.Lists.{some_is_some}
use Rattle.driver_ops.specs.declared.operation.Reading.{Reading}
use Rattle.driver_ops.specs.declared.operation.Reading.TheVariants.{Done, Page as Further}
use Rattle.driver_ops.specs.declared.target.OperationTarget.{OperationTarget}
use Rattle.driver_ops.specs.Inserts.{int_at, is_one}
use Rattle.driver_ops.specs.OperationLaw.{FurtherPages, IsLawful, as_pages}
use Rattle.driver_ops.specs.Operations.{send_of}
use Rattle.driver_ops.specs.Served.{entries_counted, met_statements, statements_in}
use Rattle.driver_ops.specs.lawful.ReplyNumbers.{error_not_one}
use Rattle.driver_ops.specs.lawful.InsertRead.{differ, ok_is_one, spells_one}
use Rattle.driver_ops.specs.lawful.Statements.{IsServedOutside, reply_of_writes, told_outside, told_reply}
use Rattle.bulk_ops.specs.declared.bulk_reply.BulkReply.{BulkReply}
use Rattle.bulk_ops.specs.declared.bulk_reply.OpResult.{OpResult}
use Rattle.bulk_ops.specs.declared.bulk_reply.ResultsPage.{ResultsPage}
use Rattle.bulk_ops.specs.declared.bulk_results.PageFault.TheVariants as fault
use Rattle.bulk_ops.specs.declared.bulk_results.PageVerdict.{PageVerdict}
use Rattle.bulk_ops.specs.declared.bulk_results.PageVerdict.TheVariants.{Breaks, Last, LeavesOpen}
use Rattle.bulk_fronts.specs.declared.own_op.OwnOp.{OwnOp}
use Rattle.bulk_ops.specs.BulkAnswers.{AnswersBulk, BulkBatch, BulkRead, ComesBehind, GoesOnBulk, GoesOnBy, OpensBulk, OpensBy, StopsAtPage, are_none, first_read, first_verdict, further_read, further_verdict, is_clean, read_open, result_read, rules_of, where_open, with_results}
use Rattle.bulk_ops.specs.BulkEntries.{TellsBulk, counts_by}
use Rattle.bulk_fronts.specs.BulkOps.{model_writes}
use Rattle.bulk_ops.specs.BulkPages.{bulk_reply, next_page, op_results}
use Rattle.bulk_ops.specs.BulkRules.{ResultRules, are_complete, are_placed, closing_verdict, failed_indexes, is_empty, keep_order, open_verdict, verdict}
use Rattle.bulk_ops.specs.BulkSpec.{batch_read, bulk_spec}
use Rattle.bulk_fronts.specs.BulkWrites.{bulk_is_ordered}
use Rattle.bulk_ops.specs.lawful.BulkReplies.{HasFields, IsPageTold, counts_read, errors_read, has_fields, page_read, unfailed_by}
use Rattle.bulk_ops.specs.lawful.CursorPages.{last_page, opened_left, picks_left, reply_of_more}
use Rattle.bulk_ops.specs.lawful.ResultRows.{as_values, both_read, both_values, rows_read}
use Rattle.bulk_ops.specs.lawful.ToldResults.{AreWritten, kept_are_told, models_written}

-- a verdict is the last where the cursor is none and as many errors were seen as were counted
pub record IsLastBy (cursor : ℤ) (failed : List ℕ) (errors : ℕ) : Type 0 where
  pub ended : int_eq cursor (pos 0) ≡ true
  pub counted : (length failed == errors) ≡ true

closing_last : (counted complete : Bool) → (if counted then (if complete then Last else Breaks fault.Missing) else Breaks fault.Miscounted) ≡ Last → counted ≡ true
closing_last true complete is = refl
closing_last false complete is = absurd (let e : ◌≡◌ {A = PageVerdict} (Breaks fault.Miscounted) Last = is in cc)

open_never_last : (first empty : Bool) → (if first then LeavesOpen else (if empty then Breaks fault.Empty else LeavesOpen)) ≡ Last → ⊥
open_never_last true empty is = let e : ◌≡◌ {A = PageVerdict} LeavesOpen Last = is in cc
open_never_last false true is = let e : ◌≡◌ {A = PageVerdict} (Breaks fault.Empty) Last = is in cc
open_never_last false false is = let e : ◌≡◌ {A = PageVerdict} LeavesOpen Last = is in cc

closing_never_open : (counted complete : Bool) → (if counted then (if complete then Last else Breaks fault.Missing) else Breaks fault.Miscounted) ≡ LeavesOpen → ⊥
closing_never_open true true is = let e : ◌≡◌ {A = PageVerdict} Last LeavesOpen = is in cc
closing_never_open true false is = let e : ◌≡◌ {A = PageVerdict} (Breaks fault.Missing) LeavesOpen = is in cc
closing_never_open false complete is = let e : ◌≡◌ {A = PageVerdict} (Breaks fault.Miscounted) LeavesOpen = is in cc

-- a verdict by its tests
abbrev verdict_by : Bool → Bool → Bool → PageVerdict → PageVerdict → PageVerdict
verdict_by placed ordered ended closing going =
    if placed then (if ordered then (if ended then closing else going) else Breaks fault.Disordered) else Breaks fault.Misplaced

last_by : (placed ordered ended : Bool) (closing going : PageVerdict) → (going ≡ Last → ⊥) → verdict_by placed ordered ended closing going ≡ Last → (ended ≡ true) × (closing ≡ Last)
last_by true true true closing going never is = (refl, is)
last_by true true false closing going never is = absurd (never is)
last_by true false ended closing going never is = absurd (let e : ◌≡◌ {A = PageVerdict} (Breaks fault.Disordered) Last = is in cc)
last_by false ordered ended closing going never is = absurd (let e : ◌≡◌ {A = PageVerdict} (Breaks fault.Misplaced) Last = is in cc)

open_by : (placed ordered ended : Bool) (closing going : PageVerdict) → (closing ≡ LeavesOpen → ⊥) → verdict_by placed ordered ended closing going ≡ LeavesOpen → ended ≡ false
open_by true true true closing going never is = absurd (never is)
open_by true true false closing going never is = refl
open_by true false ended closing going never is = absurd (let e : ◌≡◌ {A = PageVerdict} (Breaks fault.Disordered) LeavesOpen = is in cc)
open_by false ordered ended closing going never is = absurd (let e : ◌≡◌ {A = PageVerdict} (Breaks fault.Misplaced) LeavesOpen = is in cc)

last_verdict : (rules : ResultRules) (errors : ℕ) (first : Bool) (earlier : List OpResult) (page : ResultsPage) → verdict rules errors first earlier page ≡ Last
    → IsLastBy page.cursor (failed_indexes (earlier ++ page.results)) errors
unfolding verdict
last_verdict rules errors first earlier page is =
    let results = earlier ++ page.results in
    let both = last_by (are_placed rules.ops results) (keep_order rules.ordered results) (int_eq page.cursor (pos 0)) (closing_verdict rules errors results) (open_verdict first page.results)
    (open_never_last first (is_empty page.results)) is in
    record { ended = both.0; counted = closing_last (length (failed_indexes results) == errors) (are_complete rules results) both.1 }

pub open_is_open : (rules : ResultRules) (errors : ℕ) (first : Bool) (earlier : List OpResult) (page : ResultsPage) → verdict rules errors first earlier page ≡ LeavesOpen
    → int_eq page.cursor (pos 0) ≡ false
unfolding verdict
open_is_open rules errors first earlier page is =
    let results = earlier ++ page.results in
    open_by (are_placed rules.ops results) (keep_order rules.ordered results) (int_eq page.cursor (pos 0)) (closing_verdict rules errors results) (open_verdict first page.results)
    (closing_never_open (length (failed_indexes results) == errors) (are_complete rules results)) is

-- an output is no page
no_page : {R : Type 0} (output : R) (cursor : ℤ) (namespace : Namespace) → ◌≡◌ {A = Result (Reading R) Error} (Ok (Done output)) (Ok (Further cursor namespace)) → ⊥
no_page output cursor namespace is = cc

-- a page that is gone on from
page_found : {R : Type 0} (cursor other : ℤ) (namespace another : Namespace) → ◌≡◌ {A = Result (Reading R) Error} (Ok (Further cursor namespace)) (Ok (Further other another)) → cursor ≡ other
page_found cursor other namespace another is = cc

module _ {R : Type 0} (batch : BulkBatch R) where
  -- a reply with an output, and one with an open cursor
  record OpensDone (reply : Reply) (output : R) : Type 0 where
    found : BulkReply
    read : bulk_reply reply ≡ Some found
    last : first_verdict batch found ≡ Last
    clean : is_clean (first_read found) ≡ true
    is : output ≡ result_read batch (first_read found)

  pub record OpensFurther (reply : Reply) (cursor : ℤ) : Type 0 where
    pub found : BulkReply
    pub read : bulk_reply reply ≡ Some found
    pub open_is : first_verdict batch found ≡ LeavesOpen
    pub cursor_is : cursor ≡ found.page.cursor

  opens_done : (reply : Reply) (output : R) → OpensBulk batch (bulk_reply reply) (Ok (Done output)) → OpensDone reply output
  opens_done reply output answers = by_fields (bulk_reply reply) refl answers
    where
      by_verdict : (found : BulkReply) → bulk_reply reply ≡ Some found → (judged : PageVerdict) → first_verdict batch found ≡ judged → OpensBy judged batch found (Ok (Done output))
          → OpensDone reply output
      by_verdict found read LeavesOpen is answers = absurd (no_page output found.page.cursor found.page.namespace answers)
      by_verdict found read Last is answers = record { found = found; read = read; last = is; clean = answers.0; is = answers.1 }
      by_verdict found read (Breaks broken) is answers = absurd answers

      by_fields : (fields : Option BulkReply) → bulk_reply reply ≡ fields → OpensBulk batch fields (Ok (Done output)) → OpensDone reply output
      by_fields None read answers = absurd answers
      by_fields (Some found) read answers = by_verdict found read (first_verdict batch found) refl answers

  pub opens_further : (reply : Reply) (cursor : ℤ) (namespace : Namespace) → OpensBulk batch (bulk_reply reply) (Ok (Further cursor namespace)) → OpensFurther reply cursor
  opens_further reply cursor namespace answers = by_fields (bulk_reply reply) refl answers
    where
      by_verdict : (found : BulkReply) → bulk_reply reply ≡ Some found → (judged : PageVerdict) → first_verdict batch found ≡ judged → OpensBy judged batch found (Ok (Further cursor namespace))
          → OpensFurther reply cursor
      by_verdict found read LeavesOpen is answers =
          record { found = found; read = read; open_is = is; cursor_is = page_found {R = R} cursor found.page.cursor namespace found.page.namespace answers }
      by_verdict found read Last is answers = absurd answers
      by_verdict found read (Breaks broken) is answers = absurd answers

      by_fields : (fields : Option BulkReply) → bulk_reply reply ≡ fields → OpensBulk batch fields (Ok (Further cursor namespace)) → OpensFurther reply cursor
      by_fields None read answers = absurd answers
      by_fields (Some found) read answers = by_verdict found read (first_verdict batch found) refl answers

  -- what was read of a reply whose cursor is open
  pub opened_read : (reply : Reply) (found : BulkReply) → bulk_reply reply ≡ Some found → first_verdict batch found ≡ LeavesOpen → read_open batch (Ok reply ∷ []) ≡ Some (first_read found)
  unfolding read_open
  opened_read reply found read is =
      ap (option_and_then (λ fields. where_open (first_verdict batch fields) (first_read fields))) read
      ∙ ap (λ (judged : PageVerdict). where_open judged (first_read found)) is

  -- a further page with an output
  record GoesOnDone (read : BulkRead) (reply : Reply) (output : R) : Type 0 where
    page : ResultsPage
    read_is : next_page reply ≡ Some page
    last : further_verdict batch read page ≡ Last
    clean : is_clean (further_read read page) ≡ true
    is : output ≡ result_read batch (further_read read page)

  goes_on_done : (read : BulkRead) (reply : Reply) (output : R) → GoesOnBulk batch read reply (next_page reply) (Ok (Done output)) → GoesOnDone read reply output
  goes_on_done read reply output answers = by_fields (next_page reply) refl answers
    where
      by_verdict : (page : ResultsPage) → next_page reply ≡ Some page → (judged : PageVerdict) → further_verdict batch read page ≡ judged → GoesOnBy judged batch read reply page (Ok (Done output))
          → GoesOnDone read reply output
      by_verdict page at LeavesOpen is answers = absurd (no_page output page.cursor page.namespace answers)
      by_verdict page at Last is answers = record { page = page; read_is = at; last = is; clean = answers.0; is = answers.1 }
      by_verdict page at (Breaks broken) is answers = absurd answers

      by_fields : (fields : Option ResultsPage) → next_page reply ≡ fields → GoesOnBulk batch read reply fields (Ok (Done output)) → GoesOnDone read reply output
      by_fields None at answers = absurd answers
      by_fields (Some page) at answers = by_verdict page at (further_verdict batch read page) refl answers

  -- one with an open cursor has a cursor
  goes_on_open : (read : BulkRead) (reply : Reply) (cursor : ℤ) (namespace : Namespace) → GoesOnBulk batch read reply (next_page reply) (Ok (Further cursor namespace))
      → (page : ResultsPage) × ((next_page reply ≡ Some page) × (int_eq page.cursor (pos 0) ≡ false))
  goes_on_open read reply cursor namespace answers = by_fields (next_page reply) refl answers
    where
      by_verdict : (page : ResultsPage) → next_page reply ≡ Some page → (judged : PageVerdict) → further_verdict batch read page ≡ judged → GoesOnBy judged batch read reply page (Ok (Further cursor namespace))
          → (page : ResultsPage) × ((next_page reply ≡ Some page) × (int_eq page.cursor (pos 0) ≡ false))
      by_verdict page at LeavesOpen is answers = (page, (at, open_is_open (rules_of batch) read.reply.errors false read.results page is))
      by_verdict page at Last is answers = absurd answers
      by_verdict page at (Breaks broken) is answers = absurd answers

      by_fields : (fields : Option ResultsPage) → next_page reply ≡ fields → GoesOnBulk batch read reply fields (Ok (Further cursor namespace))
          → (page : ResultsPage) × ((next_page reply ≡ Some page) × (int_eq page.cursor (pos 0) ≡ false))
      by_fields None at answers = absurd answers
      by_fields (Some page) at answers = by_verdict page at (further_verdict batch read page) refl answers

  -- the same behind others that were read
  behind_open : (found : Option BulkRead) (reply : Reply) (cursor : ℤ) (namespace : Namespace) → ComesBehind batch found reply (Ok (Further cursor namespace))
      → (page : ResultsPage) × ((next_page reply ≡ Some page) × (int_eq page.cursor (pos 0) ≡ false))
  behind_open None reply cursor namespace answers = absurd answers
  behind_open (Some read) reply cursor namespace answers = goes_on_open read reply cursor namespace answers

  -- no page of the machine has one
  open_behind : (reply page : Reply) (pages : List Reply) (cursor : ℤ) (namespace : Namespace) → AnswersBulk batch (as_pages (page ∷ pages) ++ Ok reply ∷ []) (Ok (Further cursor namespace))
      → (found : ResultsPage) × ((next_page page ≡ Some found) × (int_eq found.cursor (pos 0) ≡ false))
  open_behind reply page [] cursor namespace answers = behind_open (read_open batch (Ok reply ∷ [])) page cursor namespace answers
  open_behind reply page (other ∷ pages) cursor namespace answers =
      behind_open (read_open batch (as_pages (other ∷ pages) ++ Ok reply ∷ [])) page cursor namespace answers

-- the first page and what is left are all
pub pages_whole : (page : Option ℕ) (results : List Reply) → first_page page results ++ pages_left page results ≡ results
pages_whole None results = append-nil results
pages_whole (Some most) results = take-append-drop most results

-- no cursor is open where none is told
pub none_is_left : (left : List Reply) (cursors : List (Option (List Reply))) → int_eq (pos (cursor_number left cursors)) (pos 0) ≡ true → left ≡ []
none_is_left [] cursors is = refl
none_is_left (first ∷ left) cursors is = absurd (no_number (length cursors) (cc ((Decides-int_eq (pos (cursor_number (first ∷ left) cursors)) (pos 0)).0 is)))
  where
    no_number : (count : ℕ) → count + 1 ≡ 0 → ⊥
    no_number count is = omega (arith, is)

-- an exchange of a bulk write that was served, and its reply
module _ {R : Type 0} (batch : BulkBatch R) (ordered : Bool) (writes : List PlacedWrite) (written : AreWritten batch.ops writes) (server : Server) (send : Send) (step : Scheduled)
    (asks : send.body ≡ Write command.BulkWrite ordered writes) (done : List Statement) where
  abbrev before : Server
  before = traced (after_picks server step.deliver) send

  module _ (served_so : IsServedOutside before send step.item done) (reply : Reply) (is : reply ≡ body_reply send.body served_so.plan before.cursors done) where
    abbrev all : List Reply
    all = rows 0 writes done

    abbrev left : List Reply
    left = pages_left served_so.plan.page all

    reply_is : reply ≡ write_reply command.BulkWrite served_so.plan.page served_so.plan.concern before.cursors writes done
    reply_is = is ∙ ap (λ body. body_reply body served_so.plan before.cursors done) asks

    pub fields_are : (found : BulkReply) → bulk_reply reply ≡ Some found → HasFields (write_reply command.BulkWrite served_so.plan.page served_so.plan.concern before.cursors writes done) found
    fields_are found read =
        has_fields (write_reply command.BulkWrite served_so.plan.page served_so.plan.concern before.cursors writes done) found (ap bulk_reply (sym reply_is) ∙ read)

    pub page_told : (found : BulkReply) → bulk_reply reply ≡ Some found → IsPageTold (cursor_number left before.cursors) (first_page served_so.plan.page all) found.page
    page_told found read = page_read writes done served_so.plan.page served_so.plan.concern before.cursors found (fields_are found read)

    -- what its results are read as, where all of them came and none is missing
    pub record IsTold (output : R) : Type 0 where
      pub unfailed : has_failed done ≡ false
      pub output_is : TellsBulk batch.tells batch.first (entries_counted send.session send.number writes done) output

    told_by : (found : BulkReply) → bulk_reply reply ≡ Some found → (results : List OpResult) → op_results (as_values all) ≡ Some results → are_none (failed_indexes results) ≡ true
        → (length (failed_indexes results) == found.errors) ≡ true → (output : R) → output ≡ with_results batch results (batch.tells.counted batch.tells.nothing found.counts)
        → IsTold output
    told_by found read results came clean counted output output_is =
        let has = fields_are found read in
        let unfailed = unfailed_by done (failed_indexes results) found.errors (errors_read writes done served_so.plan.page served_so.plan.concern before.cursors found has) clean counted in
        let counts = counts_read writes done served_so.plan.page served_so.plan.concern before.cursors found has send.session send.number in
        record {
          unfailed = unfailed;
          output_is =
              output_is ∙ ap (λ known. with_results batch results (batch.tells.counted batch.tells.nothing known)) counts
              ∙ kept_are_told batch send.session send.number writes done results
              (batch.tells.counted batch.tells.nothing (counts_by (entries_counted send.session send.number writes done))) (rows_read 0 writes done results came) unfailed written;
        }

    -- the reply alone
    pub told_at_once : (output : R) → AnswersBulk batch (Ok reply ∷ []) (Ok (Done output)) → IsTold output
    told_at_once output answers =
        let opens = opens_done batch reply output answers in
        let last = last_verdict (rules_of batch) opens.found.errors true [] opens.found.page opens.last in
        let told = page_told opens.found opens.read in
        let nothing_left = none_is_left left before.cursors (subst (λ cursor. int_eq cursor (pos 0) ≡ true) told.cursor last.ended) in
        let whole : first_page served_so.plan.page all ≡ all
        = sym (append-nil (first_page served_so.plan.page all)) ∙ ap (λ more. first_page served_so.plan.page all ++ more) (sym nothing_left) ∙ pages_whole served_so.plan.page all in
        let clean = (and_parts (are_none (failed_indexes opens.found.page.results)) _ opens.clean).0 in
        told_by opens.found opens.read opens.found.page.results (ap (λ documents. op_results (as_values documents)) (sym whole) ∙ told.results) clean last.counted output opens.is

    -- the cursors after it
    cursors_now : (exchanged server send step).cursors ≡ with_cursor left before.cursors
    unfolding exchanged met served served_in
    cursors_now =
        let plan = served_so.plan in
        ap (λ item. (met before send item).cursors) served_so.item_is
        ∙ ap (λ case. (served_in case (done_in case plan (results_of (known_of before send)) send.body) plan.page before send).cursors) served_so.case
        ∙ ap (λ statements. cursors_with plan.page statements send.body before.cursors) (sym served_so.done_is)
        ∙ ap (λ body. cursors_with plan.page done body before.cursors) asks

    -- what is left of the cursor that the reply left open
    pub left_open : (cursor : ℤ) → cursor ≡ pos (cursor_number left before.cursors) → int_eq cursor (pos 0) ≡ false → results_left cursor (exchanged server send step).cursors ≡ Some left
    left_open cursor is going = by_left left refl
      where
        by_left : (rest : List Reply) → left ≡ rest → results_left cursor (exchanged server send step).cursors ≡ Some left
        by_left [] left_is =
            let zero_is : cursor ≡ pos 0 = is ∙ ap (λ some. pos (cursor_number some before.cursors)) left_is in
            absurd (differ (sym going ∙ (Decides-int_eq cursor (pos 0)).1 zero_is))
        by_left (first ∷ rest) left_is =
            ap (results_left cursor) (cursors_now ∙ ap (λ some. with_cursor some before.cursors) left_is)
            ∙ ap (λ c. results_left c (before.cursors ++ Some (first ∷ rest) ∷ [])) (is ∙ ap (λ some. pos (cursor_number some before.cursors)) left_is)
            ∙ opened_left before.cursors (first ∷ rest)
            ∙ ap (λ some. Some some) (sym left_is)

    -- the reply and one page of all that was left
    pub told_in_two : (page : Reply) (cursor : ℤ) (namespace : Namespace) (asker : Send) (later : Scheduled) → AnswersBulk batch (Ok reply ∷ []) (Ok (Further cursor namespace))
        → asker.body ≡ More cursor → answered (exchanged server send step) asker later ≡ Some page
        → (output : R) → AnswersBulk batch (Ok page ∷ Ok reply ∷ []) (Ok (Done output)) → IsTold output
    unfolding answered
    told_in_two page cursor namespace asker later opened body came output answers =
        let opens = opens_further batch reply cursor namespace opened in
        let told = page_told opens.found opens.read in
        let goes = goes_on_done batch (first_read opens.found) page output
        (subst (λ read. ComesBehind batch read page (Ok (Done output))) (opened_read batch reply opens.found opens.read opens.open_is) answers) in
        let mid = traced (after_picks (exchanged server send step) later.deliver) asker in
        let next = last_page mid cursor page goes.page (reply_of_more mid asker cursor body later.item page came) goes.read_is in
        let going = open_is_open (rules_of batch) opens.found.errors true [] opens.found.page opens.open_is in
        let before_picks = picks_left (exchanged server send step) later.deliver cursor next.left next.left_is in
        let here = left_open cursor (opens.cursor_is ∙ told.cursor) (subst (λ c. int_eq c (pos 0) ≡ false) (sym opens.cursor_is) going) in
        let same : next.left ≡ left = some_is_some next.left left (sym before_picks ∙ here) in
        let both : op_results (as_values all) ≡ Some (opens.found.page.results ++ goes.page.results)
        = ap (λ documents. op_results (as_values documents)) (sym (pages_whole served_so.plan.page all))
        ∙ ap op_results (both_values (first_page served_so.plan.page all) left)
        ∙ both_read (as_values (first_page served_so.plan.page all)) (as_values left) opens.found.page.results goes.page.results told.results
        (ap (λ documents. op_results (as_values documents)) (sym same) ∙ next.told.results) in
        let last = last_verdict (rules_of batch) opens.found.errors false opens.found.page.results goes.page goes.last in
        let clean = (and_parts (are_none (failed_indexes (opens.found.page.results ++ goes.page.results))) _ goes.clean).0 in
        told_by opens.found opens.read (opens.found.page.results ++ goes.page.results) both clean last.counted output goes.is

-- the machine's own pages end with the second
pub no_third : {R : Type 0} (tells : ResultSpec R) (target : OperationTarget) (first : ℕ) (own : List OwnOp) (options : BulkWriteOptions) (statements : ℕ) (reply page : Reply) (pages : List Reply)
    (server mid : Server) (cursor : ℤ) (namespace : Namespace) → FurtherPages (bulk_spec tells target first own options) statements reply server (page ∷ pages) mid
    → AnswersBulk (batch_read tells first own options statements) (as_pages (page ∷ pages) ++ Ok reply ∷ []) (Ok (Further cursor namespace)) → ⊥
unfolding answered
no_third tells target first own options statements reply page pages server mid cursor namespace further answers =
    let asked = further.1.1 in
    let found = open_behind (batch_read tells first own options statements) reply page pages cursor namespace answers in
    let asker = send_of asked.context (More asked.cursor) in
    let there = traced (after_picks further.0 asked.step.deliver) asker in
    let next = last_page there asked.cursor page found.0 (reply_of_more there asker asked.cursor refl asked.step.item page asked.came) found.1.0 in
    differ (sym found.1.1 ∙ (Decides-int_eq found.0.cursor (pos 0)).1 next.told.cursor)

-- a reply that is read as the answer to a bulk write is none that spells an error, so its statements are told
module _ (ordered : Bool) (writes : List PlacedWrite) (server : Server) (send : Send) (step : Scheduled) (out : send.in_transaction ≡ false)
    (asks : send.body ≡ Write command.BulkWrite ordered writes) (reply : Reply) (answer : answered server send step ≡ Some reply) (one : is_one (int_at OK.now reply) ≡ true) where
  pub record IsServed : Type 0 where
    pub done : List Statement
    pub told : statements_in server send step ≡ Some done
    pub served_so : IsServedOutside (traced (after_picks server step.deliver) send) send step.item done
    pub is : reply ≡ body_reply send.body served_so.plan (traced (after_picks server step.deliver) send).cursors done

  served_by : (done : List Statement) → met_statements (traced (after_picks server step.deliver) send) send step.item ≡ Some done → IsServed
  unfolding answered statements_in
  served_by done told =
      let before = traced (after_picks server step.deliver) send in
      let served_so = told_outside before send step.item done told in
      record { done = done; told = told; served_so = served_so; is = told_reply before send step.item done reply served_so answer }

  pub is_served : IsServed
  unfolding answered
  is_served =
      elim (reply_of_writes (traced (after_picks server step.deliver) send) send step.item reply out (subst IsWrite (sym asks) tt) answer) [
        | inl error ↦ absurd (differ (sym (ap (λ found. is_one (int_at OK.now found)) error.is ∙ error_not_one error.code error.labels) ∙ one))
        | inr tells ↦ served_by tells.done tells.told
      ]

-- the reply and the machine's pages behind it, of which there is one
module _ {R : Type 0} (tells : ResultSpec R) (target : OperationTarget) (first : ℕ) (own : List OwnOp) (options : BulkWriteOptions) (statements : ℕ) (writes : List PlacedWrite)
    (written : AreWritten (take statements own) writes) (server : Server) (send : Send) (step : Scheduled) (asks : send.body ≡ Write command.BulkWrite (bulk_is_ordered options) writes)
    (done : List Statement) (served_so : IsServedOutside (traced (after_picks server step.deliver) send) send step.item done) (reply : Reply)
    (is : reply ≡ body_reply send.body served_so.plan (traced (after_picks server step.deliver) send).cursors done) where
  told_further : (page : Reply) (pages : List Reply) (last : Server) → FurtherPages (bulk_spec tells target first own options) statements reply (exchanged server send step) (page ∷ pages) last
      → (output : R) → AnswersBulk (batch_read tells first own options statements) (as_pages (page ∷ pages) ++ Ok reply ∷ []) (Ok (Done output))
      → IsTold (batch_read tells first own options statements) (bulk_is_ordered options) writes written server send step asks done served_so reply is output
  told_further page [] last further output answers =
      let asked = further.1.1 in
      let asker = send_of asked.context (More asked.cursor) in
      told_in_two (batch_read tells first own options statements) (bulk_is_ordered options) writes written server send step asks done served_so reply is
      page asked.cursor asked.namespace asker asked.step asked.left refl
      (subst (λ s. answered s asker asked.step ≡ Some page) further.1.0 asked.came) output answers
  told_further page (other ∷ pages) last further output answers =
      absurd (no_third tells target first own options statements reply other pages (exchanged server send step) further.0
      further.1.1.cursor further.1.1.namespace further.1.0 further.1.1.left)

-- a page that did not come ends it with an error
page_failed : {R : Type 0} (batch : BulkBatch R) (read : Option BulkRead) (failure : Error) (reading : Reading R) → StopsAtPage batch read failure (Ok reading) → ⊥
page_failed batch None failure reading stops = stops
page_failed batch (Some read) failure reading stops = stops

-- over the machine's own reply and pages its output is told by the entries of its writes
pub bulk_lawful : {R : Type 0} (tells : ResultSpec R) (target : OperationTarget) (first : ℕ) (own : List OwnOp) (options : BulkWriteOptions) → IsLawful (bulk_spec tells target first own options)
bulk_lawful {R = R} tells target first own options = record {
  alone = λ paged. absurd (differ (sym paged));
  failed = λ statements failure pages reading. page_failed (batch_read tells first own options statements) (read_open (batch_read tells first own options statements) pages) failure reading;
  reads_own = λ statements places body asks writes context server step reply answer bytes spelled output reads.
      let batch = batch_read tells first own options statements in
      let send = send_of context body in
      let own_writes : List PlacedWrite = model_writes (take statements asks.models) (take statements places) in
      let same = spells_one reads.response.body reply bytes reads.done.spelled spelled in
      let one = subst (λ (r : Reply). is_one (int_at OK.now r) ≡ true) same (ok_is_one reads.response.body reads.done.is) in
      let made = is_served (bulk_is_ordered options) own_writes server send step refl asks.is reply answer one in
      let answers = subst (λ (r : Reply). AnswersBulk batch (Ok r ∷ []) (Ok (Done output))) same reads.reads in
      let is = told_at_once batch (bulk_is_ordered options) own_writes (models_written statements asks.models own places asks.are_ops) server send step asks.is made.done made.served_so reply made.is output answers in
      record {
        entries = entries_counted context.session context.number own_writes made.done;
        stand = record {
          done = made.done;
          told = made.told;
          unfailed = is.unfailed;
          entries_are = ap (λ b. entries_counted context.session context.number (body_writes b) made.done) (sym asks.is);
        };
        told = is.output_is;
      };
  reads_further = λ statements places body asks writes context server step reply answer bytes spelled page pages last further output reads.
      let send = send_of context body in
      let own_writes : List PlacedWrite = model_writes (take statements asks.models) (take statements places) in
      let same = spells_one reads.response.body reply bytes reads.done.spelled spelled in
      let one = subst (λ (r : Reply). is_one (int_at OK.now r) ≡ true) same (ok_is_one reads.response.body reads.done.is) in
      let made = is_served (bulk_is_ordered options) own_writes server send step refl asks.is reply answer one in
      let answers = subst (λ (r : Reply). AnswersBulk (batch_read tells first own options statements) (as_pages (page ∷ pages) ++ Ok r ∷ []) (Ok (Done output))) same reads.reads in
      let is = told_further tells target first own options statements own_writes (models_written statements asks.models own places asks.are_ops) server send step asks.is made.done made.served_so reply made.is page pages last further output answers in
      record {
        entries = entries_counted context.session context.number own_writes made.done;
        stand = record {
          done = made.done;
          told = made.told;
          unfailed = is.unfailed;
          entries_are = ap (λ b. entries_counted context.session context.number (body_writes b) made.done) (sym asks.is);
        };
        told = is.output_is;
      };
}
