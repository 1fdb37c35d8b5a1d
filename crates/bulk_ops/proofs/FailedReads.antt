-- An error that was read in the machine's own reply to a bulk write, and in its pages, tells what its statements came to.
use Rattle.std.proofs.Common.{◌≡◌, ℕ, Bool, true, false, List, [], ◌∷◌, ◌++◌, refl, sym, ap, subst, ◌∙◌, inl, inr}
use Rattle.std.specs.Prelude.{ℤ, pos, Option, None, Some, Result, Ok, Err, if◌then◌else◌}
use Rattle.std.specs.Option.{option_and_then}
use Rattle.std.specs.Ordering.{int_eq}
use Rattle.bson_lite.specs.declared.namespace.Namespace.{Namespace}
use Rattle.driver_error.specs.declared.error.Error.{Error}
use Rattle.driver_error.specs.declared.kind.ErrorKind.TheVariants as kind
use Rattle.server_answers.specs.declared.results.PartialBulkWriteResult.{PartialBulkWriteResult}
use Rattle.driver_error.specs.declared.write.BulkWriteError.{BulkWriteError}
use Rattle.bulk_outcomes.specs.BulkResults.{ResultSpec}
use Rattle.driver_error.specs.Error.{ErrorKind, IsAlone, kind_of}
use Rattle.driver_error.specs.LabelTexts.{LabelSet}
use Rattle.bulk_outcomes.specs.PartialResults.{MakesPartial}
use Rattle.bulk_outcomes.specs.Status.{IsOfKind}
use Rattle.driver_options.specs.declared.write_options.BulkWriteOptions.{BulkWriteOptions}
use Rattle.driver_link.specs.declared.machine.PlacedWrite.{PlacedWrite}
use Rattle.driver_link.specs.declared.machine.Scheduled.{Scheduled}
use Rattle.driver_link.specs.declared.machine.Send.{Send}
use Rattle.driver_link.specs.declared.machine.SendBody.TheVariants.{More, Write}
use Rattle.driver_link.specs.declared.machine.SendCommand.TheVariants as command
use Rattle.driver_link.specs.declared.machine.Server.{Server}
use Rattle.driver_link.specs.declared.machine.Statement.{Statement}
use Rattle.driver_link.specs.Cursors.{Reply}
use Rattle.driver_link.specs.Exchange.{after_picks, answered, exchanged, traced}
use Rattle.driver_link.specs.Replies.{body_reply}
use Rattle.driver_link.specs.Settled.{Has}
use Rattle.driver_link.proofs.Lists.{has_either, none_is_some, some_is_some}
use Rattle.driver_ops.specs.declared.operation.Reading.{Reading}
use Rattle.driver_ops.specs.declared.operation.Reading.TheVariants.{Page as Further}
use Rattle.driver_ops.specs.declared.target.OperationTarget.{OperationTarget}
use Rattle.driver_ops.specs.OperationLaw.{AsksFurther, FurtherPages, as_pages}
use Rattle.driver_ops.specs.Operations.{send_of}
use Rattle.driver_ops.specs.Served.{entries_counted}
use Rattle.driver_ops.specs.lawful.Statements.{IsServedOutside}
use Rattle.bulk_ops.specs.declared.bulk_reply.BulkReply.{BulkReply}
use Rattle.bulk_ops.specs.declared.bulk_reply.ResultsPage.{ResultsPage}
use Rattle.bulk_ops.specs.declared.bulk_results.PageVerdict.{PageVerdict}
use Rattle.bulk_ops.specs.declared.bulk_results.PageVerdict.TheVariants.{Breaks, Last, LeavesOpen}
use Rattle.bulk_fronts.specs.declared.own_op.OwnOp.{OwnOp}
use Rattle.bulk_ops.specs.BulkAnswers.{AnswersBulk, BulkBatch, BulkRead, ComesBehind, GoesOnBulk, GoesOnBy, IsPageError, IsReadError, OpensBulk, OpensBy, StopsAtPage, failures_read, first_read, first_verdict, further_read, further_verdict, read_open, result_read, rules_of, stands_partial, where_open}
use Rattle.bulk_ops.specs.BulkEntries.{counts_by}
use Rattle.bulk_ops.specs.BulkLawful.{fields_are, left_open, no_third, open_is_open, opens_further, page_told}
use Rattle.bulk_ops.specs.BulkPages.{bulk_reply, next_page}
use Rattle.bulk_ops.specs.BulkSpec.{batch_read, bulk_spec}
use Rattle.bulk_fronts.specs.BulkWrites.{bulk_is_ordered}
use Rattle.bulk_ops.specs.PartialEntries.{TellsSome}
use Rattle.bulk_ops.specs.lawful.BulkReplies.{counts_read}
use Rattle.bulk_ops.specs.lawful.CursorPages.{last_page, picks_left, reply_of_more}
use Rattle.bulk_ops.specs.lawful.ToldResults.{AreWritten}
use Rattle.bulk_ops.proofs.BulkErrorKinds.{IsOne}
use Rattle.bulk_ops.proofs.PartialTold.{indexed_counted, results_told}
use Rattle.bulk_ops.proofs.ReadRows.{AreOfRows, documents_read, in_first, in_left}

-- what was read of a reply and its pages has the counts of the entries, and its results are of the statements
pub record IsReadOf (session : Option (List ℕ)) (number : Option ℤ) (writes : List PlacedWrite) (done : List Statement) (read : BulkRead) : Type 0 where
  pub counts : read.reply.counts ≡ counts_by (entries_counted session number writes done)
  pub of_rows : AreOfRows writes done read.results

-- an error tells what was read so
pub record TellsRead {R : Type 0} (batch : BulkBatch R) (session : Option (List ℕ)) (number : Option ℤ) (writes : List PlacedWrite) (done : List Statement) (error : Error) : Type 0 where
  pub read : BulkRead
  pub is_read : IsReadOf session number writes done read
  pub kind_is : kind_of error ≡ kind.BulkWrite (failures_read batch read)

-- ---- what it tells
-- an error of a bulk write tells its failures
same_failures : (one other : BulkWriteError) → ◌≡◌ {A = ErrorKind} (kind.BulkWrite one) (kind.BulkWrite other) → one ≡ other
same_failures one other is = cc

-- the partial result that was read
part_by : (stands : Bool) (part found : PartialBulkWriteResult) → (if stands then Some part else None) ≡ Some found → part ≡ found
part_by true part found is = some_is_some part found is
part_by false part found is = absurd (none_is_some found is)

module _ {R : Type 0} (batch : BulkBatch R) (session : Option (List ℕ)) (number : Option ℤ) (writes : List PlacedWrite) (written : AreWritten batch.ops writes) (done : List Statement) (error : Error)
    (tells : TellsRead batch session number writes done error) (failures : BulkWriteError) (is : kind_of error ≡ kind.BulkWrite failures) where
  pub failures_are : failures ≡ failures_read batch tells.read
  failures_are = same_failures failures (failures_read batch tells.read) (sym is ∙ tells.kind_is)

  part_is : (found : PartialBulkWriteResult) → failures.partial_result ≡ Some found → batch.tells.partial (result_read batch tells.read) ≡ found
  part_is found has =
      part_by (stands_partial batch tells.read) (batch.tells.partial (result_read batch tells.read)) found (sym (ap (λ (f : BulkWriteError). f.partial_result) failures_are) ∙ has)

  -- its partial result is told by the entries of the statements that counted
  pub part_told : MakesPartial batch.tells → (found : PartialBulkWriteResult) → failures.partial_result ≡ Some found → TellsSome (indexed_counted session number batch.first writes done) found
  part_told laws found has =
      subst (TellsSome (indexed_counted session number batch.first writes done)) (part_is found has)
      (results_told batch laws session number writes written done tells.read.reply.counts tells.read.results tells.is_read.counts tells.is_read.of_rows)

  -- and is of the kind of result that was asked for
  pub part_of_kind : IsOne batch.tells → (found : PartialBulkWriteResult) → failures.partial_result ≡ Some found → IsOfKind batch.tells (Some found)
  part_of_kind one found has = subst (λ (p : PartialBulkWriteResult). IsOfKind batch.tells (Some p)) (part_is found has) (λ other. one (result_read batch tells.read) other)

-- ---- how it was read
-- an error of this kind is not of that one
not_odd : (failures : BulkWriteError) (text : List ℕ) (labels : LabelSet) (error : Error) → kind_of error ≡ kind.BulkWrite failures → IsAlone (kind.InvalidResponse text) labels error → ⊥
not_odd failures text labels error is alone = let e : ◌≡◌ {A = ErrorKind} (kind.BulkWrite failures) (kind.InvalidResponse text) = sym is ∙ alone.kind_is in cc

-- an error is no page that is gone on from
not_open : {R : Type 0} (error : Error) (cursor : ℤ) (namespace : Namespace) → ◌≡◌ {A = Result (Reading R) Error} (Err error) (Ok (Further cursor namespace)) → ⊥
not_open error cursor namespace is = cc

module _ {R : Type 0} (tells : ResultSpec R) (target : OperationTarget) (first : ℕ) (own : List OwnOp) (options : BulkWriteOptions) (statements : ℕ) (writes : List PlacedWrite)
    (written : AreWritten (batch_read tells first own options statements).ops writes) (server : Server) (send : Send) (step : Scheduled)
    (asks : send.body ≡ Write command.BulkWrite (bulk_is_ordered options) writes) (done : List Statement) (served_so : IsServedOutside (traced (after_picks server step.deliver) send) send step.item done)
    (reply : Reply) (is : reply ≡ body_reply send.body served_so.plan (traced (after_picks server step.deliver) send).cursors done) where
  abbrev batch : BulkBatch R
  batch = batch_read tells first own options statements

  abbrev ordered : Bool
  ordered = bulk_is_ordered options

  abbrev IsRead : BulkRead → Type 0
  IsRead read = IsReadOf send.session send.number writes done read

  abbrev pub TellsIt : Error → Type 0
  TellsIt error = TellsRead batch send.session send.number writes done error

  -- the reply alone
  first_is : (found : BulkReply) → bulk_reply reply ≡ Some found → IsRead (first_read found)
  first_is found read =
      let has = fields_are batch ordered writes written server send step asks done served_so reply is found read in
      let told = page_told batch ordered writes written server send step asks done served_so reply is found read in
      record {
        counts = counts_read writes done served_so.plan.page served_so.plan.concern (traced (after_picks server step.deliver) send).cursors found has send.session send.number;
        of_rows = documents_read writes done _ found.page.results (in_first served_so.plan.page _) told.results;
      }

  -- what was read of it with its cursor open
  record IsOpened (read : BulkRead) : Type 0 where
    found : BulkReply
    at : bulk_reply reply ≡ Some found
    open_is : first_verdict batch found ≡ LeavesOpen
    is_first : first_read found ≡ read

  opened : (read : BulkRead) → read_open batch (Ok reply ∷ []) ≡ Some read → IsOpened read
  unfolding read_open
  opened read reads = by_fields (bulk_reply reply) refl reads
    where
      by_verdict : (found : BulkReply) → bulk_reply reply ≡ Some found → (judged : PageVerdict) → first_verdict batch found ≡ judged → where_open judged (first_read found) ≡ Some read → IsOpened read
      by_verdict found at LeavesOpen judged reads = record { found = found; at = at; open_is = judged; is_first = some_is_some (first_read found) read reads }
      by_verdict found at Last judged reads = absurd (none_is_some read reads)
      by_verdict found at (Breaks fault) judged reads = absurd (none_is_some read reads)

      by_fields : (fields : Option BulkReply) → bulk_reply reply ≡ fields → option_and_then (λ found. where_open (first_verdict batch found) (first_read found)) fields ≡ Some read → IsOpened read
      by_fields None at reads = absurd (none_is_some read reads)
      by_fields (Some found) at reads = by_verdict found at (first_verdict batch found) refl reads

  opened_is : (read : BulkRead) → read_open batch (Ok reply ∷ []) ≡ Some read → IsRead read
  opened_is read reads = let so = opened read reads in subst (λ (r : BulkRead). IsRead r) so.is_first (first_is so.found so.at)

  module _ (error : Error) (failures : BulkWriteError) (kind_is : kind_of error ≡ kind.BulkWrite failures) where
    -- an error of what was read, and one of a page behind it
    of_read : (read : BulkRead) → IsRead read → IsReadError batch read error → TellsIt error
    of_read read is_read says = record { read = read; is_read = is_read; kind_is = says.kind_is }

    of_page : (read : BulkRead) → IsRead read → (source : Error) → IsPageError batch read source error → TellsIt error
    of_page read is_read source says = record { read = read; is_read = is_read; kind_is = says.caused.kind ∙ says.is.kind_is }

    -- the reply was the whole answer
    pub alone_tells : AnswersBulk batch (Ok reply ∷ []) (Err error) → TellsIt error
    alone_tells answers = by_fields (bulk_reply reply) refl answers
      where
        by_verdict : (found : BulkReply) → bulk_reply reply ≡ Some found → (judged : PageVerdict) → OpensBy judged batch found (Err error) → TellsIt error
        by_verdict found at LeavesOpen opens = absurd (not_open {R = R} error found.page.cursor found.page.namespace opens)
        by_verdict found at Last opens = of_read (first_read found) (first_is found at) opens.1
        by_verdict found at (Breaks fault) opens = absurd (not_odd failures _ _ error kind_is opens)

        by_fields : (fields : Option BulkReply) → bulk_reply reply ≡ fields → OpensBulk batch fields (Err error) → TellsIt error
        by_fields None at opens = absurd (not_odd failures _ _ error kind_is opens)
        by_fields (Some found) at opens = by_verdict found at (first_verdict batch found) opens

    -- a page failed behind the reply: none of the machine's came before it
    pub failed_tells : (failure : Error) (replies : List Reply) (last : Server) → FurtherPages (bulk_spec tells target first own options) statements reply (exchanged server send step) replies last
        → (cursor : ℤ) (namespace : Namespace) → AnswersBulk batch (as_pages replies ++ Ok reply ∷ []) (Ok (Further cursor namespace))
        → AnswersBulk batch (Err failure ∷ (as_pages replies ++ Ok reply ∷ [])) (Err error) → TellsIt error
    failed_tells failure [] last further cursor namespace left answers = by_read (read_open batch (Ok reply ∷ [])) refl answers
      where
        by_read : (found : Option BulkRead) → read_open batch (Ok reply ∷ []) ≡ found → StopsAtPage batch found failure (Err error) → TellsIt error
        by_read None reads stops = absurd stops
        by_read (Some read) reads stops = of_page read (opened_is read reads) failure stops
    failed_tells failure (page ∷ replies) last further cursor namespace left answers =
        absurd (no_third tells target first own options statements reply page replies (exchanged server send step) last cursor namespace further left)

    -- the page behind the reply came
    module _ (page : Reply) (mid last : Server) (asked : AsksFurther (bulk_spec tells target first own options) statements reply [] mid last page) (same : mid ≡ exchanged server send step) where
      -- its results are those that the reply left
      left_rows : (found : ResultsPage) → next_page page ≡ Some found → AreOfRows writes done found.results
      unfolding answered
      left_rows found at =
          let opens = opens_further batch reply asked.cursor asked.namespace asked.left in
          let told = page_told batch ordered writes written server send step asks done served_so reply is opens.found opens.read in
          let going = open_is_open (rules_of batch) opens.found.errors true [] opens.found.page opens.open_is in
          let asker = send_of asked.context (More asked.cursor) in
          let there = traced (after_picks (exchanged server send step) asked.step.deliver) asker in
          let next = last_page there asked.cursor page found
          (reply_of_more there asker asked.cursor refl asked.step.item page (subst (λ (s : Server). answered s asker asked.step ≡ Some page) same asked.came)) at in
          let before_picks = picks_left (exchanged server send step) asked.step.deliver asked.cursor next.left next.left_is in
          let here = left_open batch ordered writes written server send step asks done served_so reply is asked.cursor (opens.cursor_is ∙ told.cursor)
          (subst (λ (c : ℤ). int_eq c (pos 0) ≡ false) (sym opens.cursor_is) going) in
          let whole : next.left ≡ _ = some_is_some next.left _ (sym before_picks ∙ here) in
          documents_read writes done next.left found.results
          (λ document has. in_left served_so.plan.page _ document (subst (λ (l : List Reply). Has l document) whole has)) next.told.results

      both_rows : (read : BulkRead) (found : ResultsPage) → IsRead read → next_page page ≡ Some found → IsRead (further_read read found)
      both_rows read found is_read at = record {
        counts = is_read.counts;
        of_rows = λ told has. elim (has_either read.results found.results told has) [
          | inl earlier ↦ is_read.of_rows told earlier
          | inr later ↦ left_rows found at told later
        ];
      }

      pub came_tells : AnswersBulk batch (Ok page ∷ Ok reply ∷ []) (Err error) → TellsIt error
      came_tells answers = by_read (read_open batch (Ok reply ∷ [])) refl answers
        where
          by_verdict : (read : BulkRead) → IsRead read → (found : ResultsPage) → next_page page ≡ Some found → (judged : PageVerdict) → GoesOnBy judged batch read page found (Err error) → TellsIt error
          by_verdict read is_read found at LeavesOpen goes = absurd (not_open {R = R} error found.cursor found.namespace goes)
          by_verdict read is_read found at Last goes = of_read (further_read read found) (both_rows read found is_read at) goes.1
          by_verdict read is_read found at (Breaks fault) goes = of_page read is_read goes.source goes.is

          by_fields : (read : BulkRead) → IsRead read → (fields : Option ResultsPage) → next_page page ≡ fields → GoesOnBulk batch read page fields (Err error) → TellsIt error
          by_fields read is_read None at goes = of_page read is_read goes.source goes.is
          by_fields read is_read (Some found) at goes = by_verdict read is_read found at (further_verdict batch read found) goes

          by_read : (found : Option BulkRead) → read_open batch (Ok reply ∷ []) ≡ found → ComesBehind batch found page (Err error) → TellsIt error
          by_read None reads comes = absurd comes
          by_read (Some read) reads comes = by_fields read (opened_is read reads) (next_page page) refl comes

    -- so each error that the machine's own pages end with is told
    pub pages_tell : (page : Reply) (replies : List Reply) (last : Server) → FurtherPages (bulk_spec tells target first own options) statements reply (exchanged server send step) (page ∷ replies) last
        → AnswersBulk batch (as_pages (page ∷ replies) ++ Ok reply ∷ []) (Err error) → TellsIt error
    pages_tell page [] last further answers = came_tells page further.0 last further.1.1 further.1.0 answers
    pages_tell page (other ∷ replies) last further answers =
        absurd (no_third tells target first own options statements reply other replies (exchanged server send step) further.0 further.1.1.cursor further.1.1.namespace further.1.0 further.1.1.left)
