-- Behind the reply to a bulk write within a gentle part no error is read but want of memory: there is one further page at most, and it is
-- the machine's own, of all that was left.
use Rattle.std.proofs.Common.{◌≡◌, ℕ, ◌+◌, Bool, false, List, [], ◌∷◌, ◌++◌, length, take, refl, sym, ap, subst, ◌∙◌, inl, inr}
use Rattle.std.specs.Prelude.{ℤ, pos, Option, None, Some, Ok, Err, slice_get}
use Rattle.std.specs.Ordering.{int_eq}
use Rattle.bson_lite.specs.declared.fault.EncodeFault.{EncodeFault}
use Rattle.bson_lite.specs.declared.namespace.Namespace.{Namespace}
use Rattle.bson_lite.specs.Spelling.{Spells, refusal}
use Rattle.driver_error.specs.declared.error.Error.{Error}
use Rattle.driver_error.specs.declared.kind.ErrorKind.TheVariants as kind
use Rattle.bulk_outcomes.specs.BulkResults.{ResultSpec}
use Rattle.driver_error.specs.Error.{kind_of}
use Rattle.driver_options.specs.declared.options.Conn.{Conn}
use Rattle.driver_options.specs.declared.write_options.BulkWriteOptions.{BulkWriteOptions}
use Rattle.driver_link.specs.declared.machine.Item.{Item}
use Rattle.driver_link.specs.declared.machine.Item.TheVariants.{Serve}
use Rattle.driver_link.specs.declared.machine.PlacedWrite.{PlacedWrite}
use Rattle.driver_link.specs.declared.machine.Scheduled.{Scheduled}
use Rattle.driver_link.specs.declared.machine.Send.{Send}
use Rattle.driver_link.specs.declared.machine.SendBody.TheVariants.{Write}
use Rattle.driver_link.specs.declared.machine.SendCommand.TheVariants as command
use Rattle.driver_link.specs.declared.machine.Server.{Server}
use Rattle.driver_link.specs.Cursors.{Reply, cursor_number, pages_left, results_left, rows, with_cursor}
use Rattle.driver_link.specs.Exchange.{after_picks, answered, exchanged, next_step, plan_of, reply, traced}
use Rattle.driver_link.specs.LinkState.{LinkState, server_run}
use Rattle.driver_link.specs.Replies.{page_reply_of}
use Rattle.driver_link.specs.ServerRun.{IsReply, ServerRun, run_after, run_answer}
use Rattle.driver_link.proofs.Lists.{get_last, none_is_some}
use Rattle.driver_link.proofs.Unnumbered.{case_without}
use Rattle.driver_ops.specs.declared.operation.Reading.TheVariants.{Page as Further}
use Rattle.driver_ops.specs.Fields.{executor_fields, under}
use Rattle.driver_ops.specs.GetMores.{at_namespace, more_command, more_spec}
use Rattle.driver_ops.specs.Operations.{IsUnframed, LeavesCursor, OperationSpec, Page}
use Rattle.driver_ops.specs.lawful.InsertRead.{differ, spells_one}
use Rattle.driver_ops.proofs.PlainReading.{only_memory}
use Rattle.bulk_fronts.specs.declared.own_op.OwnOp.{OwnOp}
use Rattle.bulk_ops.specs.BulkAnswers.{AnswersBulk, BulkBatch}
use Rattle.bulk_ops.specs.BulkPages.{bulk_namespace}
use Rattle.bulk_ops.specs.BulkSpec.{admin_target, batch_read, bulk_spec}
use Rattle.bulk_ops.specs.lawful.CursorPages.{reply_of_cursor}
use Rattle.bulk_ops.proofs.WholePages as whole
use Rattle.driver_attempt.specs.AttemptExchanges.{AsksPage, AsksPages, EndsPages, PageAsked, PageCame}
use Rattle.driver_exec.specs.Gentle.{IsGentlePart}
use Rattle.driver_exec.specs.Resending.{more_send}
use Rattle.driver_exec.proofs.Completeness.Ends.{AnswersPlainly, FailsBehind}
use Rattle.driver_exec.proofs.Completeness.Questions.{question_well}
use Rattle.driver_exec.proofs.Moments.{IsBefore, after_before, asked_leads, before_twice, one_moment, pages_end_leads}
use Rattle.bulk_actions.specs.BulkCompleteness.{NoneAhead, ServesBulk, WaitsWithin}
use Rattle.bulk_actions.proofs.BulkServed.{MayGoBulk, MeetsBulk, meets_bulk, rows_long}
use Rattle.bulk_actions.proofs.SpelledQuestions.{spells_questions}
use Rattle.bulk_actions.proofs.CursorsAhead.{left_of_number, picks_ahead, picks_keep}
use Rattle.bulk_actions.proofs.CursorsAsked.{none_behind}

-- an item that serves a send gives a reply
serves_replies : (server : Server) (send : Send) (item : Item) → ServesBulk send item → reply server send item ≡ None → ⊥
unfolding reply
serves_replies server send (Serve results fail concern page) serves none = none_is_some _ (sym none)
serves_replies server send _ serves none = serves

-- where it serves a question that is all that is left of the cursor
more_reply : (server : Server) (session : Option (List ℕ)) (cursor : ℤ) (item : Item) → ServesBulk (more_send session cursor) item
    → reply server (more_send session cursor) item ≡ Some (page_reply_of None (results_left cursor server.cursors))
unfolding reply
more_reply server session cursor (Serve results fail concern page) serves =
    let question = more_send session cursor in
    ap (λ (found : Reply). Some found) (
    reply_of_cursor server question cursor refl (plan_of results fail concern page) (case_without session server question)
    ∙ ap (λ given. page_reply_of given (results_left cursor server.cursors)) serves.1
    )
more_reply server session cursor _ serves = absurd serves

-- an open cursor has what is left, which is opened behind the others
with_open : (left : List Reply) (cursors : List (Option (List Reply))) → int_eq (pos (cursor_number left cursors)) (pos 0) ≡ false
    → (cursor_number left cursors ≡ length cursors + 1) × (slice_get (with_cursor left cursors) (length cursors) ≡ Some (Some left))
with_open [] cursors going = absurd (differ (sym going))
with_open (first ∷ left) cursors going = (refl, get_last cursors (Some (first ∷ left)))

unanswered : (at : ServerRun) (question : Send) → ServesBulk question (next_step at.schedule at.server).item → run_answer at question ≡ None → ⊥
unfolding answered
unanswered at question serves none =
    let step = next_step at.schedule at.server in serves_replies (traced (after_picks at.server step.deliver) question) question step.item serves none

-- a question for a page of a bulk write is not refused for its spelling
framed_question : (cursor : ℤ) (session : Option (List ℕ)) (namespace : Namespace) → namespace ≡ bulk_namespace → (failure : Error)
    → IsUnframed (more_spec (at_namespace namespace) cursor) (under session None) failure → ⊥
framed_question cursor session namespace is failure unframed =
    let none = subst (λ n. IsUnframed (more_spec (at_namespace n) cursor) (under session None) failure) is unframed in
    let found = none.none in
    let refused : refusal (more_command bulk_namespace cursor ++ executor_fields (under session None) bulk_namespace.db) ≡ Some none.fault
    = subst (λ body. refusal (body ++ executor_fields (under session None) bulk_namespace.db) ≡ Some none.fault) found.is.body
    (subst (λ database. refusal (found.command.body ++ executor_fields (under session None) database) ≡ Some none.fault) found.is.database found.refused) in
    let e : ◌≡◌ {A = Option EncodeFault} None (Some none.fault) = sym (spells_questions cursor session found.sixteen) ∙ refused in cc

-- a batch of these ops, whose command has so many of them and carries these writes
module _ {R : Type 0} (tells : ResultSpec R) (options : BulkWriteOptions) (index : ℕ) (own : List OwnOp) (count : ℕ) (ordered : Bool) (writes : List PlacedWrite) (sized : length writes ≡ length (take count own)) where
  -- the reply to a send of it that is served is plain
  pub bulk_plain : (server : Server) (send : Send) (step : Scheduled) → send.body ≡ Write command.BulkWrite ordered writes → MayGoBulk send server → ServesBulk send step.item → AnswersPlainly (bulk_spec tells admin_target index own options) count server send step
  unfolding answered
  bulk_plain server send step asks may serves =
      let meets = meets_bulk ordered writes server send step asks may serves in
      let mid : Server = traced (after_picks server step.deliver) send in
      let each = rows_long 0 writes meets.done meets.long ∙ sized in record {
        reply = whole.reply meets.page mid.cursors writes meets.done meets.all;
        is = meets.is;
        plain = λ bytes spelled error reads.
            only_memory (bulk_spec tells admin_target index own options) count bytes (whole.reply meets.page mid.cursors writes meets.done meets.all) (whole.reply_done meets.page mid.cursors writes meets.done meets.all) spelled
            (λ bare bare_reads. elim bare_reads [
              | inl memory ↦ memory
              | inr other ↦ absurd (whole.no_first_error meets.page mid.cursors writes meets.done meets.all (batch_read tells index own options count) each bare other.1)
            ]) error reads;
      }

-- and behind it, within a gentle part
module _ {R : Type 0} (tells : ResultSpec R) (options : BulkWriteOptions) (index : ℕ) (own : List OwnOp) (count : ℕ) (ordered : Bool) (writes : List PlacedWrite) (sized : length writes ≡ length (take count own))
    (repeats : Send → Type 0) (alone : (session : Option (List ℕ)) (cursor : ℤ) → repeats (more_send session cursor) → ⊥) (told told_now : ServerRun)
    (gentle : IsGentlePart ServesBulk repeats told told_now) where
  abbrev spec : OperationSpec R
  spec = bulk_spec tells admin_target index own options

  abbrev batch : BulkBatch R
  batch = batch_read tells index own options count

  -- a send of it that was served
  module _ (before : ServerRun) (send : Send) (asks : send.body ≡ Write command.BulkWrite ordered writes) (may : MayGoBulk send before.server) (ahead : NoneAhead before.server)
      (serves : ServesBulk send (next_step before.schedule before.server).item) where
    abbrev step : Scheduled
    step = next_step before.schedule before.server

    abbrev mid : Server
    mid = traced (after_picks before.server step.deliver) send

    meets : MeetsBulk mid send step.item writes
    meets = meets_bulk ordered writes before.server send step asks may serves

    abbrev documents : List Reply
    documents = rows 0 writes meets.done

    abbrev left : List Reply
    left = pages_left meets.page documents

    abbrev given : Reply
    given = whole.reply meets.page mid.cursors writes meets.done meets.all

    answer_is : run_answer before send ≡ Some given
    unfolding answered
    answer_is = meets.is

    each : length documents ≡ length batch.ops
    each = rows_long 0 writes meets.done meets.long ∙ sized

    -- what is left of the cursor that it opened
    has_left : int_eq (pos (cursor_number left mid.cursors)) (pos 0) ≡ false → slice_get (run_after before send).server.cursors (length mid.cursors) ≡ Some (Some left)
    unfolding exchanged
    has_left going = ap (λ cursors. slice_get cursors (length mid.cursors)) meets.cursors ∙ (with_open left mid.cursors going).1

    waits_behind : WaitsWithin (length mid.cursors) (run_after before send).server
    unfolding exchanged
    waits_behind = λ at other is. picks_ahead before.server step.deliver ahead at other (ap (λ waiting. slice_get waiting at) (sym meets.waiting) ∙ is)

    -- a question for it is answered with all of that
    next_is : int_eq (pos (cursor_number left mid.cursors)) (pos 0) ≡ false → (session : Option (List ℕ)) → ServesBulk (more_send session (pos (cursor_number left mid.cursors))) (next_step (run_after before send).schedule (run_after before send).server).item
        → run_answer (run_after before send) (more_send session (pos (cursor_number left mid.cursors))) ≡ Some (page_reply_of None (Some left))
    unfolding answered
    next_is going session served =
        let after = run_after before send in
        let next = next_step after.schedule after.server in
        let cursor = pos (cursor_number left mid.cursors) in
        let found : results_left cursor (after_picks after.server next.deliver).cursors ≡ Some left
        = ap (λ number. results_left (pos number) (after_picks after.server next.deliver).cursors) (with_open left mid.cursors going).0
        ∙ left_of_number (length mid.cursors) left (after_picks after.server next.deliver).cursors (picks_keep (length mid.cursors) left after.server next.deliver waits_behind (has_left going)) in
        more_reply (traced (after_picks after.server next.deliver) (more_send session cursor)) session cursor next.item served ∙ ap (λ rest. Some (page_reply_of None rest)) found

    module _ (bytes : List ℕ) (replied : IsReply (run_answer before send) bytes) where
      spelled : Spells given bytes
      spelled = subst (λ o. IsReply o bytes) answer_is replied

      -- no error is read in the reply alone
      first_plain : (error : Error) → spec.reads count (Ok given ∷ []) (Err error) → kind_of error ≡ kind.Memory
      first_plain error reads = elim reads [
        | inl memory ↦ memory
        | inr other ↦ absurd (whole.no_first_error meets.page mid.cursors writes meets.done meets.all batch each error other.1)
      ]

      -- nor in the page behind it
      second_plain : int_eq (pos (cursor_number left mid.cursors)) (pos 0) ≡ false → (error : Error) → spec.reads count (Ok (page_reply_of None (Some left)) ∷ Ok given ∷ []) (Err error) → kind_of error ≡ kind.Memory
      second_plain going error reads = elim reads [
        | inl memory ↦ memory
        | inr other ↦ absurd (whole.no_second_error meets.page mid.cursors writes meets.done meets.all batch each going error other.1)
      ]

      -- nor where there was no memory for it
      lacking_plain : (failure : Error) → kind_of failure ≡ kind.Memory → (error : Error) → spec.reads count (Err failure ∷ Ok given ∷ []) (Err error) → kind_of error ≡ kind.Memory
      lacking_plain failure lacks error reads = elim reads [
        | inl memory ↦ memory
        | inr other ↦ absurd (other.0 lacks)
      ]

      -- what a reply leaves open
      opened : (cursor : ℤ) (namespace : Namespace) → LeavesCursor spec count bytes [] cursor namespace → whole.IsLeftOpen meets.page mid.cursors writes meets.done meets.all batch each cursor namespace
      opened cursor namespace leaves =
          whole.left_open meets.page mid.cursors writes meets.done meets.all batch each cursor namespace
          (subst (λ (r : Reply). AnswersBulk batch (Ok r ∷ []) (Ok (Further cursor namespace))) (spells_one leaves.response.body given bytes leaves.done.spelled spelled) leaves.reads)

      module _ (session : Option (List ℕ)) (conn : Conn) (link : LinkState) (link_is : server_run link ≡ Some (run_after before send)) where
        module _ (error : Error) (after : LinkState) (end : ServerRun) (after_is : server_run after ≡ Some end) (since : IsBefore told before) (until : IsBefore end told_now) where
          -- what is read with one page behind the reply
          read_with : (one : PageAsked) (now : LinkState) (page : Page) → one.page ≡ page → ((bare : Error) → spec.reads count (page ∷ Ok given ∷ []) (Err bare) → kind_of bare ≡ kind.Memory)
              → EndsPages spec count bytes conn now after (one ∷ []) (Err error) → kind_of error ≡ kind.Memory
          read_with one now page is plain ends = elim ends [
            | inl fails ↦
                let found = fails.reads in
                let same = spells_one found.response.body given bytes found.done.spelled spelled in
                let reads = subst (λ (r : Reply). spec.reads count (page ∷ Ok r ∷ []) (Err found.bare)) same (subst (λ (p : Page). spec.reads count (p ∷ Ok found.response.body ∷ []) (Err found.bare)) is found.reads) in
                found.kept.kind ∙ plain found.bare reads
            | inr lacks ↦ lacks.why
          ]

          -- a page that came is all that was left
          page_memory : (one : PageAsked) (now : LinkState) → int_eq (pos (cursor_number left mid.cursors)) (pos 0) ≡ false → (page_bytes : List ℕ) → Spells (page_reply_of None (Some left)) page_bytes
              → (page : Page) → one.page ≡ page → PageCame (Ok page_bytes) page → EndsPages spec count bytes conn now after (one ∷ []) (Err error) → kind_of error ≡ kind.Memory
          page_memory one now going page_bytes page_spelled (Ok document) is was ends =
              let next = page_reply_of None (Some left) in
              let same : document ≡ next = was.1.1 ∙ spells_one was.0.body next page_bytes was.1.0.spelled page_spelled in
              read_with one now (Ok next) (is ∙ ap (λ (r : Reply). Ok r) same) (second_plain going) ends
          page_memory one now going page_bytes page_spelled (Err failure) is was ends =
              let memory = whole.done_memory page_bytes (page_reply_of None (Some left)) (whole.page_done left) page_spelled failure was in
              read_with one now (Err failure) is (lacking_plain failure memory) ends

          -- one question
          one_memory : (one : PageAsked) (now : LinkState) → AsksPage conn session link now one → LeavesCursor spec count bytes [] one.cursor one.namespace
              → EndsPages spec count bytes conn now after (one ∷ []) (Err error) → kind_of error ≡ kind.Memory
          one_memory one now asks leaves ends =
              let told_here = run_after before send in
              let number = pos (cursor_number left mid.cursors) in
              let left_now = opened one.cursor one.namespace leaves in
              let going : int_eq number (pos 0) ≡ false = ap (λ c. int_eq c (pos 0)) (sym left_now.cursor_is) ∙ left_now.going in
              let leads = asked_leads told_here link now conn session one link_is asks in
              let over = pages_end_leads spec count bytes conn leads.moment now after leads.is (one ∷ []) (Err error) ends in
              let until_now = before_twice leads.moment end told_now (subst (IsBefore leads.moment) (one_moment after over.moment end over.is after_is) over.later) until in
              elim (question_well repeats told told_now gentle session number (alone session number) told_here leads.moment (before_twice told before told_here since (after_before before send)) until_now now leads.is
              (unanswered told_here (more_send session number)) conn link link_is one left_now.cursor_is
              (λ failure unframed. framed_question one.cursor session one.namespace left_now.namespace_is failure unframed) asks) [
                | inl own_page ↦
                    page_memory one now going own_page.bytes (subst (λ o. IsReply o own_page.bytes) (next_is going session own_page.serves) own_page.replied) one.page refl own_page.came ends
                | inr lacks ↦ read_with one now (Err lacks.failure) lacks.is (lacking_plain lacks.failure lacks.why) ends
              ]

          -- however many there are
          asked_memory : (asked : List PageAsked) (now : LinkState) → AsksPages spec count bytes conn session link asked now → EndsPages spec count bytes conn now after asked (Err error) → kind_of error ≡ kind.Memory
          asked_memory [] now asks ends =
              only_memory spec count bytes given (whole.reply_done meets.page mid.cursors writes meets.done meets.all) spelled first_plain error ends.0
          asked_memory (one ∷ []) now asks ends = one_memory one now (subst (λ l. AsksPage conn session l now one) asks.1.0 asks.1.2) asks.1.1 ends
          asked_memory (one ∷ (older ∷ rest)) now asks ends =
              absurd (none_behind tells options index own count before send bytes given spelled session conn link link_is older rest asks.0 asks.1.0 one.cursor one.namespace asks.1.1)

      -- so behind such a reply no error is read but want of memory
      pub behind_memory : (session : Option (List ℕ)) (end : ServerRun) (error : Error) → IsBefore told before → IsBefore end told_now
          → FailsBehind spec count bytes session (run_after before send) end error → kind_of error ≡ kind.Memory
      behind_memory session end error since until fails =
          asked_memory session fails.conn fails.before fails.before_is error fails.after end fails.after_is since until fails.asked fails.mid fails.asks fails.ends
