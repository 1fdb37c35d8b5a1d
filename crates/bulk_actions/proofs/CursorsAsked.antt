-- Behind the reply to a bulk write only a cursor is asked for, or ended, that the server opened: whatever the schedule does, the machine's own
-- reply tells no other, and behind the next page it tells none.
use Rattle.std.proofs.Common.{◌≡◌, ℕ, Bool, true, false, List, [], ◌∷◌, ◌++◌, length, refl, sym, subst, ◌∙◌, inl, inr}
use Rattle.std.specs.Prelude.{ℤ, pos, ◌≤ℤ◌, Option, None, Some, Result, Ok, Err}
use Rattle.bson_lite.specs.declared.namespace.Namespace.{Namespace}
use Rattle.bson_lite.specs.Spelling.{Spells}
use Rattle.driver_error.specs.declared.error.Error.{Error}
use Rattle.bulk_outcomes.specs.BulkResults.{ResultSpec}
use Rattle.driver_options.specs.declared.options.Conn.{Conn}
use Rattle.driver_options.specs.declared.write_options.BulkWriteOptions.{BulkWriteOptions}
use Rattle.link_faults.specs.declared.fault.LinkError.{LinkError}
use Rattle.link_faults.specs.declared.fault.LinkError.TheVariants.{Fault, Memory}
use Rattle.wire_keys.specs.declared.keys.TheConstants.{OK}
use Rattle.driver_link.specs.declared.machine.PlacedWrite.{PlacedWrite}
use Rattle.driver_link.specs.declared.machine.Send.{Send}
use Rattle.driver_link.specs.declared.machine.SendBody.TheVariants.{Kill, More, Write}
use Rattle.driver_link.specs.declared.machine.SendCommand.TheVariants as command
use Rattle.driver_link.specs.declared.machine.Server.{Server}
use Rattle.driver_link.specs.Cursors.{Reply}
use Rattle.driver_link.specs.Exchange.{next_step}
use Rattle.driver_link.specs.LinkState.{LinkState, server_run}
use Rattle.driver_link.specs.ServerRun.{ServerRun, TakesStep, run_after, run_answer}
use Rattle.driver_ops.specs.declared.operation.Reading.TheVariants.{Page as Further}
use Rattle.driver_ops.specs.Fields.{under}
use Rattle.driver_ops.specs.Inserts.{int_at, is_one}
use Rattle.driver_ops.specs.OperationLaw.{FurtherPages, as_pages}
use Rattle.driver_ops.specs.Operations.{LeavesCursor, OperationSpec, Page, send_of}
use Rattle.driver_ops.specs.lawful.InsertRead.{ok_is_one, spells_one}
use Rattle.bulk_fronts.specs.declared.own_op.OwnOp.{OwnOp}
use Rattle.bulk_ops.specs.BulkAnswers.{AnswersBulk, BulkBatch}
use Rattle.bulk_ops.specs.BulkLawful.{bulk_lawful, no_third}
use Rattle.bulk_ops.specs.BulkSpec.{admin_target, batch_read, bulk_spec}
use Rattle.bulk_ops.proofs.OpenedCursors.{cursor_opened}
use Rattle.driver_attempt.specs.AttemptExchanges.{AsksPage, AsksPages, EndsCursor, EndsCursorWhere, EndsPages, PageAsked, ends_cursor, pages_of}
use Rattle.driver_exec.specs.Resending.{GivesPages, more_send}
use Rattle.driver_exec.proofs.InvariantSteps.CamePages as came
use Rattle.driver_exec.proofs.Moments.{pages_lead}
use Rattle.driver_exec.proofs.PassesBy.{GivesLink, asks_give}
use Rattle.bulk_actions.specs.BulkCompleteness.{AsksWithin, NoneAhead}
use Rattle.bulk_actions.proofs.CursorsAhead.{more_within}
use Rattle.bulk_actions.proofs.CursorsKept.{exchanged_behind}

-- ---- a link that tells such a server
abbrev pub TellsSuch : (ServerRun → Type 0) → LinkState → Type 0
TellsSuch P link = (run : ServerRun) × ((server_run link ≡ Some run) × P run)

-- one on which nothing that waits is ahead
abbrev pub TellsBehind : LinkState → Type 0
TellsBehind link = TellsSuch (λ run. NoneAhead run.server) link

-- it does so after an exchange, where it does so whether the send got there or not
pub step_such : (P : ServerRun → Type 0) (run : ServerRun) (send : Send) (now : LinkState) (result : Result (List ℕ) LinkError) → P run → P (run_after run send)
    → TakesStep (Some run) (server_run now) send result → TellsSuch P now
step_such P run send now (Ok bytes) here there steps = (run_after run send, (steps.0, there))
step_such P run send now (Err (Fault found labels)) here there steps = (run_after run send, (steps.0, there))
step_such P run send now (Err Memory) here there steps = elim steps [ inl same ↦ (run, (same, here)) | inr more ↦ (run_after run send, (more, there)) ]

-- ---- the questions behind a reply
-- nothing that waits is ahead, and a cursor was opened
abbrev Opened : ℤ → ServerRun → Type 0
Opened cursor run = NoneAhead run.server × (cursor ≤ℤ pos (length run.server.cursors))

-- so it is behind a command of that cursor
opened_after : (cursor : ℤ) (run : ServerRun) (send : Send) → AsksWithin (length run.server.cursors) send.body → Opened cursor run → Opened cursor (run_after run send)
opened_after cursor run send within here =
    let behind = exchanged_behind run.server send (next_step run.schedule run.server) within in
    (behind.none here.0, more_within (length run.server.cursors) (length (run_after run send).server.cursors) cursor behind.more here.1)

-- an end to a cursor that was opened
ended_such : (conn : Conn) (mid now : LinkState) (one : PageAsked) → TellsSuch (Opened one.cursor) mid → EndsCursor conn mid now one → TellsSuch (Opened one.cursor) now
ended_such conn mid now one here ends =
    let kill = send_of (under None None) (Kill one.cursor) in
    elim ends [
      | inl out ↦ step_such (Opened one.cursor) here.0 kill now out.result here.1.1 (opened_after one.cursor here.0 kill here.1.1.1 here.1.1)
          (subst (λ r. TakesStep r (server_run now) kill out.result) here.1.0
          (out.exchanges.exchanges.steps kill (out.exchanges.reads (Kill one.cursor) (record { none = refl; alone = refl; is = refl }))))
      | inr lacks ↦ subst (λ l. TellsSuch (Opened one.cursor) l) (sym lacks.same) here
    ]

where_such : (is : Bool) (conn : Conn) (mid now : LinkState) (one : PageAsked) → TellsSuch (Opened one.cursor) mid → EndsCursorWhere is conn mid now one → TellsSuch (Opened one.cursor) now
where_such true conn mid now one here ends = ended_such conn mid now one here ends
where_such false conn mid now one here same = subst (λ l. TellsSuch (Opened one.cursor) l) (sym same) here

-- a batch of these ops, whose command has so many of them and carries these writes
module _ {R : Type 0} (tells : ResultSpec R) (options : BulkWriteOptions) (index : ℕ) (own : List OwnOp) (count : ℕ) where
  abbrev spec : OperationSpec R
  spec = bulk_spec tells admin_target index own options

  abbrev batch : BulkBatch R
  batch = batch_read tells index own options count

  -- what is read at the end of questions, of which the newest was for a cursor that was opened
  ends_such : (bytes : List ℕ) (conn : Conn) (mid now : LinkState) (one : PageAsked) (earlier : List PageAsked) (answer : Result R Error) → TellsSuch (Opened one.cursor) mid
      → EndsPages spec count bytes conn mid now (one ∷ earlier) answer → TellsSuch (Opened one.cursor) now
  ends_such bytes conn mid now one earlier (Ok output) here ends = subst (λ l. TellsSuch (Opened one.cursor) l) (sym ends.1) here
  ends_such bytes conn mid now one earlier (Err error) here ends = elim ends [
    | inl fails ↦ where_such (ends_cursor one.page error) conn mid now one here fails.ends
    | inr lacks ↦ elim lacks.may [
      | inl same ↦ subst (λ l. TellsSuch (Opened one.cursor) l) (sym same) here
      | inr ended ↦ where_such (ends_cursor one.page lacks.bare) conn mid now one here ended
    ]
  ]

  -- behind a send that was answered so
  module _ (before : ServerRun) (send : Send) (bytes : List ℕ) (given : Reply) (spelled : Spells given bytes) where
    -- the machine's own pages leave nothing open
    third_none : (replies : List Reply) (page : Page) (pages : List Page) (last : Server) → page ∷ pages ≡ as_pages replies → FurtherPages spec count given (run_after before send).server replies last
        → (cursor : ℤ) (namespace : Namespace) → AnswersBulk batch (as_pages replies ++ Ok given ∷ []) (Ok (Further cursor namespace)) → ⊥
    third_none [] page pages last are further cursor namespace answers = absurd (let e : ◌≡◌ {A = List Page} (page ∷ pages) [] = are in cc)
    third_none (other ∷ replies) page pages last are further cursor namespace answers =
        no_third tells admin_target index own options count given other replies (run_after before send).server last cursor namespace further answers

    module _ (session : Option (List ℕ)) (conn : Conn) (link : LinkState) (link_is : server_run link ≡ Some (run_after before send)) where
      -- so behind one question there is no other
      pub none_behind : (one : PageAsked) (rest : List PageAsked) (now : LinkState) → AsksPages spec count bytes conn session link (one ∷ rest) now → (cursor : ℤ) (namespace : Namespace)
          → LeavesCursor spec count bytes (pages_of (one ∷ rest)) cursor namespace → ⊥
      none_behind one rest now asks cursor namespace leaves =
          let told_here = run_after before send in
          let lawful = bulk_lawful tells admin_target index own options in
          let leads = pages_lead spec count bytes conn session told_here link link_is (one ∷ rest) now asks in
          let gives : GivesPages spec count session bytes told_here leads.moment (pages_of (one ∷ rest))
          = subst (λ r. GivesLink spec count bytes session r (Some leads.moment) (pages_of (one ∷ rest))) link_is
          (subst (λ r. GivesLink spec count bytes session (server_run link) r (pages_of (one ∷ rest))) leads.is (asks_give spec count bytes conn session link (one ∷ rest) now asks)) in
          let found = came.pages_came spec lawful count session bytes given spelled told_here (pages_of (one ∷ rest)) leads.moment gives (Ok leaves.response.body ∷ []) (Further cursor namespace) leaves.reads in
          third_none found.replies one.page (pages_of rest) leads.moment.server found.are found.further cursor namespace
          (came.left_open spec lawful count session bytes given spelled told_here (pages_of (one ∷ rest)) found.replies cursor namespace found.are leaves)

      module _ (ordered : Bool) (writes : List PlacedWrite) (asks : send.body ≡ Write command.BulkWrite ordered writes) (out : send.in_transaction ≡ false) (answer_is : run_answer before send ≡ Some given)
          (none : NoneAhead (run_after before send).server) where
        -- what the reply leaves open was opened
        opened : (cursor : ℤ) (namespace : Namespace) → LeavesCursor spec count bytes [] cursor namespace → cursor ≤ℤ pos (length (run_after before send).server.cursors)
        opened cursor namespace leaves =
            let same : leaves.response.body ≡ given = spells_one leaves.response.body given bytes leaves.done.spelled spelled in
            let one : is_one (int_at OK.now given) ≡ true = subst (λ (r : Reply). is_one (int_at OK.now r) ≡ true) same (ok_is_one leaves.response.body leaves.done.is) in
            let answers : AnswersBulk batch (Ok given ∷ []) (Ok (Further cursor namespace)) = subst (λ (r : Reply). AnswersBulk batch (Ok r ∷ []) (Ok (Further cursor namespace))) same leaves.reads in
            cursor_opened batch ordered writes before.server send (next_step before.schedule before.server) out asks given answer_is one cursor namespace answers

        -- so a question for it is for one that was
        asked_such : (now : LinkState) (one : PageAsked) → LeavesCursor spec count bytes [] one.cursor one.namespace → AsksPage conn session link now one → TellsSuch (Opened one.cursor) now
        asked_such now one leaves asks_it =
            let told_here = run_after before send in
            let question = more_send session one.cursor in
            let within : one.cursor ≤ℤ pos (length told_here.server.cursors) = opened one.cursor one.namespace leaves in
            let here : Opened one.cursor told_here = (none, within) in
            elim asks_it [
              | inl went ↦ step_such (Opened one.cursor) told_here question now went.result here (opened_after one.cursor told_here question within here)
                  (subst (λ r. TakesStep r (server_run now) question went.result) link_is
                  (went.exchanges.exchanges.steps question (went.exchanges.reads (More one.cursor) (record { none = refl; alone = refl; is = refl }))))
              | inr lacks ↦ subst (λ l. TellsSuch (Opened one.cursor) l) (sym lacks.same) (told_here, (link_is, here))
            ]

        -- however many there are, nothing that waits is ahead behind them
        pub pages_such : (now : LinkState) (asked : List PageAsked) (mid : LinkState) (answer : Result R Error) → AsksPages spec count bytes conn session link asked mid → EndsPages spec count bytes conn mid now asked answer → TellsBehind now
        pages_such now [] mid answer asks_all ends = subst (λ l. TellsBehind l) (sym (ends.1 ∙ asks_all)) (run_after before send, (link_is, none))
        pages_such now (one ∷ []) mid answer asks_all ends =
            let here = asked_such mid one asks_all.1.1 (subst (λ l. AsksPage conn session l mid one) asks_all.1.0 asks_all.1.2) in
            let over = ends_such bytes conn mid now one [] answer here ends in
            (over.0, (over.1.0, over.1.1.0))
        pages_such now (one ∷ (older ∷ rest)) mid answer asks_all ends = absurd (none_behind older rest asks_all.0 asks_all.1.0 one.cursor one.namespace asks_all.1.1)
