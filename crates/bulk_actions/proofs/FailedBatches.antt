-- What one batch of a bulk write tells of what succeeded in it is told by entries that stand, whether it was done or failed.
use Rattle.std.proofs.Common.{◌≡◌, ℕ, zero, suc, ◌+◌, ◌≤◌, true, List, [], ◌∷◌, ◌++◌, length, take, refl, sym, ap, subst, ◌∙◌, inl, inr, arith}
use Rattle.std.specs.Prelude.{ℤ, Option, None, Some, Result, Ok, Err, slice_get}
use Rattle.driver_error.specs.declared.error.Error.{Error}
use Rattle.driver_error.specs.declared.kind.ErrorKind.TheVariants as kind
use Rattle.server_answers.specs.declared.results.PartialBulkWriteResult.{PartialBulkWriteResult}
use Rattle.driver_error.specs.declared.write.BulkWriteError.{BulkWriteError}
use Rattle.driver_error.specs.BulkErrors.{failures_in}
use Rattle.bulk_outcomes.specs.BulkResults.{MergesResults, ResultSpec}
use Rattle.driver_error.specs.Error.{ErrorKind, kind_of}
use Rattle.bulk_outcomes.specs.PartialResults.{MakesPartial}
use Rattle.driver_options.specs.declared.models.WriteModel.{WriteModel}
use Rattle.driver_options.specs.declared.write_options.BulkWriteOptions.{BulkWriteOptions}
use Rattle.wire_keys.specs.declared.keys.TheConstants.{OK}
use Rattle.driver_link.specs.declared.machine.Counted.{Counted}
use Rattle.driver_link.specs.declared.machine.Entry.{Entry}
use Rattle.driver_link.specs.declared.machine.Place.{Place}
use Rattle.driver_link.specs.declared.machine.PlacedWrite.{PlacedWrite}
use Rattle.driver_link.specs.declared.machine.Scheduled.{Scheduled}
use Rattle.driver_link.specs.declared.machine.Send.{Send}
use Rattle.driver_link.specs.declared.machine.SendBody.{SendBody}
use Rattle.driver_link.specs.declared.machine.Server.{Server}
use Rattle.driver_link.specs.declared.machine.Statement.{Statement}
use Rattle.driver_link.specs.Apart.{AllApart}
use Rattle.driver_link.specs.Cursors.{Reply}
use Rattle.driver_link.specs.Exchange.{next_step}
use Rattle.driver_link.specs.LinkState.{server_run}
use Rattle.driver_link.specs.Replies.{result_of}
use Rattle.driver_link.specs.ServerRun.{ServerRun, run_after}
use Rattle.driver_link.specs.Settled.{Has}
use Rattle.driver_link.specs.Statements.{entry_of}
use Rattle.driver_link.proofs.Lists.{some_is_some}
use Rattle.driver_session.specs.Pool.{Pool}
use Rattle.driver_ops.specs.Inserts.{int_at, is_one}
use Rattle.driver_ops.specs.OperationLaw.{FurtherPages, as_pages}
use Rattle.driver_ops.specs.Operations.{OperationSpec, Page, ReadsPagesError, send_of}
use Rattle.driver_ops.specs.Served.{AreEntries, entries_counted, entry_counted}
use Rattle.driver_ops.specs.lawful.InsertRead.{ok_is_one, spells_one}
use Rattle.bulk_fronts.specs.declared.own_op.OwnOp.{OwnOp}
use Rattle.bulk_ops.specs.BulkAnswers.{AnswersBulk, BulkBatch, ReadsBulk}
use Rattle.bulk_ops.specs.BulkLawful.{IsServed, bulk_lawful, is_served}
use Rattle.bulk_fronts.specs.BulkOps.{model_writes}
use Rattle.bulk_ops.specs.BulkSpec.{admin_target, batch_read, bulk_spec}
use Rattle.bulk_fronts.specs.BulkWrites.{bulk_is_ordered}
use Rattle.bulk_ops.specs.PartialEntries.{IndexedEntry}
use Rattle.bulk_ops.specs.lawful.ToldResults.{models_written}
use Rattle.bulk_ops.proofs.FailedReads.{TellsRead, alone_tells, failed_tells, pages_tell, part_of_kind, part_told}
use Rattle.bulk_ops.proofs.PartialTold.{counted_at, indexed_counted, output_told, with_indexes}
use Rattle.driver_attempt.specs.Moment.{Moment}
use Rattle.driver_exec.specs.BetweenCalls.{Between, Sound}
use Rattle.driver_exec.specs.Keeping.{AreWritten, HasEntries, StandsBefore}
use Rattle.driver_exec.specs.Reporting.{IsReported, IsToldBy}
use Rattle.driver_exec.specs.Resending.{GivesPages, IsReadFailure, SendsOneCommand}
use Rattle.driver_exec.proofs.InvariantSteps.CamePages.{behind_failed, newest_came}
use Rattle.driver_exec.proofs.InvariantSteps.Standing.{one_command_entries, one_command_failures}
use Rattle.driver_exec.proofs.ReadFailures.{read_when_done}
use Rattle.many_actions.specs.BatchPlans.{MakesPlanned, PlannedEnd, places_from, rest_of}
use Rattle.many_actions.proofs.PlannedBatches as planned
use Rattle.many_actions.proofs.PlannedBatches.{IsNewFrom, fixed_or_one, place_in, told_as}
use Rattle.bulk_actions.specs.BulkBatches.{bulk_plan}
use Rattle.bulk_actions.proofs.BulkPlanned.{GoodModels, IsOfModel, bulk_asks, bulk_body, bulk_planned, bulk_stands}
use Rattle.bulk_actions.proofs.PartlyMerged.{RiseWithin, StandsFor, TellsPart, rise_higher, rise_lower, tells_none}
use Rattle.bulk_actions.proofs.PartsTaken.{part_in, part_of_end}

-- ---- entries by the positions of their writes
-- an entry is that of the write at a position, and stands among some
record IsAtPosition (writes : List PlacedWrite) (index : ℕ) (entries : List Entry) (one : IndexedEntry) : Type 0 where
  at : ℕ
  write : PlacedWrite
  stands : slice_get writes at ≡ Some write
  index_is : one.index ≡ index + at
  place : one.entry.place ≡ write.place
  written : one.entry.written ≡ write.written
  among : Has entries one.entry

position_on : (index at : ℕ) → index + 1 + at ≡ index + suc at
position_on index at = omega arith

position_here : (index : ℕ) → index ≡ index + 0
position_here index = omega arith

-- one write further on
next_position : (write : PlacedWrite) (writes : List PlacedWrite) (index : ℕ) (entries wider : List Entry) (one : IndexedEntry) → ((entry : Entry) → Has entries entry → Has wider entry)
    → IsAtPosition writes (index + 1) entries one → IsAtPosition (write ∷ writes) index wider one
next_position write writes index entries wider one among rest = record {
  at = suc rest.at;
  write = rest.write;
  stands = rest.stands;
  index_is = rest.index_is ∙ position_on index rest.at;
  place = rest.place;
  written = rest.written;
  among = among one.entry rest.among;
}

-- of statements that counted
counted_step : (session : Option (List ℕ)) (number : Option ℤ) (write : PlacedWrite) (writes : List PlacedWrite) (index : ℕ) (rest : List IndexedEntry) (entries : List Entry) (one : IndexedEntry)
    → (Has rest one → IsAtPosition writes (index + 1) entries one) → (counted : Option Counted) → Has (counted_at session number index write counted rest) one
    → IsAtPosition (write ∷ writes) index (entry_counted session number write counted entries) one
counted_step session number write writes index rest entries one behind None has = next_position write writes index entries entries one (λ entry there. there) (behind has)
counted_step session number write writes index rest entries one behind (Some result) has = elim has [
  | inl here ↦ subst (IsAtPosition (write ∷ writes) index (entry_of session number write result ∷ entries)) here
      (record { at = 0; write = write; stands = refl; index_is = position_here index; place = refl; written = refl; among = inl refl })
  | inr later ↦ next_position write writes index entries (entry_of session number write result ∷ entries) one (λ entry there. inr there) (behind later)
]

counted_position : (session : Option (List ℕ)) (number : Option ℤ) (index : ℕ) (writes : List PlacedWrite) (done : List Statement) (one : IndexedEntry) → Has (indexed_counted session number index writes done) one
    → IsAtPosition writes index (entries_counted session number writes done) one
counted_position session number index [] done one has = absurd has
counted_position session number index (write ∷ writes) [] one has = absurd has
counted_position session number index (write ∷ writes) (statement ∷ done) one has =
    counted_step session number write writes index (indexed_counted session number (index + 1) writes done) (entries_counted session number writes done) one
    (λ later. counted_position session number (index + 1) writes done one later) (result_of statement) has

-- and of entries one after another, of one write each
entries_position : (session : Option (List ℕ)) (number : Option ℤ) (index : ℕ) (writes : List PlacedWrite) (entries : List Entry) (one : IndexedEntry) → AreEntries session number writes entries
    → Has (with_indexes index entries) one → IsAtPosition writes index entries one
entries_position session number index writes [] one are has = absurd has
entries_position session number index [] (entry ∷ entries) one are has = absurd are
entries_position session number index (write ∷ writes) (entry ∷ entries) one are has = elim has [
  | inl here ↦ subst (IsAtPosition (write ∷ writes) index (entry ∷ entries)) here (record {
    at = 0;
    write = write;
    stands = refl;
    index_is = position_here index;
    place = ap (λ (e : Entry). e.place) are.0;
    written = ap (λ (e : Entry). e.written) are.0;
    among = inl refl;
  })
  | inr later ↦ next_position write writes index entries (entry ∷ entries) one (λ e there. inr there) (entries_position session number (index + 1) writes entries one are.1 later)
]

-- their indexes rise, as many as there are writes
counted_rise : (session : Option (List ℕ)) (number : Option ℤ) (index : ℕ) (writes : List PlacedWrite) (done : List Statement)
    → RiseWithin index (index + length writes) (indexed_counted session number index writes done)
counted_rise session number index [] done = omega arith
counted_rise session number index (write ∷ writes) [] = omega arith
counted_rise session number index (write ∷ writes) (statement ∷ done) =
    by_result (result_of statement) (subst (λ n. RiseWithin (index + 1) n (indexed_counted session number (index + 1) writes done)) (position_on index (length writes))
    (counted_rise session number (index + 1) writes done))
  where
    by_result : (counted : Option Counted) → RiseWithin (index + 1) (index + suc (length writes)) (indexed_counted session number (index + 1) writes done)
        → RiseWithin index (index + suc (length writes)) (counted_at session number index write counted (indexed_counted session number (index + 1) writes done))
    by_result None rise = rise_lower index (index + 1) (index + suc (length writes)) (indexed_counted session number (index + 1) writes done) (omega arith) rise
    by_result (Some result) rise = (omega arith, rise)

entries_rise : (session : Option (List ℕ)) (number : Option ℤ) (index : ℕ) (writes : List PlacedWrite) (entries : List Entry) → AreEntries session number writes entries
    → RiseWithin index (index + length writes) (with_indexes index entries)
entries_rise session number index writes [] are = omega arith
entries_rise session number index [] (entry ∷ entries) are = absurd are
entries_rise session number index (write ∷ writes) (entry ∷ entries) are =
    (omega arith, subst (λ n. RiseWithin (index + 1) n (with_indexes (index + 1) entries)) (position_on index (length writes)) (entries_rise session number (index + 1) writes entries are.1))

-- the writes of a front of models are no more than the front
front_length : (count : ℕ) (models : List WriteModel) (places : List Place) → length (model_writes (take count models) (take count places)) ≤ count
front_length zero models places = omega arith
front_length (suc count) [] places = omega arith
front_length (suc count) (model ∷ models) [] = omega arith
front_length (suc count) (model ∷ models) (place ∷ places) = let rest = front_length count models places in omega (arith, rest)

-- ---- one batch
module _ {R : Type 0} (tells : ResultSpec R) (merges : MergesResults tells) (makes : MakesPartial tells) (options : BulkWriteOptions) (call : ℕ) (G : ℕ → WriteModel → Type 0) (index : ℕ) (own : List OwnOp)
    (good : GoodModels G index own) where
  abbrev Spec : OperationSpec R
  Spec = bulk_spec tells admin_target index own options

  abbrev places : List Place
  places = places_from call index (length own)

  abbrev writes_here : ℕ → List PlacedWrite
  writes_here count = model_writes (take count good.models) (take count places)

  abbrev body_here : ℕ → SendBody
  body_here count = bulk_body tells options call G index own good count

  -- an entry of its writes stands for its model
  stands_for : (count : ℕ) (log entries : List Entry) (one : IndexedEntry) → ((entry : Entry) → Has entries entry → Has log entry) → IsAtPosition (writes_here count) index entries one → StandsFor G call log one
  stands_for count log entries one stand found =
      let here = bulk_stands tells options call G index own good count found.at found.write found.stands in
      let index_is : found.write.place.index ≡ one.index = ap (λ (p : Place). p.index) here.place_is ∙ sym found.index_is in
      record {
        model = here.is.model;
        given = subst (λ n. G n here.is.model) index_is here.is.given;
        place = found.place ∙ here.place_is ∙ ap (λ n. place_in call n) (sym found.index_is);
        written = found.written ∙ here.is.is;
        has = stand one.entry found.among;
      }

  -- what was done
  done_part : (count : ℕ) (log : List Entry) (output : R) → HasEntries Spec (body_here count) log output → TellsPart tells G call index (index + count) log (Some (tells.partial output))
  done_part count log output has = record {
    indexed = with_indexes index has.entries;
    rise = rise_higher index (index + length (writes_here count)) (index + count) (with_indexes index has.entries) (let most = front_length count good.models places in omega (arith, most))
        (entries_rise has.session has.number index (writes_here count) has.entries has.are);
    stand = λ one there. stands_for count log has.entries one has.stand (entries_position has.session has.number index (writes_here count) has.entries one has.are there);
    told = output_told tells makes index has.entries output has.told;
    of_kind = λ found. merges.one_kind output found;
  }

  -- what failed, as a reply spells it
  module _ (count : ℕ) (run run_now : ServerRun) (error : Error) (told : IsToldBy Spec count (body_here count) run run_now error) (failures : BulkWriteError)
      (kind_is : kind_of error ≡ kind.BulkWrite failures) where
    abbrev mid : ServerRun
    mid = told.among.mid

    abbrev send : Send
    send = send_of told.context (body_here count)

    abbrev step : Scheduled
    step = next_step mid.schedule mid.server

    abbrev batch : BulkBatch R
    batch = batch_read tells index own options count

    bare_is : kind_of told.bare ≡ kind.BulkWrite failures
    bare_is = sym told.same_kind ∙ kind_is

    read : ReadsPagesError Spec count told.bytes told.pages told.bare
    read = read_when_done Spec count told.bytes told.pages told.bare told.reads (subst IsReadFailure (sym bare_is) tt)

    inner_is : kind_of read.bare ≡ kind.BulkWrite failures
    inner_is = sym read.kept.kind ∙ bare_is

    same_reply : read.response.body ≡ told.reply
    same_reply = spells_one read.response.body told.reply told.bytes read.done.spelled told.spelled

    served : IsServed (bulk_is_ordered options) (writes_here count) mid.server send step refl refl told.reply told.answer
        (subst (λ (r : Reply). is_one (int_at OK.now r) ≡ true) same_reply (ok_is_one read.response.body read.done.is))
    served = is_served (bulk_is_ordered options) (writes_here count) mid.server send step refl refl told.reply told.answer
        (subst (λ (r : Reply). is_one (int_at OK.now r) ≡ true) same_reply (ok_is_one read.response.body read.done.is))

    same_done : served.done ≡ told.done
    same_done = some_is_some served.done told.done (sym served.told ∙ told.told)

    no_memory : (why : ErrorKind) → why ≡ kind.BulkWrite failures → why ≡ kind.Memory → ⊥
    no_memory why is memory = let e : ◌≡◌ {A = ErrorKind} (kind.BulkWrite failures) kind.Memory = sym is ∙ memory in cc

    answers : AnswersBulk batch (told.pages ++ Ok told.reply ∷ []) (Err read.bare)
    answers = subst (λ (r : Reply). AnswersBulk batch (told.pages ++ Ok r ∷ []) (Err read.bare)) same_reply (by_memory read.reads)
      where
        by_memory : ReadsBulk batch (told.pages ++ Ok read.response.body ∷ []) (Err read.bare) → AnswersBulk batch (told.pages ++ Ok read.response.body ∷ []) (Err read.bare)
        by_memory reads = elim reads [ inl memory ↦ absurd (no_memory (kind_of read.bare) inner_is memory) | inr parts ↦ parts.1 ]

    abbrev TellsInner : Type 0
    TellsInner = TellsRead batch told.context.session told.context.number (writes_here count) served.done read.bare

    -- by the pages that came
    by_replies : (page : Page) (pages : List Page) (last : Server) (replies : List Reply) → page ∷ pages ≡ as_pages replies
        → FurtherPages Spec count told.reply (run_after mid send).server replies last → AnswersBulk batch ((page ∷ pages) ++ Ok told.reply ∷ []) (Err read.bare) → TellsInner
    by_replies page pages last [] are further answered = absurd (let e : ◌≡◌ {A = List Page} (page ∷ pages) [] = are in cc)
    by_replies page pages last (first ∷ replies) are further answered =
        pages_tell tells admin_target index own options count (writes_here count) (models_written count good.models own places good.are) mid.server send step refl served.done served.served_so told.reply served.is
        read.bare failures inner_is first replies last further (subst (λ (l : List Page). AnswersBulk batch (l ++ Ok told.reply ∷ []) (Err read.bare)) are answered)

    by_pages : (pages : List Page) → GivesPages Spec count told.context.session told.bytes (run_after mid send) told.among.behind pages → AnswersBulk batch (pages ++ Ok told.reply ∷ []) (Err read.bare) → TellsInner
    by_pages [] gives answered =
        alone_tells tells admin_target index own options count (writes_here count) (models_written count good.models own places good.are) mid.server send step refl served.done served.served_so told.reply served.is
        read.bare failures inner_is answered
    by_pages (Err failure ∷ pages) gives answered =
        let open_so = behind_failed Spec (bulk_lawful tells admin_target index own options) count told.context.session told.bytes told.reply told.spelled (run_after mid send) failure pages told.among.behind gives in
        failed_tells tells admin_target index own options count (writes_here count) (models_written count good.models own places good.are) mid.server send step refl served.done served.served_so told.reply served.is
        read.bare failures inner_is failure open_so.came.replies open_so.mid.server open_so.came.further open_so.cursor open_so.namespace open_so.left
        (subst (λ (l : List Page). AnswersBulk batch (Err failure ∷ (l ++ Ok told.reply ∷ [])) (Err read.bare)) open_so.came.are answered)
    by_pages (Ok page ∷ pages) gives answered =
        let came = newest_came Spec (bulk_lawful tells admin_target index own options) count told.context.session told.bytes told.reply told.spelled (run_after mid send) page pages told.among.behind gives in
        by_replies (Ok page) pages told.among.behind.server came.replies came.are came.further answered

    pub error_tells : TellsRead batch told.context.session told.context.number (writes_here count) told.done error
    error_tells =
        let inner = by_pages told.pages told.among.gives answers in
        subst (λ (d : List Statement). TellsRead batch told.context.session told.context.number (writes_here count) d error) same_done
        (record { read = inner.read; is_read = inner.is_read; kind_is = kind_is ∙ sym inner_is ∙ inner.kind_is })

    -- so its partial result is told
    failed_part : (found : PartialBulkWriteResult) → failures.partial_result ≡ Some found → TellsPart tells G call index (index + count) run_now.server.log (Some found)
    failed_part found has =
        let session = told.context.session in
        let number = told.context.number in
        let written = models_written count good.models own places good.are in record {
          indexed = indexed_counted session number index (writes_here count) told.done;
          rise = rise_higher index (index + length (writes_here count)) (index + count) (indexed_counted session number index (writes_here count) told.done)
              (let most = front_length count good.models places in omega (arith, most)) (counted_rise session number index (writes_here count) told.done);
          stand = λ one there. stands_for count run_now.server.log (entries_counted session number (writes_here count) told.done) one told.stand
              (counted_position session number index (writes_here count) told.done one there);
          told = part_told batch session number (writes_here count) written told.done error error_tells failures kind_is makes found has;
          of_kind = part_of_kind batch session number (writes_here count) written told.done error error_tells failures kind_is merges.one_kind found has;
        }

  -- over a told pool and a told server, before which all stands
  module _ (before now : Moment) (end : PlannedEnd R) (made : MakesPlanned (bulk_plan tells options) call index own before now end) (pool pool_now : Pool) (run run_now : ServerRun)
      (pool_is : before.store.pool ≡ Some pool) (pool_now_is : now.store.pool ≡ Some pool_now) (run_is : server_run before.link ≡ Some run) (run_now_is : server_run now.link ≡ Some run_now)
      (between : Between pool run.server.trace) (sound : Sound run.server) (new : IsNewFrom run.server.trace call index) (apart : AllApart pool_now.drawn) where
    abbrev count_here : ℕ
    count_here = fixed_or_one end.statements

    command_of : (result : Result R Error) → end.result ≡ result → SendsOneCommand Spec (rest_of call index own count_here) before now result
    command_of result is = subst (SendsOneCommand Spec (rest_of call index own count_here) before now) is
        (planned.command_here true (bulk_plan tells options) call (GoodModels G) (IsOfModel G call) (bulk_planned tells options call G) index own good before now end made)

    may_stand : StandsBefore pool pool_now run (body_here count_here)
    may_stand = planned.stands_here true (bulk_plan tells options) call (GoodModels G) (IsOfModel G call) (bulk_planned tells options call G) index own good before now end made pool pool_now run run_now
        pool_is pool_now_is run_is run_now_is between sound new apart

    has_entries : (output : R) → end.result ≡ Ok output → HasEntries Spec (body_here count_here) run_now.server.log output
    has_entries output is =
        told_as (λ s t l m. AreWritten Spec (body_here count_here) output s t l m) before.store.pool now.store.pool (server_run before.link) (server_run now.link) pool pool_now run run_now
        pool_is pool_now_is run_is run_now_is
        (one_command_entries Spec (rest_of call index own count_here) before now (body_here count_here) (bulk_asks tells options call G index own good count_here) (bulk_lawful tells admin_target index own options)
        (Ok output) (command_of (Ok output) is)) may_stand

    pub reported : (error : Error) → end.result ≡ Err error → IsReadFailure (kind_of error) → IsToldBy Spec count_here (body_here count_here) run run_now error
    reported error is failure =
        told_as (λ s t l m. IsReported Spec count_here (body_here count_here) error s t l m) before.store.pool now.store.pool (server_run before.link) (server_run now.link) pool pool_now run run_now
        pool_is pool_now_is run_is run_now_is
        (one_command_failures Spec (rest_of call index own count_here) before now (body_here count_here) (bulk_asks tells options call G index own good count_here) (Err error) (command_of (Err error) is))
        may_stand failure

    -- no part
    none_here : TellsPart tells G call index (index + count_here) run_now.server.log None
    none_here = tells_none tells G call index (index + count_here) run_now.server.log (omega arith)

    by_part : (error : Error) → end.result ≡ Err error → (failures : BulkWriteError) → kind_of error ≡ kind.BulkWrite failures → (part : Option PartialBulkWriteResult) → failures.partial_result ≡ part
        → TellsPart tells G call index (index + count_here) run_now.server.log part
    by_part error is failures kind_is None none = none_here
    by_part error is failures kind_is (Some found) has =
        failed_part count_here run run_now error (reported error is (subst IsReadFailure (sym kind_is) tt)) failures kind_is found has

    by_kind : (error : Error) → end.result ≡ Err error → (why : ErrorKind) → kind_of error ≡ why → TellsPart tells G call index (index + count_here) run_now.server.log (part_in (failures_in why))
    by_kind error is (kind.BulkWrite failures) kind_is = by_part error is failures kind_is failures.partial_result refl
    by_kind error is _ kind_is = none_here

    by_result : (result : Result R Error) → end.result ≡ result → TellsPart tells G call index (index + count_here) run_now.server.log (part_of_end tells result)
    by_result (Ok output) is = done_part count_here run_now.server.log output (has_entries output is)
    by_result (Err error) is = by_kind error is (kind_of error) refl

    -- so what its end has is told
    pub batch_part : TellsPart tells G call index (index + count_here) run_now.server.log (part_of_end tells end.result)
    batch_part = by_result end.result refl
