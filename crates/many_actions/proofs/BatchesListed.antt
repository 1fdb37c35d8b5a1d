-- Which documents the ends of batches tell as inserted, and that these stand in the log.
use Rattle.std.proofs.Common.{◌≡◌, ℕ, ◌+◌, ◌<◌, ◌≤◌, Bool, true, false, List, [], ◌∷◌, ◌++◌, drop, length, take, refl, sym, ap, subst, ◌∙◌, inl, inr, arith}
use Rattle.std.specs.Prelude.{pos, Option, None, Some, is_some, ◌⊎◌, Result, Ok, Err, slice_get}
use Rattle.std.specs.FinMap as finite
use Rattle.std.specs.Ordering.{int_eq, nat_cmp}
use Rattle.std.proofs.lemmas.Bool.Decides.{Decides-int_eq}
use Rattle.bson_lite.specs.declared.bson.Bson.{Bson}
use Rattle.bson_lite.specs.declared.document.Pair.{Pair}
use Rattle.bson_lite.specs.declared.namespace.Namespace.{Namespace}
use Rattle.bson_lite.specs.Fields.{id_key, value_of}
use Rattle.driver_error.specs.declared.error.Error.{Error}
use Rattle.driver_error.specs.declared.kind.ErrorKind.TheVariants as kind
use Rattle.server_answers.specs.declared.results.InsertManyResult.{InsertManyResult}
use Rattle.driver_error.specs.declared.write.InsertManyError.{InsertManyError}
use Rattle.driver_error.specs.Error.{ErrorKind, kind_of, labels_of}
use Rattle.driver_error.specs.LabelTexts.{LabelSet}
use Rattle.driver_options.specs.declared.write_options.InsertManyOptions.{InsertManyOptions}
use Rattle.driver_link.specs.declared.machine.Entry.{Entry}
use Rattle.driver_link.specs.declared.machine.PlacedWrite.{PlacedWrite}
use Rattle.driver_link.specs.declared.machine.PlannedConcern.{PlannedConcern}
use Rattle.driver_link.specs.declared.machine.Scheduled.{Scheduled}
use Rattle.driver_link.specs.declared.machine.SendBody.{SendBody}
use Rattle.driver_link.specs.declared.machine.WriteKind.TheVariants as write_kind
use Rattle.driver_link.specs.Apart.{AllApart}
use Rattle.driver_link.specs.Exchange.{next_step}
use Rattle.driver_link.specs.LinkState.{server_run}
use Rattle.driver_link.specs.Replies.{results_in, sum_of}
use Rattle.driver_link.specs.ServerRun.{ServerRun}
use Rattle.driver_link.specs.Settled.{Has}
use Rattle.driver_link.specs.Statements.{entry_of, has_failed}
use Rattle.driver_link.specs.Writes.{write_on}
use Rattle.driver_link.proofs.Lists.{has_at, has_left, none_is_some}
use Rattle.driver_session.specs.Pool.{Pool}
use Rattle.driver_session.specs.StoreTells.{DrawnApart, DrawnApartIn}
use Rattle.driver_ops.specs.declared.target.OperationTarget.{OperationTarget}
use Rattle.driver_ops.specs.Inserts.{insert_is_ordered, insert_write}
use Rattle.driver_ops.specs.Operations.{AsksFor, ReadsAnswer, ReadsPages, send_of}
use Rattle.driver_ops.specs.SendKinds.{first}
use Rattle.driver_ops.specs.Targets.{namespace_of}
use Rattle.write_ops.specs.declared.own_document.OwnDocument.{OwnDocument}
use Rattle.write_ops.specs.InsertAnswers.{all_ids, odd_insert_text}
use Rattle.statement_ops.specs.StatementLaw.{planned_concern}
use Rattle.write_ops.specs.InsertLaw.{AddsUp, IsReadExactly, TellsFailures, failures_told}
use Rattle.write_ops.specs.InsertLawful.{insert_lawful}
use Rattle.write_ops.specs.InsertSpec.{AreOwn, ids_from, insert_spec, statements_fixed}
use Rattle.write_ops.proofs.InsertLaw.{read_exactly}
use Rattle.driver_attempt.specs.Moment.{Moment}
use Rattle.driver_exec.specs.BetweenCalls.{Between, Sound}
use Rattle.driver_exec.specs.Keeping.{AreWritten, HasEntries, StandsBefore}
use Rattle.driver_exec.specs.Reporting.{HasBuilt, HasRun, IsReported, IsToldBy}
use Rattle.driver_exec.specs.Resending.{IsReadFailure, SendsOneCommand}
use Rattle.driver_exec.proofs.InvariantSteps.Standing.{one_command_entries, one_command_failures}
use Rattle.many_actions.specs.declared.gathered.Gathered.{Gathered}
use Rattle.many_actions.specs.BatchTells.{ids_of_end, ids_of_kind}
use Rattle.many_actions.specs.Batches.{BatchEnd, MakesBatch, MakesBatches, places_from, rest_of}
use Rattle.many_actions.specs.ManyAnswers.{count_of, gathered, with_kind, with_result}
use Rattle.many_actions.proofs.GatheredEnds.{read_ids, reads_last}
use Rattle.many_actions.proofs.BatchWrites.{EachIs, IsNewFrom, IsOfCall, at_position, batch_asks, batch_writes, in_front, own_rest, place_in, rest_is}
use Rattle.many_actions.proofs.BatchesMade.{Advances, asked_here, batch_advances, batch_moves, batches_advance, batches_move, command_here, count_here, fixed_or_one, mid_told, new_behind, next_new, run_here, stands_here, told_as}
use Rattle.many_actions.proofs.ListedIds.{Ids, all_there, before_end, counted_has, document_of, entry_write, from_entries, from_statements, front_has, place_there, put_either, result_there, write_there}

-- the insert of a document of a call stands in a log, with this id; of the document holds a property by its index
pub record InLog (G : ℕ → List (Pair Bson) → Type 0) (namespace : Namespace) (call : ℕ) (log : List Entry) (index : ℕ) (id : Bson) : Type 0 where
  pub document : List (Pair Bson)
  pub given : G index document
  pub entry : Entry
  pub has : Has log entry
  pub placed : entry.place ≡ place_in call index
  pub written : entry.written ≡ write_on write_kind.Insert namespace document
  pub id_is : value_of id_key document ≡ Some id

-- so do all whose ids are told
abbrev pub AllInLog : (ℕ → List (Pair Bson) → Type 0) → Namespace → ℕ → List Entry → Ids → Type 0
AllInLog G namespace call log ids = (index : ℕ) (id : Bson) → finite.get ids index ≡ Some id → InLog G namespace call log index id

-- it stands in a longer log
pub longer_log : (G : ℕ → List (Pair Bson) → Type 0) (namespace : Namespace) (call : ℕ) (log more : List Entry) (index : ℕ) (id : Bson) → InLog G namespace call log index id
    → InLog G namespace call (log ++ more) index id
longer_log G namespace call log more index id stands = record {
  document = stands.document;
  given = stands.given;
  entry = stands.entry;
  has = has_left log more stands.entry stands.has;
  placed = stands.placed;
  written = stands.written;
  id_is = stands.id_is;
}

-- an error of this kind is not of that one
not_memory : (failures : InsertManyError) (found : ErrorKind) → found ≡ kind.InsertMany failures → found ≡ kind.Memory → ⊥
not_memory failures found is memory = let e : ◌≡◌ {A = ErrorKind} (kind.InsertMany failures) kind.Memory = sym is ∙ memory in cc

not_odd : (failures : InsertManyError) (text : List ℕ) (found : ErrorKind) → found ≡ kind.InsertMany failures → found ≡ kind.InvalidResponse text → ⊥
not_odd failures text found is odd = let e : ◌≡◌ {A = ErrorKind} (kind.InsertMany failures) (kind.InvalidResponse text) = sym is ∙ odd in cc

-- the truth values differ
not_both : (test : Bool) → test ≡ true → test ≡ false → ⊥
not_both test holds fails = let e : ◌≡◌ {A = Bool} true false = sym holds ∙ fails in cc

-- where an error was read in the model server's own reply to an insert, it tells of its failures exactly
module _ (target : OperationTarget) (index : ℕ) (own : List OwnDocument) (options : InsertManyOptions) (count : ℕ) where
  module _ (error : Error) (body : SendBody) (run run_now : ServerRun) (told : IsToldBy (insert_spec target index own options) count body run run_now error)
      (exact : IsReadExactly target index own options count told.among.mid.server (send_of told.context body) (next_step told.among.mid.schedule told.among.mid.server) told.bytes) (failures : InsertManyError) (is : kind_of told.bare ≡ kind.InsertMany failures) where
    -- the step of the schedule that the send met
    abbrev met : Scheduled
    met = next_step told.among.mid.schedule told.among.mid.server

    -- the answer is the one reply
    reads_alone : ReadsAnswer (insert_spec target index own options) count told.bytes (Err told.bare)
    reads_alone = subst (λ pages. ReadsPages (insert_spec target index own options) count told.bytes pages (Err told.bare)) (told.alone refl) told.reads

    -- that of a statement that failed, or of a write concern
    of_failed : AddsUp told.done → ((has_failed told.done ≡ true) ⊎ (is_some (planned_concern met.item) ≡ true)) → TellsFailures told.done (planned_concern met.item) (take count own) told.bare
    of_failed up failed = elim (exact.failed told.done (record { told = told.told; failed = failed; adds_up = up }) told.bare reads_alone) [
      | inl memory ↦ absurd (not_memory failures (kind_of told.bare) is memory)
      | inr tells ↦ tells
    ]

    -- where neither is there, none was read
    of_none : AddsUp told.done → has_failed told.done ≡ false → planned_concern met.item ≡ None → ⊥
    of_none up unfailed none =
        not_memory failures (kind_of told.bare) is
        (exact.there (record { done = told.done; told = told.told; unfailed = unfailed; adds_up = up; concern = none }) told.bare reads_alone)

    -- by whether there is a write concern error
    by_concern : AddsUp told.done → has_failed told.done ≡ false → (concern : Option PlannedConcern) → planned_concern met.item ≡ concern
        → TellsFailures told.done (planned_concern met.item) (take count own) told.bare
    by_concern up unfailed None none = absurd (of_none up unfailed none)
    by_concern up unfailed (Some concern) there = of_failed up (inr (ap is_some there))

    -- by whether a statement failed
    by_failed : AddsUp told.done → (failed : Bool) → has_failed told.done ≡ failed → TellsFailures told.done (planned_concern met.item) (take count own) told.bare
    by_failed up true failed = of_failed up (inl failed)
    by_failed up false unfailed = by_concern up unfailed (planned_concern met.item) refl

    -- by whether the others count one document each together
    by_counts : (test : Bool) → int_eq (sum_of (λ result. result.n) (results_in told.done)) (pos (length (results_in told.done))) ≡ test
        → TellsFailures told.done (planned_concern met.item) (take count own) told.bare
    by_counts true is_equal =
        by_failed ((Decides-int_eq (sum_of (λ result. result.n) (results_in told.done)) (pos (length (results_in told.done)))).0 is_equal) (has_failed told.done) refl
    by_counts false differs =
        let short : AddsUp told.done → ⊥
        = λ up. not_both (int_eq (sum_of (λ result. result.n) (results_in told.done)) (pos (length (results_in told.done))))
        ((Decides-int_eq (sum_of (λ result. result.n) (results_in told.done)) (pos (length (results_in told.done)))).1 up) differs in
        elim (exact.odd told.done told.told short told.bare reads_alone) [
          | inl memory ↦ absurd (not_memory failures (kind_of told.bare) is memory)
          | inr odd ↦ absurd (not_odd failures odd_insert_text (kind_of told.bare) is odd)
        ]

    -- so the ids are those of the documents whose statements ended well
    pub failures_are : failures ≡ failures_told told.done (planned_concern met.item) (take count own)
    failures_are =
        let tells = by_counts (int_eq (sum_of (λ result. result.n) (results_in told.done)) (pos (length (results_in told.done)))) refl in
        let same : ◌≡◌ {A = ErrorKind} (kind.InsertMany failures) (kind.InsertMany (failures_told told.done (planned_concern met.item) (take count own))) = sym is ∙ tells.kind_is in
        cc

-- what one batch tells
module _ (target : OperationTarget) (options : InsertManyOptions) (call : ℕ) (G : ℕ → List (Pair Bson) → Type 0) where
  module _ (index : ℕ) (documents : List (List (Pair Bson))) (own : List OwnDocument) (are : AreOwn documents own) (each : EachIs G index documents) (before now : Moment) (end : BatchEnd)
      (made : MakesBatch target options call index own before now end) where
    -- how many documents are in its command, and what it asks for
    abbrev count : ℕ
    count = count_here target options call G index documents own are each before now end made

    abbrev body : SendBody
    body = asked_here target options call G index documents own are each before now end made

    asks : AsksFor (insert_spec target index own options) (rest_of call index own count) body
    asks = batch_asks target options call index documents own are count

    -- its sends, by its end
    command_of : (result : Result InsertManyResult Error) → end.result ≡ result → SendsOneCommand (insert_spec target index own options) (rest_of call index own count) before now result
    command_of result is = subst (SendsOneCommand (insert_spec target index own options) (rest_of call index own count) before now) is
        (command_here target options call G index documents own are each before now end made)

    -- the same of what it ran
    run_of : (result : Result InsertManyResult Error) → end.result ≡ result → HasRun (insert_spec target index own options) first before (statements_fixed own None) end.statements result
    run_of result is = subst (HasRun (insert_spec target index own options) first before (statements_fixed own None) end.statements) is
        (run_here target options call G index documents own are each before now end made)

    -- one that failed for its documents has built its command
    pub built_failure : (error : Error) (failures : InsertManyError) → end.result ≡ Err error → kind_of error ≡ kind.InsertMany failures
        → HasBuilt (insert_spec target index own options) first before (statements_fixed own None) end.statements
    built_failure error failures is kind_is = run_of (Err error) is (subst IsReadFailure (sym kind_is) tt)

    -- where it is Ok the ids are those of all its documents
    pub ok_ids : (output : InsertManyResult) → end.result ≡ Ok output → output ≡ all_ids (take count own)
    ok_ids output is =
        let sends = command_of (Ok output) is in
        let reads = reads_last (insert_spec target index own options) (rest_of call index own count) (server_run before.link) (server_run now.link) sends.session sends.number output refl sends.ends in
        read_ids (insert_is_ordered options) (take count own) reads.response.body output reads.reads

    -- so each has one
    pub ok_there : (output : InsertManyResult) → end.result ≡ Ok output → (position : ℕ) (document : OwnDocument) → position < count → slice_get own position ≡ Some document
        → (found : Bson) × (finite.get output.inserted_ids position ≡ Some found)
    ok_there output is position document below at =
        let there = all_there 0 (take count own) position document (front_has count own position document below at) in
        let on : position ≡ 0 + position = omega arith in
        (there.0, ap (λ (o : InsertManyResult). finite.get o.inserted_ids position) (ok_ids output is) ∙ ap (finite.get (all_ids (take count own)).inserted_ids) on ∙ there.1)

    -- over a told pool and a told server, before which all stands
    module _ (pool pool_now : Pool) (run run_now : ServerRun) (pool_is : before.store.pool ≡ Some pool) (pool_now_is : now.store.pool ≡ Some pool_now) (run_is : server_run before.link ≡ Some run)
        (run_now_is : server_run now.link ≡ Some run_now) (between : Between pool run.server.trace) (sound : Sound run.server) (new : IsNewFrom run.server.trace call index) (apart : AllApart pool_now.drawn) where
      -- the document at a position stands in the log
      abbrev Stands : ℕ → Bson → Type 0
      Stands position id = InLog G (namespace_of target) call run_now.server.log (index + position) id

      -- before it all stands
      may_stand : StandsBefore pool pool_now run body
      may_stand = stands_here target options call G index documents own are each before now end made pool pool_now run run_now pool_is pool_now_is run_is run_now_is between sound new apart

      -- the entries of one that was done
      entries_of : (output : InsertManyResult) → end.result ≡ Ok output → HasEntries (insert_spec target index own options) body run_now.server.log output
      entries_of output is =
          told_as (λ s t l m. AreWritten (insert_spec target index own options) body output s t l m) before.store.pool now.store.pool (server_run before.link) (server_run now.link) pool pool_now run run_now
          pool_is pool_now_is run_is run_now_is
          (one_command_entries (insert_spec target index own options) (rest_of call index own count) before now body asks (insert_lawful target index own options) (Ok output) (command_of (Ok output) is)) may_stand

      of_ok : (output : InsertManyResult) → end.result ≡ Ok output → (position : ℕ) (id : Bson) → finite.get output.inserted_ids position ≡ Some id → Stands position id
      of_ok output is position id found =
          let has = entries_of output is in
          let told : output ≡ record { inserted_ids = ids_from 0 has.entries } = has.told in
          let in_entries = from_entries 0 has.entries position id (ap (λ (o : InsertManyResult). finite.get o.inserted_ids position) (sym told) ∙ found) in
          let write = entry_write has.session has.number (batch_writes target options call index documents own are count) has.entries in_entries.position in_entries.entry has.are in_entries.stands in
          let at = at_position target options call index documents own are count in_entries.position write.write write.stands in
          let written : in_entries.entry.written ≡ write_on write_kind.Insert (namespace_of target) at.document = ap (λ (e : Entry). e.written) write.is ∙ at.is in
          let same : in_entries.position ≡ position = (let here = in_entries.index in omega (arith, here)) in
          subst (λ n. Stands n id) same (record {
            document = at.document;
            given = each in_entries.position at.document at.stands;
            entry = in_entries.entry;
            has = has.stand in_entries.entry (has_at has.entries in_entries.position in_entries.entry in_entries.stands);
            placed = ap (λ (e : Entry). e.place) write.is ∙ at.place_is;
            written = written;
            id_is = ap (λ w. value_of id_key w.document) (sym written) ∙ in_entries.is;
          })

      -- one whose reply told of its documents that failed
      reported : (error : Error) → end.result ≡ Err error → IsReadFailure (kind_of error) → IsToldBy (insert_spec target index own options) count body run run_now error
      reported error is failure =
          told_as (λ s t l m. IsReported (insert_spec target index own options) count body error s t l m) before.store.pool now.store.pool (server_run before.link) (server_run now.link) pool pool_now run run_now
          pool_is pool_now_is run_is run_now_is
          (one_command_failures (insert_spec target index own options) (rest_of call index own count) before now body asks (Err error) (command_of (Err error) is)) may_stand failure

      -- the failures that its end tells are those of the statements that the reply told of
      pub told_failures : (error : Error) → end.result ≡ Err error → (failures : InsertManyError) → kind_of error ≡ kind.InsertMany failures
          → (told : IsToldBy (insert_spec target index own options) count body run run_now error)
          × (failures ≡ failures_told told.done (planned_concern (next_step told.among.mid.schedule told.among.mid.server).item) (take count own))
      told_failures error is failures kind_is =
          let failure : IsReadFailure (kind_of error) = subst IsReadFailure (sym kind_is) tt in
          let told = reported error is failure in
          let built = run_of (Err error) is failure in
          let count_is : count ≡ built.statements = ap fixed_or_one built.is in
          let exact = read_exactly target index own options count told.among.mid.server (send_of told.context body) (next_step told.among.mid.schedule told.among.mid.server) told.bytes (record {
            some = subst (λ n. 0 < n) (sym count_is) built.commanded.some;
            within = subst (λ n. n ≤ length own) (sym count_is) built.commanded.within;
            places = places_from call index (length own);
            body = body;
            asks = asks;
            context = told.context;
            send_is = refl;
            found = told.reply;
            answer = told.answer;
            spelled = told.spelled;
          }) in
          (told, failures_are target index own options count error body run run_now told exact failures (sym told.same_kind ∙ kind_is))

      of_failures : (error : Error) → end.result ≡ Err error → (failures : InsertManyError) → kind_of error ≡ kind.InsertMany failures → (position : ℕ) (id : Bson)
          → finite.get failures.inserted_ids position ≡ Some id → Stands position id
      of_failures error is failures kind_is position id found =
          let read = told_failures error is failures kind_is in
          let told = read.0 in
          let ended = from_statements 0 told.done (take count own) position id (ap (λ (f : InsertManyError). finite.get f.inserted_ids position) (sym read.1) ∙ found) in
          let front = in_front count own ended.position ended.document ended.owned in
          let document = document_of documents own ended.position ended.document are front.1 in
          let counted = result_there ended.statement ended.unfailed in
          let place = place_in call (index + ended.position) in
          let write = insert_write (namespace_of target) document.document place in
          let places_at = front_has count (places_from call index (length own)) ended.position place front.0 (place_there call index (length own) ended.position (before_end own ended.position ended.document front.1)) in
          let at = write_there (namespace_of target) (take count documents) (take count (places_from call index (length own))) ended.position document.document place
          (front_has count documents ended.position document.document front.0 document.stands) places_at in
          let is_position : ended.position ≡ position = (let here = ended.index in omega (arith, here)) in
          subst (λ n. Stands n id) is_position (record {
            document = document.document;
            given = each ended.position document.document document.stands;
            entry = entry_of told.context.session told.context.number write counted.0;
            has = told.stand (entry_of told.context.session told.context.number write counted.0)
                (counted_has told.context.session told.context.number (batch_writes target options call index documents own are count) told.done ended.position write ended.statement counted.0 at ended.stands counted.1);
            placed = refl;
            written = refl;
            id_is = document.id_is ∙ ap (λ i. Some i) ended.is;
          })

      -- by the kind of its error
      of_error : (error : Error) → end.result ≡ Err error → (found : ErrorKind) → kind_of error ≡ found → (position : ℕ) (id : Bson) → finite.get (ids_of_kind found) position ≡ Some id → Stands position id
      of_error error is (kind.InsertMany failures) kind_is position id found = of_failures error is failures kind_is position id found
      of_error error is _ kind_is position id found = absurd (none_is_some id (sym (finite.get-empty nat_cmp position) ∙ found))

      -- so each document whose id its end tells stands in the log
      pub batch_lists : (position : ℕ) (id : Bson) → finite.get (ids_of_end end.result) position ≡ Some id → Stands position id
      batch_lists position id found = by_result end.result refl found
        where
          by_result : (result : Result InsertManyResult Error) → end.result ≡ result → finite.get (ids_of_end result) position ≡ Some id → Stands position id
          by_result (Ok output) is found = of_ok output is position id found
          by_result (Err error) is found = of_error error is (kind_of error) refl position id found

-- an id that is gathered with an end is one that the end tells, or was gathered before
gathers_kind : (so_far : Gathered) (from count : ℕ) (labels : LabelSet) (found : ErrorKind) (q : ℕ) (id : Bson) → finite.get (with_kind so_far from count labels found).inserted_ids q ≡ Some id
    → ((position : ℕ) × ((q ≡ from + position) × (finite.get (ids_of_kind found) position ≡ Some id))) ⊎ (finite.get so_far.inserted_ids q ≡ Some id)
gathers_kind so_far from count labels (kind.InsertMany failures) q id is = elim (put_either from count failures.inserted_ids so_far.inserted_ids q id is) [
  | inl put ↦ inl (put.at, (put.index, put.found))
  | inr before ↦ inr before
]
gathers_kind so_far from count labels _ q id is = inr is

pub gathers_either : (so_far : Gathered) (from count : ℕ) (result : Result InsertManyResult Error) (q : ℕ) (id : Bson) → finite.get (with_result so_far from count result).inserted_ids q ≡ Some id
    → ((position : ℕ) × ((q ≡ from + position) × (finite.get (ids_of_end result) position ≡ Some id))) ⊎ (finite.get so_far.inserted_ids q ≡ Some id)
gathers_either so_far from count (Ok output) q id is = elim (put_either from count output.inserted_ids so_far.inserted_ids q id is) [
  | inl put ↦ inl (put.at, (put.index, put.found))
  | inr before ↦ inr before
]
gathers_either so_far from count (Err error) q id is = gathers_kind so_far from count (labels_of error) (kind_of error) q id is

-- all batches
module _ (target : OperationTarget) (options : InsertManyOptions) (call : ℕ) (G : ℕ → List (Pair Bson) → Type 0) where
  -- the ids that are told stand in the log
  abbrev pub Listed : ServerRun → Gathered → Type 0
  Listed run so_far = AllInLog G (namespace_of target) call run.server.log so_far.inserted_ids

  -- with one batch more
  lists_more : (so_far : Gathered) (index : ℕ) (end : BatchEnd) (run_now : ServerRun) → end.first ≡ index
      → ((position : ℕ) (id : Bson) → finite.get (ids_of_end end.result) position ≡ Some id → InLog G (namespace_of target) call run_now.server.log (index + position) id)
      → Listed run_now so_far → Listed run_now (with_result so_far end.first (count_of end.statements) end.result)
  lists_more so_far index end run_now begins lists listed q id is = elim (gathers_either so_far end.first (count_of end.statements) end.result q id is) [
    | inl told ↦
        let here : index + told.0 ≡ q = ap (λ n. n + told.0) (sym begins) ∙ sym told.1.0 in
        subst (λ n. InLog G (namespace_of target) call run_now.server.log n id) here (lists told.0 id told.1.1)
    | inr before ↦ listed q id before
  ]

  -- what was told of a batch stands in the log after the later ones
  lists_later : (pool_now : Pool) (mid run_now : ServerRun) (P : PlacedWrite → Type 0) → Advances P pool_now mid run_now → (n : ℕ) (id : Bson) → InLog G (namespace_of target) call mid.server.log n id
      → InLog G (namespace_of target) call run_now.server.log n id
  lists_later pool_now mid run_now P advances n id stands =
      subst (λ log. InLog G (namespace_of target) call log n id) (sym advances.log) (longer_log G (namespace_of target) call mid.server.log advances.more n id stands)

  -- so all that is gathered stands in the log in the end
  pub batches_list : (short : Type 0) (ends : List BatchEnd) (so_far : Gathered) (index : ℕ) (documents : List (List (Pair Bson))) (own : List OwnDocument) → AreOwn documents own → EachIs G index documents
      → (before now : Moment) (pool pool_now : Pool) (run run_now : ServerRun) → before.store.pool ≡ Some pool → now.store.pool ≡ Some pool_now → server_run before.link ≡ Some run → server_run now.link ≡ Some run_now
      → Between pool run.server.trace → Sound run.server → IsNewFrom run.server.trace call index → DrawnApart now.store
      → MakesBatches short target options call index own ends before now → Listed run_now so_far → Listed run_now (gathered so_far ends)
  batches_list short [] so_far index documents own are each before now pool pool_now run run_now pool_is pool_now_is run_is run_now_is between sound new apart made listed = listed
  batches_list short (end ∷ ends) so_far index documents own are each before now pool pool_now run run_now pool_is pool_now_is run_is run_now_is between sound new apart made listed =
      let mid = made.0 in
      let batch = made.1.0 in
      elim made.1.1 [
        | inl on ↦
            let own_on = own_rest on.statements documents own are in
            let each_on = rest_is G index on.statements documents each in
            let later = batches_move target options call G short ends (index + on.statements) (drop on.statements documents) (drop on.statements own) own_on each_on mid now on.rest in
            let told = mid_told 1 (length (drop on.statements own)) call before mid now (batch_moves target options call G index documents own are each before mid end batch) later pool run pool_is run_is apart in
            let one = batch_advances target options call G index documents own are each before mid end batch pool told.pool run told.run pool_is told.pool_is run_is told.run_is between sound new told.apart in
            let new_on = next_new target options call G index told.run.server.trace end.statements on.statements on.told
            (new_behind target options call G index documents own are each before mid end batch pool told.pool run told.run pool_is told.pool_is run_is told.run_is between sound new told.apart) in
            let rest = batches_advance target options call G short ends (index + on.statements) (drop on.statements documents) (drop on.statements own) own_on each_on mid now told.pool pool_now told.run run_now
            told.pool_is pool_now_is told.run_is run_now_is one.between one.sound new_on apart on.rest in
            let lists = batch_lists target options call G index documents own are each before mid end batch pool told.pool run told.run pool_is told.pool_is run_is told.run_is between sound new told.apart in
            let listed_on = lists_more so_far index end run_now batch.begins
            (λ position id found. lists_later pool_now told.run run_now (IsOfCall G (namespace_of target) call) rest (index + position) id (lists position id found)) listed in
            batches_list short ends (with_result so_far end.first (count_of end.statements) end.result) (index + on.statements) (drop on.statements documents) (drop on.statements own) own_on each_on mid now
            told.pool pool_now told.run run_now told.pool_is pool_now_is told.run_is run_now_is one.between one.sound new_on apart on.rest listed_on
        | inr stops ↦
            let pool_mid : mid.store.pool ≡ Some pool_now = ap (λ m. m.store.pool) (sym stops.same) ∙ pool_now_is in
            let run_mid : server_run mid.link ≡ Some run_now = ap (λ m. server_run m.link) (sym stops.same) ∙ run_now_is in
            let lists = batch_lists target options call G index documents own are each before mid end batch pool pool_now run run_now pool_is pool_mid run_is run_mid between sound new (subst DrawnApartIn pool_now_is apart) in
            subst (λ more. Listed run_now (gathered (with_result so_far end.first (count_of end.statements) end.result) more)) (sym stops.none)
            (lists_more so_far index end run_now batch.begins lists listed)
      ]
