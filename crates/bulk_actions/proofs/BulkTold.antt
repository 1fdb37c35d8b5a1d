-- The entries of a bulk write that was answered Ok: those of its batches one after another, which tell the answer.
use Rattle.std.proofs.Common.{◌≡◌, ℕ, zero, suc, ◌+◌, ◌≤◌, Bool, true, false, List, [], ◌∷◌, ◌++◌, drop, length, take, take-append-drop, refl, sym, ap, subst, ◌∙◌, inl, inr, arith}
use Rattle.std.proofs.Math.IntN.{+ℤ_assoc, +ℤ_idl}
use Rattle.std.proofs.lemmas.List.{length-take-le}
use Rattle.std.specs.Prelude.{ℤ, pos, ◌+ℤ◌, Option, None, Some, ◌⊎◌, Result, Ok, Err, if◌then◌else◌}
use Rattle.bson_lite.specs.declared.bson.ObjectId.{ObjectId}
use Rattle.driver_error.specs.declared.error.Error.{Error}
use Rattle.bulk_outcomes.specs.declared.status.ExecutionStatus.{ExecutionStatus}
use Rattle.bulk_outcomes.specs.declared.status.ExecutionStatus.TheVariants as status
use Rattle.bulk_outcomes.specs.BulkResults.{MergesResults, ResultSpec, no_counts}
use Rattle.driver_error.specs.Counts.{Counts, added, five}
use Rattle.driver_options.specs.declared.models.WriteModel.{WriteModel}
use Rattle.driver_options.specs.declared.write_options.BulkWriteOptions.{BulkWriteOptions}
use Rattle.driver_link.specs.declared.machine.Entry.{Entry}
use Rattle.driver_link.specs.declared.machine.PlacedWrite.{PlacedWrite}
use Rattle.driver_link.specs.declared.machine.WriteKind.{WriteKind}
use Rattle.driver_link.specs.declared.machine.WriteKind.TheVariants as does
use Rattle.driver_link.specs.Apart.{AllApart}
use Rattle.driver_link.specs.LinkState.{server_run}
use Rattle.driver_link.specs.Replies.{is_kind}
use Rattle.driver_link.specs.ServerRun.{ServerRun}
use Rattle.driver_link.specs.Settled.{Has}
use Rattle.driver_link.proofs.Lists.{has_either, has_left}
use Rattle.driver_session.specs.Pool.{Pool}
use Rattle.driver_session.specs.StoreTells.{DrawnApart, DrawnApartIn}
use Rattle.driver_ops.specs.Served.{AreEntries}
use Rattle.bulk_fronts.specs.declared.own_op.OwnOp.{OwnOp}
use Rattle.bulk_ops.specs.BulkEntries.{counts_by, entries_told, kept_told, kind_told, matched_by, sum_of_kind, upserted_by}
use Rattle.bulk_ops.specs.BulkLawful.{bulk_lawful}
use Rattle.bulk_fronts.specs.BulkOps.{AreOps, model_writes, model_written}
use Rattle.bulk_ops.specs.BulkSpec.{admin_target, bulk_spec}
use Rattle.driver_attempt.specs.Moment.{Moment}
use Rattle.driver_exec.specs.BetweenCalls.{Between, Sound}
use Rattle.driver_exec.specs.Keeping.{AreWritten, HasEntries}
use Rattle.driver_exec.specs.Resending.{SendsOneCommand}
use Rattle.driver_exec.proofs.InvariantSteps.Standing.{one_command_entries}
use Rattle.driver_inputs.specs.BulkInputs.{with_model_ids}
use Rattle.driver_inputs.specs.Calls.{IsOwn}
use Rattle.driver_inputs.specs.ManyInputs.{AreTwelve}
use Rattle.many_actions.specs.BatchPlans.{AllDone, MakesAllPlanned, MakesPlanned, PlannedEnd, places_from, rest_of}
use Rattle.many_actions.specs.ManyEntries.{MayWriteCall}
use Rattle.many_actions.proofs.PlannedBatches as planned
use Rattle.many_actions.proofs.PlannedBatches.{IsNewFrom, fixed_or_one, mid_told, next_new, place_in, told_as}
use Rattle.bulk_actions.specs.BulkBatches.{ComesTo, StandsBehind, Takes, bulk_plan}
use Rattle.bulk_actions.specs.BulkCalls.{AnswersStanding, EndsShort, MadeBulk, MakesBulk}
use Rattle.bulk_actions.specs.BulkTold.{AreEntriesOf, HasToldAll, OkIsLogged, ToldWhereTold}
use Rattle.bulk_actions.proofs.BulkKept.{IsGivenModel, good, made_drew, own_written}
use Rattle.bulk_actions.proofs.BulkPlanned.{GoodModels, IsOfModel, bulk_asks, bulk_body, bulk_planned}
use Rattle.bulk_actions.proofs.FewestBulk.{as_many, ids_each, ok_done}

-- ---- what entries tell together
sums_append : (which : WriteKind) (number : Entry → ℤ) (es fs : List Entry) → sum_of_kind which number (es ++ fs) ≡ sum_of_kind which number es +ℤ sum_of_kind which number fs
sums_append which number [] fs = sym (+ℤ_idl (sum_of_kind which number fs))
sums_append which number (e ∷ es) fs =
    ap (λ n. (if is_kind which e.written.kind then number e else pos 0) +ℤ n) (sums_append which number es fs)
    ∙ sym (+ℤ_assoc (if is_kind which e.written.kind then number e else pos 0) (sum_of_kind which number es) (sum_of_kind which number fs))

pub counts_append : (es fs : List Entry) → counts_by (es ++ fs) ≡ added (counts_by es) (counts_by fs)
counts_append es fs = λ i. five
    (sums_append does.Insert (λ entry. entry.result.n) es fs i)
    (sums_append does.Update matched_by es fs i)
    (sums_append does.Update (λ entry. entry.result.modified) es fs i)
    (sums_append does.Update upserted_by es fs i)
    (sums_append does.Delete (λ entry. entry.result.n) es fs i)

module _ {R : Type 0} (tells : ResultSpec R) (laws : MergesResults tells) where
  -- what a later part tells joins both
  later_kind : (a b : R) (which : WriteKind) (index : ℕ) (entry : Entry) → tells.merged a (kind_told tells which index entry b) ≡ kind_told tells which index entry (tells.merged a b)
  later_kind a b does.Insert index entry = laws.inserted_later a b index _
  later_kind a b does.Update index entry = laws.updated_later a b index _
  later_kind a b does.Delete index entry = laws.deleted_later a b index _
  later_kind a b does.FindAndModify index entry = refl

  later_entries : (a b : R) (index : ℕ) (es : List Entry) → tells.merged a (entries_told tells index es b) ≡ entries_told tells index es (tells.merged a b)
  unfolding entries_told
  later_entries a b index [] = refl
  later_entries a b index (e ∷ es) =
      later_entries a (kind_told tells e.written.kind index e b) (index + 1) es ∙ ap (entries_told tells (index + 1) es) (later_kind a b e.written.kind index e)

  later_kept : (a b : R) (index : ℕ) (es : List Entry) → tells.merged a (kept_told tells index es b) ≡ kept_told tells index es (tells.merged a b)
  later_kept a b index es =
      elim (tells.only_errors) as (λ (only : Bool). tells.merged a (if only then b else entries_told tells index es b) ≡ (if only then tells.merged a b else entries_told tells index es (tells.merged a b))) [
        | true ↦ refl
        | false ↦ later_entries a b index es
      ]

  -- counts are added before or behind
  counted_kind : (a : R) (more : Counts) (which : WriteKind) (index : ℕ) (entry : Entry) → tells.counted (kind_told tells which index entry a) more ≡ kind_told tells which index entry (tells.counted a more)
  counted_kind a more does.Insert index entry = laws.counted_inserted a index _ more
  counted_kind a more does.Update index entry = laws.counted_updated a index _ more
  counted_kind a more does.Delete index entry = laws.counted_deleted a index _ more
  counted_kind a more does.FindAndModify index entry = refl

  counted_entries : (a : R) (more : Counts) (index : ℕ) (es : List Entry) → tells.counted (entries_told tells index es a) more ≡ entries_told tells index es (tells.counted a more)
  unfolding entries_told
  counted_entries a more index [] = refl
  counted_entries a more index (e ∷ es) =
      counted_entries (kind_told tells e.written.kind index e a) more (index + 1) es ∙ ap (entries_told tells (index + 1) es) (counted_kind a more e.written.kind index e)

  counted_kept : (a : R) (more : Counts) (index : ℕ) (es : List Entry) → tells.counted (kept_told tells index es a) more ≡ kept_told tells index es (tells.counted a more)
  counted_kept a more index es =
      elim (tells.only_errors) as (λ (only : Bool). tells.counted (if only then a else entries_told tells index es a) more ≡ (if only then tells.counted a more else entries_told tells index es (tells.counted a more))) [
        | true ↦ refl
        | false ↦ counted_entries a more index es
      ]

  -- entries behind others
  entries_append : (a : R) (index : ℕ) (es fs : List Entry) → entries_told tells index (es ++ fs) a ≡ entries_told tells (index + length es) fs (entries_told tells index es a)
  unfolding entries_told
  entries_append a index [] fs = let here : index ≡ index + 0 = omega arith in ap (λ n. entries_told tells n fs a) here
  entries_append a index (e ∷ es) fs =
      let here : index + 1 + length es ≡ index + suc (length es) = omega arith in
      entries_append (kind_told tells e.written.kind index e a) (index + 1) es fs
      ∙ ap (λ n. entries_told tells n fs (entries_told tells (index + 1) es (kind_told tells e.written.kind index e a))) here

  kept_append : (a : R) (index : ℕ) (es fs : List Entry) → kept_told tells index (es ++ fs) a ≡ kept_told tells (index + length es) fs (kept_told tells index es a)
  kept_append a index es fs =
      elim (tells.only_errors) as (λ (only : Bool). (if only then a else entries_told tells index (es ++ fs) a)
      ≡ (if only then (if only then a else entries_told tells index es a) else entries_told tells (index + length es) fs (if only then a else entries_told tells index es a))) [
        | true ↦ refl
        | false ↦ entries_append a index es fs
      ]

  -- a result with those of entries and their counts
  abbrev pub with_entries : ℕ → List Entry → R → R
  with_entries index es a = kept_told tells index es (tells.counted a (counts_by es))

  -- what was answered before, and what entries tell by themselves
  pub later_with : (a : R) (index : ℕ) (es : List Entry) → tells.merged a (with_entries index es tells.nothing) ≡ with_entries index es a
  later_with a index es =
      later_kept a (tells.counted tells.nothing (counts_by es)) index es
      ∙ ap (kept_told tells index es) (laws.counted_later a tells.nothing (counts_by es) ∙ ap (λ b. tells.counted b (counts_by es)) (laws.after a))

  -- entries and others behind them
  pub with_append : (a : R) (index : ℕ) (es fs : List Entry) → with_entries index (es ++ fs) a ≡ with_entries (index + length es) fs (with_entries index es a)
  with_append a index es fs =
      ap (λ counts. kept_told tells index (es ++ fs) (tells.counted a counts)) (counts_append es fs)
      ∙ ap (kept_told tells index (es ++ fs)) (sym (laws.counted_twice a (counts_by es) (counts_by fs)))
      ∙ kept_append (tells.counted (tells.counted a (counts_by es)) (counts_by fs)) index es fs
      ∙ ap (kept_told tells (index + length es) fs) (sym (counted_kept (tells.counted a (counts_by es)) (counts_by fs) index es))

-- ---- the entries of models as they are sent
pub record IsSent (model : WriteModel) (call index : ℕ) (entry : Entry) : Type 0 where
  pub place : entry.place ≡ place_in call index
  pub written : entry.written ≡ model_written model

abbrev pub AreSent : List WriteModel → ℕ → ℕ → List Entry → Type 0
AreSent [] call index [] = Unit {0}
AreSent [] call index (entry ∷ entries) = ⊥
AreSent (model ∷ models) call index [] = ⊥
AreSent (model ∷ models) call index (entry ∷ entries) = IsSent model call index entry × AreSent models call (index + 1) entries

-- there are as many
pub sent_length : (models : List WriteModel) (call index : ℕ) (entries : List Entry) → AreSent models call index entries → length entries ≡ length models
sent_length [] call index [] are = refl
sent_length [] call index (entry ∷ entries) are = absurd are
sent_length (model ∷ models) call index [] are = absurd are
sent_length (model ∷ models) call index (entry ∷ entries) are = ap suc (sent_length models call (index + 1) entries are.1)

-- those of models and of others behind them
pub sent_append : (xs ys : List WriteModel) (call index : ℕ) (es fs : List Entry) → AreSent xs call index es → AreSent ys call (index + length es) fs → AreSent (xs ++ ys) call index (es ++ fs)
sent_append [] ys call index [] fs are more = let here : index + 0 ≡ index = omega arith in subst (λ n. AreSent ys call n fs) here more
sent_append [] ys call index (e ∷ es) fs are more = absurd are
sent_append (x ∷ xs) ys call index [] fs are more = absurd are
sent_append (x ∷ xs) ys call index (e ∷ es) fs are more =
    let here : index + suc (length es) ≡ index + 1 + length es = omega arith in
    (are.0, sent_append xs ys call (index + 1) es fs are.1 (subst (λ n. AreSent ys call n fs) here more))

-- so the entries of a batch's writes are
sent_by : (session : Option (List ℕ)) (number : Option ℤ) (call count : ℕ) (models : List WriteModel) (all index : ℕ) (entries : List Entry) → all ≡ length models
    → AreEntries session number (model_writes (take count models) (take count (places_from call index all))) entries → AreSent (take count models) call index entries
sent_by session number call zero models all index [] same are = tt
sent_by session number call zero models all index (entry ∷ entries) same are = absurd are
sent_by session number call (suc count) [] all index [] same are = tt
sent_by session number call (suc count) [] all index (entry ∷ entries) same are = absurd are
sent_by session number call (suc count) (model ∷ models) zero index entries same are = absurd (omega (arith, same))
sent_by session number call (suc count) (model ∷ models) (suc all) index [] same are = absurd are
sent_by session number call (suc count) (model ∷ models) (suc all) index (entry ∷ entries) same are = (
  record { place = ap (λ (e : Entry). e.place) are.0; written = ap (λ (e : Entry). e.written) are.0 },
  sent_by session number call count models all (index + 1) entries (omega (arith, same)) are.1,
)

-- and of the caller's models they are his own
pub own_sent : (ids : List ObjectId) (models : List WriteModel) (call index : ℕ) (entries : List Entry) → length ids ≡ length models → AreTwelve ids → AreSent (with_model_ids ids models) call index entries
    → AreEntriesOf models call index entries
own_sent [] [] call index [] same twelve are = tt
own_sent [] [] call index (entry ∷ entries) same twelve are = absurd are
own_sent [] (model ∷ models) call index entries same twelve are = absurd (omega (arith, same))
own_sent (id ∷ ids) [] call index entries same twelve are = absurd (omega (arith, same))
own_sent (id ∷ ids) (model ∷ models) call index [] same twelve are = absurd are
own_sent (id ∷ ids) (model ∷ models) call index (entry ∷ entries) same twelve are = (
  record { place = are.0.place; own = subst (λ w. IsOwn (model_written model) w) (sym are.0.written) (own_written id twelve.0 model) },
  own_sent ids models call (index + 1) entries (omega (arith, same)) twelve.1 are.1,
)

-- ---- what stands before a batch that is followed by an answer that is Ok
-- the result that stands
abbrev pub result_in : {R : Type 0} → ResultSpec R → ExecutionStatus R → R
result_in tells (status.Success found) = found
result_in tells _ = tells.nothing

-- a success, or no batch
abbrev pub IsSuccess : {R : Type 0} → ExecutionStatus R → Type 0
IsSuccess (status.Error error) = ⊥
IsSuccess _ = Unit {0}

-- ---- the batches
module _ {R : Type 0} (tells : ResultSpec R) (laws : MergesResults tells) (options : BulkWriteOptions) (call : ℕ) (G : ℕ → WriteModel → Type 0) where
  abbrev Is : PlacedWrite → Type 0
  Is = IsOfModel G call

  -- one that was Ok
  module _ (index : ℕ) (own : List OwnOp) (good : GoodModels G index own) (before now : Moment) (end : PlannedEnd R) (made : MakesPlanned (bulk_plan tells options) call index own before now end) where
    abbrev count : ℕ
    count = fixed_or_one end.statements

    command_of : (output : R) → end.result ≡ Ok output → SendsOneCommand (bulk_spec tells admin_target index own options) (rest_of call index own count) before now (Ok output)
    command_of output is = subst (SendsOneCommand (bulk_spec tells admin_target index own options) (rest_of call index own count) before now) is
        (planned.command_here true (bulk_plan tells options) call (GoodModels G) Is (bulk_planned tells options call G) index own good before now end made)

    -- what its entries are
    pub record BatchEntries (log : List Entry) (output : R) : Type 0 where
      pub entries : List Entry
      pub are : AreSent (take count good.models) call index entries
      pub stand : (entry : Entry) → Has entries entry → Has log entry
      pub told : output ≡ with_entries tells laws index entries tells.nothing

    pub batch_entries : (pool pool_now : Pool) (run run_now : ServerRun) → before.store.pool ≡ Some pool → now.store.pool ≡ Some pool_now → server_run before.link ≡ Some run → server_run now.link ≡ Some run_now
        → Between pool run.server.trace → Sound run.server → IsNewFrom run.server.trace call index → AllApart pool_now.drawn → (output : R) → end.result ≡ Ok output → BatchEntries run_now.server.log output
    batch_entries pool pool_now run run_now pool_is pool_now_is run_is run_now_is between sound new apart output is =
        let body = bulk_body tells options call G index own good count in
        let has : HasEntries (bulk_spec tells admin_target index own options) body run_now.server.log output
        = told_as (λ s t l m. AreWritten (bulk_spec tells admin_target index own options) body output s t l m) before.store.pool now.store.pool (server_run before.link) (server_run now.link) pool pool_now run run_now
        pool_is pool_now_is run_is run_now_is
        (one_command_entries (bulk_spec tells admin_target index own options) (rest_of call index own count) before now body (bulk_asks tells options call G index own good count) (bulk_lawful tells admin_target index own options)
        (Ok output) (command_of output is))
        (planned.stands_here true (bulk_plan tells options) call (GoodModels G) Is (bulk_planned tells options call G) index own good before now end made pool pool_now run run_now pool_is pool_now_is run_is run_now_is
        between sound new apart) in
        record {
          entries = has.entries;
          are = sent_by has.session has.number call count good.models (length own) index has.entries (sym (as_many good.models own good.are)) has.are;
          stand = has.stand;
          told = has.told;
        }

  -- what the batches from an index on tell beside what stood before them
  record Told (index : ℕ) (models : List WriteModel) (log : List Entry) (standing : R) (output : R) : Type 0 where
    entries : List Entry
    are : AreSent models call index entries
    stand : (entry : Entry) → Has entries entry → Has log entry
    told : output ≡ with_entries tells laws index entries standing

  -- a batch that was Ok behind a success
  pub takes_ok : (before : ExecutionStatus R) (index : ℕ) (entries : List Entry) (found : R) (now : ExecutionStatus R) → IsSuccess before → found ≡ with_entries tells laws index entries tells.nothing
      → Takes tells before (Ok found) (Ok now) → (IsSuccess now × (result_in tells now ≡ with_entries tells laws index entries (result_in tells before)))
  takes_ok status.None index entries found now success told is =
      subst (λ s. IsSuccess s × (result_in tells s ≡ with_entries tells laws index entries tells.nothing)) (sym is) (tt, told)
  takes_ok (status.Success before) index entries found now success told is =
      subst (λ s. IsSuccess s × (result_in tells s ≡ with_entries tells laws index entries before)) (sym is.0) (tt, ap (tells.merged before) told ∙ later_with tells laws before index entries)
  takes_ok (status.Error error) index entries found now success told is = absurd success

  -- a list's front and the rest
  whole : (n : ℕ) (models : List WriteModel) → take n models ++ drop n models ≡ models
  whole n models = take-append-drop n models

  -- what is told of a batch and of those behind it
  joins : (index n : ℕ) (models : List WriteModel) (log : List Entry) (standing mid output : R) (entries : List Entry) → n ≤ length models → AreSent (take n models) call index entries
      → ((entry : Entry) → Has entries entry → Has log entry) → mid ≡ with_entries tells laws index entries standing → Told (index + n) (drop n models) log mid output → Told index models log standing output
  joins index n models log standing mid output entries within are stand told rest =
      let long : length entries ≡ n = sent_length (take n models) call index entries are ∙ length-take-le n models within in
      record {
        entries = entries ++ rest.entries;
        are = subst (λ m. AreSent m call index (entries ++ rest.entries)) (whole n models)
            (sent_append (take n models) (drop n models) call index entries rest.entries are (subst (λ k. AreSent (drop n models) call (index + k) rest.entries) (sym long) rest.are));
        stand = λ entry has. either entry (has_either entries rest.entries entry has);
        told =
            rest.told
            ∙ ap (λ k. with_entries tells laws (index + k) rest.entries mid) (sym long)
            ∙ ap (with_entries tells laws (index + length entries) rest.entries) told
            ∙ sym (with_append tells laws standing index entries rest.entries);
      }
    where
      either : (entry : Entry) → Has entries entry ⊎ Has rest.entries entry → Has log entry
      either entry found = elim found [ inl here ↦ stand entry here | inr later ↦ rest.stand entry later ]

  -- the next batch, whatever stands behind it
  step_told : (index n : ℕ) (models : List WriteModel) (log : List Entry) (standing : ExecutionStatus R) (end : PlannedEnd R) (ends : List (PlannedEnd R)) (found output : R) (entries : List Entry) → IsSuccess standing
      → end.result ≡ Ok found → n ≤ length models → AreSent (take n models) call index entries → ((entry : Entry) → Has entries entry → Has log entry) → found ≡ with_entries tells laws index entries tells.nothing
      → (Rest : ExecutionStatus R → Type 0) → ((s : ExecutionStatus R) → IsSuccess s → Rest s → Told (index + n) (drop n models) log (result_in tells s) output)
      → (now : Result (ExecutionStatus R) Error) → Takes tells standing end.result now → StandsBehind Rest ends now (Ok (status.Success output)) → Told index models log (result_in tells standing) output
  step_told index n models log standing end ends found output entries success is within are stand told Rest rest (Ok s) takes behind =
      let next = takes_ok standing index entries found s success told (subst (λ r. Takes tells standing r (Ok s)) is takes) in
      joins index n models log (result_in tells standing) (result_in tells s) output entries within are stand next.1 (rest s next.0 behind)
  step_told index n models log standing end ends found output entries success is within are stand told Rest rest (Err error) takes behind =
      absurd (let e : ◌≡◌ {A = Result (ExecutionStatus R) Error} (Ok (status.Success output)) (Err error) = behind.1 in cc)

  -- no op is left of no models
  none_left : (models : List WriteModel) (own : List OwnOp) → AreOps models own → own ≡ [] → models ≡ []
  none_left [] own are none = refl
  none_left (model ∷ models) [] are none = absurd are
  none_left (model ∷ models) (op ∷ own) are none = absurd (let long : suc (length own) ≡ 0 = ap length none in omega (arith, long))

  -- behind the last batch nothing is added
  told_none : (index : ℕ) (models : List WriteModel) (log : List Entry) (standing : ExecutionStatus R) (output : R) → models ≡ [] → ◌≡◌ {A = Result (ExecutionStatus R) Error} (Ok (status.Success output)) (Ok standing)
      → Told index models log (result_in tells standing) output
  unfolding entries_told
  told_none index models log standing output none is =
      let same : ◌≡◌ {A = ExecutionStatus R} (status.Success output) standing = cc is in
      let result : output ≡ result_in tells standing = ap (result_in tells) same in
      record {
        entries = [];
        are = subst (λ m. AreSent m call index []) (sym none) tt;
        stand = λ entry has. absurd has;
        told = result ∙ sym (laws.counted_none (result_in tells standing)) ∙ passed (tells.counted (result_in tells standing) no_counts);
      }
    where
      passed : (a : R) → a ≡ kept_told tells index [] a
      passed a = elim (tells.only_errors) as (λ (only : Bool). a ≡ (if only then a else entries_told tells index [] a)) [ true ↦ refl | false ↦ refl ]

  -- all of them
  batches_told : (short : Type 0) → (short → ⊥) → (ends : List (PlannedEnd R)) (index : ℕ) (own : List OwnOp) (good : GoodModels G index own) (before now : Moment) (standing : ExecutionStatus R) (output : R) → IsSuccess standing
      → (pool pool_now : Pool) (run run_now : ServerRun) → before.store.pool ≡ Some pool → now.store.pool ≡ Some pool_now → server_run before.link ≡ Some run → server_run now.link ≡ Some run_now
      → Between pool run.server.trace → Sound run.server → IsNewFrom run.server.trace call index → DrawnApart now.store
      → MakesAllPlanned short (bulk_plan tells options) call index own ends before now → AllDone ends → ComesTo tells standing ends (Ok (status.Success output))
      → Told index good.models run_now.server.log (result_in tells standing) output
  batches_told short ample [] index own good before now standing output success pool pool_now run run_now pool_is pool_now_is run_is run_now_is between sound new apart made done comes =
      let nothing : own ≡ [] = elim made.1 [ inl none ↦ none | inr ran_short ↦ absurd (ample ran_short) ] in
      told_none index good.models run_now.server.log standing output (none_left good.models own good.are nothing) comes
  batches_told short ample (end ∷ ends) index own good before now standing output success pool pool_now run run_now pool_is pool_now_is run_is run_now_is between sound new apart made done comes =
      let mid = made.0 in
      let batch = made.1.0 in
      let ok = done.0 in
      let plan = bulk_plan tells options in
      let laws_planned = bulk_planned tells options call G in
      elim made.1.1 [
        | inl on ↦
            let n = on.statements in
            let good_on = laws_planned.good_rest index n own good in
            let moves = planned.batch_moves true plan call (GoodModels G) Is laws_planned index own good before mid end batch in
            let later = planned.batches_move true plan call (GoodModels G) Is laws_planned short ends (index + n) (drop n own) good_on mid now on.rest in
            let told = mid_told true 1 (length (drop n own)) call before mid now moves later pool run pool_is run_is apart in
            let one = planned.batch_advances true plan call (GoodModels G) Is laws_planned index own good before mid end batch pool told.pool run told.run pool_is told.pool_is run_is told.run_is between sound new told.apart in
            let new_on = next_new call index told.run.server.trace end.statements n on.told
            (planned.new_behind true plan call (GoodModels G) Is laws_planned index own good before mid end batch pool told.pool run told.run pool_is told.pool_is run_is told.run_is between sound new told.apart) in
            let rest = planned.batches_advance true plan call (GoodModels G) Is laws_planned short ends (index + n) (drop n own) good_on mid now told.pool pool_now told.run run_now told.pool_is pool_now_is told.run_is run_now_is
            one.between one.sound new_on apart on.rest in
            let some = planned.some_gone true plan call (GoodModels G) Is laws_planned index own good before mid end batch on.on n on.told in
            let count_is : fixed_or_one end.statements ≡ n = ap fixed_or_one on.told in
            let mine = batch_entries index own good before mid end batch pool told.pool run told.run pool_is told.pool_is run_is told.run_is between sound new told.apart ok.0 ok.1 in
            let within : n ≤ length good.models = subst (λ k. n ≤ k) (sym (as_many good.models own good.are)) some.1 in
            step_told index n good.models run_now.server.log standing end ends ok.0 output mine.entries success ok.1 within
            (subst (λ k. AreSent (take k good.models) call index mine.entries) count_is mine.are)
            (λ entry has. subst (λ log. Has log entry) (sym rest.log) (has_left told.run.server.log rest.more entry (mine.stand entry has)))
            mine.told
            (λ s. ComesTo tells s ends (Ok (status.Success output)))
            (λ s succeeds behind. batches_told short ample ends (index + n) (drop n own) good_on mid now s output succeeds told.pool pool_now told.run run_now told.pool_is pool_now_is told.run_is run_now_is
            one.between one.sound new_on apart on.rest done.1 behind)
            comes.0 comes.1.0 comes.1.1
        | inr stops ↦
            let over : ◌≡◌ {A = Bool} true false = sym (ap plan.goes_on ok.1) ∙ stops.over in
            absurd cc
      ]

-- behind an answer that is Ok its result stands
ok_comes : {R : Type 0} (tells : ResultSpec R) (ends : List (PlannedEnd R)) (standing : Result (ExecutionStatus R) Error) (output : R) → ComesTo tells status.None ends standing → AnswersStanding standing (Ok output)
    → ComesTo tells status.None ends (Ok (status.Success output))
ok_comes {R} tells ends (Ok (status.Success found)) output comes answers =
    let same : found ≡ output = let e : ◌≡◌ {A = Result R Error} (Ok output) (Ok found) = answers in cc in
    subst (λ o. ComesTo tells status.None ends (Ok (status.Success o))) same comes
ok_comes {R} tells ends (Ok (status.Error error)) output comes answers = absurd (let e : ◌≡◌ {A = Result R Error} (Ok output) (Err error) = answers in cc)
ok_comes tells ends (Ok status.None) output comes answers = absurd answers
ok_comes {R} tells ends (Err refused) output comes answers = absurd (let e : ◌≡◌ {A = Result R Error} (Ok output) (Err refused) = answers in cc)

-- so an Ok of a call is what the log spells
module _ {R : Type 0} (tells : ResultSpec R) (laws : MergesResults tells) (before now : Moment) (models : List WriteModel) (options : BulkWriteOptions) (call : ℕ) (output : R) (made : MadeBulk tells before now models options call (Ok output)) where
  pub made_told : (pool pool_now : Pool) (run run_now : ServerRun) → before.store.pool ≡ Some pool → now.store.pool ≡ Some pool_now → server_run before.link ≡ Some run → server_run now.link ≡ Some run_now
      → MayWriteCall pool pool_now run call → HasToldAll tells models call run_now.server.log output
  made_told pool pool_now run run_now pool_is pool_now_is run_is run_now_is may =
      let drew = made_drew tells before now models options call (Ok output) made in
      let told = batches_told tells laws options call (IsGivenModel models) (EndsShort tells made.ends (Ok output)) (λ never. never) made.ends 0 made.own (good tells before now models options call (Ok output) made) made.mid now
      status.None output tt pool pool_now run run_now (drew.pool ∙ pool_is) pool_now_is (ap (λ moment. server_run moment.link) made.rest ∙ run_is) run_now_is may.between may.sound
      (λ earlier at write has stands of_call. absurd (may.new earlier at write has stands of_call)) (subst DrawnApartIn (sym pool_now_is) may.apart) made.batches
      (ok_done tells made.ends made.answers.standing output made.answers.comes made.answers.answers) (ok_comes tells made.ends made.answers.standing output made.answers.comes made.answers.answers) in
      record {
        entries = told.entries;
        are = own_sent made.owns.ids models call 0 told.entries (ids_each before.store made.mid.store models made.owns.ids made.owns.draws) made.owns.twelve told.are;
        stand = told.stand;
        told = told.told;
      }

  ok_logged : ToldWhereTold tells models call output before.store.pool now.store.pool (server_run before.link) (server_run now.link)
  ok_logged = of_told before.store.pool now.store.pool (server_run before.link) (server_run now.link) refl refl refl refl
    where
      of_told : (pool pool_now : Option Pool) (run run_now : Option ServerRun) → before.store.pool ≡ pool → now.store.pool ≡ pool_now → server_run before.link ≡ run → server_run now.link ≡ run_now
          → ToldWhereTold tells models call output pool pool_now run run_now
      of_told (Some pool) (Some pool_now) (Some run) (Some run_now) pool_is pool_now_is run_is run_now_is = λ may. made_told pool pool_now run run_now pool_is pool_now_is run_is run_now_is may
      of_told None pool_now run run_now pool_is pool_now_is run_is run_now_is = tt
      of_told (Some pool) None run run_now pool_is pool_now_is run_is run_now_is = tt
      of_told (Some pool) (Some pool_now) None run_now pool_is pool_now_is run_is run_now_is = tt
      of_told (Some pool) (Some pool_now) (Some run) None pool_is pool_now_is run_is run_now_is = tt

pub bulk_logged : {R : Type 0} (tells : ResultSpec R) → MergesResults tells → (before now : Moment) (models : List WriteModel) (options : BulkWriteOptions) (call : ℕ) (result : Result R Error)
    → MakesBulk tells before now models options call result → OkIsLogged tells before now models call result
bulk_logged tells laws before now models options call (Ok output) made = ok_logged tells laws before now models options call output made
bulk_logged tells laws before now models options call (Err error) makes = tt
