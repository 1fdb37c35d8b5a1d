-- The batches of a valid bulk write whose part of the schedule is gentle, and what stands behind them: a result, or want of memory.
use Rattle.std.proofs.Common.{◌≡◌, ℕ, zero, suc, ◌+◌, ◌-◌, ◌<◌, ◌≤◌, Bool, true, false, List, [], ◌∷◌, ◌++◌, drop, length, length-drop, take, refl, sym, ap, subst, ◌∙◌, inl, inr, arith}
use Rattle.std.specs.Prelude.{ℤ, pos, ◌≤ℤ◌, ◌<ℤ◌, Option, None, Some, Result, Ok, Err, if◌then◌else◌}
use Rattle.std.proofs.lemmas.Int.{ints}
use Rattle.std.proofs.lemmas.List.{append-nil, drop-drop, length-take-le}
use Rattle.driver_error.specs.declared.error.Error.{Error}
use Rattle.driver_error.specs.declared.kind.ErrorKind.TheVariants as kind
use Rattle.bulk_outcomes.specs.declared.status.ExecutionStatus.{ExecutionStatus}
use Rattle.bulk_outcomes.specs.declared.status.ExecutionStatus.TheVariants as status
use Rattle.driver_error.specs.BulkErrors.{failures_in}
use Rattle.bulk_outcomes.specs.BulkResults.{MergesResults, ResultSpec, no_counts}
use Rattle.driver_error.specs.Counts.{AllFit, added}
use Rattle.driver_error.specs.Error.{ErrorKind, kind_of, source_of}
use Rattle.bulk_outcomes.specs.Status.{FailsWith, Succeeds, is_followed, is_memory}
use Rattle.driver_options.specs.declared.models.WriteModel.{WriteModel}
use Rattle.driver_options.specs.declared.options.ClientOptions.{ClientOptions}
use Rattle.driver_options.specs.declared.write_options.BulkWriteOptions.{BulkWriteOptions}
use Rattle.driver_link.specs.declared.machine.Entry.{Entry}
use Rattle.driver_link.specs.declared.machine.Setup.{Setup}
use Rattle.driver_link.specs.LinkState.{server_run, setup_of}
use Rattle.driver_link.specs.ServerRun.{ServerRun}
use Rattle.driver_link.specs.Settled.{Has}
use Rattle.driver_link.proofs.Lists.{has_either, has_left}
use Rattle.driver_link.proofs.ToldSetups.{served_setup}
use Rattle.driver_session.specs.Pool.{Pool}
use Rattle.driver_session.specs.Session.{last_number}
use Rattle.driver_session.specs.StoreTells.{DrawnApart, DrawnApartIn}
use Rattle.driver_session.proofs.PoolTells.{same_told}
use Rattle.driver_ops.specs.SendKinds.{first}
use Rattle.bulk_fronts.specs.declared.own_op.OwnOp.{OwnOp}
use Rattle.bulk_ops.specs.BulkEntries.{entries_told, kept_told}
use Rattle.bulk_fronts.specs.BulkFronts.{sized_ops}
use Rattle.bulk_ops.specs.BulkSpec.{admin_target, bulk_spec, is_verbose}
use Rattle.bulk_fronts.specs.BulkWrites.{bulk_is_ordered}
use Rattle.driver_attempt.specs.Moment.{Moment}
use Rattle.driver_exec.specs.BetweenCalls.{Between, NumbersWithin, Sound}
use Rattle.driver_exec.specs.Gentle.{EndsWell}
use Rattle.driver_exec.proofs.Moments.{IsBefore, before_refl, before_twice}
use Rattle.driver_exec.proofs.OperationMoments.{executes_before}
use Rattle.driver_exec.proofs.WholeOperation.{executes_client}
use Rattle.many_actions.specs.BatchPlans.{MakesAllPlanned, MakesPlanned, PlannedEnd, rest_of}
use Rattle.many_actions.specs.ManyCompleteness.{IsGentleCallPart}
use Rattle.driver_actions.specs.Raises.{RaisesByWhereTold}
use Rattle.many_actions.specs.Numbers.{server_setup}
use Rattle.driver_actions.proofs.MovesBeside.{GainsOwn}
use Rattle.many_actions.proofs.PlannedBatches as planned
use Rattle.many_actions.proofs.PlannedBatches.{IsNewFrom, fixed_or_one, is_fixed_or_one, mid_told, next_new, run_told}
use Rattle.bulk_actions.specs.BulkBatches.{ComesTo, StandsBehind, Takes, bulk_plan, end_goes_on}
use Rattle.bulk_actions.specs.BulkCalls.{AnswersStanding}
use Rattle.bulk_actions.specs.BulkCompleteness.{NoneAhead, ServesBulk}
use Rattle.bulk_actions.specs.BulkNumbers.{numbers_for}
use Rattle.bulk_actions.proofs.BulkKept.{IsGivenModel}
use Rattle.bulk_actions.proofs.BulkNumbers.{plan_numbers}
use Rattle.bulk_actions.proofs.BulkPlanned.{GoodModels, IsOfModel, bulk_asks, bulk_body, bulk_planned}
use Rattle.bulk_actions.proofs.BulkTold.{AreSent, IsSuccess, batch_entries, later_with, result_in, sent_append, sent_length, takes_ok, with_append, with_entries}
use Rattle.bulk_actions.proofs.BulkWell.{KnownBulk, Repeats, batch_before, well_within}
use Rattle.bulk_actions.proofs.FewestBulk.{as_many}
use Rattle.bulk_actions.proofs.OpRuns.{some_number}
use Rattle.bulk_fronts.proofs.BulkFronts.{length_sized}

-- numbers for the batches that are left leave one more
one_left : (most left : ℕ) → 1 ≤ left → pos (most + left) ≤ℤ last_number → pos most <ℤ last_number
one_left most left some enough = omega (arith, ints)

-- behind a batch they are enough for the rest
rest_left : (most left rest : ℕ) → 1 + rest ≤ left → pos (most + left) ≤ℤ last_number → pos (most + 1 + rest) ≤ℤ last_number
rest_left most left rest fewer enough = omega (arith, ints)

-- nothing has no front
take_nothing : {A : Type 0} (count : ℕ) → take {A = A} count [] ≡ []
take_nothing zero = refl
take_nothing (suc count) = refl

-- a longer front is a front and one behind it
take_more : {A : Type 0} (count more : ℕ) (xs : List A) → take (count + more) xs ≡ take count xs ++ take more (drop count xs)
take_more zero more xs = let same : 0 + more ≡ more = omega arith in ap (λ k. take k xs) same
take_more {A = A} (suc count) more [] = take_nothing {A = A} (suc count + more) ∙ sym (take_nothing {A = A} more)
take_more (suc count) more (x ∷ xs) = let same : suc count + more ≡ suc (count + more) = omega arith in ap (λ k. take k (x ∷ xs)) same ∙ ap (λ rest. x ∷ rest) (take_more count more xs)

-- want of memory lets no further batch be made
memory_stops : (ordered : Bool) (why : ErrorKind) (source : Option Error) → why ≡ kind.Memory → is_followed ordered (failures_in why) source ≡ true → ⊥
memory_stops ordered why source memory on =
    let e : false ≡ true = ap (λ w. is_followed ordered (failures_in w) source) (sym memory) ∙ on in cc

module _ {R : Type 0} (tells : ResultSpec R) (laws : MergesResults tells) (options : BulkWriteOptions) (call : ℕ) (models : List WriteModel) (all : List OwnOp) (client : ClientOptions) (setup : Setup)
    (known : KnownBulk tells options models all client setup) where
  abbrev Given : ℕ → WriteModel → Type 0
  Given = IsGivenModel models

  -- how many numbers these ops take at most
  abbrev pub left_numbers : List OwnOp → ℕ
  left_numbers own = numbers_for (Some setup) options (is_verbose tells) (sized_ops own)

  number_left : (own : List OwnOp) → 0 < length own → 1 ≤ left_numbers own
  number_left own some = some_number (Some setup) options (is_verbose tells) (sized_ops own) (subst (λ n. 0 < n) (sym (length_sized own)) some)

  -- a batch keeps the client's options
  client_kept : (index : ℕ) (own : List OwnOp) (before now : Moment) (end : PlannedEnd R) → MakesPlanned (bulk_plan tells options) call index own before now end → before.client.options ≡ client → now.client.options ≡ client
  client_kept index own before now end made client_is =
      let kept = executes_client (bulk_spec tells admin_target index own options) (rest_of call index own (fixed_or_one end.statements)) first before now 0 made.count None end.statements end.result
      (made.executes (fixed_or_one end.statements) (is_fixed_or_one end.statements)) in
      ap (λ k. k.options) kept ∙ client_is

  -- the batches that follow one another lead on
  batches_before : (short : Type 0) (ends : List (PlannedEnd R)) (index : ℕ) (own : List OwnOp) → GoodModels Given index own → (before now : Moment)
      → (run last : ServerRun) → server_run before.link ≡ Some run → server_run now.link ≡ Some last → MakesAllPlanned short (bulk_plan tells options) call index own ends before now → IsBefore run last
  batches_before short [] index own good before now run last run_is last_is made =
      subst (IsBefore run) (same_told run last (sym run_is ∙ ap (λ m. server_run m.link) (sym made.0) ∙ last_is)) (before_refl run)
  batches_before short (end ∷ ends) index own good before now run last run_is last_is made =
      let plan = bulk_plan tells options in
      let laws_planned = bulk_planned tells options call Given in
      let mid = made.0 in
      let batch = made.1.0 in
      let moves = planned.batch_moves true plan call (GoodModels Given) (IsOfModel Given call) laws_planned index own good before mid end batch in
      let told = run_told run (server_run before.link) (server_run mid.link) run_is moves.making in
      let count = fixed_or_one end.statements in
      let here = executes_before (bulk_spec tells admin_target index own options) (rest_of call index own count) first before mid 0 batch.count None end.statements end.result
      (bulk_body tells options call Given index own good count) (bulk_asks tells options call Given index own good count) run told.0 run_is told.1 (batch.executes count (is_fixed_or_one end.statements)) in
      elim made.1.1 [
        | inl on ↦
            before_twice run told.0 last here
            (batches_before short ends (index + on.statements) (drop on.statements own) (laws_planned.good_rest index on.statements own good) mid now told.0 last told.1 last_is on.rest)
        | inr stops ↦ subst (IsBefore run) (same_told told.0 last (sym told.1 ∙ ap (λ m. server_run m.link) (sym stops.same) ∙ last_is)) here
      ]

  -- what stands before a batch: the result that the entries of the models before it tell, which stand in the log
  pub record StandsSoFar (sent : List WriteModel) (index : ℕ) (log : List Entry) (standing : ExecutionStatus R) : Type 0 where
    pub success : IsSuccess standing
    pub reached : index ≤ length sent
    pub entries : List Entry
    pub are : AreSent (take index sent) call 0 entries
    pub stand : (entry : Entry) → Has entries entry → Has log entry
    pub told : result_in tells standing ≡ with_entries tells laws 0 entries tells.nothing

  -- before the first one nothing is told
  none_told : tells.nothing ≡ with_entries tells laws 0 [] tells.nothing
  unfolding entries_told
  none_told = sym (laws.counted_none tells.nothing) ∙ passed (tells.counted tells.nothing no_counts)
    where
      passed : (a : R) → a ≡ kept_told tells 0 [] a
      passed a = elim (tells.only_errors) as (λ (only : Bool). a ≡ (if only then a else entries_told tells 0 [] a)) [ true ↦ refl | false ↦ refl ]

  pub stands_first : (sent : List WriteModel) (log : List Entry) → StandsSoFar sent 0 log status.None
  stands_first sent log = record { success = tt; reached = omega arith; entries = []; are = tt; stand = λ entry has. absurd has; told = none_told }

  -- the sums of the counts of what stands in a log
  abbrev pub FitsFrom : List WriteModel → List Entry → Type 0
  FitsFrom sent log =
      (count : ℕ) (entries : List Entry) → AreSent (take count sent) call 0 entries → ((entry : Entry) → Has entries entry → Has log entry)
      → AllFit (tells.counts (with_entries tells laws 0 entries tells.nothing))

  -- one batch more, whose entries these are
  module _ (sent : List WriteModel) (index count : ℕ) (log log_now : List Entry) (standing : ExecutionStatus R) (far : StandsSoFar sent index log standing) (within : index + count ≤ length sent)
      (grows : (entry : Entry) → Has log entry → Has log_now entry) (found : R) (mine : List Entry) (are : AreSent (take count (drop index sent)) call index mine)
      (stand : (entry : Entry) → Has mine entry → Has log_now entry) (told : found ≡ with_entries tells laws index mine tells.nothing) where
    long : length far.entries ≡ index
    long = sent_length (take index sent) call 0 far.entries far.are ∙ length-take-le index sent far.reached

    here : 0 + length far.entries ≡ index
    here = let is = long in omega (arith, is)

    both_are : AreSent (take (index + count) sent) call 0 (far.entries ++ mine)
    both_are =
        subst (λ m. AreSent m call 0 (far.entries ++ mine)) (sym (take_more index count sent))
        (sent_append (take index sent) (take count (drop index sent)) call 0 far.entries mine far.are (subst (λ k. AreSent (take count (drop index sent)) call k mine) (sym here) are))

    both_stand : (entry : Entry) → Has (far.entries ++ mine) entry → Has log_now entry
    both_stand entry has = elim (has_either far.entries mine entry has) [ inl earlier ↦ grows entry (far.stand entry earlier) | inr later ↦ stand entry later ]

    -- all that is told by now
    together : with_entries tells laws index mine (result_in tells standing) ≡ with_entries tells laws 0 (far.entries ++ mine) tells.nothing
    together =
        ap (with_entries tells laws index mine) far.told
        ∙ ap (λ k. with_entries tells laws k mine (with_entries tells laws 0 far.entries tells.nothing)) (sym here)
        ∙ sym (with_append tells laws tells.nothing 0 far.entries mine)

    -- it stands
    far_on : (now : ExecutionStatus R) → Takes tells standing (Ok found) (Ok now) → StandsSoFar sent (index + count) log_now now
    far_on now takes =
        let next = takes_ok tells laws options call Given standing index mine found now far.success told takes in record {
          success = next.0;
          reached = within;
          entries = far.entries ++ mine;
          are = both_are;
          stand = both_stand;
          told = next.1 ∙ together;
        }

    -- and no sum is refused but for want of memory
    sums_memory : (before : R) → standing ≡ status.Success before → FitsFrom sent log_now → (error : Error) → Succeeds tells (status.Success before) found (Err error) → kind_of error ≡ kind.Memory
    sums_memory before is fits error refuses =
        let before_is : before ≡ result_in tells standing = ap (result_in tells) (sym is) in
        let merged : tells.merged before found ≡ with_entries tells laws 0 (far.entries ++ mine) tells.nothing
        = ap (tells.merged before) told ∙ later_with tells laws before index mine ∙ ap (with_entries tells laws index mine) before_is ∙ together in
        let fit : AllFit (added (tells.counts before) (tells.counts found))
        = subst AllFit (ap tells.counts (sym merged) ∙ laws.counts before found) (fits (index + count) (far.entries ++ mine) both_are both_stand) in
        elim refuses [ inl leaves ↦ absurd (leaves.some_sum fit) | inr alone ↦ alone.kind_is ]

    refused_memory : (before : ExecutionStatus R) → standing ≡ before → IsSuccess before → FitsFrom sent log_now → (error : Error) → Takes tells before (Ok found) (Err error) → kind_of error ≡ kind.Memory
    refused_memory status.None is success fits error takes = absurd takes
    refused_memory (status.Success before) is success fits error takes = sums_memory before is fits error takes
    refused_memory (status.Error before) is success fits error takes = absurd success

  -- so many of the models that are left are within all
  fits_whole : (sent : List WriteModel) (index count : ℕ) (own : List OwnOp) (good : GoodModels Given index own) → good.models ≡ drop index sent → index ≤ length sent → count ≤ length own → index + count ≤ length sent
  fits_whole sent index count own good models_is reached within =
      let long : length (drop index sent) ≡ length own = ap (λ (m : List WriteModel). length m) (sym models_is) ∙ as_many good.models own good.are in
      let left : length (drop index sent) ≡ length sent - index = length-drop index sent in
      omega (arith, long, left, reached, within)

  -- an end that is well and lets the next batch be made is Ok
  ok_goes_on : (result : Result R Error) → EndsWell result → end_goes_on (bulk_is_ordered options) result ≡ true → (found : R) × (result ≡ Ok found)
  ok_goes_on (Ok found) well on = (found, refl)
  ok_goes_on (Err error) well on = absurd (memory_stops (bulk_is_ordered options) (kind_of error) (source_of error) well on)

  -- one that is well and lets none be made is want of memory
  memory_ends : (result : Result R Error) → EndsWell result → end_goes_on (bulk_is_ordered options) result ≡ false → (error : Error) × ((result ≡ Err error) × (kind_of error ≡ kind.Memory))
  memory_ends (Ok found) well over = absurd (let e : true ≡ false = over in cc)
  memory_ends (Err error) well over = (error, (refl, well))

  -- an answer behind nothing but a success is none that is an error
  success_answers : (standing : ExecutionStatus R) (error : Error) → IsSuccess standing → AnswersStanding (Ok standing) (Err error) → ⊥
  success_answers (status.Success found) error success answers = let e : ◌≡◌ {A = Result R Error} (Err error) (Ok found) = answers in cc
  success_answers status.None error success answers = answers
  success_answers (status.Error standing) error success answers = success

  -- the answer behind an error that stands is that
  error_answers : (came : Result (ExecutionStatus R) Error) (standing error : Error) → came ≡ Ok (status.Error standing) → AnswersStanding came (Err error) → error ≡ standing
  error_answers came standing error is answers =
      let here : AnswersStanding (Ok (status.Error standing)) (Err error) = subst (λ c. AnswersStanding c (Err error)) is answers in
      let e : ◌≡◌ {A = Result R Error} (Err error) (Err standing) = here in cc

  -- want of memory takes the place of what stands
  memory_takes : (before : ExecutionStatus R) (why : ErrorKind) (failed : Error) (now : Result (ExecutionStatus R) Error) → why ≡ kind.Memory → FailsWith tells before (is_memory why) failed now → now ≡ Ok (status.Error failed)
  memory_takes before why failed now memory fails = subst (λ w. FailsWith tells before (is_memory w) failed now) memory fails

  -- the last batch ended for want of memory
  last_memory : (standing : ExecutionStatus R) (end : PlannedEnd R) (ends : List (PlannedEnd R)) (came : Result (ExecutionStatus R) Error) (error : Error) → EndsWell end.result → end_goes_on (bulk_is_ordered options) end.result ≡ false
      → ends ≡ [] → ComesTo tells standing (end ∷ ends) came → AnswersStanding came (Err error) → kind_of error ≡ kind.Memory
  last_memory standing end ends came error well over none comes answers =
      let ended = memory_ends end.result well over in
      let takes : FailsWith tells standing (is_memory (kind_of ended.0)) ended.0 comes.0 = subst (λ r. Takes tells standing r comes.0) ended.1.0 comes.1.0 in
      let is = memory_takes standing (kind_of ended.0) ended.0 comes.0 ended.1.1 takes in
      let behind : StandsBehind (λ later. ComesTo tells later ends came) ends (Ok (status.Error ended.0)) came = subst (λ now. StandsBehind (λ later. ComesTo tells later ends came) ends now came) is comes.1.1 in
      let last : ComesTo tells (status.Error ended.0) [] came = subst (λ e. ComesTo tells (status.Error ended.0) e came) none behind in
      ap kind_of (error_answers came ended.0 error last answers) ∙ ended.1.1

  -- a further batch, whatever stands behind the one before
  next_memory : (standing : ExecutionStatus R) (end : PlannedEnd R) (ends : List (PlannedEnd R)) (came : Result (ExecutionStatus R) Error) (error : Error) (found : R) → end.result ≡ Ok found
      → ((refused : Error) → Takes tells standing (Ok found) (Err refused) → kind_of refused ≡ kind.Memory)
      → ((later : ExecutionStatus R) → Takes tells standing (Ok found) (Ok later) → ComesTo tells later ends came → kind_of error ≡ kind.Memory)
      → AnswersStanding came (Err error) → (now : Result (ExecutionStatus R) Error) → Takes tells standing end.result now → StandsBehind (λ later. ComesTo tells later ends came) ends now came → kind_of error ≡ kind.Memory
  next_memory standing end ends came error found is refuses goes answers (Ok later) takes behind = goes later (subst (λ r. Takes tells standing r (Ok later)) is takes) behind
  next_memory standing end ends came error found is refuses goes answers (Err refused) takes behind =
      let here : AnswersStanding {R = R} (Err refused) (Err error) = subst (λ c. AnswersStanding c (Err error)) behind.1 answers in
      let same : error ≡ refused = (let e : ◌≡◌ {A = Result R Error} (Err error) (Err refused) = here in cc) in
      ap kind_of same ∙ refuses refused (subst (λ r. Takes tells standing r (Err refused)) is takes)

  -- all of them
  pub run_memory : (sent : List WriteModel) (told last : ServerRun) → IsGentleCallPart ServesBulk (Repeats tells options call models all client setup known) told last → FitsFrom sent last.server.log
      → (short : Type 0) (ends : List (PlannedEnd R)) (index : ℕ) (own : List OwnOp) (good : GoodModels Given index own) → own ≡ drop index all → good.models ≡ drop index sent → (before now : Moment) → before.client.options ≡ client
      → setup_of before.link ≡ Some setup → (pool pool_now : Pool) (run : ServerRun) → before.store.pool ≡ Some pool → now.store.pool ≡ Some pool_now → server_run before.link ≡ Some run → server_run now.link ≡ Some last
      → Between pool run.server.trace → Sound run.server → IsNewFrom run.server.trace call index → NoneAhead run.server → DrawnApart now.store → (most : ℕ) → NumbersWithin (pos most) pool.idle
      → pos (most + left_numbers own) ≤ℤ last_number → IsBefore told run → MakesAllPlanned short (bulk_plan tells options) call index own ends before now
      → (standing : ExecutionStatus R) → StandsSoFar sent index run.server.log standing → (came : Result (ExecutionStatus R) Error) → ComesTo tells standing ends came → (error : Error) → AnswersStanding came (Err error)
      → kind_of error ≡ kind.Memory
  run_memory sent told last gentle fits short [] index own good own_is models_is before now client_is setup_is pool pool_now run pool_is pool_now_is run_is last_is between sound new ahead apart most numbers enough begins made
      standing far came comes error answers =
      absurd (success_answers standing error far.success (subst (λ c. AnswersStanding c (Err error)) comes answers))
  run_memory sent told last gentle fits short (end ∷ ends) index own good own_is models_is before now client_is setup_is pool pool_now run pool_is pool_now_is run_is last_is between sound new ahead apart most numbers enough begins made
      standing far came comes error answers =
      let plan = bulk_plan tells options in
      let laws_planned = bulk_planned tells options call Given in
      let mid = made.0 in
      let batch = made.1.0 in
      let moves = planned.batch_moves true plan call (GoodModels Given) (IsOfModel Given call) laws_planned index own good before mid end batch in
      let further = one_left most (left_numbers own) (number_left own batch.left) enough in
      elim made.1.1 [
        | inl on ↦
            let n = on.statements in
            let good_on = laws_planned.good_rest index n own good in
            let later = planned.batches_move true plan call (GoodModels Given) (IsOfModel Given call) laws_planned short ends (index + n) (drop n own) good_on mid now on.rest in
            let mid_now = mid_told true 1 (length (drop n own)) call before mid now moves later pool run pool_is run_is apart in
            let apart_mid : DrawnApart mid.store = subst DrawnApartIn (sym mid_now.pool_is) mid_now.apart in
            let ends_before = batches_before short ends (index + n) (drop n own) good_on mid now mid_now.run last mid_now.run_is last_is on.rest in
            let gains : GainsOwn true call (Some mid_now.run) (Some last)
            = subst (λ r. GainsOwn true call r (Some last)) mid_now.run_is (subst (λ r. GainsOwn true call (server_run mid.link) r) last_is later.gains) in
            let well = well_within tells options call models all client setup known index own own_is good before mid end batch client_is setup_is pool run mid_now.run pool_is run_is mid_now.run_is between sound new ahead apart_mid most numbers
            further told last gentle begins ends_before gains.sends gains.trace in
            let ok = ok_goes_on end.result well.0 on.on in
            let one = planned.batch_advances true plan call (GoodModels Given) (IsOfModel Given call) laws_planned index own good before mid end batch pool mid_now.pool run mid_now.run pool_is mid_now.pool_is run_is mid_now.run_is
            between sound new mid_now.apart in
            let new_on = next_new call index mid_now.run.server.trace end.statements n on.told
            (planned.new_behind true plan call (GoodModels Given) (IsOfModel Given call) laws_planned index own good before mid end batch pool mid_now.pool run mid_now.run pool_is mid_now.pool_is run_is mid_now.run_is
            between sound new mid_now.apart) in
            let rest = planned.batches_advance true plan call (GoodModels Given) (IsOfModel Given call) laws_planned short ends (index + n) (drop n own) good_on mid now mid_now.pool pool_now mid_now.run last mid_now.pool_is pool_now_is
            mid_now.run_is last_is one.between one.sound new_on apart on.rest in
            let some = planned.some_gone true plan call (GoodModels Given) (IsOfModel Given call) laws_planned index own good before mid end batch on.on n on.told in
            let server_is : server_setup (server_run before.link) ≡ Some setup = ap server_setup run_is ∙ sym (served_setup before.link.making run run_is) ∙ setup_is in
            let numbers_are = plan_numbers tells options (Some setup) in
            let mid_setup : setup_of mid.link ≡ Some setup
            = served_setup mid.link.making mid_now.run mid_now.run_is ∙ sym (ap server_setup mid_now.run_is)
            ∙ planned.batch_setup true plan call (GoodModels Given) (IsOfModel Given call) laws_planned (Some setup) left_numbers numbers_are index own good before mid end batch server_is in
            let fewer = planned.batch_fewer true plan call (GoodModels Given) (IsOfModel Given call) laws_planned (Some setup) left_numbers numbers_are index own good before mid end batch server_is on.on n on.told in
            let raises : RaisesByWhereTold 1 (Some pool) (Some mid_now.pool)
            = subst (λ p. RaisesByWhereTold 1 p (Some mid_now.pool)) pool_is (subst (λ p. RaisesByWhereTold 1 before.store.pool p) mid_now.pool_is moves.raises) in
            let begins_on = before_twice told run mid_now.run begins
            (batch_before tells options call models all client setup known index own own_is good before mid end batch client_is setup_is pool run mid_now.run pool_is run_is mid_now.run_is between sound new ahead apart_mid most numbers further) in
            let own_on : drop n own ≡ drop (index + n) all = ap (drop n) own_is ∙ drop-drop n index all in
            let models_on : good_on.models ≡ drop (index + n) sent = ap (drop n) models_is ∙ drop-drop n index sent in
            let mine = batch_entries tells laws options call Given index own good before mid end batch pool mid_now.pool run mid_now.run pool_is mid_now.pool_is run_is mid_now.run_is between sound new mid_now.apart ok.0 ok.1 in
            let count_is : fixed_or_one end.statements ≡ n = ap fixed_or_one on.told in
            let mine_are : AreSent (take n (drop index sent)) call index mine.entries
            = subst (λ m. AreSent (take n m) call index mine.entries) models_is (subst (λ k. AreSent (take k good.models) call index mine.entries) count_is mine.are) in
            let within : index + n ≤ length sent = fits_whole sent index n own good models_is far.reached some.1 in
            let grows : (entry : Entry) → Has run.server.log entry → Has mid_now.run.server.log entry
            = λ entry has. subst (λ log. Has log entry) (sym one.log) (has_left run.server.log one.more entry has) in
            let grows_last : (entry : Entry) → Has mid_now.run.server.log entry → Has last.server.log entry
            = λ entry has. subst (λ log. Has log entry) (sym rest.log) (has_left mid_now.run.server.log rest.more entry has) in
            let fits_mid : FitsFrom sent mid_now.run.server.log = λ count entries are stand. fits count entries are (λ entry has. grows_last entry (stand entry has)) in
            next_memory standing end ends came error ok.0 ok.1
            (λ refused takes. refused_memory sent index n run.server.log mid_now.run.server.log standing far within grows ok.0 mine.entries mine_are mine.stand mine.told standing refl far.success fits_mid refused takes)
            (λ next takes on_comes. run_memory sent told last gentle fits short ends (index + n) (drop n own) good_on own_on models_on mid now (client_kept index own before mid end batch client_is) mid_setup
            mid_now.pool pool_now mid_now.run mid_now.pool_is pool_now_is mid_now.run_is last_is one.between one.sound new_on well.1 apart (most + 1) (raises most numbers)
            (rest_left most (left_numbers own) (left_numbers (drop n own)) fewer enough) begins_on on.rest next
            (far_on sent index n run.server.log mid_now.run.server.log standing far within grows ok.0 mine.entries mine_are mine.stand mine.told next takes) came on_comes error answers)
            answers comes.0 comes.1.0 comes.1.1
        | inr stops ↦
            let last_mid : server_run mid.link ≡ Some last = ap (λ m. server_run m.link) (sym stops.same) ∙ last_is in
            let apart_mid : DrawnApart mid.store = subst (λ m. DrawnApart m.store) stops.same apart in
            let well = well_within tells options call models all client setup known index own own_is good before mid end batch client_is setup_is pool run last pool_is run_is last_mid between sound new ahead apart_mid most numbers
            further told last gentle begins (before_refl last) [] (sym (append-nil last.server.trace)) in
            last_memory standing end ends came error well.0 stops.over stops.none comes answers
      ]
