-- What an error of a bulk write tells of what succeeded is told by the entries of its batches one after another.
use Rattle.std.proofs.Common.{◌≡◌, ℕ, ◌+◌, ◌≤◌, true, List, [], ◌∷◌, drop, length, refl, sym, ap, subst, ◌∙◌, inl, inr, arith}
use Rattle.std.specs.Prelude.{Option, None, Some, IfSome, Result, Ok, Err}
use Rattle.driver_error.specs.declared.error.Error.{Error}
use Rattle.driver_error.specs.declared.kind.ErrorKind.TheVariants as kind
use Rattle.server_answers.specs.declared.results.PartialBulkWriteResult.{PartialBulkWriteResult}
use Rattle.bulk_outcomes.specs.declared.status.ExecutionStatus.{ExecutionStatus}
use Rattle.bulk_outcomes.specs.declared.status.ExecutionStatus.TheVariants as status
use Rattle.driver_error.specs.declared.write.BulkWriteError.{BulkWriteError}
use Rattle.driver_error.specs.BulkErrors.{failures_in}
use Rattle.bulk_outcomes.specs.BulkResults.{MergesResults, ResultSpec}
use Rattle.driver_error.specs.Error.{ErrorKind, kind_of}
use Rattle.bulk_outcomes.specs.PartialResults.{MakesPartial}
use Rattle.driver_options.specs.declared.models.WriteModel.{WriteModel}
use Rattle.driver_options.specs.declared.write_options.BulkWriteOptions.{BulkWriteOptions}
use Rattle.driver_link.specs.declared.machine.Entry.{Entry}
use Rattle.driver_link.specs.LinkState.{server_run}
use Rattle.driver_link.specs.ServerRun.{ServerRun}
use Rattle.driver_link.proofs.Lists.{none_is_some}
use Rattle.driver_session.specs.Pool.{Pool}
use Rattle.driver_session.specs.StoreTells.{DrawnApart, DrawnApartIn}
use Rattle.driver_inputs.specs.BulkInputs.{BulkInputRefused}
use Rattle.driver_inputs.specs.Calls.{IsOwn}
use Rattle.bulk_fronts.specs.declared.own_op.OwnOp.{OwnOp}
use Rattle.bulk_fronts.specs.BulkOps.{model_written}
use Rattle.bulk_ops.specs.PartialEntries.{IndexedEntry}
use Rattle.driver_attempt.specs.Moment.{Moment}
use Rattle.driver_exec.specs.BetweenCalls.{Between, Sound}
use Rattle.many_actions.specs.BatchPlans.{MakesAllPlanned, PlannedEnd}
use Rattle.many_actions.specs.ManyEntries.{MayWriteCall}
use Rattle.many_actions.proofs.PlannedBatches as planned
use Rattle.many_actions.proofs.PlannedBatches.{IsNewFrom, fixed_or_one, mid_told, next_new}
use Rattle.bulk_actions.specs.BulkBatches.{ComesTo, StandsBehind, Takes, bulk_plan}
use Rattle.bulk_actions.specs.BulkCalls.{AnswersStanding, EndsShort, MadeBulk, MakesBulk, UnmadeBulk}
use Rattle.bulk_actions.specs.PartlyTold.{ErrIsLogged, FailuresAreLogged, HasToldSome, IsInLog, PartialWhereTold}
use Rattle.bulk_actions.proofs.BulkKept.{IsGivenModel, good, made_drew, own_written}
use Rattle.bulk_actions.proofs.BulkPlanned.{GoodModels, IsOfModel, bulk_planned}
use Rattle.bulk_actions.proofs.FailedBatches.{batch_part}
use Rattle.bulk_actions.proofs.PartlyMerged.{StandsFor, TellsPart, rise_alone, tells_both, tells_longer, tells_none}
use Rattle.bulk_actions.proofs.PartsTaken.{part_by, part_in, part_of_came, part_of_end, part_of_error, part_of_status, refused_part, taken_part}

-- ---- the batches
module _ {R : Type 0} (tells : ResultSpec R) (merges : MergesResults tells) (makes : MakesPartial tells) (options : BulkWriteOptions) (call : ℕ) (G : ℕ → WriteModel → Type 0) where
  -- a part of the call up to an index, in a log
  abbrev Part : ℕ → List Entry → Option PartialBulkWriteResult → Type 0
  Part limit log found = TellsPart tells G call 0 limit log found

  -- with some limit
  abbrev SomePart : List Entry → Option PartialBulkWriteResult → Type 0
  SomePart log found = (limit : ℕ) × Part limit log found

  none_told : (log : List Entry) (found : Option PartialBulkWriteResult) → found ≡ None → SomePart log found
  none_told log found none = (0, subst (Part 0 log) (sym none) (tells_none tells G call 0 0 log (omega arith)))

  -- what stands behind one batch more
  taken : (index limit : ℕ) (log : List Entry) (before : ExecutionStatus R) (came : Result R Error) (now : ExecutionStatus R) → Takes tells before came (Ok now) → index ≤ limit
      → Part index log (part_of_status tells before) → TellsPart tells G call index limit log (part_of_end tells came) → Part limit log (part_of_status tells now)
  taken index limit log before came now takes below stood part = elim (taken_part tells merges before came now takes) [
    | inl none ↦ subst (Part limit log) (sym none) (tells_none tells G call 0 limit log (omega arith))
    | inr both ↦ subst (Part limit log) (sym both) (tells_both tells G call 0 index limit log (part_of_status tells before) (part_of_end tells came) stood part)
  ]

  -- the next batch, whatever stands behind it
  step_part : (index limit : ℕ) (log : List Entry) (standing : ExecutionStatus R) (came_here : Result R Error) (ends : List (PlannedEnd R)) (came : Result (ExecutionStatus R) Error) → index ≤ limit
      → Part index log (part_of_status tells standing) → TellsPart tells G call index limit log (part_of_end tells came_here)
      → (Rest : ExecutionStatus R → Type 0) → ((s : ExecutionStatus R) → Part limit log (part_of_status tells s) → Rest s → SomePart log (part_of_came tells came))
      → (now : Result (ExecutionStatus R) Error) → Takes tells standing came_here now → StandsBehind Rest ends now came → SomePart log (part_of_came tells came)
  step_part index limit log standing came_here ends came below stood part Rest rest (Ok s) takes behind = rest s (taken index limit log standing came_here s takes below stood part) behind
  step_part index limit log standing came_here ends came below stood part Rest rest (Err refused) takes behind =
      none_told log (part_of_came tells came) (ap (part_of_came tells) behind.1 ∙ refused_part tells merges standing came_here refused takes)

  -- behind the last one
  stands_last : (limit : ℕ) (log : List Entry) (ends : List (PlannedEnd R)) (came : Result (ExecutionStatus R) Error) (s : ExecutionStatus R) → ends ≡ [] → Part limit log (part_of_status tells s)
      → ComesTo tells s ends came → SomePart log (part_of_came tells came)
  stands_last limit log ends came s none part comes =
      let is : came ≡ Ok s = subst (λ (e : List (PlannedEnd R)). ComesTo tells s e came) none comes in
      (limit, subst (λ (c : Result (ExecutionStatus R) Error). Part limit log (part_of_came tells c)) (sym is) part)

  -- all of them
  batches_part : (short : Type 0) (ends : List (PlannedEnd R)) (index : ℕ) (own : List OwnOp) (goods : GoodModels G index own) (before now : Moment) (standing : ExecutionStatus R) (came : Result (ExecutionStatus R) Error)
      → (pool pool_now : Pool) (run run_now : ServerRun) → before.store.pool ≡ Some pool → now.store.pool ≡ Some pool_now → server_run before.link ≡ Some run → server_run now.link ≡ Some run_now
      → Between pool run.server.trace → Sound run.server → IsNewFrom run.server.trace call index → DrawnApart now.store
      → MakesAllPlanned short (bulk_plan tells options) call index own ends before now → ComesTo tells standing ends came
      → Part index run_now.server.log (part_of_status tells standing) → SomePart run_now.server.log (part_of_came tells came)
  batches_part short [] index own goods before now standing came pool pool_now run run_now pool_is pool_now_is run_is run_now_is between sound new apart made comes stood =
      stands_last index run_now.server.log [] came standing refl stood comes
  batches_part short (end ∷ ends) index own goods before now standing came pool pool_now run run_now pool_is pool_now_is run_is run_now_is between sound new apart made comes stood =
      let mid = made.0 in
      let batch = made.1.0 in
      let plan = bulk_plan tells options in
      let Is = IsOfModel G call in
      let laws_planned = bulk_planned tells options call G in
      let limit = index + fixed_or_one end.statements in
      let log = run_now.server.log in
      elim made.1.1 [
        | inl on ↦
            let n = on.statements in
            let good_on = laws_planned.good_rest index n own goods in
            let moves = planned.batch_moves true plan call (GoodModels G) Is laws_planned index own goods before mid end batch in
            let later = planned.batches_move true plan call (GoodModels G) Is laws_planned short ends (index + n) (drop n own) good_on mid now on.rest in
            let told = mid_told true 1 (length (drop n own)) call before mid now moves later pool run pool_is run_is apart in
            let one = planned.batch_advances true plan call (GoodModels G) Is laws_planned index own goods before mid end batch pool told.pool run told.run pool_is told.pool_is run_is told.run_is between sound new told.apart in
            let new_on = next_new call index told.run.server.trace end.statements n on.told
            (planned.new_behind true plan call (GoodModels G) Is laws_planned index own goods before mid end batch pool told.pool run told.run pool_is told.pool_is run_is told.run_is between sound new told.apart) in
            let rest = planned.batches_advance true plan call (GoodModels G) Is laws_planned short ends (index + n) (drop n own) good_on mid now told.pool pool_now told.run run_now told.pool_is pool_now_is told.run_is run_now_is
            one.between one.sound new_on apart on.rest in
            let limit_is : limit ≡ index + n = ap (λ (k : ℕ). index + k) (ap fixed_or_one on.told) in
            let part = tells_longer tells G call index limit told.run.server.log log rest.more (part_of_end tells end.result) rest.log
            (batch_part tells merges makes options call G index own goods before mid end batch pool told.pool run told.run pool_is told.pool_is run_is told.run_is between sound new told.apart) in
            step_part index limit log standing end.result ends came (omega arith) stood part (λ s. ComesTo tells s ends came)
            (λ s behind comes_on. batches_part short ends (index + n) (drop n own) good_on mid now s came told.pool pool_now told.run run_now told.pool_is pool_now_is told.run_is run_now_is
            one.between one.sound new_on apart on.rest comes_on (subst (λ (k : ℕ). Part k log (part_of_status tells s)) limit_is behind))
            comes.0 comes.1.0 comes.1.1
        | inr stops ↦
            let pool_mid : mid.store.pool ≡ Some pool_now = ap (λ (m : Moment). m.store.pool) (sym stops.same) ∙ pool_now_is in
            let run_mid : server_run mid.link ≡ Some run_now = ap (λ (m : Moment). server_run m.link) (sym stops.same) ∙ run_now_is in
            let part = batch_part tells merges makes options call G index own goods before mid end batch pool pool_now run run_now pool_is pool_mid run_is run_mid between sound new (subst DrawnApartIn pool_now_is apart) in
            step_part index limit log standing end.result ends came (omega arith) stood part (λ s. ComesTo tells s ends came)
            (λ s behind comes_on. stands_last limit log ends came s stops.none behind comes_on)
            comes.0 comes.1.0 comes.1.1
      ]

-- ---- the answer
-- an answer has what stands behind the batches
answer_part : {R : Type 0} (tells : ResultSpec R) (came : Result (ExecutionStatus R) Error) (error : Error) → AnswersStanding came (Err error) → part_of_came tells came ≡ part_of_error error
answer_part {R} tells (Ok (status.Success found)) error answers = absurd (let e : ◌≡◌ {A = Result R Error} (Err error) (Ok found) = answers in cc)
answer_part {R} tells (Ok (status.Error standing)) error answers = let same : standing ≡ error = let e : ◌≡◌ {A = Result R Error} (Err error) (Err standing) = answers in cc in ap part_of_error same
answer_part tells (Ok status.None) error answers = absurd answers
answer_part {R} tells (Err refused) error answers = let same : refused ≡ error = let e : ◌≡◌ {A = Result R Error} (Err error) (Err refused) = answers in cc in ap part_of_error same

-- want of memory has no part
memory_none : (error : Error) (found : PartialBulkWriteResult) → kind_of error ≡ kind.Memory → part_of_error error ≡ Some found → ⊥
memory_none error found is has = none_is_some found (sym (part_by error kind.Memory is) ∙ has)

-- so the partial result of an error is what the log spells
module _ {R : Type 0} (tells : ResultSpec R) (merges : MergesResults tells) (makes : MakesPartial tells) (before now : Moment) (models : List WriteModel) (options : BulkWriteOptions) (call : ℕ) (error : Error)
    (made : MadeBulk tells before now models options call (Err error)) (found : PartialBulkWriteResult) (has : part_of_error error ≡ Some found) where
  -- entries of models as they are sent are the caller's
  in_log : (log : List Entry) (one : IndexedEntry) → StandsFor (IsGivenModel models) call log one → IsInLog models call log one
  in_log log one stands = record {
    model = stands.given.given;
    given = stands.given.stands;
    of_model = record {
      place = stands.place;
      own = subst (λ w. IsOwn (model_written stands.given.given) w) (sym (stands.written ∙ ap model_written stands.given.is))
          (own_written stands.given.id stands.given.twelve stands.given.given);
    };
    has = stands.has;
  }

  part_logged : (log : List Entry) (limit : ℕ) → TellsPart tells (IsGivenModel models) call 0 limit log (Some found) → HasToldSome models call log found
  part_logged log limit part = record {
    indexed = part.indexed;
    rise = rise_alone 0 limit part.indexed part.rise;
    stand = λ one there. in_log log one (part.stand one there);
    told = part.told;
  }

  made_part : (pool pool_now : Pool) (run run_now : ServerRun) → before.store.pool ≡ Some pool → now.store.pool ≡ Some pool_now → server_run before.link ≡ Some run → server_run now.link ≡ Some run_now
      → MayWriteCall pool pool_now run call → HasToldSome models call run_now.server.log found
  made_part pool pool_now run run_now pool_is pool_now_is run_is run_now_is may = elim made.answers [
    | inl memory ↦ absurd (memory_none error found memory has)
    | inr answers ↦
        let drew = made_drew tells before now models options call (Err error) made in
        let log = run_now.server.log in
        let part = batches_part tells merges makes options call (IsGivenModel models) (EndsShort tells made.ends (Err error)) made.ends 0 made.own (good tells before now models options call (Err error) made) made.mid now
        status.None answers.standing pool pool_now run run_now (drew.pool ∙ pool_is) pool_now_is (ap (λ (m : Moment). server_run m.link) made.rest ∙ run_is) run_now_is may.between may.sound
        (λ earlier at write there stands of_call. absurd (may.new earlier at write there stands of_call)) (subst DrawnApartIn (sym pool_now_is) may.apart) made.batches answers.comes
        (tells_none tells (IsGivenModel models) call 0 0 log (omega arith)) in
        part_logged log part.0
        (subst (TellsPart tells (IsGivenModel models) call 0 part.0 log) (answer_part tells answers.standing error answers.answers ∙ has) part.1)
  ]

  part_where_told : PartialWhereTold models call found before.store.pool now.store.pool (server_run before.link) (server_run now.link)
  part_where_told = of_told before.store.pool now.store.pool (server_run before.link) (server_run now.link) refl refl refl refl
    where
      of_told : (pool pool_now : Option Pool) (run run_now : Option ServerRun) → before.store.pool ≡ pool → now.store.pool ≡ pool_now → server_run before.link ≡ run → server_run now.link ≡ run_now
          → PartialWhereTold models call found pool pool_now run run_now
      of_told (Some pool) (Some pool_now) (Some run) (Some run_now) pool_is pool_now_is run_is run_now_is = λ may. made_part pool pool_now run run_now pool_is pool_now_is run_is run_now_is may
      of_told None pool_now run run_now pool_is pool_now_is run_is run_now_is = tt
      of_told (Some pool) None run run_now pool_is pool_now_is run_is run_now_is = tt
      of_told (Some pool) (Some pool_now) None run_now pool_is pool_now_is run_is run_now_is = tt
      of_told (Some pool) (Some pool_now) (Some run) None pool_is pool_now_is run_is run_now_is = tt

-- input that is refused has no part
refused_none : (models : List WriteModel) (options : BulkWriteOptions) (why : ErrorKind) → BulkInputRefused models options why → part_in (failures_in why) ≡ None
refused_none models options (kind.BulkWrite failures) refused = absurd refused
refused_none models options _ refused = refl

unmade_none : (before now : Moment) (models : List WriteModel) (options : BulkWriteOptions) (error : Error) → UnmadeBulk before now models options error → part_of_error error ≡ None
unmade_none before now models options error unmade = elim unmade.prepares [
  | inl judged ↦ elim judged.1 [
    | inl memory ↦ part_by error kind.Memory memory.kind_is
    | inr input ↦ part_by error input.why input.is.kind_is ∙ refused_none models options input.why input.refused
  ]
  | inr short ↦ part_by error kind.Memory short.1.0
]

-- so it is of each error
module _ (before now : Moment) (models : List WriteModel) (call : ℕ) (error : Error)
    (logs : (found : PartialBulkWriteResult) → part_of_error error ≡ Some found → PartialWhereTold models call found before.store.pool now.store.pool (server_run before.link) (server_run now.link)) where
  by_part : (failures : BulkWriteError) → failures_in (kind_of error) ≡ Some failures → (part : Option PartialBulkWriteResult) → failures.partial_result ≡ part
      → IfSome part (λ found. PartialWhereTold models call found before.store.pool now.store.pool (server_run before.link) (server_run now.link))
  by_part failures is None none = tt
  by_part failures is (Some found) has = logs found (ap part_in is ∙ has)

  by_failures : (failures : Option BulkWriteError) → failures_in (kind_of error) ≡ failures → FailuresAreLogged before now models call failures
  by_failures None is = tt
  by_failures (Some failures) is = by_part failures is failures.partial_result refl

  err_logged : FailuresAreLogged before now models call (failures_in (kind_of error))
  err_logged = by_failures (failures_in (kind_of error)) refl

pub bulk_partly : {R : Type 0} (tells : ResultSpec R) → MergesResults tells → MakesPartial tells → (before now : Moment) (models : List WriteModel) (options : BulkWriteOptions) (call : ℕ) (result : Result R Error)
    → MakesBulk tells before now models options call result → ErrIsLogged before now models call result
bulk_partly tells merges makes before now models options call (Ok output) made = tt
bulk_partly tells merges makes before now models options call (Err error) made = err_logged before now models call error (λ found has. elim made [
  | inl unmade ↦ absurd (none_is_some found (sym (unmade_none before now models options error unmade) ∙ has))
  | inr done ↦ part_where_told tells merges makes before now models options call error done found has
])
