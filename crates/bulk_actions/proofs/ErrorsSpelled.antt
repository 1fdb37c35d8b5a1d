-- The write errors that an error of a bulk write lists are those that replies of the server spell, and it lists those of all batches.
use Rattle.std.proofs.Common.{◌≡◌, ℕ, ◌+◌, ◌<◌, ◌≤◌, true, List, [], ◌∷◌, ◌++◌, drop, length, length-append, take, refl, sym, ap, subst, ◌∙◌, append_assoc, inl, inr, arith}
use Rattle.std.specs.Prelude.{Option, None, Some, Result, Ok, Err}
use Rattle.std.specs.FinMap as finite
use Rattle.std.specs.Option.{option_map, option_or}
use Rattle.std.specs.Ordering.{nat_cmp}
use Rattle.bson_lite.specs.Unions.{union}
use Rattle.bson_lite.proofs.Uniting.{get-union}
use Rattle.driver_error.specs.declared.error.Error.{Error}
use Rattle.driver_error.specs.declared.kind.ErrorKind.TheVariants as kind
use Rattle.bulk_outcomes.specs.declared.status.ExecutionStatus.{ExecutionStatus}
use Rattle.bulk_outcomes.specs.declared.status.ExecutionStatus.TheVariants as status
use Rattle.driver_error.specs.declared.write.BulkWriteError.{BulkWriteError}
use Rattle.driver_error.specs.declared.write.WriteError.{WriteError}
use Rattle.driver_error.specs.BulkErrors.{failures_in}
use Rattle.bulk_outcomes.specs.BulkResults.{MergesResults, ResultSpec}
use Rattle.driver_error.specs.Error.{ErrorKind, kind_of}
use Rattle.bulk_outcomes.specs.PartialResults.{MakesPartial}
use Rattle.driver_options.specs.declared.models.WriteModel.{WriteModel}
use Rattle.driver_options.specs.declared.write_options.BulkWriteOptions.{BulkWriteOptions}
use Rattle.driver_link.specs.declared.machine.Send.{Send}
use Rattle.driver_link.specs.Apart.{AllApart}
use Rattle.driver_link.specs.Exchange.{empty_server, next_step, replayed}
use Rattle.driver_link.specs.LinkState.{server_run}
use Rattle.driver_link.specs.ServerRun.{ServerRun, run_after}
use Rattle.driver_link.specs.Settled.{Has}
use Rattle.driver_link.proofs.Lists.{none_is_some, some_is_some}
use Rattle.driver_link.proofs.Replays.{exchanged_trace}
use Rattle.driver_session.specs.Pool.{Pool}
use Rattle.driver_session.specs.StoreTells.{DrawnApart, DrawnApartIn}
use Rattle.driver_ops.specs.Operations.{send_of}
use Rattle.driver_ops.specs.Served.{statements_in}
use Rattle.bulk_fronts.specs.declared.own_op.OwnOp.{OwnOp}
use Rattle.bulk_fronts.specs.BulkOps.{model_writes}
use Rattle.bulk_ops.specs.BulkSpec.{admin_target, batch_read, bulk_spec}
use Rattle.bulk_ops.specs.lawful.ToldResults.{models_written}
use Rattle.bulk_ops.proofs.FailedErrors.{error_told}
use Rattle.driver_attempt.specs.Moment.{Moment}
use Rattle.driver_exec.specs.BetweenCalls.{Between, Sound}
use Rattle.driver_exec.specs.Reporting.{IsToldBy}
use Rattle.driver_exec.specs.Resending.{IsReadFailure}
use Rattle.driver_exec.proofs.PassesBy.{gives_leave}
use Rattle.many_actions.specs.BatchPlans.{MakesAllPlanned, MakesPlanned, PlannedEnd, places_from}
use Rattle.driver_actions.specs.CallParts.{IsReplayedWhereTold, KeepsMakingWhereTold}
use Rattle.many_actions.specs.ManyEntries.{MayWriteCall}
use Rattle.driver_actions.proofs.MovesBeside.{AnySend, GainsOwn, any_went, went_aside, went_twice}
use Rattle.many_actions.proofs.PlannedBatches as planned
use Rattle.many_actions.proofs.PlannedBatches.{IsNewFrom, fixed_or_one, mid_told, next_new, place_in}
use Rattle.bulk_actions.specs.BulkBatches.{ComesTo, StandsBehind, Takes, bulk_plan}
use Rattle.bulk_actions.specs.BulkCalls.{AnswersStanding, EndsShort, MadeBulk}
use Rattle.bulk_actions.specs.ErrorsTold.{ErrTellsTruly, IsErrorSpelled, TellsErrors, TellsErrorsWhereTold, write_errors_in, write_errors_of}
use Rattle.bulk_actions.proofs.BulkKept.{IsGivenModel, good, made_drew}
use Rattle.bulk_actions.proofs.BulkPlanned.{GoodModels, IsOfModel, bulk_body, bulk_planned, bulk_stands}
use Rattle.bulk_actions.proofs.ErrorsTaken.{AreBoth, Errors, listed_of_came, listed_of_error, listed_of_status, taken_joined}
use Rattle.bulk_actions.proofs.FailedBatches.{error_tells, reported}
use Rattle.bulk_actions.proofs.PartlyMerged.{union_either}
use Rattle.bulk_actions.proofs.PartsTaken.{refused_failures}

-- ---- two maps
-- at an index of the later one its value is found
union_later : (m n : Errors) (q : ℕ) (e : WriteError) → finite.get n q ≡ Some e → finite.get (union m n) q ≡ Some e
union_later m n q e is = get-union m n q ∙ ap (λ (found : Option WriteError). option_or found (finite.get m q)) is

-- at another one that of the earlier one
union_earlier : (m n : Errors) (q : ℕ) (e : WriteError) → ((x : WriteError) → finite.get n q ≡ Some x → ⊥) → finite.get m q ≡ Some e → finite.get (union m n) q ≡ Some e
union_earlier m n q e none is = by_later (finite.get n q) refl
  where
    by_later : (found : Option WriteError) → finite.get n q ≡ found → finite.get (union m n) q ≡ Some e
    by_later None at = get-union m n q ∙ ap (λ (f : Option WriteError). option_or f (finite.get m q)) at ∙ is
    by_later (Some x) at = absurd (none x at)

-- a server that is what its sends made of it
abbrev IsFolded : ServerRun → Type 0
IsFolded run = run.server ≡ replayed run.schedule empty_server run.server.trace

-- a write error that is spelled, from an index on and below a limit
record IsOwnError (call : ℕ) (start run_now : ServerRun) (from limit q : ℕ) (e : WriteError) : Type 0 where
  above : from ≤ q
  below : q < limit
  spelled : IsErrorSpelled call start run_now q e

-- what is spelled stays so after further sends
spelled_longer : (call : ℕ) (start run last : ServerRun) (q : ℕ) (e : WriteError) (more : List Send) → last.server.trace ≡ run.server.trace ++ more → last.schedule ≡ run.schedule → IsErrorSpelled call start run q e
    → IsErrorSpelled call start last q e
spelled_longer call start run last q e more gained same spelled = record {
  server = spelled.server;
  send = spelled.send;
  later = spelled.later ++ more;
  sent = gained ∙ ap (λ t. t ++ more) spelled.sent ∙ append_assoc spelled.server.trace (spelled.send ∷ spelled.later) more;
  since = spelled.since;
  folds = λ begun. subst (λ s. spelled.server ≡ replayed s empty_server spelled.server.trace) (sym same) (spelled.folds begun);
  done = spelled.done;
  told = subst (λ s. statements_in spelled.server spelled.send (next_step s spelled.server) ≡ Some spelled.done) (sym same) spelled.told;
  at = spelled.at;
  write = spelled.write;
  code = spelled.code;
  in_writes = spelled.in_writes;
  in_done = spelled.in_done;
  place = spelled.place;
  is = spelled.is;
}

-- ---- the batches
module _ {R : Type 0} (tells : ResultSpec R) (merges : MergesResults tells) (makes : MakesPartial tells) (options : BulkWriteOptions) (call : ℕ) (G : ℕ → WriteModel → Type 0) (start : ServerRun) where
  -- one that was read
  module _ (index : ℕ) (own : List OwnOp) (goods : GoodModels G index own) (count : ℕ) (run run_now : ServerRun) (folds : IsFolded start → IsFolded run) (since : length start.server.trace ≤ length run.server.trace) where
    one_spelled : (error : Error) (told : IsToldBy (bulk_spec tells admin_target index own options) count (bulk_body tells options call G index own goods count) run run_now error) (failures : BulkWriteError)
        → kind_of error ≡ kind.BulkWrite failures → (q : ℕ) (e : WriteError) → finite.get failures.write_errors q ≡ Some e → IsOwnError call start run_now index (index + count) q e
    one_spelled error told failures kind_is q e has =
        let spec = bulk_spec tells admin_target index own options in
        let mid = told.among.mid in
        let send = send_of told.context (bulk_body tells options call G index own goods count) in
        let of = error_told (batch_read tells index own options count) told.context.session told.context.number
        (model_writes (take count goods.models) (take count (places_from call index (length own)))) (models_written count goods.models own (places_from call index (length own)) goods.are) told.done error
        (error_tells tells merges makes options call G index own goods count run run_now error told failures kind_is) failures kind_is q e has in
        let here = bulk_stands tells options call G index own goods count of.at of.write of.in_writes in
        let before_it = any_went true run send told.earlier mid told.among.sent in
        let leaves = gives_leave spec count told.bytes told.context.session (run_after mid send) told.among.behind told.pages told.among.gives in
        let behind_it = went_twice AnySend (run_after mid send) told.among.behind run_now (went_aside AnySend (λ s aside. tt) (run_after mid send) told.among.behind leaves.sends leaves.passes)
        (any_went true told.among.behind send told.later run_now told.among.rest) in
        let trace : (run_after mid send).server.trace ≡ mid.server.trace ++ send ∷ [] = exchanged_trace mid.server send (next_step mid.schedule mid.server) in
        let same = behind_it.schedule in
        let at_is = of.index_is in
        let below = here.below in
        record {
          above = omega (arith, at_is);
          below = omega (arith, at_is, below);
          spelled = record {
            server = mid.server;
            send = send;
            later = behind_it.sends;
            sent = behind_it.trace ∙ ap (λ t. t ++ behind_it.sends) trace ∙ append_assoc mid.server.trace (send ∷ []) behind_it.sends;
            since = omega (arith, since, ap (λ (t : List Send). length t) before_it.trace, length-append run.server.trace before_it.sends);
            folds = λ at_start. subst (λ s. mid.server ≡ replayed s empty_server mid.server.trace) (sym (same ∙ before_it.schedule)) (before_it.folds (folds at_start));
            done = told.done;
            told = subst (λ s. statements_in mid.server send (next_step s mid.server) ≡ Some told.done) (sym same) told.told;
            at = of.at;
            write = of.write;
            code = of.code;
            in_writes = of.in_writes;
            in_done = of.in_done;
            place = here.place_is ∙ ap (λ n. place_in call n) (sym at_is);
            is = of.is;
          };
        }

  -- one whose pool and server are told, before which all stands
  module _ (index : ℕ) (own : List OwnOp) (goods : GoodModels G index own) (before now : Moment) (end : PlannedEnd R) (made : MakesPlanned (bulk_plan tells options) call index own before now end) (pool pool_now : Pool)
      (run run_now : ServerRun) (pool_is : before.store.pool ≡ Some pool) (pool_now_is : now.store.pool ≡ Some pool_now) (run_is : server_run before.link ≡ Some run) (run_now_is : server_run now.link ≡ Some run_now)
      (between : Between pool run.server.trace) (sound : Sound run.server) (new : IsNewFrom run.server.trace call index) (apart : AllApart pool_now.drawn) (folds : IsFolded start → IsFolded run)
      (since : length start.server.trace ≤ length run.server.trace) where
    abbrev Own : ℕ → WriteError → Type 0
    Own q e = IsOwnError call start run_now index (index + fixed_or_one end.statements) q e

    by_kind : (error : Error) → end.result ≡ Err error → (why : ErrorKind) → kind_of error ≡ why → (q : ℕ) (e : WriteError) → finite.get (write_errors_in (failures_in why)) q ≡ Some e → Own q e
    by_kind error is (kind.BulkWrite failures) kind_is q e has =
        one_spelled index own goods (fixed_or_one end.statements) run run_now folds since error
        (reported tells merges makes options call G index own goods before now end made pool pool_now run run_now pool_is pool_now_is run_is run_now_is between sound new apart error is
        (subst IsReadFailure (sym kind_is) tt)) failures kind_is q e has
    by_kind error is _ kind_is q e has = absurd (none_is_some e (sym (finite.get-empty nat_cmp q) ∙ has))

    by_result : (result : Result R Error) → end.result ≡ result → (q : ℕ) (e : WriteError) → finite.get (write_errors_of result) q ≡ Some e → Own q e
    by_result (Ok output) is q e has = absurd (none_is_some e (sym (finite.get-empty nat_cmp q) ∙ has))
    by_result (Err error) is q e has = by_kind error is (kind_of error) refl q e has

    batch_own : (q : ℕ) (e : WriteError) → finite.get (write_errors_of end.result) q ≡ Some e → Own q e
    batch_own q e has = by_result end.result refl q e has

  -- what is listed before an index is spelled
  abbrev Earlier : ServerRun → ℕ → ExecutionStatus R → Type 0
  Earlier run_now index standing =
      (m : Errors) → listed_of_status standing ≡ Some m → (q : ℕ) (e : WriteError) → finite.get m q ≡ Some e → (q < index) × IsErrorSpelled call start run_now q e

  -- what batches list in the end, behind what stood
  record Lists (run_now : ServerRun) (standing : ExecutionStatus R) (ends : List (PlannedEnd R)) (all : Errors) : Type 0 where
    earlier : Errors
    earlier_is : listed_of_status standing ≡ Some earlier
    keeps : (q : ℕ) (e : WriteError) → finite.get earlier q ≡ Some e → finite.get all q ≡ Some e
    spelled : (q : ℕ) (e : WriteError) → finite.get all q ≡ Some e → IsErrorSpelled call start run_now q e
    listed : (end : PlannedEnd R) (q : ℕ) (e : WriteError) → Has ends end → finite.get (write_errors_of end.result) q ≡ Some e → finite.get all q ≡ Some e

  -- behind no batch what stood
  lists_none : (run_now : ServerRun) (index : ℕ) (standing : ExecutionStatus R) (all : Errors) → Earlier run_now index standing → listed_of_status standing ≡ Some all → Lists run_now standing [] all
  lists_none run_now index standing all before is = record {
    earlier = all;
    earlier_is = is;
    keeps = λ q e has. has;
    spelled = λ q e has. (before all is q e has).1;
    listed = λ end q e has at. absurd has;
  }

  -- one batch and those behind it
  module _ (run_now : ServerRun) (index limit : ℕ) (within : index ≤ limit) (standing : ExecutionStatus R) (end : PlannedEnd R) (ends : List (PlannedEnd R)) (all : Errors) (before : Earlier run_now index standing)
      (own : (q : ℕ) (e : WriteError) → finite.get (write_errors_of end.result) q ≡ Some e → IsOwnError call start run_now index limit q e) where
    -- what stands behind it lists what is spelled
    earlier_on : (s : ExecutionStatus R) → Takes tells standing end.result (Ok s) → Earlier run_now limit s
    earlier_on s takes = λ m is q e has. elim (taken_joined tells standing end.result s takes) [
      | inl none ↦ absurd (none_is_some m (sym none ∙ is))
      | inr both ↦
          let same : union both.earlier (write_errors_of end.result) ≡ m = some_is_some (union both.earlier (write_errors_of end.result)) m (sym both.now_is ∙ is) in
          elim (union_either both.earlier (write_errors_of end.result) q e (subst (λ (x : Errors). finite.get x q ≡ Some e) (sym same) has)) [
            | inl later ↦ let mine = own q e later in (mine.below, mine.spelled)
            | inr there ↦ let found = before both.earlier both.earlier_is q e there in let less = found.0 in (omega (arith, less, within), found.1)
          ]
    ]

    -- what those behind it list, is listed behind it
    lists_both : (s : ExecutionStatus R) → AreBoth (listed_of_status standing) (write_errors_of end.result) (listed_of_status s) → Lists run_now s ends all → Lists run_now standing (end ∷ ends) all
    lists_both s both rest =
        let same : union both.earlier (write_errors_of end.result) ≡ rest.earlier = some_is_some (union both.earlier (write_errors_of end.result)) rest.earlier (sym both.now_is ∙ rest.earlier_is) in
        let on : (q : ℕ) (e : WriteError) → finite.get (union both.earlier (write_errors_of end.result)) q ≡ Some e → finite.get all q ≡ Some e
        = λ q e has. rest.keeps q e (subst (λ (x : Errors). finite.get x q ≡ Some e) same has) in
        record {
          earlier = both.earlier;
          earlier_is = both.earlier_is;
          keeps = λ q e has. on q e (union_earlier both.earlier (write_errors_of end.result) q e
              (λ x at. let above = (own q x at).above in let less = (before both.earlier both.earlier_is q e has).0 in absurd (omega (arith, above, less))) has);
          spelled = rest.spelled;
          listed = λ other q e has at. elim has [
            | inl here ↦ on q e (union_later both.earlier (write_errors_of end.result) q e (subst (λ (o : PlannedEnd R). finite.get (write_errors_of o.result) q ≡ Some e) (sym here) at))
            | inr later ↦ rest.listed other q e later at
          ];
        }

    lists_more : (s : ExecutionStatus R) → Takes tells standing end.result (Ok s) → Lists run_now s ends all → Lists run_now standing (end ∷ ends) all
    lists_more s takes rest = elim (taken_joined tells standing end.result s takes) [
      | inl none ↦ absurd (none_is_some rest.earlier (sym none ∙ rest.earlier_is))
      | inr both ↦ lists_both s both rest
    ]

    -- whatever stands behind it
    step_lists : (came : Result (ExecutionStatus R) Error) → listed_of_came came ≡ Some all → (Rest : ExecutionStatus R → Type 0) → ((s : ExecutionStatus R) → Earlier run_now limit s → Rest s → Lists run_now s ends all)
        → (now : Result (ExecutionStatus R) Error) → Takes tells standing end.result now → StandsBehind Rest ends now came → Lists run_now standing (end ∷ ends) all
    step_lists came is Rest rest (Ok s) takes behind = lists_more s takes (rest s (earlier_on s takes) behind)
    step_lists came is Rest rest (Err refused) takes behind =
        absurd (none_is_some all (sym (ap listed_of_came behind.1 ∙ ap listed_none (refused_failures tells merges standing end.result refused takes)) ∙ is))
      where
        listed_none : Option BulkWriteError → Option Errors
        listed_none found = option_map (λ (failures : BulkWriteError). failures.write_errors) found

  -- behind the last one
  lists_last : (run_now : ServerRun) (limit : ℕ) (ends : List (PlannedEnd R)) (came : Result (ExecutionStatus R) Error) (all : Errors) (s : ExecutionStatus R) → ends ≡ [] → listed_of_came came ≡ Some all
      → Earlier run_now limit s → ComesTo tells s ends came → Lists run_now s ends all
  lists_last run_now limit ends came all s none is before comes =
      let came_is : came ≡ Ok s = subst (λ (e : List (PlannedEnd R)). ComesTo tells s e came) none comes in
      subst (λ (e : List (PlannedEnd R)). Lists run_now s e all) (sym none) (lists_none run_now limit s all before (sym (ap listed_of_came came_is) ∙ is))

  -- all of them
  batches_list : (short : Type 0) (ends : List (PlannedEnd R)) (index : ℕ) (own : List OwnOp) (goods : GoodModels G index own) (before now : Moment) (standing : ExecutionStatus R) (came : Result (ExecutionStatus R) Error) (all : Errors)
      → (pool pool_now : Pool) (run run_now : ServerRun) → before.store.pool ≡ Some pool → now.store.pool ≡ Some pool_now → server_run before.link ≡ Some run → server_run now.link ≡ Some run_now
      → Between pool run.server.trace → Sound run.server → IsNewFrom run.server.trace call index → DrawnApart now.store → (IsFolded start → IsFolded run) → length start.server.trace ≤ length run.server.trace
      → MakesAllPlanned short (bulk_plan tells options) call index own ends before now → ComesTo tells standing ends came → listed_of_came came ≡ Some all → Earlier run_now index standing
      → Lists run_now standing ends all
  batches_list short [] index own goods before now standing came all pool pool_now run run_now pool_is pool_now_is run_is run_now_is between sound new apart folds since made comes is earlier =
      lists_last run_now index [] came all standing refl is earlier comes
  batches_list short (end ∷ ends) index own goods before now standing came all pool pool_now run run_now pool_is pool_now_is run_is run_now_is between sound new apart folds since made comes is earlier =
      let mid = made.0 in
      let batch = made.1.0 in
      let plan = bulk_plan tells options in
      let Is = IsOfModel G call in
      let laws_planned = bulk_planned tells options call G in
      let limit = index + fixed_or_one end.statements in
      elim made.1.1 [
        | inl on ↦
            let n = on.statements in
            let good_on = laws_planned.good_rest index n own goods in
            let moves = planned.batch_moves true plan call (GoodModels G) Is laws_planned index own goods before mid end batch in
            let later = planned.batches_move true plan call (GoodModels G) Is laws_planned short ends (index + n) (drop n own) good_on mid now on.rest in
            let told = mid_told true 1 (length (drop n own)) call before mid now moves later pool run pool_is run_is apart in
            let one = planned.batch_advances true plan call (GoodModels G) Is laws_planned index own goods before mid end batch pool told.pool run told.run pool_is told.pool_is run_is told.run_is between sound new told.apart in
            let new_on = next_new call index told.run.server.trace end.statements n on.told
            (planned.new_behind true plan call (GoodModels G) Is laws_planned index own goods before mid end batch pool told.pool run told.run pool_is told.pool_is run_is told.run_is between sound new told.apart) in
            let folds_on : IsFolded run → IsFolded told.run
            = subst (λ r. IsFolded run → IsReplayedWhereTold r) told.run_is (subst (λ r. IsReplayedWhereTold r → IsReplayedWhereTold (server_run mid.link)) run_is moves.replayed) in
            let first_gains : GainsOwn true call (Some run) (Some told.run)
            = subst (λ r. GainsOwn true call r (Some told.run)) run_is (subst (λ r. GainsOwn true call (server_run before.link) r) told.run_is moves.gains) in
            let later_gains : GainsOwn true call (Some told.run) (Some run_now)
            = subst (λ r. GainsOwn true call r (Some run_now)) told.run_is (subst (λ r. GainsOwn true call (server_run mid.link) r) run_now_is later.gains) in
            let making : KeepsMakingWhereTold (Some told.run) (Some run_now)
            = subst (λ r. KeepsMakingWhereTold r (Some run_now)) told.run_is (subst (λ r. KeepsMakingWhereTold (server_run mid.link) r) run_now_is later.making) in
            let since_on : length start.server.trace ≤ length told.run.server.trace
            = omega (arith, since, ap (λ (t : List Send). length t) first_gains.trace, length-append run.server.trace first_gains.sends) in
            let limit_is : limit ≡ index + n = ap (λ (k : ℕ). index + k) (ap fixed_or_one on.told) in
            let mine = batch_own index own goods before mid end batch pool told.pool run told.run pool_is told.pool_is run_is told.run_is between sound new told.apart folds since in
            let mine_now : (q : ℕ) (e : WriteError) → finite.get (write_errors_of end.result) q ≡ Some e → IsOwnError call start run_now index limit q e
            = λ q e has. let here = mine q e has in
            record { above = here.above; below = here.below; spelled = spelled_longer call start told.run run_now q e later_gains.sends later_gains.trace making.1 here.spelled } in
            step_lists run_now index limit (omega arith) standing end ends all earlier mine_now came is (λ s. ComesTo tells s ends came)
            (λ s behind comes_on. batches_list short ends (index + n) (drop n own) good_on mid now s came all told.pool pool_now told.run run_now told.pool_is pool_now_is told.run_is run_now_is
            one.between one.sound new_on apart (λ begun. folds_on (folds begun)) since_on on.rest comes_on is (subst (λ (k : ℕ). Earlier run_now k s) limit_is behind))
            comes.0 comes.1.0 comes.1.1
        | inr stops ↦
            let pool_mid : mid.store.pool ≡ Some pool_now = ap (λ (m : Moment). m.store.pool) (sym stops.same) ∙ pool_now_is in
            let run_mid : server_run mid.link ≡ Some run_now = ap (λ (m : Moment). server_run m.link) (sym stops.same) ∙ run_now_is in
            let mine = batch_own index own goods before mid end batch pool pool_now run run_now pool_is pool_mid run_is run_mid between sound new (subst DrawnApartIn pool_now_is apart) folds since in
            step_lists run_now index limit (omega arith) standing end ends all earlier mine came is (λ s. ComesTo tells s ends came)
            (λ s behind comes_on. lists_last run_now limit ends came all s stops.none is behind comes_on)
            comes.0 comes.1.0 comes.1.1
      ]

-- ---- the answer
-- an answer lists what stands behind the batches
answer_lists : {R : Type 0} (came : Result (ExecutionStatus R) Error) (error : Error) → AnswersStanding came (Err error) → listed_of_came came ≡ listed_of_error error
answer_lists {R} (Ok (status.Success found)) error answers = absurd (let e : ◌≡◌ {A = Result R Error} (Err error) (Ok found) = answers in cc)
answer_lists {R} (Ok (status.Error standing)) error answers = let is : standing ≡ error = let e : ◌≡◌ {A = Result R Error} (Err error) (Err standing) = answers in cc in ap listed_of_error is
answer_lists (Ok status.None) error answers = absurd answers
answer_lists {R} (Err refused) error answers = let is : refused ≡ error = let e : ◌≡◌ {A = Result R Error} (Err error) (Err refused) = answers in cc in ap listed_of_error is

-- want of memory lists none
not_memory : (failures : BulkWriteError) (why : ErrorKind) → why ≡ kind.BulkWrite failures → why ≡ kind.Memory → ⊥
not_memory failures why is memory = let e : ◌≡◌ {A = ErrorKind} (kind.BulkWrite failures) kind.Memory = sym is ∙ memory in cc

module _ {R : Type 0} (tells : ResultSpec R) (merges : MergesResults tells) (makes : MakesPartial tells) (before now : Moment) (models : List WriteModel) (options : BulkWriteOptions) (call : ℕ) (error : Error)
    (made : MadeBulk tells before now models options call (Err error)) (failures : BulkWriteError) (kind_is : kind_of error ≡ kind.BulkWrite failures) where
  made_lists : (pool pool_now : Pool) (run run_now : ServerRun) → before.store.pool ≡ Some pool → now.store.pool ≡ Some pool_now → server_run before.link ≡ Some run → server_run now.link ≡ Some run_now
      → MayWriteCall pool pool_now run call → TellsErrors call run run_now made.ends failures.write_errors
  made_lists pool pool_now run run_now pool_is pool_now_is run_is run_now_is may = elim made.answers [
    | inl memory ↦ absurd (not_memory failures (kind_of error) kind_is memory)
    | inr answers ↦
        let drew = made_drew tells before now models options call (Err error) made in
        let listed_is : listed_of_came answers.standing ≡ Some failures.write_errors
        = answer_lists answers.standing error answers.answers ∙ ap (λ (k : ErrorKind). option_map (λ (f : BulkWriteError). f.write_errors) (failures_in k)) kind_is in
        let lists = batches_list tells merges makes options call (IsGivenModel models) run (EndsShort tells made.ends (Err error)) made.ends 0 made.own (good tells before now models options call (Err error) made) made.mid now
        status.None answers.standing failures.write_errors pool pool_now run run_now (drew.pool ∙ pool_is) pool_now_is (ap (λ (m : Moment). server_run m.link) made.rest ∙ run_is) run_now_is may.between may.sound
        (λ earlier at write there stands of_call. absurd (may.new earlier at write there stands of_call)) (subst DrawnApartIn (sym pool_now_is) may.apart) (λ begun. begun) (omega arith) made.batches answers.comes
        listed_is (λ m is q e has. absurd (none_is_some e (sym (finite.get-empty nat_cmp q) ∙ ap (λ (x : Errors). finite.get x q) (some_is_some finite.empty m is) ∙ has))) in
        record { spelled = lists.spelled; all = lists.listed }
  ]

  tells_told : TellsErrorsWhereTold call before.store.pool now.store.pool (server_run before.link) (server_run now.link) made.ends failures.write_errors
  tells_told = of_told before.store.pool now.store.pool (server_run before.link) (server_run now.link) refl refl refl refl
    where
      of_told : (pool pool_now : Option Pool) (run run_now : Option ServerRun) → before.store.pool ≡ pool → now.store.pool ≡ pool_now → server_run before.link ≡ run → server_run now.link ≡ run_now
          → TellsErrorsWhereTold call pool pool_now run run_now made.ends failures.write_errors
      of_told (Some pool) (Some pool_now) (Some run) (Some run_now) pool_is pool_now_is run_is run_now_is = λ may. made_lists pool pool_now run run_now pool_is pool_now_is run_is run_now_is may
      of_told None pool_now run run_now pool_is pool_now_is run_is run_now_is = tt
      of_told (Some pool) None run run_now pool_is pool_now_is run_is run_now_is = tt
      of_told (Some pool) (Some pool_now) None run_now pool_is pool_now_is run_is run_now_is = tt
      of_told (Some pool) (Some pool_now) (Some run) None pool_is pool_now_is run_is run_now_is = tt

-- so what an error lists is told, however the call was made
pub bulk_errors : {R : Type 0} (tells : ResultSpec R) → MergesResults tells → MakesPartial tells → (before now : Moment) (models : List WriteModel) (options : BulkWriteOptions) (call : ℕ) (result : Result R Error)
    → ErrTellsTruly tells before now models options call result
bulk_errors tells merges makes before now models options call (Ok output) = tt
bulk_errors tells merges makes before now models options call (Err error) = λ made failures kind_is. tells_told tells merges makes before now models options call error made failures kind_is
