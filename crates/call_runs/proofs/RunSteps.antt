-- A run of calls over a told pool and a told server: each call keeps what holds of the calls before it.
use Rattle.std.proofs.Common.{◌≡◌, ℕ, ◌+◌, ◌<◌, arith, List, [], ◌∷◌, ◌++◌, length, refl, sym, ap, subst, ◌∙◌, inl, inr, length-append}
use Rattle.std.specs.Prelude.{Bool, true, false, Option, None, Some, Result, Ok, Err, slice_get}
use Rattle.std.specs.Result.{result_ok}
use Rattle.std.proofs.lemmas.List.{append-nil}
use Rattle.bson_lite.specs.declared.bson.Bson.{Bson}
use Rattle.bson_lite.specs.declared.document.Pair.{Pair}
use Rattle.bson_lite.specs.declared.namespace.Namespace.{Namespace}
use Rattle.driver_error.specs.declared.error.Error.{Error}
use Rattle.server_answers.specs.declared.results.InsertManyResult.{InsertManyResult}
use Rattle.server_answers.specs.declared.results.SummaryBulkWriteResult.{SummaryBulkWriteResult}
use Rattle.server_answers.specs.declared.results.VerboseBulkWriteResult.{VerboseBulkWriteResult}
use Rattle.bulk_outcomes.specs.BulkResults.{MergesResults, ResultSpec, summary_spec, verbose_spec}
use Rattle.bulk_outcomes.specs.lawful.Merging.{summary_merges, verbose_merges}
use Rattle.driver_options.specs.declared.models.WriteModel.{WriteModel}
use Rattle.driver_options.specs.declared.write_options.BulkWriteOptions.{BulkWriteOptions}
use Rattle.driver_options.specs.declared.write_options.InsertManyOptions.{InsertManyOptions}
use Rattle.driver_link.specs.declared.machine.Entry.{Entry}
use Rattle.driver_link.specs.declared.machine.PlacedWrite.{PlacedWrite}
use Rattle.driver_link.specs.declared.machine.Send.{Send}
use Rattle.driver_link.specs.declared.machine.Server.{Server}
use Rattle.driver_link.specs.declared.machine.Place.{Place}
use Rattle.driver_link.specs.Cases.{writes_of}
use Rattle.driver_link.specs.Exchange.{after_picks, empty_server}
use Rattle.driver_link.specs.Once.{Once}
use Rattle.driver_link.specs.Settled.{Has, IsFrom, IsSettled}
use Rattle.driver_link.specs.LinkState.{server_run}
use Rattle.driver_link.specs.ServerRun.{ServerRun}
use Rattle.driver_link.proofs.SettledExchanges.{after_settled, empty_orderly, empty_settled, entry_is_from}
use Rattle.driver_link.specs.Apart.{AllApart}
use Rattle.driver_session.specs.Pool.{Pool, empty_pool}
use Rattle.driver_session.proofs.PoolTells.{same_told}
use Rattle.driver_ops.specs.Targets.{in_collection}
use Rattle.bulk_ops.specs.BulkEntries.{TellsBulk}
use Rattle.driver_attempt.specs.Moment.{Moment}
use Rattle.driver_exec.specs.BetweenCalls.{Between, Sound}
use Rattle.driver_exec.proofs.InvariantSteps.Leaving.{Left, left_of}
use Rattle.many_actions.specs.ManyCalls.{MadeMany, MakesMany}
use Rattle.many_actions.specs.ManyEntries.{MayWriteCall}
use Rattle.driver_actions.specs.SingleEntries.{HasOwnEntry, MayWrite}
use Rattle.driver_actions.specs.Below.{AllBelow}
use Rattle.driver_actions.specs.SingleCalls.{Made, Makes, first_place}
use Rattle.many_actions.proofs.BatchesMade.{Advances}
use Rattle.many_actions.proofs.BatchWrites.{IsOfCall}
use Rattle.driver_actions.proofs.CallWrites.Entries.{entry_told, makes_entry, may_stand, new_place, placed_at}
use Rattle.driver_actions.proofs.CallWrites.WritesMade.{LeftBy, made_drew, made_left, made_own, unmade_drew_by}
use Rattle.driver_actions.proofs.CallMoves.{DrewIds}
use Rattle.driver_actions.proofs.CallSends.{mid_pool, mid_run, only_write}
use Rattle.many_actions.proofs.ManyMade.{IsGiven, made_advances, made_stands, unmade_drew}
use Rattle.bulk_actions.specs.BulkCalls.{MadeBulk, MakesBulk}
use Rattle.bulk_actions.proofs.BulkKept as bulk
use Rattle.bulk_actions.proofs.BulkKept.{IsGivenModel, own_model}
use Rattle.bulk_actions.proofs.BulkPlanned.{IsOfModel}
use Rattle.bulk_actions.proofs.BulkTold.{made_told}
use Rattle.call_runs.specs.CallMaking.{MakesBulkCall, MakesCall}
use Rattle.call_runs.specs.MainTheorem.{MainTheorem}
use Rattle.call_runs.specs.Standing.{AllOwn}
use Rattle.call_runs.proofs.SpelledAnswers.{Answered, answered_none, answered_more, answered_with, own_at}
use Rattle.call_runs.proofs.BulkInLog.{bulk_done, bulk_own, bulk_result}
use Rattle.call_runs.proofs.LogEntries.{mine_all}
use Rattle.call_runs.proofs.ManyInLog.{many_done, many_own, many_result}
use Rattle.driver_inputs.specs.declared.call.Answer.{Answer}
use Rattle.driver_inputs.specs.declared.call.Answer.TheVariants as answer
use Rattle.driver_inputs.specs.declared.call.Call.{Call}
use Rattle.driver_inputs.specs.declared.call.Call.TheVariants.{BulkWrite, InsertMany, Single}
use Rattle.driver_inputs.specs.declared.call.Outcome.{Outcome}
use Rattle.driver_inputs.specs.declared.call.SingleAnswer.{SingleAnswer}
use Rattle.driver_inputs.specs.declared.single_write.SingleWrite.{SingleWrite}
use Rattle.driver_inputs.specs.Calls.{Done, OwnAt, bulk_answer, call_result, write_at, written}
use Rattle.driver_inputs.specs.Forms.{WriteForm, asked_in, form_of}

-- what holds after a number of calls
pub record Ran (calls : List Call) (outcomes : List Outcome) (pool : Pool) (server : Server) : Type 0 where
  pub between : Between pool server.trace
  pub sound : Sound server
  pub below : AllBelow (length outcomes) server.trace
  pub own : AllOwn calls server.trace
  pub answered : Answered calls outcomes server.log

-- places below the calls that were made are so once one more was
below_later : (made : ℕ) (trace : List Send) → AllBelow made trace → AllBelow (made + 1) trace
below_later made trace below = λ send at write has stands. let before : write.place.call < made = below send at write has stands in omega arith

-- the number of calls, once one more was made
one_more : (outcomes : List Outcome) (last : Outcome) (trace : List Send) → AllBelow (length outcomes + 1) trace → AllBelow (length (outcomes ++ last ∷ [])) trace
one_more outcomes last trace below =
    let count : length outcomes + 1 ≡ length (outcomes ++ last ∷ []) = sym (length-append outcomes (last ∷ [])) in
    subst (λ n. AllBelow n trace) count below

-- one call between two moments of a told pool and a told server
module _ (calls : List Call) (outcomes : List Outcome) (before now : Moment) (pool pool_now : Pool) (run run_now : ServerRun) (pool_is : before.store.pool ≡ Some pool)
    (pool_now_is : now.store.pool ≡ Some pool_now) (run_is : server_run before.link ≡ Some run) (run_now_is : server_run now.link ≡ Some run_now) (last : Outcome)
    (apart : AllApart pool_now.drawn) (ran : Ran calls outcomes pool run.server) where
  -- a call that did not answer and sent nothing
  ran_same : result_ok last.result ≡ None → pool_now ≡ pool → run_now.server ≡ run.server → Ran calls (outcomes ++ last ∷ []) pool_now run_now.server
  ran_same none same_pool same =
      let P : Server → Type 0 = λ s. Ran calls (outcomes ++ last ∷ []) pool_now s in
      subst P (sym same) (record {
        between = subst (λ p. Between p run.server.trace) (sym same_pool) ran.between;
        sound = ran.sound;
        below = one_more outcomes last run.server.trace (below_later (length outcomes) run.server.trace ran.below);
        own = ran.own;
        answered =
            subst (λ log. Answered calls (outcomes ++ last ∷ []) log) (append-nil run.server.log)
            (answered_none calls outcomes run.server.log [] last none ran.answered);
      })

  module _ (write : SingleWrite) (at : slice_get calls (length outcomes) ≡ Some (Single write)) (result : Result SingleAnswer Error)
      (made : Made before now (form_of write) (first_place (length outcomes)) result) where
    abbrev form : WriteForm
    form = form_of write

    abbrev place : Place
    place = first_place (length outcomes)

    abbrev by_operation : LeftBy made.mid now (asked_in form place made.sent)
    by_operation = made_left form made

    -- the told pool before the write
    pool_here : made.mid.store.pool ≡ Some pool
    pool_here = mid_pool before made.mid pool (made_drew form made) pool_is

    -- the told server before it
    run_here : server_run made.mid.link ≡ Some run
    run_here = mid_run before made.mid (made_drew form made) ∙ run_is

    -- the write is the caller's own
    own_here : OwnAt (write_at calls place) made.sent
    own_here = own_at calls (length outcomes) write made.sent at (made_own form made)

    -- it may be made
    may_write : MayWrite pool pool_now run place
    may_write = record { between = ran.between; sound = ran.sound; new = new_place (length outcomes) run.server.trace ran.below; apart = apart }

    -- what its operation left
    left : Left false by_operation.session by_operation.number (asked_in form place made.sent) pool_now run.server run_now.server
    left =
        let sends = by_operation.sends in
        left_of false made.mid now pool pool_now run run_now pool_here pool_now_is run_here run_now_is (asked_in form place made.sent)
        (may_stand pool pool_now run form place made.sent may_write)
        by_operation.session by_operation.number sends.count by_operation.borrows sends.once sends.sends

    -- all that was sent is of the calls that were made
    below_now : AllBelow (length outcomes + 1) run_now.server.trace
    below_now = λ send at found has stands. elim (left.which send has) [
      | inl earlier ↦ below_later (length outcomes) run.server.trace ran.below send at found earlier stands
      | inr later ↦ elim later [
        | inl same ↦
            let only = only_write (placed_at place made.sent) at found (ap (λ s. slice_get (writes_of s) at) same ∙ stands) in
            let is : found.place.call ≡ length outcomes = ap (λ w. w.place.call) only.1 in omega arith
        | inr aside ↦ absurd aside
      ]
    ]

    -- all that was sent is the caller's own
    own_now : AllOwn calls run_now.server.trace
    own_now = λ send at found has stands. elim (left.which send has) [
      | inl earlier ↦ ran.own send at found earlier stands
      | inr later ↦ elim later [
        | inl same ↦
            let only = only_write (placed_at place made.sent) at found (ap (λ s. slice_get (writes_of s) at) same ∙ stands) in
            subst (λ w. OwnAt (write_at calls w.place) w.written) (sym only.1) own_here
        | inr aside ↦ absurd aside
      ]
    ]

    -- a call that did not answer
    ran_unanswered : result_ok last.result ≡ None → Ran calls (outcomes ++ last ∷ []) pool_now run_now.server
    ran_unanswered none = record {
      between = left.between;
      sound = left.sound;
      below = one_more outcomes last run_now.server.trace below_now;
      own = own_now;
      answered =
          subst (λ log. Answered calls (outcomes ++ last ∷ []) log) (sym left.log)
          (answered_none calls outcomes run.server.log left.more last none ran.answered);
    }

    -- a call that answered, whose entry stands
    ran_answered : (given : SingleAnswer) → result_ok last.result ≡ Some (answer.Single given)
        → HasOwnEntry (written write) place run_now.server.log given → Ran calls (outcomes ++ last ∷ []) pool_now run_now.server
    ran_answered given is stands = record {
      between = left.between;
      sound = left.sound;
      below = one_more outcomes last run_now.server.trace below_now;
      own = own_now;
      answered =
          subst (λ log. Answered calls (outcomes ++ last ∷ []) log) (sym left.log)
          (answered_more calls outcomes write run.server.log left.more stands.entry given last at
          (subst (λ log. Once log) left.log left.sound.settled.once) (subst (λ log. Has log stands.entry) left.log stands.has) stands.placed stands.tells is ran.answered);
    }

  -- a single write that failed
  ran_failed : (write : SingleWrite) (error : Error) → slice_get calls (length outcomes) ≡ Some (Single write)
      → Makes before now (form_of write) (first_place (length outcomes)) (Err error)
      → result_ok last.result ≡ None → Ran calls (outcomes ++ last ∷ []) pool_now run_now.server
  ran_failed write error at makes none = elim makes [
    | inl unmade ↦
        let unsent = unmade_drew_by (form_of write) before now error unmade.draws in
        let same_pool = same_told pool_now pool (sym pool_now_is ∙ mid_pool before now pool unsent pool_is) in
        let same = same_told run_now run (sym run_now_is ∙ mid_run before now unsent ∙ run_is) in
        ran_same none same_pool (ap (λ r. r.server) same)
    | inr made ↦ ran_unanswered write at (Err error) made none
  ]

  -- one that was done: its entry stands
  ran_done : (write : SingleWrite) (given : SingleAnswer) → slice_get calls (length outcomes) ≡ Some (Single write)
      → (made : Made before now (form_of write) (first_place (length outcomes)) (Ok given))
      → result_ok last.result ≡ Some (answer.Single given) → Ran calls (outcomes ++ last ∷ []) pool_now run_now.server
  ran_done write given at made is =
      ran_answered write at (Ok given) made given is
      (entry_told (first_place (length outcomes)) before.store.pool now.store.pool (server_run before.link) (server_run now.link) pool pool_now run run_now pool_is pool_now_is run_is run_now_is
      (written write) given (makes_entry before now (first_place (length outcomes)) (form_of write) (Ok given) made)
      (may_write write at (Ok given) made))

  -- writes of this call may be made
  may_call : MayWriteCall pool pool_now run (length outcomes)
  may_call = record {
    between = ran.between;
    sound = ran.sound;
    new = λ earlier found write has stands of_call. let below : write.place.call < length outcomes = ran.below earlier found write has stands in absurd (omega (arith, below, of_call));
    apart = apart;
  }

  -- a call that sent such writes, each the caller's own in a place of the call
  module _ (Is : PlacedWrite → Type 0) (went_on : Advances Is pool_now run run_now) (of_call : (write : PlacedWrite) → Is write → write.place.call ≡ length outcomes)
      (own : (write : PlacedWrite) → Is write → OwnAt (write_at calls write.place) write.written) where
    -- all that was sent is of the calls that were made
    sent_below : AllBelow (length outcomes + 1) run_now.server.trace
    sent_below = λ send found write has stands. elim (went_on.which send has) [
      | inl earlier ↦ below_later (length outcomes) run.server.trace ran.below send found write earlier stands
      | inr such ↦ let is : write.place.call ≡ length outcomes = of_call write (such found write stands) in omega (arith, is)
    ]

    -- and the caller's own
    sent_own : AllOwn calls run_now.server.trace
    sent_own = λ send found write has stands. elim (went_on.which send has) [
      | inl earlier ↦ ran.own send found write earlier stands
      | inr such ↦ own write (such found write stands)
    ]

    -- so all holds after it, where the log spells what it should
    ran_sent : Answered calls (outcomes ++ last ∷ []) (run.server.log ++ went_on.more) → Ran calls (outcomes ++ last ∷ []) pool_now run_now.server
    ran_sent answered = record {
      between = went_on.between;
      sound = went_on.sound;
      below = one_more outcomes last run_now.server.trace sent_below;
      own = sent_own;
      answered = subst (λ log. Answered calls (outcomes ++ last ∷ []) log) (sym went_on.log) answered;
    }

    -- where it did not answer
    ran_silent : result_ok last.result ≡ None → Ran calls (outcomes ++ last ∷ []) pool_now run_now.server
    ran_silent none = ran_sent (answered_none calls outcomes run.server.log went_on.more last none ran.answered)

    -- and where it is done, and the log spells its answer
    ran_spelled : (given : Answer) → Done calls (length outcomes) run_now.server.log → call_result calls (length outcomes) run_now.server.log ≡ Some given → result_ok last.result ≡ Some given
        → Ran calls (outcomes ++ last ∷ []) pool_now run_now.server
    ran_spelled given done spelled is =
        ran_sent (answered_with calls outcomes run.server.log went_on.more given last (subst (λ log. Done calls (length outcomes) log) went_on.log done)
        (subst (λ log. call_result calls (length outcomes) log ≡ Some given) went_on.log spelled) is ran.answered)

  -- a call in which ids alone were drawn
  ran_drew : DrewIds before now → result_ok last.result ≡ None → Ran calls (outcomes ++ last ∷ []) pool_now run_now.server
  ran_drew drew none =
      let same_pool = same_told pool_now pool (sym pool_now_is ∙ drew.pool ∙ pool_is) in
      let same = same_told run_now run (sym run_now_is ∙ ap (λ moment. server_run moment.link) drew.rest ∙ run_is) in
      ran_same none same_pool (ap (λ r. r.server) same)

  -- an insert of many documents
  module _ (namespace : Namespace) (documents : List (List (Pair Bson))) (options : InsertManyOptions) (at : slice_get calls (length outcomes) ≡ Some (InsertMany namespace documents options)) where
    -- what its writes are
    abbrev IsMany : PlacedWrite → Type 0
    IsMany = IsOfCall (IsGiven documents) namespace (length outcomes)

    -- one that was made
    many_went : (result : Result InsertManyResult Error) → MadeMany before now (in_collection namespace) documents options (length outcomes) result → Advances IsMany pool_now run run_now
    many_went result made = made_advances before now (in_collection namespace) documents options (length outcomes) result made pool pool_now run run_now pool_is pool_now_is run_is run_now_is may_call

    -- one that failed
    many_failed : (error : Error) → MakesMany before now (in_collection namespace) documents options (length outcomes) (Err error) → result_ok last.result ≡ None
        → Ran calls (outcomes ++ last ∷ []) pool_now run_now.server
    many_failed error makes none = elim makes [
      | inl unmade ↦ ran_drew (unmade_drew before now documents error unmade.draws) none
      | inr made ↦ ran_silent IsMany (many_went (Err error) made) (λ write such. such.of_call) (many_own calls (length outcomes) namespace documents options at) none
    ]

    -- one that was done: the entries of its documents stand
    many_answered : (output : InsertManyResult) → MadeMany before now (in_collection namespace) documents options (length outcomes) (Ok output) → result_ok last.result ≡ Some (answer.Many output)
        → Ran calls (outcomes ++ last ∷ []) pool_now run_now.server
    many_answered output made is =
        let on = many_went (Ok output) made in
        let stands = made_stands before now (in_collection namespace) documents options (length outcomes) (Ok output) made pool pool_now run run_now pool_is pool_now_is run_is run_now_is may_call in
        ran_spelled IsMany on (λ write such. such.of_call) (many_own calls (length outcomes) namespace documents options at) (answer.Many output)
        (many_done calls (length outcomes) namespace documents options at run_now.server.log output stands.0 stands.1)
        (many_result calls (length outcomes) namespace documents options at run_now.server.log output stands.0 stands.1 on.sound.settled.once) is

  -- a bulk write
  module _ (models : List WriteModel) (options : BulkWriteOptions) (verbose : Bool) (at : slice_get calls (length outcomes) ≡ Some (BulkWrite models options verbose)) where
    -- what its writes are
    abbrev IsBulk : PlacedWrite → Type 0
    IsBulk = IsOfModel (IsGivenModel models) (length outcomes)

    -- each is the caller's own
    own_here_bulk : (write : PlacedWrite) → IsBulk write → OwnAt (write_at calls write.place) write.written
    own_here_bulk write such = bulk_own calls (length outcomes) models options verbose at write (own_model models (length outcomes) write such)

    -- one that was made
    bulk_went : {R : Type 0} (tells : ResultSpec R) (result : Result R Error) → MadeBulk tells before now models options (length outcomes) result → Advances IsBulk pool_now run run_now
    bulk_went tells result made = bulk.made_advances tells before now models options (length outcomes) result made pool pool_now run run_now pool_is pool_now_is run_is run_now_is may_call

    -- one that failed
    bulk_failed : {R : Type 0} (tells : ResultSpec R) (error : Error) → MakesBulk tells before now models options (length outcomes) (Err error) → result_ok last.result ≡ None
        → Ran calls (outcomes ++ last ∷ []) pool_now run_now.server
    bulk_failed tells error makes none = elim makes [
      | inl unmade ↦ ran_drew (bulk.drew_by before now unmade.rest (bulk.unmade_ids before now models options error unmade.prepares)) none
      | inr made ↦ ran_silent IsBulk (bulk_went tells (Err error) made) (λ write such. such.of_call) own_here_bulk none
    ]

    -- one that was done: the entries of its models stand, and tell its answer
    bulk_answered : {R : Type 0} (tells : ResultSpec R) → MergesResults tells → (output : R) (given : Answer) → ((entries : List Entry) → TellsBulk tells 0 entries output → bulk_answer verbose entries ≡ given)
        → MadeBulk tells before now models options (length outcomes) (Ok output) → result_ok last.result ≡ Some given → Ran calls (outcomes ++ last ∷ []) pool_now run_now.server
    bulk_answered tells laws output given tells_given made is =
        let on = bulk_went tells (Ok output) made in
        let told = made_told tells laws before now models options (length outcomes) output made pool pool_now run run_now pool_is pool_now_is run_is run_now_is may_call in
        ran_spelled IsBulk on (λ write such. such.of_call) own_here_bulk given (bulk_done calls (length outcomes) models options verbose at tells run_now.server.log output told)
        (bulk_result calls (length outcomes) models options verbose at tells run_now.server.log output told on.sound.settled.once ∙ ap (λ (found : Answer). Some found) (tells_given told.entries told.told)) is

  -- by the results that it asks for
  ran_bulk : (models : List WriteModel) (options : BulkWriteOptions) (verbose : Bool) (result : Result Answer Error) → last.result ≡ result → slice_get calls (length outcomes) ≡ Some (BulkWrite models options verbose)
      → MakesBulkCall before now models options verbose (length outcomes) result → Ran calls (outcomes ++ last ∷ []) pool_now run_now.server
  ran_bulk models options true (Ok (answer.Verbose output)) is at makes =
      bulk_answered models options true at verbose_spec verbose_merges output (answer.Verbose output) (λ entries told. ap (λ (o : VerboseBulkWriteResult). answer.Verbose o) (sym told)) makes (ap result_ok is)
  ran_bulk models options true (Ok other) is at makes = absurd makes
  ran_bulk models options true (Err error) is at makes = bulk_failed models options true at verbose_spec error makes (ap result_ok is)
  ran_bulk models options false (Ok (answer.Summary output)) is at makes =
      bulk_answered models options false at summary_spec summary_merges output (answer.Summary output) (λ entries told. ap (λ (o : SummaryBulkWriteResult). answer.Summary o) (sym told)) makes (ap result_ok is)
  ran_bulk models options false (Ok other) is at makes = absurd makes
  ran_bulk models options false (Err error) is at makes = bulk_failed models options false at summary_spec error makes (ap result_ok is)

  -- one call more
  pub ran_more : (call : Call) (result : Result Answer Error) → last.result ≡ result → slice_get calls (length outcomes) ≡ Some call
      → MakesCall before now call (length outcomes) result → Ran calls (outcomes ++ last ∷ []) pool_now run_now.server
  ran_more (Single write) (Ok (answer.Single given)) is at makes = ran_done write given at makes (ap result_ok is)
  ran_more (Single write) (Ok other) is at makes = absurd makes
  ran_more (Single write) (Err error) is at makes = ran_failed write error at makes (ap result_ok is)
  ran_more (InsertMany namespace documents options) (Ok (answer.Many output)) is at makes = many_answered namespace documents options at output makes (ap result_ok is)
  ran_more (InsertMany namespace documents options) (Ok other) is at makes = absurd makes
  ran_more (InsertMany namespace documents options) (Err error) is at makes = many_failed namespace documents options at error makes (ap result_ok is)
  ran_more (BulkWrite models options verbose) result is at makes = ran_bulk models options verbose result is at makes

-- before the first call
pub ran_none : (calls : List Call) (pool : Pool) (server : Server) → pool ≡ empty_pool → server ≡ empty_server → Ran calls [] pool server
ran_none calls pool server new fresh =
    subst (λ p. Ran calls [] p server) (sym new) (subst (λ s. Ran calls [] empty_pool s) (sym fresh) (record {
      between = record { lent = refl; knows = record { strangers = λ id not send n has under. has; fits = tt } };
      sound = record { orderly = empty_orderly; settled = empty_settled };
      below = λ send at write has stands. absurd has;
      own = λ send at write has stands. absurd has;
      answered = record {
        done = λ call given is. absurd (let e : ◌≡◌ {A = Option Answer} None (Some given) = is in cc);
        result = λ call given is. absurd (let e : ◌≡◌ {A = Option Answer} None (Some given) = is in cc);
      };
    }))

-- an entry comes from the caller's own write
own_origin : (calls : List Call) (trace : List Send) (entry : Entry) → AllOwn calls trace → IsFrom trace entry → OwnAt (write_at calls entry.place) entry.written
own_origin calls trace entry own from =
    let here = own from.send from.at from.write from.sent from.stands in
    subst (λ e. OwnAt (write_at calls e.place) e.written) (sym from.is) here

-- after the last call
pub ran_holds : (calls : List Call) (outcomes : List Outcome) (pool : Pool) (server : Server) → length outcomes ≡ length calls
    → Ran calls outcomes pool server → MainTheorem calls outcomes server
ran_holds calls outcomes pool server count ran =
    let settled : (picks : List ℕ) → IsSettled server.trace (after_picks server picks)
    = λ picks. after_settled server.trace server picks ran.sound.orderly ran.sound.settled in
    record {
      one_each = count;
      once = λ picks. (settled picks).once;
      mine = λ picks. mine_all calls (after_picks server picks).log (λ entry has.
          own_origin calls server.trace entry ran.own (entry_is_from server.trace (after_picks server picks) (settled picks) entry has));
      done = ran.answered.done;
      result = ran.answered.result;
    }
