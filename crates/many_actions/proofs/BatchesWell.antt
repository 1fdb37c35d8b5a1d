-- Each batch of a valid insert of many documents whose part of the schedule is gentle ends well.
use Rattle.std.proofs.Common.{◌≡◌, ℕ, ◌+◌, ◌≤◌, List, [], ◌∷◌, ◌++◌, drop, length, refl, sym, ap, subst, ◌∙◌, inl, inr, arith}
use Rattle.std.specs.Prelude.{ℤ, pos, ◌+ℤ◌, ◌<ℤ◌, ◌≤ℤ◌, false, Option, None, Some, ◌⊎◌}
use Rattle.std.proofs.lemmas.Int.{ints}
use Rattle.std.proofs.lemmas.List.{append-nil}
use Rattle.bson_lite.specs.declared.bson.Bson.{Bson}
use Rattle.bson_lite.specs.declared.document.Pair.{Pair}
use Rattle.bson_lite.specs.declared.fault.EncodeFault.{EncodeFault}
use Rattle.bson_lite.specs.Spelling.{refusal}
use Rattle.server_answers.specs.declared.results.InsertManyResult.{InsertManyResult}
use Rattle.driver_options.specs.declared.options.ClientOptions.{ClientOptions}
use Rattle.driver_options.specs.declared.write_options.InsertManyOptions.{InsertManyOptions}
use Rattle.driver_link.specs.declared.machine.Scheduled.{Scheduled}
use Rattle.driver_link.specs.declared.machine.Send.{Send}
use Rattle.driver_link.specs.declared.machine.SendBody.{SendBody}
use Rattle.driver_link.specs.declared.machine.Server.{Server}
use Rattle.driver_link.specs.declared.machine.Setup.{Setup}
use Rattle.driver_link.specs.Exchange.{exchanged, next_step}
use Rattle.driver_link.specs.LinkState.{server_run, setup_of}
use Rattle.driver_link.specs.Retried.{IsNewNumber}
use Rattle.driver_link.specs.ServerRun.{ServerRun, run_after}
use Rattle.driver_link.specs.Settled.{IsPlain, IsUnnumbered}
use Rattle.driver_link.proofs.ToldSetups.{served_setup}
use Rattle.driver_session.specs.Pool.{Pool}
use Rattle.driver_session.specs.Session.{Session, last_number}
use Rattle.driver_session.specs.StoreTells.{DrawnApart, DrawnApartIn, LendsSession, StoreTells}
use Rattle.driver_session.proofs.PoolTells.{lends_told, same_told}
use Rattle.driver_ops.specs.declared.command.Command.{Command}
use Rattle.driver_ops.specs.declared.target.OperationTarget.{OperationTarget}
use Rattle.driver_ops.specs.Fields.{IsSixteen, SendContext, executor_fields, under}
use Rattle.driver_ops.specs.Inserts.{insert_command}
use Rattle.driver_ops.specs.Operations.{HasNoSpelling, OperationSpec, send_of}
use Rattle.driver_ops.specs.SendKinds.{first}
use Rattle.driver_ops.specs.Targets.{namespace_of}
use Rattle.write_ops.specs.declared.own_document.OwnDocument.{OwnDocument}
use Rattle.write_ops.specs.InsertLawful.{insert_lawful}
use Rattle.write_ops.specs.InsertSpec.{AreOwn, insert_spec, own_of_insert, statements_fixed}
use Rattle.write_ops.proofs.InsertLaw.{read_exactly}
use Rattle.driver_attempt.specs.Attempting.{besides_out}
use Rattle.driver_attempt.specs.Concerns.{concern_refusal}
use Rattle.driver_attempt.specs.Moment.{Moment}
use Rattle.driver_exec.specs.BetweenCalls.{Between, NumbersWithin, Sound}
use Rattle.driver_exec.specs.Gentle.{EndsWell, IsGentlePart, IsLossy, IsOfPart}
use Rattle.driver_exec.specs.Resending.{SendsWhereTold, SentTimes}
use Rattle.driver_exec.proofs.Completeness.Course.{gentle_ends}
use Rattle.driver_exec.proofs.Completeness.Ends.{AnswersPlainly, alone_memory}
use Rattle.driver_exec.proofs.Completeness.Sessions.{KnownCommand}
use Rattle.driver_exec.proofs.InvariantSteps.Sends.{numbered_new, unnumbered_send}
use Rattle.driver_exec.proofs.Moments.{IsBefore, before_refl, before_twice}
use Rattle.driver_exec.proofs.OperationMoments.{executes_before}
use Rattle.driver_exec.proofs.SessionNumbers.{lent_within}
use Rattle.driver_exec.proofs.TraceSessions.{lends_holds}
use Rattle.driver_exec.proofs.WholeOperation.{executes_client}
use Rattle.many_actions.specs.Batches.{BatchEnd, MakesBatch, MakesBatches, rest_of}
use Rattle.driver_actions.specs.CallParts.{CarrySame}
use Rattle.many_actions.specs.ManyCompleteness.{InsertsHaveNumbers, IsGentleCallPart, ServesInserts, many_concern}
use Rattle.driver_actions.specs.Raises.{RaisesByWhereTold}
use Rattle.many_actions.specs.Numbers.{server_setup}
use Rattle.many_actions.proofs.BatchFit.{FitsOne, batch_unrefused}
use Rattle.many_actions.proofs.BatchNumbers.{batch_fewer, batch_setup, number_left, numbers_left}
use Rattle.many_actions.proofs.BatchWrites.{EachIs, IsNewFrom, batch_asks, batch_body, batch_may_send, own_rest, rest_is}
use Rattle.many_actions.proofs.BatchesMade.{batch_advances, batch_moves, batches_move, fixed_or_one, is_fixed_or_one, left_here, mid_told, new_behind, next_new, run_told}
use Rattle.driver_actions.proofs.CallMoves.{GainsOwn}
use Rattle.many_actions.proofs.GentleParts.{command_alike, part_gentle}
use Rattle.many_actions.proofs.InsertsServed.{IsAnswered, MayBeInserted, inserts_again, inserts_answered, inserts_first, inserts_only}

-- each batch ended well
abbrev pub AllWell : List BatchEnd → Type 0
AllWell [] = Unit {0}
AllWell (end ∷ ends) = EndsWell end.result × AllWell ends

-- a session that is not past so many numbers has a further one
past_last : (most : ℕ) (number : ℤ) → number ≡ last_number → number ≤ℤ pos most → pos most <ℤ last_number → ⊥
past_last most number is within below = omega (arith, ints)

-- a number above the greatest of a session is above each that was sent
below_next : (last number found : ℤ) → found ≤ℤ last → last <ℤ number → found <ℤ number
below_next last number found within raised = omega (arith, ints)

-- the next number is greater
next_above : (last number : ℤ) → number ≡ (last +ℤ pos 1) → last <ℤ number
next_above last number is = omega (arith, ints)

-- a send under a number has one
number_none : (number : ℤ) → ◌≡◌ {A = Option ℤ} (Some number) None → ⊥
number_none number is = cc

-- numbers for the batches that are left leave one more
one_left : (most left : ℕ) → 1 ≤ left → pos (most + left) ≤ℤ last_number → pos most <ℤ last_number
one_left most left some enough = omega (arith, ints)

-- behind a batch they are enough for the rest
rest_left : (most left rest : ℕ) → 1 + rest ≤ left → pos (most + left) ≤ℤ last_number → pos (most + 1 + rest) ≤ℤ last_number
rest_left most left rest fewer enough = omega (arith, ints)

module _ (target : OperationTarget) (options : InsertManyOptions) (call : ℕ) (client : ClientOptions) (setup : Setup) (concerned : concern_refusal (many_concern target options client) ≡ None)
    (command : (context : SendContext) → context.concern ≡ many_concern target options client → IsSixteen context.session
    → refusal (insert_command (namespace_of target) options ++ executor_fields context (namespace_of target).db) ≡ None) where
  -- a document fits alone
  abbrev FitsHere : ℕ → List (Pair Bson) → Type 0
  FitsHere = FitsOne target options setup

  -- how many numbers the batches of these documents take at most
  abbrev left_numbers : List OwnDocument → ℕ
  left_numbers own = numbers_left target options call FitsHere (Some setup) own

  -- one batch, over a told pool and a told server, before which all stands
  module _ (index : ℕ) (documents : List (List (Pair Bson))) (own : List OwnDocument) (are : AreOwn documents own) (each : EachIs FitsHere index documents) (before now : Moment) (end : BatchEnd)
      (made : MakesBatch target options call index own before now end) (client_is : before.client.options ≡ client) (setup_is : setup_of before.link ≡ Some setup)
      (pool : Pool) (run run_now : ServerRun) (pool_is : before.store.pool ≡ Some pool) (run_is : server_run before.link ≡ Some run) (run_now_is : server_run now.link ≡ Some run_now)
      (between : Between pool run.server.trace) (sound : Sound run.server) (new : IsNewFrom run.server.trace call index) (apart : DrawnApart now.store)
      (most : ℕ) (numbers : NumbersWithin (pos most) pool.idle) (further : pos most <ℤ last_number) where
    -- how many documents are in its command
    abbrev count : ℕ
    count = fixed_or_one end.statements

    -- what it tells, and what it asks for
    abbrev spec : OperationSpec InsertManyResult
    spec = insert_spec target index own options

    abbrev asked : SendBody
    asked = batch_body target options call index documents own are count

    -- a send of it may go out
    abbrev MayGo : Send → Server → Type 0
    MayGo send server = MayBeInserted send server ⊎ IsUnnumbered send

    -- one with a number is plain
    abbrev plain_send : (id : List ℕ) (number : ℤ) → IsPlain (send_of (under (Some id) (Some number)) asked)
    plain_send id number = record { id = id; number = number; session = refl; numbered = refl; outside = refl; writes = tt }

    -- where its item serves inserts each document is counted
    answered_well : (send : Send) (server : Server) (step : Scheduled) → MayGo send server → ServesInserts step.item → IsAnswered server send step
    answered_well send server step may serves = elim may [
      | inl numbered ↦ inserts_answered server send step serves numbered
      | inr free ↦ inserts_only server send step free serves
    ]

    -- so it is read as done, once it was built
    answers : (session : Option (List ℕ)) (number : Option ℤ) (server : Server) (step : Scheduled) → MayGo (send_of (under session number) asked) server → (built : Command) → spec.commands first count built
        → ServesInserts step.item → AnswersPlainly spec count server (send_of (under session number) asked) step
    answers session number server step may built is serves =
        let send = send_of (under session number) asked in
        let well = answered_well send server step may serves in
        record {
          reply = well.found;
          is = well.is;
          plain = λ bytes spelled error reads.
              (read_exactly target index own options count server send step bytes (record {
                some = is.some;
                within = is.within;
                places = (rest_of call index own count).places;
                body = asked;
                asks = batch_asks target options call index documents own are count;
                context = under session number;
                send_is = refl;
                found = well.found;
                answer = well.is;
                spelled = spelled;
              })).there well.counts error reads;
        }

    -- after a step without a reply it may go out again
    again : (id : List ℕ) (number : ℤ) (server : Server) (step : Scheduled) → MayGo (send_of (under (Some id) (Some number)) asked) server → IsLossy step.item
        → MayGo (send_of (under (Some id) (Some number)) asked) (exchanged server (send_of (under (Some id) (Some number)) asked) step)
    again id number server step may lossy = elim may [
      | inl numbered ↦ inl (inserts_again server (send_of (under (Some id) (Some number)) asked) step lossy numbered)
      | inr free ↦ absurd (number_none number free.none)
    ]

    -- it may go out under the next number of a session that is lent
    first_goes : (at : ℕ) (lent : StoreTells) (session : Session) (number : ℤ) → LendsSession before.store lent at session → DrawnApart lent → number ≡ session.number +ℤ pos 1
        → MayGo (send_of (under (Some session.id) (Some number)) asked) run.server
    first_goes at lent session number lends drawn is =
        let out = lends_told before.store lent pool at session pool_is lends in
        let apart_out = subst DrawnApartIn out.1.0 drawn in
        let holds = lends_holds pool out.0 before.store.caller at session run.server.trace out.1.1 apart_out between in
        let raised = next_above session.number number is in
        let may_send = batch_may_send target options call index documents own are count run.server.trace new in
        let is_new : IsNewNumber run.server.trace session.id number = λ send found has under. below_next session.number number found (holds.up_to send found has under) raised in
        inl (inserts_first run.server (send_of (under (Some session.id) (Some number)) asked) (plain_send session.id number)
        (numbered_new run.server.trace asked may_send sound.orderly session.id number session.number holds.up_to raised) sound.settled is_new)

    -- its command has a spelling
    has_frame : (context : SendContext) (fault : EncodeFault) → context.concern ≡ many_concern target options before.client.options → HasNoSpelling spec context fault → ⊥
    has_frame context fault goes none =
        let spelled : refusal (insert_command (namespace_of target) options ++ executor_fields context (namespace_of target).db) ≡ None
        = command context (goes ∙ ap (many_concern target options) client_is) none.sixteen in
        let refused : refusal (insert_command (namespace_of target) options ++ executor_fields context (namespace_of target).db) ≡ Some fault
        = subst (λ body. refusal (body ++ executor_fields context (namespace_of target).db) ≡ Some fault) none.is.body
        (subst (λ database. refusal (none.command.body ++ executor_fields context database) ≡ Some fault) none.is.database none.refused) in
        let e : ◌≡◌ {A = Option EncodeFault} None (Some fault) = sym spelled ∙ refused in cc

    -- the operation, with what is known of its sends
    known : KnownCommand InsertManyResult
    known = record {
      spec = spec;
      batch = rest_of call index own count;
      fixed = statements_fixed own None;
      which = first;
      body = asked;
      Serves = λ send. ServesInserts;
      asked = batch_asks target options call index documents own are count;
      retryability = own_of_insert before.client.options;
      concern = many_concern target options before.client.options;
      accepted = ap (λ (given : ClientOptions). concern_refusal (many_concern target options given)) client_is ∙ concerned;
      store = before.store;
      told = run;
      link = besides_out before.link;
      link_is = run_is;
      repeats = λ send. InsertsHaveNumbers before.client.options (setup_of before.link);
      repeats_numbered = λ session number draws. draws;
      Ready = MayGo;
      ready_answers = answers;
      pages_well = λ last part session number came end begins ends may built is serves bytes replied error fails.
          let send = send_of (under session number) asked in
          let step = next_step came.schedule came.server in
          alone_memory spec ((insert_lawful target index own options).alone refl) count came.server send step (answers session number came.server step may built is serves) bytes replied session (run_after came send) end error
          fails;
      ready_again = again;
      first_ready = first_goes;
      bare_ready = λ session. inr (unnumbered_send session asked tt);
      takes_sessions = refl;
      unrefused = λ description is number fixed error refuses.
          batch_unrefused target options setup index (setup_of before.link) setup_is description is documents own are each made.left count number fixed error refuses;
      spelled = has_frame;
      not_last = λ at lent session lends is. past_last most session.number is (lent_within most before.store lent pool pool_is at session lends numbers) further;
    }

    -- so it ends well, where its part is gentle
    pub batch_well : IsGentlePart (λ send. ServesInserts) (λ send. InsertsHaveNumbers client (Some setup)) run run_now → EndsWell end.result
    unfolding known
    batch_well gentle =
        let part : IsGentlePart (λ send. ServesInserts) (λ send. InsertsHaveNumbers before.client.options (setup_of before.link)) run run_now
        = subst (λ c. IsGentlePart (λ send. ServesInserts) (λ send. InsertsHaveNumbers c (setup_of before.link)) run run_now) (sym client_is)
        (subst (λ s. IsGentlePart (λ send. ServesInserts) (λ send. InsertsHaveNumbers client s) run run_now) (sym setup_is) gentle) in
        gentle_ends known before now run_now refl refl refl refl run_now_is apart part 0 made.count end.statements end.result (made.executes count (is_fixed_or_one end.statements))

    -- it leads on
    pub batch_before : IsBefore run run_now
    batch_before = executes_before spec (rest_of call index own count) first before now 0 made.count (statements_fixed own None) end.statements end.result asked (batch_asks target options call index documents own are count)
        run run_now run_is run_now_is (made.executes count (is_fixed_or_one end.statements))

    -- its sends carry the same, in a longer trace too
    sends_alike : (last : ServerRun) (later : List Send) → last.server.trace ≡ run_now.server.trace ++ later → (one other : ℕ) → IsOfPart run run_now one → IsOfPart run run_now other → CarrySame last one other
    sends_alike last later gained one other of_part also_of =
        let left = left_here target options call FitsHere index documents own are each before now end made in
        let send = send_of (under left.session left.number) asked in
        let sent : SendsWhereTold false run run_now send left.sends.count
        = subst (λ r. SentTimes false r (Some run_now) send left.sends.count) run_is (subst (λ r. SentTimes false (server_run before.link) r send left.sends.count) run_now_is left.sends.sends) in
        command_alike run run_now last send left.sends.count later sent gained one other of_part also_of

    -- so it ends well within a call whose part is gentle
    pub well_within : (told last : ServerRun) → IsGentleCallPart (λ send. ServesInserts) (λ send. InsertsHaveNumbers client (Some setup)) told last → IsBefore told run → IsBefore run_now last → (later : List Send)
        → last.server.trace ≡ run_now.server.trace ++ later → EndsWell end.result
    well_within told last gentle begins ends later gained =
        batch_well (part_gentle (λ send. ServesInserts) (λ send. InsertsHaveNumbers client (Some setup)) told run run_now last gentle begins batch_before ends
        (λ one other of_part also_of loses also_loses. sends_alike last later gained one other of_part also_of))

  -- a batch keeps the client's options
  client_kept : (index : ℕ) (own : List OwnDocument) (before now : Moment) (end : BatchEnd) → MakesBatch target options call index own before now end → before.client.options ≡ client → now.client.options ≡ client
  client_kept index own before now end made client_is =
      let kept = executes_client (insert_spec target index own options) (rest_of call index own (fixed_or_one end.statements)) first before now 0 made.count (statements_fixed own None) end.statements end.result
      (made.executes (fixed_or_one end.statements) (is_fixed_or_one end.statements)) in
      ap (λ k. k.options) kept ∙ client_is

  -- the batches that follow one another lead on
  batches_before : (short : Type 0) (ends : List BatchEnd) (index : ℕ) (documents : List (List (Pair Bson))) (own : List OwnDocument) → AreOwn documents own → EachIs FitsHere index documents → (before now : Moment)
      → (run last : ServerRun) → server_run before.link ≡ Some run → server_run now.link ≡ Some last → MakesBatches short target options call index own ends before now → IsBefore run last
  batches_before short [] index documents own are each before now run last run_is last_is made =
      subst (IsBefore run) (same_told run last (sym run_is ∙ ap (λ m. server_run m.link) (sym made.0) ∙ last_is)) (before_refl run)
  batches_before short (end ∷ ends) index documents own are each before now run last run_is last_is made =
      let mid = made.0 in
      let batch = made.1.0 in
      let moves = batch_moves target options call FitsHere index documents own are each before mid end batch in
      let told = run_told run (server_run before.link) (server_run mid.link) run_is moves.making in
      let count = fixed_or_one end.statements in
      let here = executes_before (insert_spec target index own options) (rest_of call index own count) first before mid 0 batch.count (statements_fixed own None) end.statements end.result
      (batch_body target options call index documents own are count) (batch_asks target options call index documents own are count) run told.0 run_is told.1 (batch.executes count (is_fixed_or_one end.statements)) in
      elim made.1.1 [
        | inl on ↦
            before_twice run told.0 last here
            (batches_before short ends (index + on.statements) (drop on.statements documents) (drop on.statements own) (own_rest on.statements documents own are) (rest_is FitsHere index on.statements documents each)
            mid now told.0 last told.1 last_is on.rest)
        | inr stops ↦ subst (IsBefore run) (same_told told.0 last (sym told.1 ∙ ap (λ m. server_run m.link) (sym stops.same) ∙ last_is)) here
      ]

  -- within a call whose part is gentle they end well, where a session has numbers enough for the batches that are left
  pub batches_well : (told last : ServerRun) → IsGentleCallPart (λ send. ServesInserts) (λ send. InsertsHaveNumbers client (Some setup)) told last → (short : Type 0) (ends : List BatchEnd) (index : ℕ) (documents : List (List (Pair Bson)))
      (own : List OwnDocument) → AreOwn documents own → EachIs FitsHere index documents → (before now : Moment) → before.client.options ≡ client → setup_of before.link ≡ Some setup
      → (pool : Pool) (run : ServerRun) → before.store.pool ≡ Some pool → server_run before.link ≡ Some run → server_run now.link ≡ Some last → Between pool run.server.trace → Sound run.server
      → IsNewFrom run.server.trace call index → DrawnApart now.store → (most : ℕ) → NumbersWithin (pos most) pool.idle
      → pos (most + left_numbers own) ≤ℤ last_number → IsBefore told run
      → MakesBatches short target options call index own ends before now → AllWell ends
  batches_well told last gentle short [] index documents own are each before now client_is setup_is pool run pool_is run_is last_is between sound new apart most numbers enough begins made = tt
  batches_well told last gentle short (end ∷ ends) index documents own are each before now client_is setup_is pool run pool_is run_is last_is between sound new apart most numbers enough begins made =
      let mid = made.0 in
      let batch = made.1.0 in
      let moves = batch_moves target options call FitsHere index documents own are each before mid end batch in
      let further = one_left most (left_numbers own) (number_left target options call FitsHere (Some setup) own batch.left) enough in
      elim made.1.1 [
        | inl on ↦
            let own_on = own_rest on.statements documents own are in
            let each_on = rest_is FitsHere index on.statements documents each in
            let later = batches_move target options call FitsHere short ends (index + on.statements) (drop on.statements documents) (drop on.statements own) own_on each_on mid now on.rest in
            let mid_now = mid_told 1 (length (drop on.statements own)) call before mid now moves later pool run pool_is run_is apart in
            let apart_mid : DrawnApart mid.store = subst DrawnApartIn (sym mid_now.pool_is) mid_now.apart in
            let ends_before = batches_before short ends (index + on.statements) (drop on.statements documents) (drop on.statements own) own_on each_on mid now mid_now.run last mid_now.run_is last_is on.rest in
            let gains : GainsOwn call (Some mid_now.run) (Some last)
            = subst (λ r. GainsOwn call r (Some last)) mid_now.run_is (subst (λ r. GainsOwn call (server_run mid.link) r) last_is later.gains) in
            let here = well_within index documents own are each before mid end batch client_is setup_is pool run mid_now.run pool_is run_is mid_now.run_is between sound new apart_mid most numbers further
            told last gentle begins ends_before gains.sends gains.trace in
            let one = batch_advances target options call FitsHere index documents own are each before mid end batch pool mid_now.pool run mid_now.run pool_is mid_now.pool_is run_is mid_now.run_is between sound new mid_now.apart in
            let new_on = next_new target options call FitsHere index mid_now.run.server.trace end.statements on.statements on.told
            (new_behind target options call FitsHere index documents own are each before mid end batch pool mid_now.pool run mid_now.run pool_is mid_now.pool_is run_is mid_now.run_is between sound new mid_now.apart) in
            let server_is : server_setup (server_run before.link) ≡ Some setup = ap server_setup run_is ∙ sym (served_setup before.link.making run run_is) ∙ setup_is in
            let mid_setup : setup_of mid.link ≡ Some setup
            = served_setup mid.link.making mid_now.run mid_now.run_is ∙ sym (ap server_setup mid_now.run_is)
            ∙ batch_setup target options call FitsHere (Some setup) index documents own are each before mid end batch server_is in
            let fewer = batch_fewer target options call FitsHere (Some setup) index documents own are each before mid end batch server_is on.on on.statements on.told in
            let raises : RaisesByWhereTold 1 (Some pool) (Some mid_now.pool)
            = subst (λ p. RaisesByWhereTold 1 p (Some mid_now.pool)) pool_is (subst (λ p. RaisesByWhereTold 1 before.store.pool p) mid_now.pool_is moves.raises) in
            let begins_on = before_twice told run mid_now.run begins
            (batch_before index documents own are each before mid end batch client_is setup_is pool run mid_now.run pool_is run_is mid_now.run_is between sound new apart_mid most numbers further) in (
              here,
              batches_well told last gentle short ends (index + on.statements) (drop on.statements documents) (drop on.statements own) own_on each_on mid now
                  (client_kept index own before mid end batch client_is) mid_setup mid_now.pool mid_now.run mid_now.pool_is mid_now.run_is last_is
                  one.between one.sound new_on apart (most + 1) (raises most numbers)
                  (rest_left most (left_numbers own) (left_numbers (drop on.statements own)) fewer enough) begins_on on.rest,
            )
        | inr stops ↦
            let last_mid : server_run mid.link ≡ Some last = ap (λ m. server_run m.link) (sym stops.same) ∙ last_is in
            let apart_mid : DrawnApart mid.store = subst (λ m. DrawnApart m.store) stops.same apart in (
              well_within index documents own are each before mid end batch client_is setup_is pool run last pool_is run_is last_mid between sound new apart_mid most numbers further
                  told last gentle begins (before_refl last) [] (sym (append-nil last.server.trace)),
              subst AllWell (sym stops.none) tt,
            )
      ]
