-- Each batch of a valid bulk write whose part of the schedule is gentle ends well.
use Rattle.std.proofs.Common.{◌≡◌, ℕ, zero, suc, ◌+◌, ◌≤◌, List, [], ◌∷◌, ◌++◌, drop, length, take, refl, sym, ap, subst, ◌∙◌, inl, inr, arith}
use Rattle.std.specs.Prelude.{ℤ, pos, ◌+ℤ◌, ◌<ℤ◌, ◌≤ℤ◌, true, Bool, Option, None, Some, slice_get}
use Rattle.std.specs.List.{list_any}
use Rattle.std.proofs.lemmas.Int.{ints}
use Rattle.bson_lite.specs.declared.fault.EncodeFault.{EncodeFault}
use Rattle.bson_lite.specs.Spelling.{refusal}
use Rattle.bulk_outcomes.specs.BulkResults.{ResultSpec}
use Rattle.driver_options.specs.declared.models.WriteModel.{WriteModel}
use Rattle.driver_options.specs.declared.options.ClientOptions.{ClientOptions}
use Rattle.driver_options.specs.declared.write_options.BulkWriteOptions.{BulkWriteOptions}
use Rattle.driver_options.specs.Models.{is_multi}
use Rattle.wire_keys.specs.declared.keys.TheConstants.{ADMIN}
use Rattle.driver_link.specs.declared.machine.Place.{Place}
use Rattle.driver_link.specs.declared.machine.PlacedWrite.{PlacedWrite}
use Rattle.driver_link.specs.declared.machine.Scheduled.{Scheduled}
use Rattle.driver_link.specs.declared.machine.Send.{Send}
use Rattle.driver_link.specs.declared.machine.SendBody.{SendBody}
use Rattle.driver_link.specs.declared.machine.Server.{Server}
use Rattle.driver_link.specs.declared.machine.Setup.{Setup}
use Rattle.driver_link.specs.Cases.{body_writes}
use Rattle.driver_link.specs.Exchange.{exchanged, step_at}
use Rattle.driver_link.specs.LinkState.{server_run, setup_of}
use Rattle.driver_link.specs.Retried.{IsNewNumber}
use Rattle.driver_link.specs.ServerRun.{ServerRun}
use Rattle.driver_link.specs.Settled.{IsPlain}
use Rattle.driver_session.specs.Pool.{Pool}
use Rattle.driver_session.specs.Session.{Session, last_number}
use Rattle.driver_session.specs.StoreTells.{DrawnApart, DrawnApartIn, LendsSession, StoreTells}
use Rattle.driver_session.proofs.PoolTells.{lends_told}
use Rattle.driver_ops.specs.Defaults.{own_of_statement}
use Rattle.driver_ops.specs.Fields.{IsSixteen, SendContext, executor_fields, under}
use Rattle.driver_ops.specs.Operations.{HasNoSpelling, OperationSpec, send_of}
use Rattle.driver_ops.specs.SendKinds.{first}
use Rattle.bulk_fronts.specs.declared.own_op.OwnOp.{OwnOp}
use Rattle.bulk_fronts.specs.BulkFronts.{sized_ops}
use Rattle.bulk_fronts.specs.BulkOps.{has_multi, model_writes}
use Rattle.bulk_ops.specs.BulkSpec.{admin_target, bulk_spec, is_verbose}
use Rattle.bulk_fronts.specs.BulkWrites.{bulk_command, bulk_is_ordered}
use Rattle.driver_attempt.specs.Attempting.{besides_out}
use Rattle.driver_attempt.specs.Concerns.{concern_refusal}
use Rattle.driver_attempt.specs.Moment.{Moment}
use Rattle.driver_exec.specs.BetweenCalls.{Between, NumbersWithin, Sound}
use Rattle.driver_exec.specs.Gentle.{EndsWell, IsGentlePart, IsLossy, IsOfPart}
use Rattle.driver_exec.specs.OperationCauses.{DrawsNumbers}
use Rattle.driver_exec.specs.Resending.{SendsWhereTold, SentTimes}
use Rattle.driver_exec.proofs.Completeness.Course.{gentle_ends}
use Rattle.driver_exec.proofs.Completeness.Sessions.{KnownCommand}
use Rattle.driver_exec.proofs.InvariantSteps.Sends.{numbered_new, unnumbered_send}
use Rattle.driver_exec.proofs.Moments.{IsBefore}
use Rattle.driver_exec.proofs.OperationMoments.{executes_before}
use Rattle.driver_exec.proofs.SessionNumbers.{lent_within}
use Rattle.driver_exec.proofs.TraceSessions.{lends_holds}
use Rattle.many_actions.specs.BatchPlans.{MakesPlanned, PlannedEnd, places_from, rest_of}
use Rattle.many_actions.specs.ManyCompleteness.{IsGentleCallPart}
use Rattle.many_actions.proofs.BatchPlaces.{places_length}
use Rattle.many_actions.proofs.GentleParts.{part_gentle}
use Rattle.many_actions.proofs.PlannedBatches as planned
use Rattle.many_actions.proofs.PlannedBatches.{IsNewFrom, fixed_or_one, is_fixed_or_one, standing_may_send}
use Rattle.bulk_actions.specs.BulkBatches.{bulk_plan}
use Rattle.bulk_actions.specs.BulkCompleteness.{BulkRepeats, HaveFewNamespaces, NoneAhead, RepeatsFrom, ServesBulk, TakesModels, bulk_concern, own_of_models}
use Rattle.bulk_actions.specs.BulkNumbers.{sized_with_ids}
use Rattle.bulk_actions.proofs.BulkFit.{bulk_unrefused}
use Rattle.bulk_actions.proofs.BulkKept.{IsGivenModel}
use Rattle.bulk_actions.proofs.BulkPagesWell.{behind_memory, bulk_plain}
use Rattle.bulk_actions.proofs.BulkPlanned.{GoodModels, IsOfModel, bulk_asks, bulk_body, bulk_planned, bulk_stands}
use Rattle.bulk_actions.proofs.BulkSends.{Replays, ahead_behind, lossy_alike, replays_sends}
use Rattle.bulk_actions.proofs.BulkServed.{MayGoBulk, bulk_again, usual_natural}
use Rattle.bulk_actions.proofs.CursorsAhead.{exchanged_ahead}
use Rattle.bulk_actions.proofs.FewestBulk.{as_many, sizes_left}
use Rattle.bulk_ops.specs.NaturalCounts.{IsNatural}
use Rattle.many_actions.proofs.KeptCounts.{first_under}

-- what is known of a valid bulk write whose ops as they are sent are these, under a client's options, over a link of this setup
pub record KnownBulk {R : Type 0} (tells : ResultSpec R) (options : BulkWriteOptions) (models : List WriteModel) (all : List OwnOp) (client : ClientOptions) (setup : Setup) : Type 0 where
  pub concerned : concern_refusal (bulk_concern options client) ≡ None
  pub command : (context : SendContext) → context.concern ≡ bulk_concern options client → IsSixteen context.session
      → refusal (bulk_command options (is_verbose tells) ++ executor_fields context ADMIN.now) ≡ None
  pub takes : TakesModels setup.description options (is_verbose tells) models
  pub namespaces : HaveFewNamespaces models
  pub sizes : sized_ops all ≡ sized_with_ids models
  pub multis : (k : ℕ) → list_any is_multi (drop k models) ≡ has_multi (drop k all)

-- a session that is not past so many numbers has a further one
past_last : (most : ℕ) (number : ℤ) → number ≡ last_number → number ≤ℤ pos most → pos most <ℤ last_number → ⊥
past_last most number is within below = omega (arith, ints)

-- a number above the greatest of a session is above each that was sent
below_next : (last number found : ℤ) → found ≤ℤ last → last <ℤ number → found <ℤ number
below_next last number found within raised = omega (arith, ints)

-- the next number is greater
next_above : (last number : ℤ) → number ≡ (last +ℤ pos 1) → last <ℤ number
next_above last number is = omega (arith, ints)

-- a send under a number has one
number_none : (number : ℤ) → ◌≡◌ {A = Option ℤ} (Some number) None → ⊥
number_none number is = cc

-- a front of models has as many writes as ops
writes_long : (count : ℕ) (models : List WriteModel) (places : List Place) (own : List OwnOp) → length models ≡ length own → length places ≡ length own
    → length (model_writes (take count models) (take count places)) ≡ length (take count own)
writes_long zero models places own same also = refl
writes_long (suc count) [] [] [] same also = refl
writes_long (suc count) [] (place ∷ places) [] same also = absurd (omega (arith, also))
writes_long (suc count) (model ∷ models) places [] same also = absurd (omega (arith, same))
writes_long (suc count) [] places (op ∷ own) same also = absurd (omega (arith, same))
writes_long (suc count) (model ∷ models) [] (op ∷ own) same also = absurd (omega (arith, also))
writes_long (suc count) (model ∷ models) (place ∷ places) (op ∷ own) same also = ap suc (writes_long count models places own (omega (arith, same)) (omega (arith, also)))

module _ {R : Type 0} (tells : ResultSpec R) (options : BulkWriteOptions) (call : ℕ) (models : List WriteModel) (all : List OwnOp) (client : ClientOptions) (setup : Setup)
    (known_bulk : KnownBulk tells options models all client setup) where
  abbrev Given : ℕ → WriteModel → Type 0
  Given = IsGivenModel models

  -- what may go out again
  abbrev pub Repeats : Send → Type 0
  Repeats = BulkRepeats models client (Some setup)

  -- one batch, over a told pool and a told server, before which all stands
  module _ (index : ℕ) (own : List OwnOp) (own_is : own ≡ drop index all) (good : GoodModels Given index own) (before now : Moment) (end : PlannedEnd R)
      (made : MakesPlanned (bulk_plan tells options) call index own before now end) (client_is : before.client.options ≡ client) (setup_is : setup_of before.link ≡ Some setup)
      (pool : Pool) (run run_now : ServerRun) (pool_is : before.store.pool ≡ Some pool) (run_is : server_run before.link ≡ Some run) (run_now_is : server_run now.link ≡ Some run_now)
      (between : Between pool run.server.trace) (sound : Sound run.server) (new : IsNewFrom run.server.trace call index) (ahead : NoneAhead run.server) (apart : DrawnApart now.store)
      (most : ℕ) (numbers : NumbersWithin (pos most) pool.idle) (further : pos most <ℤ last_number) where
    -- how many ops are in its command, what it tells, and what it asks for
    abbrev count : ℕ
    count = fixed_or_one end.statements

    abbrev spec : OperationSpec R
    spec = bulk_spec tells admin_target index own options

    abbrev asked : SendBody
    asked = bulk_body tells options call Given index own good count

    abbrev writes : List PlacedWrite
    writes = model_writes (take count good.models) (take count (places_from call index (length own)))

    sized : length writes ≡ length (take count own)
    sized = writes_long count good.models (places_from call index (length own)) own (as_many good.models own good.are) (places_length call index (length own))

    -- a send of it may go out
    abbrev MayGo : Send → Server → Type 0
    MayGo send server = MayGoBulk send server × NoneAhead server

    -- one with a number is plain
    abbrev plain_send : (id : List ℕ) (number : ℤ) → IsPlain (send_of (under (Some id) (Some number)) asked)
    plain_send id number = record { id = id; number = number; session = refl; numbered = refl; outside = refl; writes = tt }

    -- where a send of it may go out again its sends have numbers
    first_numbers : (found : List PlacedWrite) → body_writes asked ≡ found → RepeatsFrom models client (Some setup) found → DrawsNumbers true (own_of_models (drop index models) client) (Some setup)
    first_numbers [] is repeats = absurd repeats
    first_numbers (write ∷ found) is repeats =
        let stands = bulk_stands tells options call Given index own good count 0 write (ap (λ w. slice_get w 0) is) in
        let same : index + 0 ≡ index = omega arith in
        let at : write.place.index ≡ index = ap (λ (p : Place). p.index) stands.place_is ∙ same in
        subst (λ k. DrawsNumbers true (own_of_models (drop k models) client) (Some setup)) at repeats

    numbered_here : RepeatsFrom models client (Some setup) (body_writes asked) → DrawsNumbers true (own_of_statement (has_multi own) before.client.options) (setup_of before.link)
    numbered_here repeats =
        let multi : list_any is_multi (drop index models) ≡ has_multi own = known_bulk.multis index ∙ ap (λ (ops : List OwnOp). has_multi ops) (sym own_is) in
        subst (λ (s : Option Setup). DrawsNumbers true (own_of_statement (has_multi own) before.client.options) s) (sym setup_is)
        (subst (λ (c : ClientOptions). DrawsNumbers true (own_of_statement (has_multi own) c) (Some setup)) (sym client_is)
        (subst (λ (b : Bool). DrawsNumbers true (own_of_statement b client) (Some setup)) multi (first_numbers (body_writes asked) refl repeats)))

    -- after a step without a reply it may go out again
    again : (id : List ℕ) (number : ℤ) (server : Server) (step : Scheduled) → MayGo (send_of (under (Some id) (Some number)) asked) server → IsLossy step.item
        → MayGo (send_of (under (Some id) (Some number)) asked) (exchanged server (send_of (under (Some id) (Some number)) asked) step)
    again id number server step may lossy =
        let send = send_of (under (Some id) (Some number)) asked in (
          (elim may.0 [ inl numbered ↦ inl (bulk_again server send step lossy numbered) | inr free ↦ absurd (number_none number free.none) ]),
          exchanged_ahead server send step (inr (tt, lossy)) may.1,
        )

    -- it may go out under the next number of a session that is lent
    first_goes : (at : ℕ) (lent : StoreTells) (session : Session) (number : ℤ) → LendsSession before.store lent at session → DrawnApart lent → number ≡ session.number +ℤ pos 1
        → MayGo (send_of (under (Some session.id) (Some number)) asked) run.server
    first_goes at lent session number lends drawn is =
        let out = lends_told before.store lent pool at session pool_is lends in
        let apart_out = subst DrawnApartIn out.1.0 drawn in
        let holds = lends_holds pool out.0 before.store.caller at session run.server.trace out.1.1 apart_out between in
        let raised = next_above session.number number is in
        let may_send = standing_may_send (IsOfModel Given call) call index count run.server.trace asked tt (bulk_stands tells options call Given index own good count) new in
        let is_new : IsNewNumber run.server.trace session.id number = λ send found has under. below_next session.number number found (holds.up_to send found has under) raised in (
          inl (first_under IsNatural usual_natural run.server (send_of (under (Some session.id) (Some number)) asked) (plain_send session.id number)
              (numbered_new run.server.trace asked may_send sound.orderly session.id number session.number holds.up_to raised) sound.settled is_new),
          ahead,
        )

    -- its command has a spelling
    has_frame : (context : SendContext) (fault : EncodeFault) → context.concern ≡ bulk_concern options before.client.options → HasNoSpelling spec context fault → ⊥
    has_frame context fault goes none =
        let spelled : refusal (bulk_command options (is_verbose tells) ++ executor_fields context ADMIN.now) ≡ None
        = known_bulk.command context (goes ∙ ap (bulk_concern options) client_is) none.sixteen in
        let refused : refusal (bulk_command options (is_verbose tells) ++ executor_fields context ADMIN.now) ≡ Some fault
        = subst (λ body. refusal (body ++ executor_fields context ADMIN.now) ≡ Some fault) none.is.body
        (subst (λ database. refusal (none.command.body ++ executor_fields context database) ≡ Some fault) none.is.database none.refused) in
        let e : ◌≡◌ {A = Option EncodeFault} None (Some fault) = sym spelled ∙ refused in cc

    -- the operation, with what is known of its sends
    known : KnownCommand R
    known = record {
      spec = spec;
      batch = rest_of call index own count;
      fixed = None;
      which = first;
      body = asked;
      Serves = ServesBulk;
      asked = bulk_asks tells options call Given index own good count;
      retryability = own_of_statement (has_multi own) before.client.options;
      concern = bulk_concern options before.client.options;
      accepted = ap (λ (given : ClientOptions). concern_refusal (bulk_concern options given)) client_is ∙ known_bulk.concerned;
      store = before.store;
      told = run;
      link = besides_out before.link;
      link_is = run_is;
      repeats = Repeats;
      repeats_numbered = λ session number repeats. numbered_here repeats;
      Ready = MayGo;
      ready_answers = λ session number server step may built is serves.
          bulk_plain tells options index own count (bulk_is_ordered options) writes sized server (send_of (under session number) asked) step refl may.0 serves;
      pages_well = λ last part session number came over begins ends may built is serves bytes replied error fails.
          behind_memory tells options index own count (bulk_is_ordered options) writes sized Repeats (λ other cursor never. never) run last part came (send_of (under session number) asked) refl may.0 may.1 serves bytes
          replied session over error begins ends fails;
      ready_again = again;
      first_ready = first_goes;
      bare_ready = λ session. (inr (unnumbered_send session asked tt), ahead);
      takes_sessions = refl;
      unrefused = λ description is number fixed error refuses.
          bulk_unrefused tells options models setup known_bulk.takes known_bulk.namespaces index own (ap (λ (ops : List OwnOp). sized_ops ops) own_is ∙ sizes_left index all ∙ ap (drop index) known_bulk.sizes) made.left
          (setup_of before.link) setup_is description is count number fixed error refuses;
      spelled = has_frame;
      not_last = λ at lent session lends is. past_last most session.number is (lent_within most before.store lent pool pool_is at session lends numbers) further;
    }

    -- so it ends well, where its part is gentle
    batch_well : IsGentlePart ServesBulk Repeats run run_now → EndsWell end.result
    unfolding known
    batch_well gentle =
        gentle_ends known before now run_now refl refl refl refl run_now_is apart gentle 0 made.count end.statements end.result (made.executes count (is_fixed_or_one end.statements))

    -- it leads on
    pub batch_before : IsBefore run run_now
    batch_before = executes_before spec (rest_of call index own count) first before now 0 made.count None end.statements end.result asked (bulk_asks tells options call Given index own good count)
        run run_now run_is run_now_is (made.executes count (is_fixed_or_one end.statements))

    -- its own send
    abbrev own_send : Send
    own_send =
        let left = planned.left_here true (bulk_plan tells options) call (GoodModels Given) (IsOfModel Given call) (bulk_planned tells options call Given) index own good before now end made in
        send_of (under left.session left.number) asked

    -- all that went out
    replays : Replays own_send run run_now
    replays =
        let left = planned.left_here true (bulk_plan tells options) call (GoodModels Given) (IsOfModel Given call) (bulk_planned tells options call Given) index own good before now end made in
        let sent : SendsWhereTold true run run_now own_send left.sends.count
        = subst (λ r. SentTimes true r (Some run_now) own_send left.sends.count) run_is (subst (λ r. SentTimes true (server_run before.link) r own_send left.sends.count) run_now_is left.sends.sends) in
        replays_sends own_send run left.sends.count run_now sent

    -- its part is gentle within a call whose part is
    part_within : (told last : ServerRun) → IsGentleCallPart ServesBulk Repeats told last → IsBefore told run → IsBefore run_now last → (later : List Send)
        → last.server.trace ≡ run_now.server.trace ++ later → IsGentlePart ServesBulk Repeats run run_now
    part_within told last gentle begins ends later gained =
        part_gentle ServesBulk Repeats told run run_now last gentle begins batch_before ends
        (lossy_alike models client (Some setup) own_send run run_now replays last later gained (λ at. (step_at told.schedule at).item)
        (λ at found of_part is. gentle.items at found (within at of_part) is))
      where
        within : (at : ℕ) → IsOfPart run run_now at → IsOfPart told last at
        within at of_part =
            let first_long = begins.trace in
            let last_long = ends.trace in
            (omega (arith, first_long, of_part.0), omega (arith, last_long, of_part.1))

    -- so it ends well, and nothing that waits behind it is ahead
    pub well_within : (told last : ServerRun) → IsGentleCallPart ServesBulk Repeats told last → IsBefore told run → IsBefore run_now last → (later : List Send)
        → last.server.trace ≡ run_now.server.trace ++ later → EndsWell end.result × NoneAhead run_now.server
    well_within told last gentle begins ends later gained =
        let part = part_within told last gentle begins ends later gained in
        (batch_well part, ahead_behind models client (Some setup) own_send run run_now replays part ahead)
