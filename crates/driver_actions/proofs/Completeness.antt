-- A valid call whose part of the schedule is gentle ends well.
use Rattle.std.proofs.Common.{◌≡◌, ℕ, List, [], ◌∷◌, ◌++◌, refl, sym, ap, subst, ◌∙◌, inl, inr, arith}
use Rattle.std.specs.Prelude.{ℤ, pos, ◌+ℤ◌, ◌<ℤ◌, ◌≤ℤ◌, true, Option, None, Some, IfSome, Result, Ok, Err}
use Rattle.std.proofs.lemmas.Int.{ints}
use Rattle.bson_lite.specs.declared.fault.EncodeFault.{EncodeFault}
use Rattle.bson_lite.specs.declared.namespace.Namespace.{Namespace}
use Rattle.bson_lite.specs.Spelling.{Spells, refusal}
use Rattle.driver_error.specs.declared.error.Error.{Error}
use Rattle.driver_error.specs.declared.kind.ErrorKind.TheVariants as kind
use Rattle.driver_error.specs.Conversions.{ConvertsKind}
use Rattle.driver_error.specs.Error.{kind_of}
use Rattle.driver_options.specs.Concerns.{else_concern}
use Rattle.driver_options.specs.declared.concerns.WriteConcern.{WriteConcern}
use Rattle.driver_options.specs.declared.options.Description.{Description}
use Rattle.driver_link.specs.declared.machine.Place.{Place}
use Rattle.driver_link.specs.declared.machine.Scheduled.{Scheduled}
use Rattle.driver_link.specs.declared.machine.Server.{Server}
use Rattle.driver_link.specs.declared.machine.Written.{Written}
use Rattle.driver_link.specs.Cursors.{Reply}
use Rattle.driver_link.specs.Retried.{IsDoneReply, IsGentleItem, one_inserted}
use Rattle.driver_link.specs.Exchange.{next_step}
use Rattle.driver_link.specs.LinkState.{server_run, setup_of}
use Rattle.driver_link.specs.ServerRun.{ServerRun, run_after}
use Rattle.driver_link.proofs.RetriedSends.{inserted_is}
use Rattle.driver_link.proofs.ToldSetups.{served_setup}
use Rattle.driver_session.specs.Pool.{Pool}
use Rattle.driver_session.specs.Session.{Session, last_number}
use Rattle.driver_session.specs.StoreTells.{DrawnApart, DrawnApartIn, LendsSession, StoreTells}
use Rattle.driver_ops.specs.declared.command.Command.{Command}
use Rattle.driver_ops.specs.Features.{feature_of}
use Rattle.driver_ops.specs.Fields.{SendContext, executor_fields}
use Rattle.driver_ops.specs.OperationLaw.{NeverOpen}
use Rattle.driver_ops.specs.Operations.{HasNoSpelling, OperationSpec, ReadsAnswer, Refuses}
use Rattle.driver_ops.specs.SendKinds.{SendKind, first}
use Rattle.driver_ops.specs.Operations.{batch_of}
use Rattle.driver_ops.specs.Targets.{in_collection}
use Rattle.write_ops.specs.InsertSpec.{insert_spec}
use Rattle.statement_ops.specs.DeleteLawful.{delete_lawful}
use Rattle.statement_ops.specs.FindLawful.{find_lawful}
use Rattle.write_ops.specs.InsertLawful.{insert_lawful}
use Rattle.statement_ops.specs.UpdateLawful.{update_lawful}
use Rattle.statement_ops.specs.StatementSpec.{delete_spec, find_spec, update_spec}
use Rattle.statement_ops.proofs.FindLaw.{find_plain}
use Rattle.write_ops.proofs.InsertReading.{inserted_plain, plain_read}
use Rattle.statement_ops.proofs.StatementLaw.{delete_plain, update_plain}
use Rattle.driver_attempt.specs.Attempting.{besides_out}
use Rattle.driver_attempt.specs.Concerns.{concern_of, concern_refusal, effective_concern}
use Rattle.driver_attempt.specs.Moment.{Moment}
use Rattle.driver_exec.specs.BetweenCalls.{Between, NumbersWithin, Sound}
use Rattle.driver_exec.specs.Gentle.{EndsWell, IsGentlePart, IsGentleWhereTold}
use Rattle.driver_exec.specs.OperationCauses.{DrawsNumbers}
use Rattle.driver_exec.proofs.Completeness.Course.{gentle_ends}
use Rattle.driver_exec.proofs.Completeness.Ends.{AnswersPlainly, alone_memory}
use Rattle.driver_exec.proofs.Completeness.Sessions.{KnownCommand}
use Rattle.driver_exec.proofs.FixedNumbers.{MayBeFixed}
use Rattle.driver_exec.proofs.HeldSessions.{IsOf}
use Rattle.driver_exec.proofs.SessionNumbers.{lent_within}
use Rattle.driver_actions.specs.CallParts.{FitsAlone, IsValidWrite}
use Rattle.driver_actions.specs.SingleCompleteness.{CompletesSingle, MayCompleteWhereTold}
use Rattle.driver_actions.specs.SingleEntries.{IsNewPlace}
use Rattle.driver_actions.specs.Singles.{BecomesSingle}
use Rattle.driver_actions.specs.SingleCalls.{Made, Makes, Runs, Tells}
use Rattle.driver_actions.proofs.CallSends.{pool_kept}
use Rattle.driver_actions.proofs.InsertFit.{insert_unrefused}
use Rattle.driver_actions.proofs.OwnIds.{OnlyDrew}
use Rattle.driver_actions.proofs.CallWrites.Entries.{may_send, placed_at}
use Rattle.driver_actions.proofs.CallWrites.Readiness.{MayGo, bare_goes, go_again, go_answered, lent_goes}
use Rattle.driver_actions.proofs.CallWrites.WritesMade.{made_drew}
use Rattle.driver_inputs.specs.declared.call.SingleAnswer.{SingleAnswer}
use Rattle.driver_inputs.specs.declared.call.SingleAnswer.TheVariants.{Deleted, Found, Inserted, Updated}
use Rattle.driver_inputs.specs.Forms.{WriteForm, asked_in, body_in, command_body, command_in, concern_in, deletes, finds, inserts, kind_in, namespace_in, repeats_in, send_in, updates}
use Rattle.driver_inputs.specs.Inputs.{IsAccepted, TellsInput}
use Rattle.driver_inputs.proofs.Refusals.{accepted_not_refused}

-- an accepted input is refused only for want of memory
accepted_memory : (form : WriteForm) (error : Error) → IsAccepted form → TellsInput form error → kind_of error ≡ kind.Memory
accepted_memory form error accepted tells = elim tells [
  | inl memory ↦ memory.kind_is
  | inr found ↦ absurd (accepted_not_refused form found.why accepted found.refused)
]

-- the form of an error of a single write
single_quiet : {A : Type 0} (executed result : Result A Error) → BecomesSingle executed result → EndsWell executed → EndsWell result
single_quiet (Ok output) result becomes quiet = subst EndsWell (sym becomes) tt
single_quiet (Err error) (Ok output) becomes quiet = absurd becomes
single_quiet (Err error) (Err now) becomes memory =
    let same : now ≡ error = subst (λ why. ConvertsKind why error now) memory becomes in ap kind_of same ∙ memory

-- what holds before a write in a place, over a told pool and a told server
pub record Ready (made : ℕ) (place : Place) (pool : Pool) (told : ServerRun) : Type 0 where
  pub between : Between pool told.server.trace
  pub sound : Sound told.server
  pub new : IsNewPlace told.server.trace place
  pub numbers : NumbersWithin (pos made) pool.idle

-- a session that has no further number is past the calls that were made
past_end : (made : ℕ) (number : ℤ) → number ≡ last_number → number ≤ℤ pos made → pos made <ℤ last_number → ⊥
past_end made number is within below = omega (arith, ints)

module _ (made : ℕ) (place : Place) (before now : Moment) (form : WriteForm) (valid : IsValidWrite made before.client.options (setup_of before.link) form) where
  -- the part of the schedule of the call is gentle
  abbrev IsGentleCall : ServerRun → ServerRun → Type 0
  IsGentleCall told told_now = IsGentlePart (λ send. IsGentleItem (kind_in form)) (λ send. DrawsNumbers true (repeats_in form before.client.options) (setup_of before.link)) told told_now

  -- over what is told
  module _ (pool : Pool) (told told_now : ServerRun) (ready : Ready made place pool told) (pool_is : before.store.pool ≡ Some pool) (link_is : server_run before.link ≡ Some told)
      (now_is : server_run now.link ≡ Some told_now) (apart : DrawnApart now.store) (gentle : IsGentleCall told told_now) where
    -- the operation of the call's own write, once an id was drawn, if any
    module _ (mid : Moment) (drew : OnlyDrew before mid) (sent : Written) where
      mid_pool : mid.store.pool ≡ Some pool
      mid_pool = pool_kept before.store mid.store drew.draws ∙ pool_is

      mid_link : server_run mid.link ≡ Some told
      mid_link = ap (λ moment. server_run moment.link) drew.rest ∙ link_is

      -- the client's options are as they were
      options_are : mid.client.options ≡ before.client.options
      options_are = ap (λ moment. moment.client.options) drew.rest

      -- the concern is not refused
      accepted : concern_refusal (concern_in form mid.client.options) ≡ None
      accepted = ap (λ options. concern_refusal (concern_in form options)) options_are ∙ valid.concerned

      -- the first send may go out
      first_goes : (at : ℕ) (lent : StoreTells) (session : Session) (number : ℤ) → LendsSession mid.store lent at session → DrawnApart lent
          → number ≡ (session.number +ℤ pos 1) → MayGo form place sent (send_in (Some session.id) (Some number) form place sent) told.server
      first_goes at lent session number lends drawn is =
          lent_goes form place sent mid.store lent pool told.server mid_pool
          (may_send told.server.trace form place sent ready.new) ready.sound ready.between at session number lends drawn is

      -- its session has a further number
      not_last : (at : ℕ) (lent : StoreTells) (session : Session) → LendsSession mid.store lent at session → session.number ≡ last_number → ⊥
      not_last at lent session lends is =
          past_end made session.number is (lent_within made mid.store lent pool mid_pool at session lends ready.numbers) valid.number

      -- the part is gentle from the moment of the operation on
      gentle_mid : IsGentlePart (λ send. IsGentleItem (kind_in form)) (λ send. DrawsNumbers true (repeats_in form mid.client.options) (setup_of mid.link)) told told_now
      gentle_mid =
          subst (λ moment. IsGentlePart (λ send. IsGentleItem (kind_in form)) (λ send. DrawsNumbers true (repeats_in form moment.client.options) (setup_of moment.link)) told told_now) (sym drew.rest) gentle

      -- what the operation tells, and that it reads a reply which says that its command was done
      module _ {A : Type 0} (spec : OperationSpec A) (never : NeverOpen spec) (sessions : spec.sessions ≡ true) (own_is : repeats_in form mid.client.options ≡ spec.retryability mid.client.options)
          (concern_is : concern_in form mid.client.options ≡ concern_of spec first mid.client.options)
          (unrefused : (description : Description) → IsOf (setup_of mid.link) description → (number : Option ℕ) → MayBeFixed spec (Some 1) (setup_of mid.link) 1 number
          → (error : Error) → Refuses spec number description error → ⊥)
          (bodies : (which : SendKind) (statements : ℕ) (made : Command) → spec.commands which statements made → (made.database ≡ (namespace_in form).db) × (made.body ≡ command_body form))
          (plain : (found : Reply) → IsDoneReply (command_in form) (kind_in form) (placed_at place sent) found → (bytes : List ℕ) → Spells found bytes
          → (error : Error) → ReadsAnswer spec 1 bytes (Err error) → kind_of error ≡ kind.Memory) where
        -- each send is answered that it was done
        answers : (session : Option (List ℕ)) (number : Option ℤ) (server : Server) (step : Scheduled)
            → MayGo form place sent (send_in session number form place sent) server → IsGentleItem (kind_in form) step.item
            → AnswersPlainly spec 1 server (send_in session number form place sent) step
        answers session number server step may serves =
            let done = go_answered form place sent (send_in session number form place sent) server step may serves in
            record { reply = done.found; is = done.is; plain = λ bytes spelled error reads. plain done.found done.tells bytes spelled error reads }

        -- its command has a spelling
        has_frame : (context : SendContext) (fault : EncodeFault) → context.concern ≡ concern_in form mid.client.options → HasNoSpelling spec context fault → ⊥
        has_frame context fault goes none =
            let built = bodies none.which none.statements none.command none.is in
            let spelled : refusal (body_in form context) ≡ None = valid.command context (goes ∙ ap (concern_in form) options_are) none.sixteen in
            let refused : refusal (body_in form context) ≡ Some fault
            = subst (λ body. refusal (body ++ executor_fields context (namespace_in form).db) ≡ Some fault) built.1
            (subst (λ database. refusal (none.command.body ++ executor_fields context database) ≡ Some fault) built.0 none.refused) in
            let e : ◌≡◌ {A = Option EncodeFault} None (Some fault) = sym spelled ∙ refused in cc

        -- the operation, with what is known of its sends
        module _ (ended : Result A Error) (runs : Runs spec (asked_in form place sent) place mid now ended) where
          known : KnownCommand A
          known = record {
            spec = spec;
            batch = batch_of (place ∷ []) 1;
            fixed = Some 1;
            which = first;
            body = asked_in form place sent;
            Serves = λ send. IsGentleItem (kind_in form);
            asked = runs.asks;
            retryability = repeats_in form mid.client.options;
            concern = concern_in form mid.client.options;
            accepted = accepted;
            store = mid.store;
            told = told;
            link = besides_out mid.link;
            link_is = mid_link;
            repeats = λ send. DrawsNumbers true (repeats_in form mid.client.options) (setup_of mid.link);
            repeats_numbered = λ session number draws. draws;
            Ready = MayGo form place sent;
            ready_answers = λ session number server step may command is serves. answers session number server step may serves;
            pages_well = λ last part session number before end begins ends may command is serves bytes replied error fails.
                alone_memory spec never 1 before.server (send_in session number form place sent) (next_step before.schedule before.server)
                (answers session number before.server (next_step before.schedule before.server) may serves) bytes replied session (run_after before (send_in session number form place sent)) end error fails;
            ready_again = λ id number server step may lossy. go_again form place sent id number server step may lossy;
            first_ready = first_goes;
            bare_ready = λ session. bare_goes form place sent session told.server;
            takes_sessions = sessions;
            unrefused = unrefused;
            spelled = has_frame;
            not_last = not_last;
          }

          -- so it ends well
          ended_quietly : EndsWell ended
          unfolding known
          ended_quietly =
              single_quiet runs.executed ended runs.becomes
              (gentle_ends known mid now told_now refl refl own_is concern_is now_is apart gentle_mid 0 runs.count (Some 1) runs.executed runs.executes)

          -- and so does its call
          ends_well : (answers : A → SingleAnswer) (error : Error) → Tells answers ended (Err error) → kind_of error ≡ kind.Memory
          ends_well answers error tells = by_ended ended ended_quietly tells
            where
              by_ended : (ended : Result A Error) → EndsWell ended → Tells answers ended (Err error) → kind_of error ≡ kind.Memory
              by_ended (Ok done) quiet tells = absurd tells
              by_ended (Err failed) quiet tells = let same : error ≡ failed = cc tells in ap kind_of same ∙ quiet

-- the concern of a write is that of its operation
feature_else : (own : Option WriteConcern) (namespace : Namespace) (given : Option WriteConcern) → else_concern own given ≡ effective_concern (feature_of own) (in_collection namespace) given
feature_else None namespace given = refl
feature_else (Some concern) namespace given = refl

-- a write that was made ends well, whatever it does
made_well : (made : ℕ) (place : Place) (before now : Moment) (form : WriteForm) (valid : IsValidWrite made before.client.options (setup_of before.link) form) (pool : Pool) (told told_now : ServerRun) (ready : Ready made place pool told)
    → before.store.pool ≡ Some pool → server_run before.link ≡ Some told → server_run now.link ≡ Some told_now → DrawnApart now.store
    → IsGentlePart (λ send. IsGentleItem (kind_in form)) (λ send. DrawsNumbers true (repeats_in form before.client.options) (setup_of before.link)) told told_now
    → (error : Error) → Made before now form place (Err error) → kind_of error ≡ kind.Memory
made_well made place before now (inserts namespace document options) valid pool told told_now ready pool_is link_is now_is apart gentle error write =
    let form = inserts namespace document options in
    let run = write.runs in
    let spec = insert_spec (in_collection namespace) 0 (run.own ∷ []) options in
    let setup_is = served_setup before.link.making told link_is in
    let fits = subst (λ setup. IfSome setup (λ found. FitsAlone found.description form)) setup_is valid.fits in
    ends_well made place before now form valid pool told told_now ready pool_is link_is now_is apart gentle write.mid (made_drew form write) write.sent spec ((insert_lawful (in_collection namespace) 0 (run.own ∷ []) options).alone refl) refl refl
    (feature_else options.write_concern namespace write.mid.client.options.write_concern) (insert_unrefused namespace document options run.id run.own run.twelve run.spelled told.setup fits (setup_of write.mid.link) (ap (λ moment. setup_of moment.link) (made_drew form write).rest ∙ setup_is))
    (λ which statements command is. (is.database, is.body))
    (λ found tells bytes spelled error reads.
    plain_read (in_collection namespace) 0 (run.own ∷ []) options 1 bytes one_inserted inserted_plain
    (subst (λ reply. Spells reply bytes) (inserted_is (placed_at place write.sent) found tells) spelled) error reads) run.ended run.runs (λ output. Inserted (record { inserted_id = run.own.id })) error run.tells
made_well made place before now (updates namespace filter change multi options) valid pool told told_now ready pool_is link_is now_is apart gentle error write =
    let form = updates namespace filter change multi options in
    let run = write.runs in
    ends_well made place before now form valid pool told told_now ready pool_is link_is now_is apart gentle write.mid (made_drew form write) write.sent
    (update_spec (in_collection namespace) filter change multi options) ((update_lawful (in_collection namespace) filter change multi options).alone refl) refl refl (feature_else options.write_concern namespace write.mid.client.options.write_concern)
    (λ description is number fixed error refuses. refuses.refused) (λ which statements command is. (is.database, is.body))
    (λ found tells bytes spelled error reads. update_plain (in_collection namespace) filter change multi options (placed_at place write.sent) found tells bytes spelled error reads)
    run.ended run.runs (λ output. Updated output) error run.tells
made_well made place before now (deletes namespace filter multi options) valid pool told told_now ready pool_is link_is now_is apart gentle error write =
    let form = deletes namespace filter multi options in
    let run = write.runs in
    ends_well made place before now form valid pool told told_now ready pool_is link_is now_is apart gentle write.mid (made_drew form write) write.sent
    (delete_spec (in_collection namespace) filter multi options) ((delete_lawful (in_collection namespace) filter multi options).alone refl) refl refl (feature_else options.write_concern namespace write.mid.client.options.write_concern)
    (λ description is number fixed error refuses. refuses.refused) (λ which statements command is. (is.database, is.body))
    (λ found tells bytes spelled error reads. delete_plain (in_collection namespace) filter multi options (placed_at place write.sent) found tells bytes spelled error reads)
    run.ended run.runs (λ output. Deleted output) error run.tells
made_well made place before now (finds namespace filter modification options) valid pool told told_now ready pool_is link_is now_is apart gentle error write =
    let form = finds namespace filter modification options in
    let run = write.runs in
    ends_well made place before now form valid pool told told_now ready pool_is link_is now_is apart gentle write.mid (made_drew form write) write.sent
    (find_spec (in_collection namespace) filter modification options) ((find_lawful (in_collection namespace) filter modification options).alone refl) refl refl (feature_else options.write_concern namespace write.mid.client.options.write_concern)
    (λ description is number fixed error refuses. refuses.refused) (λ which statements command is. (is.database, is.body))
    (λ found tells bytes spelled error reads. find_plain (in_collection namespace) filter modification options (placed_at place write.sent) found tells bytes spelled error reads)
    run.ended run.runs (λ output. Found output) error run.tells

-- each end of a write is well
pub single_well : (made : ℕ) (place : Place) (before now : Moment) (form : WriteForm) (valid : IsValidWrite made before.client.options (setup_of before.link) form) (pool : Pool) (told told_now : ServerRun)
    (ready : Ready made place pool told) → before.store.pool ≡ Some pool → server_run before.link ≡ Some told → server_run now.link ≡ Some told_now → DrawnApart now.store
    → IsGentlePart (λ send. IsGentleItem (kind_in form)) (λ send. DrawsNumbers true (repeats_in form before.client.options) (setup_of before.link)) told told_now
    → (result : Result SingleAnswer Error) → Makes before now form place result → EndsWell result
single_well made place before now form valid pool told told_now ready pool_is link_is now_is apart gentle (Ok given) makes = tt
single_well made place before now form valid pool told told_now ready pool_is link_is now_is apart gentle (Err error) makes = elim makes [
  | inl unmade ↦ accepted_memory form error valid.accepted unmade.why
  | inr found ↦ made_well made place before now form valid pool told told_now ready pool_is link_is now_is apart gentle error found
]

-- a single write is complete
pub single_completes : (place : Place) (before now : Moment) (form : WriteForm) (result : Result SingleAnswer Error) → Makes before now form place result
    → CompletesSingle before now form place result
single_completes place before now form result makes most may valid gentle =
    of_told before.store.pool now.store.pool (server_run before.link) (server_run now.link) refl refl refl refl may gentle
  where
    of_told : (store store_now : Option Pool) (link link_now : Option ServerRun) → before.store.pool ≡ store → now.store.pool ≡ store_now → server_run before.link ≡ link
        → server_run now.link ≡ link_now → MayCompleteWhereTold most store store_now link place
        → IsGentleWhereTold (λ send. IsGentleItem (kind_in form)) (λ send. DrawsNumbers true (repeats_in form before.client.options) (setup_of before.link)) link link_now → EndsWell result
    of_told (Some pool) (Some pool_now) (Some told) (Some told_now) pool_is pool_now_is link_is now_is may gentle =
        let ready : Ready most place pool told = record { between = may.writes.between; sound = may.writes.sound; new = may.writes.new; numbers = may.numbers } in
        let apart : DrawnApart now.store = subst (λ p. DrawnApartIn p) (sym pool_now_is) may.writes.apart in
        single_well most place before now form valid pool told told_now ready pool_is link_is now_is apart gentle result makes
    of_told (Some pool) (Some pool_now) (Some told) None pool_is pool_now_is link_is now_is may gentle = absurd gentle
    of_told None store_now link link_now pool_is pool_now_is link_is now_is may gentle = absurd may
    of_told (Some pool) None link link_now pool_is pool_now_is link_is now_is may gentle = absurd may
    of_told (Some pool) (Some pool_now) None link_now pool_is pool_now_is link_is now_is may gentle = absurd may
