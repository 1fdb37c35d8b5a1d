-- An attempt of an operation whose part of the schedule is gentle fails only where its exchange was lost.
use Rattle.std.proofs.Common.{◌≡◌, ℕ, ◌<◌, ◌≤◌, true, List, length, refl, sym, ap, subst, ◌∙◌, inl, inr, arith}
use Rattle.std.specs.Prelude.{ℤ, Option, None, Some, Result, Ok, Err, slice_get}
use Rattle.driver_error.specs.declared.error.Error.{Error}
use Rattle.driver_error.specs.declared.labels.TheConstants.{RETRYABLE_WRITE_ERROR}
use Rattle.driver_error.specs.declared.kind.ErrorKind.TheVariants as kind
use Rattle.driver_error.specs.Error.{kind_of, labels_of}
use Rattle.driver_error.specs.LabelTexts.{has_label, label_set, with_label}
use Rattle.driver_options.specs.declared.options.Address.{Address}
use Rattle.driver_options.specs.declared.options.Conn.{Conn}
use Rattle.link_faults.specs.declared.fault.LinkError.{LinkError}
use Rattle.link_faults.specs.declared.fault.LinkError.TheVariants.{Fault}
use Rattle.link_faults.specs.declared.fault.LinkFault.{LinkFault}
use Rattle.driver_link.specs.declared.machine.Scheduled.{Scheduled}
use Rattle.driver_link.specs.declared.machine.Send.{Send}
use Rattle.driver_link.specs.Exchange.{exchanged, next_step, step_at}
use Rattle.driver_link.specs.LinkState.{server_run, setup_of}
use Rattle.driver_link.specs.ServerRun.{IsReply, ServerRun, TakesStep, run_after, run_answer}
use Rattle.driver_link.proofs.Lists.{none_is_some}
use Rattle.driver_session.specs.declared.retryability.Retryability.TheVariants as may
use Rattle.driver_session.specs.Session.{Session}
use Rattle.driver_session.specs.StoreTells.{DrawnApart}
use Rattle.driver_ops.specs.Fields.{under}
use Rattle.driver_ops.specs.Operations.{send_of}
use Rattle.retry_rules.specs.declared.failure.FailurePhase.{FailurePhase}
use Rattle.retry_rules.specs.declared.failure.FailurePhase.TheVariants.{ConnectionEstablishment, Execution}
use Rattle.driver_attempt.specs.AttemptExchanges.{AsksPages, held_after}
use Rattle.driver_attempt.specs.Attempting.{AttemptState, FailsIn, LosesExchange, NotConnected, NotSelected, Sends, SpellsFailure, asks_session, on_connection}
use Rattle.driver_attempt.specs.Failures.{is_memory}
use Rattle.driver_attempt.specs.Holding.{HoldsSession, dirty_session, held_id, needs_session}
use Rattle.retry_rules.specs.OldDeployment.{reworded}
use Rattle.retry_rules.specs.Retry.{RetryState}
use Rattle.driver_exec.specs.Gentle.{IsGentlePart, IsLossy, IsOfPart}
use Rattle.driver_exec.specs.OperationCauses.{DrawsNumbers, labels_after}
use Rattle.driver_exec.proofs.FixedNumbers.{MayBeFixed, sends_first}
use Rattle.driver_exec.proofs.HeldSessions.{draws_on, not_both}
use Rattle.driver_exec.proofs.Moments.{IsBefore, LeadsCalling, after_before, before_twice, behind_lead, checks_well, longer_after, one_moment, selects_lead, selects_well, sends_lead, sent_last}
use Rattle.driver_exec.proofs.OperationCauses.{fault_error, reworded_is}
use Rattle.driver_exec.proofs.Completeness.Ends.{FailsBehind, lossy_none, has_own_label, HasNumber, lost_held, held_again, same_again}
use Rattle.driver_exec.proofs.Completeness.Sessions.{KnownCommand, attempted, MayGo, IsReadied, IsPrepared, again_readied, is_conn, reached_at, readied_at}

module _ {A : Type 0} (known : KnownCommand A) where
  open known use {spec, batch, fixed, body, Serves, repeats, repeats_numbered, retryability, told, link, Ready, ready_answers, pages_well, ready_again}

  -- the part that is gentle
  module _ (told_now : ServerRun) (gentle : IsGentlePart Serves repeats told told_now) where
    -- one exchange of the part was lost, from a moment on
    pub record Lost (from : ServerRun) (now : AttemptState) : Type 0 where
      pub draws : DrawsNumbers true retryability (setup_of link)
      pub session : Session
      pub number : ℤ
      pub held_is : now.held ≡ held_again session number
      pub moment : ServerRun
      pub is : server_run now.link ≡ Some moment
      pub after : IsBefore told moment
      pub setup : setup_of now.link ≡ setup_of link
      pub may_be_fixed : MayBeFixed spec fixed (setup_of link) batch.statements now.fixed
      pub ready : Ready (send_of (under (Some session.id) (Some number)) body) moment.server
      pub at : ℕ
      pub part : IsOfPart told told_now at
      pub lossy : IsLossy (step_at told.schedule at).item
      pub since : length from.server.trace ≤ at
      pub until : at < length moment.server.trace

    -- a further attempt is prepared by it
    pub again_prepared : (from : ServerRun) (now : AttemptState) (lost : Lost from now) → IsPrepared known lost.moment now
    again_prepared from now lost = record {
      is = lost.is;
      after = lost.after;
      setup = lost.setup;
      may_be_fixed = lost.may_be_fixed;
      readied = λ ready store_now description is holds apart.
          let here = subst (λ h. HoldsSession (needs_session (asks_session true description) h) now.store store_now h ready (Ok tt)) lost.held_is holds in
          subst (IsReadied known lost.moment.server description) (sym (same_again lost.session lost.number now.store store_now ready (asks_session true description) here))
          (again_readied known lost.session lost.number lost.moment.server description lost.ready lost.draws is);
    }

    -- an attempt of the part
    module _ (past : Option RetryState) (moment : ServerRun) (mid : AttemptState) (prepared : IsPrepared known moment mid) (now : AttemptState) (last : ServerRun) (now_is : server_run now.link ≡ Some last) (later : IsBefore last told_now)
        (apart : DrawnApart now.store) where
      -- its selection does not fail
      pub unselected_none : (error : Error) → NotSelected past mid now error → ⊥
      unselected_none error fails =
          selects_well repeats told told_now gentle moment prepared.after mid.link now.link last prepared.is now_is later fails.fault fails.labels fails.selects.calls

      -- nor does its check-out
      unconnected_none : (address : Address) (error : Error) → NotConnected (attempted known) past mid now address error → ⊥
      unconnected_none address error fails =
          let first = (selects_lead moment mid.link fails.mid (Ok address) prepared.is fails.selects.calls).leads in
          checks_well repeats told told_now gentle first.moment (before_twice told moment first.moment prepared.after first.later) fails.mid now.link last
          first.is now_is later fails.fault fails.labels fails.checks_out.calls

      -- the command went out
      module _ (address : Address) (conn : Conn) (result : Result (List ℕ) LinkError) (sends : Sends (attempted known) past mid now address conn result) where
        -- the calls before the exchange
        came : LeadsCalling moment mid.link sends.ready.link
        came = reached_at known moment mid prepared sends.ready address conn sends.readies

        -- the moment before it
        abbrev before : ServerRun
        before = came.leads.moment

        -- the send
        abbrev send : Send
        send = send_of (under (held_id sends.numbered) sends.number) body

        -- the step of the schedule that it meets
        abbrev step : Scheduled
        step = next_step before.schedule before.server

        -- the moment is of the part
        since_told : IsBefore told before
        since_told = before_twice told moment before prepared.after came.leads.later

        -- the server takes the step
        steps : TakesStep (Some before) (server_run now.link) send result
        steps = subst (λ s. TakesStep s (server_run now.link) send result) came.leads.is (sends.exchanges.exchanges.steps send (sends.exchanges.reads body known.asked))

        -- what was drawn may go out
        goes : MayGo known moment.server conn.description (on_connection retryability conn.description) sends.numbered sends.number
        goes = (readied_at known moment mid prepared sends.ready address conn sends.readies (subst DrawnApart sends.store_is apart)).numbered (on_connection retryability conn.description) sends.numbered sends.number sends.draws

        -- the send may go out to the server
        ready_here : Ready send before.server
        ready_here = subst (Ready send) (sym came.server) goes.ready

        -- its number is of the part
        of_part : server_run now.link ≡ Some (run_after before send) → IsOfPart told told_now (length before.server.trace)
        of_part is =
            let over : IsBefore (run_after before send) told_now = subst (λ t. IsBefore t told_now) (one_moment now.link last (run_after before send) now_is is) later in
            (since_told.trace, omega (arith, over.trace, longer_after before send))

        -- and it stands there
        sent_at : server_run now.link ≡ Some (run_after before send) → slice_get told_now.server.trace (length before.server.trace) ≡ Some send
        sent_at is =
            let over : IsBefore (run_after before send) told_now = subst (λ t. IsBefore t told_now) (one_moment now.link last (run_after before send) now_is is) later in
            over.stays (length before.server.trace) send (sent_last before send)

        -- the step is that of its number
        step_is : step_at told.schedule (length before.server.trace) ≡ step
        step_is = ap (λ s. step_at s (length before.server.trace)) (sym since_told.schedule)

        -- an error that is read behind a reply to it is want of memory
        read_memory : (reply_bytes : List ℕ) → TakesStep (Some before) (server_run now.link) send (Ok reply_bytes) → (end : ServerRun) → IsBefore end told_now
            → (error : Error) → FailsBehind spec batch.statements reply_bytes (held_id sends.numbered) (run_after before send) end error → kind_of error ≡ kind.Memory
        read_memory reply_bytes stepped end ends error fails = elim (gentle.items (length before.server.trace) send (of_part stepped.0) (sent_at stepped.0)) [
          | inl serves ↦
              pages_well told_now gentle (held_id sends.numbered) sends.number before end since_told ends ready_here sends.exchanges.framed.command sends.exchanges.framed.built.is
              (subst (λ s. Serves send s.item) step_is serves) reply_bytes stepped.1 error fails
          | inr loses ↦ absurd (subst (λ o. IsReply o reply_bytes) (lossy_none before.server send step (subst (λ s. IsLossy s.item) step_is loses.1)) stepped.1)
        ]

        -- without a reply its item is lossy, and it has a number
        lossy_item : run_answer before send ≡ None → server_run now.link ≡ Some (run_after before send)
            → DrawsNumbers true retryability (setup_of link) × IsLossy (step_at told.schedule (length before.server.trace)).item
        lossy_item none is = elim (gentle.items (length before.server.trace) send (of_part is) (sent_at is)) [
          | inl serves ↦
              let here = ready_answers (held_id sends.numbered) sends.number before.server step ready_here sends.exchanges.framed.command sends.exchanges.framed.built.is (subst (λ s. Serves send s.item) step_is serves) in
              absurd (none_is_some here.reply (sym none ∙ here.is))
          | inr loses ↦ (repeats_numbered (held_id sends.numbered) sends.number loses.0, loses.1)
        ]

        -- the setup stays
        setup_now : setup_of now.link ≡ setup_of link
        setup_now = sends.exchanges.exchanges.setup ∙ came.leads.setup ∙ prepared.setup

        -- the command has as many statements as a first build takes, and they are fixed
        fixed_now : MayBeFixed spec fixed (setup_of link) batch.statements now.fixed
        fixed_now = inr (
          sends_first (attempted known) fixed (setup_of link) past mid now address conn result sends (is_conn known moment mid prepared sends.ready address conn sends.readies) prepared.may_be_fixed,
          sends.fixed_is,
        )

        -- the connection takes the write again
        on_connection_write : DrawsNumbers true retryability (setup_of link) → (conn.description.supports_sessions ≡ true) × (on_connection retryability conn.description ≡ may.Write)
        on_connection_write draws = draws_on true retryability (setup_of link) conn.description draws (is_conn known moment mid prepared sends.ready address conn sends.readies)

        -- the send has a number
        lost_number : DrawsNumbers true retryability (setup_of link) → HasNumber sends.numbered sends.number
        lost_number draws = let takes = on_connection_write draws in goes.numbers takes.0 takes.1

        -- a fault means that the exchange was lost
        lost_now : (fault : LinkFault) (labels : List (List ℕ)) → TakesStep (Some before) (server_run now.link) send (Err (Fault fault labels)) → result ≡ Err (Fault fault labels) → Lost moment now
        lost_now fault labels stepped result_is =
            let loses = lossy_item stepped.1 stepped.0 in
            let has = lost_number loses.0 in
            let id_is : held_id sends.numbered ≡ Some has.session.id = ap (λ s. held_id (record { session = s; sent = None })) has.session_is in
            let same : send ≡ send_of (under (Some has.session.id) (Some has.value)) body
            = ap (λ i. send_of (under i sends.number) body) id_is ∙ ap (λ n. send_of (under (Some has.session.id) n) body) has.number_is in
            let ready = ready_again has.session.id has.value before.server step (subst (λ s. Ready s before.server) same ready_here) (subst (λ s. IsLossy s.item) step_is loses.1) in
            record {
              draws = loses.0;
              session = dirty_session has.session;
              number = has.value;
              held_is = sends.held_is ∙ ap (λ r. held_after r (record sends.numbered { sent = Some sends.number })) result_is
                  ∙ lost_held sends.numbered sends.number has fault labels stepped.2.0;
              moment = run_after before send;
              is = stepped.0;
              after = since_after;
              setup = setup_now;
              may_be_fixed = fixed_now;
              ready = subst (λ s. Ready (send_of (under (Some has.session.id) (Some has.value)) body) (exchanged before.server s step)) (sym same) ready;
              at = length before.server.trace;
              part = of_part stepped.0;
              lossy = loses.1;
              since = came.leads.later.trace;
              until = omega (arith, longer_after before send);
            }
          where
            since_after : IsBefore told (run_after before send)
            since_after = before_twice told before (run_after before send) since_told (after_before before send)

    -- how it fails
    module _ (past : Option RetryState) (moment : ServerRun) (mid : AttemptState) (prepared : IsPrepared known moment mid) (now : AttemptState) (last : ServerRun) (now_is : server_run now.link ≡ Some last) (later : IsBefore last told_now)
        (apart : DrawnApart now.store) where
      -- the answer to its command spells no failure
      spelled_none : (address : Address) (error : Error) → SpellsFailure (attempted known) past mid now address error → ⊥
      spelled_none address error fails =
          let behind = fails.behind in
          let exchanges = fails.reads.exchanges in
          let came = sends_lead (attempted known) past body known.asked moment mid now prepared.is behind address fails.conn (Ok fails.reply) fails.sends in
          let more = behind_lead spec batch.statements fails.reply fails.conn (held_id behind.held) came.moment behind.link now.link behind.held now.held (Err fails.bare) came.is exchanges in
          let until_last = subst (IsBefore came.moment) (one_moment now.link more.moment last more.is now_is) more.later in
          let behind_later = before_twice came.moment last told_now until_last later in
          let behind_apart = subst DrawnApart fails.reads.store apart in
          let stepped = steps past moment mid prepared behind came.moment came.is behind_later behind_apart address fails.conn (Ok fails.reply) fails.sends in
          let session_is : held_id behind.held ≡ held_id fails.sends.numbered = ap held_id fails.sends.held_is in
          let memory = read_memory past moment mid prepared behind came.moment came.is behind_later behind_apart address fails.conn (Ok fails.reply) fails.sends fails.reply stepped last later fails.bare (record {
            conn = fails.conn;
            before = behind.link;
            mid = exchanges.mid;
            after = now.link;
            asked = exchanges.asked;
            before_is = stepped.0;
            after_is = now_is;
            asks = subst (λ s. AsksPages spec batch.statements fails.reply fails.conn s behind.link exchanges.asked exchanges.mid) session_is exchanges.asks;
            ends = exchanges.ends;
          }) in
          not_both (sym (ap is_memory memory) ∙ fails.is.is.told)

      -- an exchange that was lost leaves an error that lets the write be tried again
      pub record LosesWell (error : Error) : Type 0 where
        pub lost : Lost moment now
        pub labelled : has_label (labels_of (reworded error)) RETRYABLE_WRITE_ERROR.now ≡ true

      -- so it is for each exchange that failed
      loses_well : (address : Address) (error : Error) → LosesExchange (attempted known) past mid now address error → LosesWell error
      loses_well address error fails =
          let result = Err (Fault fails.fault fails.labels) in
          let connection_retryability = on_connection retryability fails.conn.description in
          let stepped = steps past moment mid prepared now last now_is later apart address fails.conn result fails.sends in
          let lost = lost_now past moment mid prepared now last now_is later apart address fails.conn result fails.sends fails.fault fails.labels stepped refl in
          let takes = on_connection_write past moment mid prepared now last now_is later apart address fails.conn result fails.sends lost.draws in
          let is = fault_error fails.fault fails.labels connection_retryability fails.is.bare fails.is.is in
          let labels : labels_of (reworded error) ≡ with_label (label_set fails.labels) RETRYABLE_WRITE_ERROR.now
          = (reworded_is error).1 ∙ fails.is.versioned.labels ∙ is.1 ∙ ap (λ t. labels_after t fails.fault fails.labels) takes.1
          ∙ ap (λ f. labels_after may.Write f fails.labels) stepped.2.0 in record {
            lost = lost;
            labelled = ap (λ l. has_label l RETRYABLE_WRITE_ERROR.now) labels ∙ has_own_label (label_set fails.labels);
          }

      -- an attempt of the part fails only so
      pub fails_well : (address : Address) (phase : FailurePhase) (error : Error) → FailsIn (attempted known) past mid now address phase error → LosesWell error
      fails_well address ConnectionEstablishment error fails = absurd (unconnected_none past moment mid prepared now last now_is later apart address error fails)
      fails_well address Execution error fails = elim fails [
        | inl lost ↦ loses_well address error lost
        | inr says ↦ absurd (spelled_none address error says)
      ]
