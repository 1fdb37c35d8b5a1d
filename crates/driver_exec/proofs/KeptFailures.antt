-- The failure that an operation keeps, where only a reply spells it, was read in the reply to one of its sends.
use Rattle.std.proofs.Common.{◌≡◌, ℕ, suc, List, refl, sym, subst, ◌∙◌, inl, inr, arith}
use Rattle.std.specs.Prelude.{Bool, false, Option, Some, Result, Ok, Err}
use Rattle.driver_error.specs.declared.error.Error.{Error}
use Rattle.driver_error.specs.Error.{kind_of, source_of}
use Rattle.driver_options.specs.declared.options.Address.{Address}
use Rattle.driver_options.specs.declared.options.Conn.{Conn}
use Rattle.link_faults.specs.declared.fault.LinkError.{LinkError}
use Rattle.link_faults.specs.declared.fault.LinkError.TheVariants.{Fault}
use Rattle.link_faults.specs.declared.fault.LinkFault.{LinkFault}
use Rattle.driver_link.specs.declared.machine.SendBody.{SendBody}
use Rattle.driver_link.specs.Counting.{OnlyCounts}
use Rattle.driver_link.specs.LinkState.{LinkState, server_run}
use Rattle.driver_session.specs.declared.retryability.Retryability.{Retryability}
use Rattle.driver_session.specs.StoreTells.{StoreTells}
use Rattle.driver_ops.specs.Fields.{under}
use Rattle.driver_ops.specs.OperationLaw.{NeverOpen}
use Rattle.driver_ops.specs.Operations.{AsksFor, send_of}
use Rattle.driver_attempt.specs.declared.attempt_end.AttemptEnd.TheVariants.{Failed}
use Rattle.retry_rules.specs.declared.failure.AttemptFailure.{AttemptFailure}
use Rattle.retry_rules.specs.declared.failure.FailurePhase.{FailurePhase}
use Rattle.retry_rules.specs.declared.failure.FailurePhase.TheVariants.{ConnectionEstablishment, Execution}
use Rattle.driver_attempt.specs.AttemptExchanges.{held_after, held_after_pages, pages_of}
use Rattle.driver_attempt.specs.Attempting.{AttemptState, AttemptedOperation, FailsIn, MakesAttempt, OnlyLink, Readies, ReadsOn, RefusedAgain, Sends, asks_session, on_connection}
use Rattle.driver_attempt.specs.Holding.{ExecutionSession, held_id}
use Rattle.retry_rules.specs.OldDeployment.{reworded}
use Rattle.retry_rules.specs.Retry.{RetryState, decide}
use Rattle.driver_attempt.proofs.OneAttempt.{checked_counted, connected_counted}
use Rattle.driver_exec.specs.Resending.{AnsweredAmong, IsReadFailure}
use Rattle.driver_exec.proofs.BorrowedSession.{CountFits, MayGoOn, id_of, number_of}
use Rattle.driver_exec.proofs.FixedNumbers.{ready_sent}
use Rattle.driver_exec.proofs.OperationCauses.{KeptHas, ResultHas, decided_has, kept_has, reworded_source}
use Rattle.driver_exec.proofs.PassesBy.{behind_passes, ends_pass, reads_error}
use Rattle.driver_exec.proofs.Progress.{CourseAt, alone_at, fits_at, pages_at, ready_here, same_held}
use Rattle.driver_exec.proofs.ReadFailures.{fault_unread, reworded_read}
use Rattle.driver_exec.proofs.ReadReplies.{ReadSoFar, read_again, read_answered, read_as, read_counted, read_lost, read_more, read_passed, read_ready, pages_read}
use Rattle.driver_exec.proofs.SendRelations.{among_passed, last_among}

module _ {A : Type 0} (op : AttemptedOperation A) (link : LinkState) where
  -- the kind of an error was read in a reply by a moment
  abbrev pub ReadAt : ℕ → AttemptState → Error → Type 0
  ReadAt most now error = ReadSoFar op.spec op.batch (server_run link) most (server_run now.link) now.held.session now.held.sent error

  -- it was, where only a reply spells the error
  abbrev pub FailureAt : ℕ → AttemptState → Error → Type 0
  FailureAt most now error = IsReadFailure (kind_of error) → ReadAt most now error

  -- a connection was had
  pub ready_read : {past : Option RetryState} (most : ℕ) (mid ready : AttemptState) (address : Address) (conn : Conn) (error : Error) → Readies op past mid ready address conn → ReadAt most mid error → ReadAt most ready error
  ready_read most mid ready address conn error readies read =
      read_ready op.spec op.batch (server_run link) most mid.store ready.store (server_run ready.link) (asks_session op.spec.sessions conn.description) mid.held ready.held error readies.holds
      (read_counted op.spec op.batch (server_run link) most (server_run mid.link) (server_run ready.link) mid.held.session mid.held.sent error
      (connected_counted mid.link ready.link address conn readies.connects).server read)

  -- calls of the link alone
  pub link_read : (most : ℕ) (mid now : AttemptState) (error : Error) → OnlyLink mid now → OnlyCounts (server_run mid.link) (server_run now.link) → ReadAt most mid error → ReadAt most now error
  link_read most mid now error rest counts read =
      subst (λ h. ReadSoFar op.spec op.batch (server_run link) most (server_run now.link) h.session h.sent error) (sym rest.held)
      (read_counted op.spec op.batch (server_run link) most (server_run mid.link) (server_run now.link) mid.held.session mid.held.sent error counts read)

  -- the command could not be built again
  pub again_read : (past : Option RetryState) (most : ℕ) (mid now : AttemptState) (error : Error) → RefusedAgain op past mid now → ReadAt most mid error → ReadAt most now error
  again_read past most mid now error refused read =
      let ready = refused.ready in
      let here = ready_read most mid ready refused.address refused.conn error refused.readies read in
      subst (λ l. ReadSoFar op.spec op.batch (server_run link) most (server_run l) now.held.session now.held.sent error) (sym refused.link)
      (read_again op.spec op.batch (server_run link) most (server_run ready.link) (on_connection op.retryability refused.conn.description) ready.held now.held refused.number error refused.draws here)

  -- further pages of a later answer
  later_read : (op.spec.paged ≡ false → NeverOpen op.spec) → (most : ℕ) (conn : Conn) (reply : List ℕ) (answer : Result A Error) (behind now : AttemptState) (error : Error) → ReadsOn op conn reply behind now answer
      → ReadAt most behind error → ReadAt most now error
  later_read alone most conn reply answer behind now error reads read =
      let held = held_after_pages reads.exchanges.asked behind.held in
      subst (λ h. ReadSoFar op.spec op.batch (server_run link) most (server_run now.link) h.session h.sent error) (sym reads.exchanges.held_is)
      (read_passed op.spec op.batch (server_run link) most (server_run behind.link) (server_run now.link) held.session held.sent error
      (behind_passes op.spec op.batch.statements reply conn alone (held_id behind.held) behind.link now.link behind.held now.held answer reads.exchanges)
      (pages_read op.spec op.batch (server_run link) most (server_run behind.link) behind.held reads.exchanges.asked error read))

  -- an attempt that failed behind it
  module _ (alone : op.spec.paged ≡ false → NeverOpen op.spec) (past : Option RetryState) (most : ℕ) (mid : AttemptState) (goes : MayGoOn mid.held.sent) (error : Error) (read : ReadAt most mid error) where
    -- its exchange
    module _ (now : AttemptState) (address : Address) (conn : Conn) (result : Result (List ℕ) LinkError) (sends : Sends op past mid now address conn result) where
      abbrev connection_retryability : Retryability
      connection_retryability = on_connection op.retryability conn.description

      ready_goes : MayGoOn sends.ready.held.sent
      ready_goes = subst MayGoOn (sym (ready_sent op mid sends.ready address conn sends.readies)) goes

      ready_then : ReadAt most sends.ready error
      ready_then = ready_read most mid sends.ready address conn error sends.readies read

      abbrev held_now : ExecutionSession
      held_now = held_after result (record sends.numbered { sent = Some sends.number })

      came : ReadSoFar op.spec op.batch (server_run link) (suc most) (server_run now.link) held_now.session held_now.sent error → ReadAt (suc most) now error
      came here = subst (λ h. ReadSoFar op.spec op.batch (server_run link) (suc most) (server_run now.link) h.session h.sent error) (sym sends.held_is) here

      answered_behind : (bytes : List ℕ) → result ≡ Ok bytes → ReadAt (suc most) now error
      answered_behind bytes is = came (read_answered op.spec op.batch (server_run link) most sends.ready.link now.link sends.ready.held sends.numbered connection_retryability sends.number error ready_goes
          sends.draws ready_then conn result sends.exchanges bytes is)

      lost_behind : (fault : LinkFault) (labels : List (List ℕ)) → result ≡ Err (Fault fault labels) → ReadAt (suc most) now error
      lost_behind fault labels is = came (read_lost op.spec op.batch (server_run link) most sends.ready.link now.link sends.ready.held sends.numbered connection_retryability sends.number error ready_goes
          sends.draws ready_then conn result sends.exchanges fault labels is)

    -- by its phase
    fails_behind : (now : AttemptState) (address : Address) (phase : FailurePhase) (other : Error) → FailsIn op past mid now address phase other → ReadAt (suc most) now error
    fails_behind now address ConnectionEstablishment other fails =
        read_more op.spec op.batch (server_run link) most (server_run now.link) now.held.session now.held.sent error
        (link_read most mid now error fails.rest
        (checked_counted mid.link fails.mid now.link address (Err (Fault fails.fault fails.labels)) fails.selects fails.checks_out).server read)
    fails_behind now address Execution other fails = elim fails [
      | inl lost ↦ lost_behind now address lost.conn (Err (Fault lost.fault lost.labels)) lost.sends lost.fault lost.labels refl
      | inr spelled ↦ later_read alone (suc most) spelled.conn spelled.reply (Err spelled.bare) spelled.behind now error spelled.reads
          (answered_behind spelled.behind address spelled.conn (Ok spelled.reply) spelled.sends spelled.reply refl)
    ]

    -- an error that was read before it was read still
    pub older : (now : AttemptState) (failure : AttemptFailure) → MakesAttempt op past mid now (Failed failure) → ReadAt (suc most) now error
    older now failure makes = fails_behind now failure.address failure.phase failure.error makes.0

module _ {A : Type 0} (op : AttemptedOperation A) (store : StoreTells) (link : LinkState) (alone : op.spec.paged ≡ false → NeverOpen op.spec) (past : Option RetryState) (most : ℕ) (mid : AttemptState) (goes : MayGoOn mid.held.sent) (course : CourseAt op store link most mid) where
  -- a reply that spells an error, or the pages behind it
  module _ (behind now : AttemptState) (address : Address) (conn : Conn) (reply : List ℕ) (bare : Error) (sends : Sends op past mid behind address conn (Ok reply)) (reads : ReadsOn op conn reply behind now (Err bare)) where
    spelled_here : CourseAt op store link most sends.ready
    spelled_here = ready_here op store link alone past most mid goes course behind address conn (Ok reply) sends

    spelled_fits : CountFits now.held.sent (suc spelled_here.count)
    unfolding spelled_here
    spelled_fits = same_held op store link alone past most mid goes course behind now address conn reply (Err bare) sends reads (λ id sent. CountFits sent (suc spelled_here.count))
        (fits_at op store link alone past most mid goes course behind address conn (Ok reply) sends)

    spelled_among : (body : SendBody) → AsksFor op.spec op.batch body
        → AnsweredAmong op.spec op.batch.statements (server_run link) (server_run now.link) (send_of (under (id_of now.held.session) (number_of now.held.sent)) body) spelled_here.count 0 reply (pages_of reads.exchanges.asked)
    unfolding spelled_here
    spelled_among body asked =
        let send = send_of (under (id_of now.held.session) (number_of now.held.sent)) body in
        let exchanges = reads.exchanges in
        among_passed op.spec op.batch.statements (server_run link) send spelled_here.count 0 reply (pages_of exchanges.asked) (server_run exchanges.mid) (server_run now.link)
        (last_among op.spec op.batch.statements (server_run link) (server_run exchanges.mid) send spelled_here.count reply (pages_of exchanges.asked)
        (pages_at op store link alone past most mid goes course behind now address conn reply (Err bare) sends reads body asked))
        (ends_pass op.spec op.batch.statements reply conn alone (held_id behind.held) behind.link now.link behind.held now.held (Err bare) exchanges)

    spelled_read : (error : Error) → kind_of error ≡ kind_of bare → source_of error ≡ source_of bare → ReadAt op link (suc most) now error
    spelled_read error same same_source = record {
      bytes = reply;
      pages = pages_of reads.exchanges.asked;
      alone = alone_at op store link alone past most mid goes course behind now address conn reply (Err bare) sends reads;
      bare = bare;
      reads = reads_error op.spec op.batch.statements reply conn reads.exchanges.mid now.link reads.exchanges.asked bare reads.exchanges.ends;
      same_kind = same;
      same_source = same_source;
      earlier = spelled_here.count;
      later = 0;
      count = suc spelled_here.count;
      count_is = omega arith;
      within = omega (arith, spelled_here.within);
      fits = spelled_fits;
      answered = spelled_among;
    }

  -- the error of an attempt that failed
  fails_newly : (now : AttemptState) (address : Address) (phase : FailurePhase) (error : Error) → FailsIn op past mid now address phase error → IsReadFailure (kind_of error) → ReadAt op link (suc most) now error
  fails_newly now address ConnectionEstablishment error fails read = absurd (fault_unread fails.fault fails.labels op.retryability error fails.is read)
  fails_newly now address Execution error fails read = elim fails [
    | inl lost ↦ absurd (fault_unread lost.fault lost.labels (on_connection op.retryability lost.conn.description) lost.is.bare lost.is.is (subst IsReadFailure lost.is.versioned.kind read))
    | inr spelled ↦
        let rest = spelled.is.is.labelled.rest in
        spelled_read spelled.behind now address spelled.conn spelled.reply spelled.bare spelled.sends spelled.reads error (spelled.is.versioned.kind ∙ rest.kind) (spelled.is.versioned.source ∙ rest.source)
  ]

  -- and so in words for the caller
  newer : (now : AttemptState) (failure : AttemptFailure) → MakesAttempt op past mid now (Failed failure) → FailureAt op link (suc most) now (reworded failure.error)
  newer now failure makes = λ read.
      let same = reworded_read failure.error read in
      read_as op.spec op.batch (server_run link) (suc most) (server_run now.link) now.held.session now.held.sent failure.error (reworded failure.error) same (reworded_source failure.error)
      (fails_newly now failure.address failure.phase failure.error makes.0 (subst IsReadFailure same read))

  -- so is what is decided after it
  pub decided_read : (sharded : Bool) (kept : Option RetryState) (now : AttemptState) (failure : AttemptFailure) (result : Result RetryState Error) → MakesAttempt op past mid now (Failed failure)
      → KeptHas (FailureAt op link most mid) kept → decide kept failure op.retryability sharded ≡ result → ResultHas (FailureAt op link (suc most) now) result
  decided_read sharded kept now failure result makes has is =
      decided_has (FailureAt op link (suc most) now) op sharded kept failure result
      (kept_has (FailureAt op link most mid) (FailureAt op link (suc most) now) kept (λ error was read. older op link alone past most mid goes error (was read) now failure makes) has)
      (newer now failure makes) is
