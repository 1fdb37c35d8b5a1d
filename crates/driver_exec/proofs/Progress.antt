-- One attempt more of an operation, and what it has done then.
use Rattle.std.proofs.Common.{◌≡◌, ℕ, suc, ◌≤◌, List, [], refl, sym, subst, inl, inr, arith}
use Rattle.std.specs.Prelude.{ℤ, true, false, Option, None, Some, is_some, Result, Ok, Err}
use Rattle.driver_error.specs.declared.error.Error.{Error}
use Rattle.driver_options.specs.declared.options.Address.{Address}
use Rattle.driver_options.specs.declared.options.Conn.{Conn}
use Rattle.link_faults.specs.declared.fault.LinkError.{LinkError}
use Rattle.link_faults.specs.declared.fault.LinkError.TheVariants.{Fault}
use Rattle.link_faults.specs.declared.fault.LinkFault.{LinkFault}
use Rattle.driver_link.specs.declared.machine.SendBody.{SendBody}
use Rattle.driver_link.specs.Counting.{OnlyCounts}
use Rattle.driver_link.specs.LinkState.{LinkState, server_run}
use Rattle.driver_session.specs.declared.retryability.Retryability.{Retryability}
use Rattle.driver_session.specs.StoreTells.{StoreTells}
use Rattle.driver_ops.specs.Fields.{under}
use Rattle.driver_ops.specs.OperationLaw.{NeverOpen}
use Rattle.driver_ops.specs.Operations.{AsksFor, Page, send_of}
use Rattle.driver_attempt.specs.declared.attempt_end.AttemptEnd.TheVariants.{Failed}
use Rattle.retry_rules.specs.declared.failure.AttemptFailure.{AttemptFailure}
use Rattle.retry_rules.specs.declared.failure.FailurePhase.{FailurePhase}
use Rattle.retry_rules.specs.declared.failure.FailurePhase.TheVariants.{ConnectionEstablishment, Execution}
use Rattle.driver_attempt.specs.AttemptExchanges.{held_after, held_after_pages, pages_of}
use Rattle.driver_attempt.specs.Attempting.{EndsSent, FailsIn, IsAnswered, MayReadOn, OnlyLink, Readies, ReadsOn, AttemptState, Sends, AttemptedOperation, MakesAttempt, asks_session, on_connection}
use Rattle.driver_attempt.specs.Holding.{ExecutionSession, held_id, number_before}
use Rattle.retry_rules.specs.Retry.{RetryState, may_be_sent}
use Rattle.driver_attempt.proofs.OneAttempt.{checked_counted, connected_counted}
use Rattle.driver_exec.specs.Resending.{AnsweredLast, ReadsLast}
use Rattle.driver_exec.proofs.FixedNumbers.{read_sent, ready_sent}
use Rattle.driver_exec.proofs.BorrowedSession.{CountFits, MayGoOn, id_of, number_of}
use Rattle.driver_exec.proofs.Courses.{Course, Over, answered_course, answered_now, counted, course_over, first_alone, fits_now, lost_course, one_more, pages_course, passed, readied, sent_over}
use Rattle.driver_exec.proofs.PassesBy.{asks_give, behind_passes, no_pages, reads_output}
use Rattle.driver_exec.proofs.ReadReplies.{read_id}
use Rattle.driver_exec.proofs.SendRelations.{last_gives}

module _ {A : Type 0} (op : AttemptedOperation A) (store : StoreTells) (link : LinkState) where
  abbrev pub CourseAt : ℕ → AttemptState → Type 0
  CourseAt most now = Course op.spec op.batch store (server_run link) most now.store (server_run now.link) now.held.session now.held.sent

  abbrev pub OverAt : ℕ → AttemptState → Type 0
  OverAt most now = Over op.spec op.batch store (server_run link) most now.store (server_run now.link) now.held.session now.held.sent

  pub ready_course : {past : Option RetryState} (most : ℕ) (mid ready : AttemptState) (address : Address) (conn : Conn) → Readies op past mid ready address conn → CourseAt most mid → CourseAt most ready
  ready_course most mid ready address conn readies course =
      readied op.spec op.batch store (server_run link) most mid.store ready.store (server_run ready.link) (asks_session op.spec.sessions conn.description) mid.held ready.held readies.holds
      (counted op.spec op.batch store (server_run link) most mid.store (server_run mid.link) (server_run ready.link) mid.held.session mid.held.sent
      (connected_counted mid.link ready.link address conn readies.connects).server course)

  -- calls of the link alone
  pub only_link : (most : ℕ) (mid now : AttemptState) → OnlyLink mid now → OnlyCounts (server_run mid.link) (server_run now.link) → CourseAt most mid → CourseAt most now
  only_link most mid now rest counts course =
      subst (λ s. Course op.spec op.batch store (server_run link) most s (server_run now.link) now.held.session now.held.sent) (sym rest.store)
      (subst (λ h. Course op.spec op.batch store (server_run link) most mid.store (server_run now.link) h.session h.sent) (sym rest.held)
      (counted op.spec op.batch store (server_run link) most mid.store (server_run mid.link) (server_run now.link) mid.held.session mid.held.sent counts course))

  -- further pages behind a reply
  pub reads_course : (op.spec.paged ≡ false → NeverOpen op.spec) → (most : ℕ) (conn : Conn) (reply : List ℕ) (answer : Result A Error) (behind now : AttemptState) → ReadsOn op conn reply behind now answer → CourseAt most behind
      → CourseAt most now
  reads_course alone most conn reply answer behind now reads course =
      let held = held_after_pages reads.exchanges.asked behind.held in
      subst (λ s. Course op.spec op.batch store (server_run link) most s (server_run now.link) now.held.session now.held.sent) (sym reads.store)
      (subst (λ h. Course op.spec op.batch store (server_run link) most behind.store (server_run now.link) h.session h.sent) (sym reads.exchanges.held_is)
      (passed op.spec op.batch store (server_run link) most behind.store (server_run behind.link) (server_run now.link) held.session held.sent
      (behind_passes op.spec op.batch.statements reply conn alone (held_id behind.held) behind.link now.link behind.held now.held answer reads.exchanges)
      (pages_course op.spec op.batch store (server_run link) most behind.store (server_run behind.link) behind.held reads.exchanges.asked course)))

  module _ (alone : op.spec.paged ≡ false → NeverOpen op.spec) (past : Option RetryState) (most : ℕ) (mid : AttemptState) (goes : MayGoOn mid.held.sent) (course : CourseAt most mid) where
    -- an exchange of the command
    module _ (now : AttemptState) (address : Address) (conn : Conn) (result : Result (List ℕ) LinkError) (sends : Sends op past mid now address conn result) where
      abbrev connection_retryability : Retryability
      connection_retryability = on_connection op.retryability conn.description

      ready_goes : MayGoOn sends.ready.held.sent
      ready_goes = subst MayGoOn (sym (ready_sent op mid sends.ready address conn sends.readies)) goes

      pub ready_here : CourseAt most sends.ready
      ready_here = ready_course most mid sends.ready address conn sends.readies course

      abbrev held_now : ExecutionSession
      held_now = held_after result (record sends.numbered { sent = Some sends.number })

      came : (P : StoreTells → ExecutionSession → Type 0) → P sends.ready.store held_now → P now.store now.held
      came P p = subst (λ h. P now.store h) (sym sends.held_is) (subst (λ s. P s held_now) (sym sends.store_is) p)

      answered_at : (bytes : List ℕ) → result ≡ Ok bytes → CourseAt (suc most) now
      answered_at bytes is = came (λ s h. Course op.spec op.batch store (server_run link) (suc most) s (server_run now.link) h.session h.sent)
          (answered_course op.spec op.batch store (server_run link) most sends.ready.store sends.ready.link now.link sends.ready.held sends.numbered connection_retryability sends.number ready_goes
          sends.draws ready_here conn result sends.exchanges bytes is)

      lost_at : (fault : LinkFault) (labels : List (List ℕ)) → result ≡ Err (Fault fault labels) → CourseAt (suc most) now
      lost_at fault labels is = came (λ s h. Course op.spec op.batch store (server_run link) (suc most) s (server_run now.link) h.session h.sent)
          (lost_course op.spec op.batch store (server_run link) most sends.ready.store sends.ready.link now.link sends.ready.held sends.numbered connection_retryability sends.number ready_goes
          sends.draws ready_here conn result sends.exchanges fault labels is)

      over_at : OverAt (suc most) now
      over_at = came (λ s h. Over op.spec op.batch store (server_run link) (suc most) s (server_run now.link) h.session h.sent)
          (sent_over op.spec op.batch store (server_run link) most sends.ready.store sends.ready.link now.link sends.ready.held sends.numbered connection_retryability sends.number ready_goes
          sends.draws ready_here conn result sends.exchanges)

      -- what answers the last send, as it went out
      last_at : (bytes : List ℕ) → result ≡ Ok bytes → (body : SendBody) → AsksFor op.spec op.batch body
          → AnsweredLast op.spec op.batch.statements (server_run link) (server_run now.link) (send_of (under (id_of now.held.session) (number_of now.held.sent)) body) ready_here.count bytes []
      last_at bytes is body asked =
          came (λ s h. AnsweredLast op.spec op.batch.statements (server_run link) (server_run now.link) (send_of (under (id_of h.session) (number_of h.sent)) body) ready_here.count bytes [])
          (answered_now op.spec op.batch store (server_run link) most sends.ready.store sends.ready.link now.link sends.ready.held sends.numbered connection_retryability sends.number ready_goes
          sends.draws ready_here conn result sends.exchanges bytes is body asked)

      -- without a number there was none before it
      once_at : number_of now.held.sent ≡ None → ready_here.count ≡ 0
      once_at = came (λ s h. number_of h.sent ≡ None → ready_here.count ≡ 0)
          (first_alone op.spec op.batch store (server_run link) most sends.ready.store sends.ready.link now.link sends.ready.held sends.numbered connection_retryability sends.number ready_goes
          sends.draws ready_here conn result sends.exchanges)

      -- it is one send more
      pub fits_at : CountFits now.held.sent (suc ready_here.count)
      fits_at = came (λ s h. CountFits h.sent (suc ready_here.count))
          (fits_now op.spec op.batch store (server_run link) most sends.ready.store sends.ready.link now.link sends.ready.held sends.numbered connection_retryability sends.number ready_goes
          sends.draws ready_here conn result sends.exchanges)

    -- a reply with the pages behind it
    module _ (behind now : AttemptState) (address : Address) (conn : Conn) (reply : List ℕ) (answer : Result A Error) (sends : Sends op past mid behind address conn (Ok reply)) (reads : ReadsOn op conn reply behind now answer) where
      abbrev earlier : ℕ
      earlier = (ready_here behind address conn (Ok reply) sends).count

      abbrev pages : List Page
      pages = pages_of reads.exchanges.asked

      -- an operation with one page has none
      pub alone_at : op.spec.paged ≡ false → pages ≡ []
      alone_at = no_pages op.spec op.batch.statements reply conn alone (held_id behind.held) behind.link now.link behind.held now.held answer reads.exchanges

      -- the send is that of what is held now
      pub same_held : (P : Option (List ℕ) → Option (Option ℤ) → Type 0) → P (id_of behind.held.session) behind.held.sent → P (id_of now.held.session) now.held.sent
      same_held P p = subst (λ id. P id now.held.sent) (sym (read_id behind now reads)) (subst (P (id_of behind.held.session)) (sym (read_sent behind now reads)) p)

      -- so are the pages, as the last of them came
      pub pages_at : (body : SendBody) → AsksFor op.spec op.batch body
          → AnsweredLast op.spec op.batch.statements (server_run link) (server_run reads.exchanges.mid) (send_of (under (id_of now.held.session) (number_of now.held.sent)) body) earlier reply pages
      pages_at body asked =
          same_held (λ id sent. AnsweredLast op.spec op.batch.statements (server_run link) (server_run reads.exchanges.mid) (send_of (under id (number_of sent)) body) earlier reply pages)
          (last_gives op.spec op.batch.statements (server_run link) (server_run behind.link) (server_run reads.exchanges.mid) (send_of (under (id_of behind.held.session) (number_of behind.held.sent)) body) earlier reply pages
          (last_at behind address conn (Ok reply) sends reply refl body asked)
          (asks_give op.spec op.batch.statements reply conn (held_id behind.held) behind.link reads.exchanges.asked reads.exchanges.mid reads.exchanges.asks))

      pub course_behind : CourseAt (suc most) now
      course_behind = reads_course alone (suc most) conn reply answer behind now reads (answered_at behind address conn (Ok reply) sends reply refl)

    -- an Ok is what was read in them
    pub reads_last : most ≤ 1 → (now : AttemptState) (output : A) → IsAnswered op past mid now output
        → ReadsLast op.spec op.batch (server_run link) (server_run now.link) (id_of now.held.session) (number_of now.held.sent) output
    reads_last few now output answered =
        let exchanges = answered.reads.exchanges in
        let read = reads_output op.spec op.batch.statements answered.reply answered.conn exchanges.mid now.link exchanges.asked output exchanges.ends in
        let here = ready_here answered.behind answered.address answered.conn (Ok answered.reply) answered.sends in record {
          bytes = answered.reply;
          pages = pages_of exchanges.asked;
          alone = alone_at answered.behind now answered.address answered.conn answered.reply (Ok output) answered.sends answered.reads;
          reads = read.0;
          earlier = here.count;
          within = omega (arith, here.within, few);
          once = λ none. once_at answered.behind answered.address answered.conn (Ok answered.reply) answered.sends
              (subst (λ s. number_of s ≡ None) (read_sent answered.behind now answered.reads) none);
          answered = λ body asked.
              subst (λ l. AnsweredLast op.spec op.batch.statements (server_run link) (server_run l) (send_of (under (id_of now.held.session) (number_of now.held.sent)) body) here.count answered.reply (pages_of exchanges.asked))
              (sym read.1) (pages_at answered.behind now answered.address answered.conn answered.reply (Ok output) answered.sends answered.reads body asked);
        }

    -- the operation is over, whatever came of its send
    pub sent_ends : (now : AttemptState) (error : Error) → EndsSent op past mid now error → OverAt (suc most) now
    sent_ends now error ends = by_result ends.result ends.sends ends.reads
      where
        by_result : (result : Result (List ℕ) LinkError) → Sends op past mid ends.behind ends.address ends.conn result → MayReadOn op ends.conn result ends.behind now → OverAt (suc most) now
        by_result (Err failure) sends same = subst (OverAt (suc most)) (sym same) (over_at ends.behind ends.address ends.conn (Err failure) sends)
        by_result (Ok reply) sends reads =
            course_over op.spec op.batch store (server_run link) (suc most) now.store (server_run now.link) now.held.session now.held.sent
            (course_behind ends.behind now ends.address ends.conn reply reads.answer sends reads.reads)

    pub answered_over : (now : AttemptState) (output : A) → IsAnswered op past mid now output → OverAt (suc most) now
    answered_over now output answered =
        course_over op.spec op.batch store (server_run link) (suc most) now.store (server_run now.link) now.held.session now.held.sent
        (course_behind answered.behind now answered.address answered.conn answered.reply (Ok output) answered.sends answered.reads)

    -- an attempt that failed
    fails_in : (now : AttemptState) (address : Address) (phase : FailurePhase) (error : Error) → FailsIn op past mid now address phase error → CourseAt (suc most) now
    fails_in now address ConnectionEstablishment error fails =
        one_more op.spec op.batch store (server_run link) most now.store (server_run now.link) now.held.session now.held.sent
        (only_link most mid now fails.rest
        (checked_counted mid.link fails.mid now.link address (Err (Fault fails.fault fails.labels)) fails.selects fails.checks_out).server course)
    fails_in now address Execution error fails = elim fails [
      | inl lost ↦ lost_at now address lost.conn (Err (Fault lost.fault lost.labels)) lost.sends lost.fault lost.labels refl
      | inr spelled ↦ course_behind spelled.behind now address spelled.conn spelled.reply (Err spelled.bare) spelled.sends spelled.reads
    ]

    pub failed_course : (now : AttemptState) (failure : AttemptFailure) → MakesAttempt op past mid now (Failed failure) → CourseAt (suc most) now
    failed_course now failure makes = fails_in now failure.address failure.phase failure.error makes.0

    -- where the decision allows a further attempt, its sends have a number
    pub goes_phase : (now : AttemptState) (address : Address) (phase : FailurePhase) (error : Error) → FailsIn op past mid now address phase error
        → may_be_sent phase (number_before now.held) ≡ true → MayGoOn now.held.sent
    goes_phase now address ConnectionEstablishment error fails may_send = subst (λ h. MayGoOn h.sent) (sym fails.rest.held) goes
    goes_phase now address Execution error fails may_send = by_sent now.held.sent may_send
      where
        by_sent : (sent : Option (Option ℤ)) → is_some (number_of sent) ≡ true → MayGoOn sent
        by_sent None is = tt
        by_sent (Some (Some number)) is = tt
        by_sent (Some None) is = absurd (let e : false ≡ true = is in cc)
