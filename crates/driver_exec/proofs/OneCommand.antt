-- The sends of an operation are one and the same, at most two, and the session that they are under was borrowed.
use Rattle.std.proofs.Common.{◌≡◌, ℕ, suc, ◌+◌, ◌≤◌, List, [], ◌∷◌, length, refl, sym, ap, subst, ◌∙◌, inl, inr, arith}
use Rattle.std.specs.Prelude.{ℤ, Bool, true, false, Option, None, Some, Result, Ok, Err}
use Rattle.driver_error.specs.declared.error.Error.{Error}
use Rattle.driver_link.specs.Clock.{ClockTells}
use Rattle.link_faults.specs.declared.fault.LinkError.TheVariants.{Fault}
use Rattle.driver_link.specs.Counting.{OnlyCounts}
use Rattle.driver_link.specs.LinkState.{LinkState, server_run}
use Rattle.driver_session.specs.declared.retryability.Retryability.{Retryability}
use Rattle.driver_session.specs.declared.retryability.Retryability.TheVariants as may
use Rattle.driver_session.specs.StoreTells.{Draws, LendsAsBefore, StoreTells}
use Rattle.driver_session.specs.Session.{MayRaise, Numbers, Session}
use Rattle.driver_session.proofs.IdDraws.{draws_lending, draws_staying, draws_taking, draws_twice}
use Rattle.driver_session.proofs.LentSessions.{lends_staying, lends_turning}
use Rattle.driver_ops.specs.Fields.{under}
use Rattle.driver_ops.specs.OperationLaw.{NeverOpen}
use Rattle.driver_ops.specs.Operations.{Batch, OperationSpec, send_of}
use Rattle.driver_ops.specs.SendKinds.{SendKind}
use Rattle.driver_attempt.specs.declared.attempt_end.AttemptEnd.{AttemptEnd}
use Rattle.driver_attempt.specs.declared.attempt_end.AttemptEnd.TheVariants.{Done, Ended, Failed, Stopped, Unfit, Unselected}
use Rattle.retry_rules.specs.declared.failure.AttemptFailure.{AttemptFailure}
use Rattle.driver_attempt.specs.Attempting.{AttemptState, AttemptedOperation, EndsAtOnce, EndsRefused, MakesAttempt, RefusedAgain, attempted_operation, besides_out, on_connection}
use Rattle.driver_attempt.specs.Concerns.{concern_of}
use Rattle.driver_attempt.specs.Executing.{Ends, EndsNotAllowed, EndsWith, Proceeds, first_state}
use Rattle.driver_attempt.specs.Holding.{DrawsNumber, DrawsSession, GivesBack, GivesNumber, ExecutionSession}
use Rattle.driver_attempt.specs.Moment.{Moment}
use Rattle.retry_rules.specs.Retry.{RetryState, may_be_sent}
use Rattle.driver_attempt.specs.inside.Executing.{Reaches}
use Rattle.driver_attempt.proofs.Attempts.{may_raise, stays}
use Rattle.driver_attempt.proofs.AttemptSequence.{AtMostOne, attempts_left, decided_fewer, decided_sent, one_left}
use Rattle.driver_attempt.proofs.RetryFold.{Came, came_of}
use Rattle.driver_attempt.proofs.OneAttempt.{early_counted, selected_counted}
use Rattle.driver_exec.specs.Resending.{Borrows, EndsWithReading, IsReadFailure, SendsOneCommand, SentWithin}
use Rattle.driver_exec.proofs.KeptFailures.{FailureAt, ReadAt, again_read, decided_read, link_read, ready_read}
use Rattle.driver_exec.proofs.OperationCauses.{KeptHas}
use Rattle.driver_exec.proofs.ReadFailures.{ended_unread, fault_unread}
use Rattle.driver_exec.proofs.ReadReplies.{reads_one}
use Rattle.driver_exec.proofs.SendRelations.{none_sent}
use Rattle.driver_exec.proofs.BorrowedSession.{CountFits, HoldsFrom, HoldsLast, MayGoOn, NumberFits, id_of, number_of}
use Rattle.driver_exec.proofs.Courses.{Course, Drawn, Over, counted, course_over, drawn, one_more, starts, store_stays}
use Rattle.driver_exec.proofs.Unnumbered.{ended_bare}
use Rattle.driver_exec.proofs.Progress.{CourseAt, OverAt, answered_over, failed_course, goes_phase, only_link, reads_last, ready_course, sent_ends}

module _ {A : Type 0} (op : AttemptedOperation A) (sharded : Bool) (store : StoreTells) (link : LinkState) where
  -- how many attempts there were
  pub record Few (failures : List AttemptFailure) (kept : Option RetryState) : Type 0 where
    pub once : AtMostOne kept
    pub left : length failures + attempts_left kept ≤ 2

  pub reaches_few : (clock : ClockTells) (count : ℕ) (fixed : Option ℕ) (failures : List AttemptFailure) (kept : Option RetryState) (now : AttemptState) → Reaches op sharded (first_state store link clock count fixed) failures kept now → Few failures kept
  reaches_few clock count fixed [] kept now reaches = subst (Few []) (sym reaches.0) (record { once = tt; left = omega arith })
  reaches_few clock count fixed (failure ∷ failures) kept now reaches =
      let mid = reaches.1.1.0 in
      let rest = reaches.1.1.1 in
      let earlier = rest.0 in
      let few = reaches_few clock count fixed failures earlier mid rest.1.0 in
      let fails = rest.1.1 in
      let fewer = decided_fewer failure op.retryability sharded earlier reaches.0 few.once fails.goes_on fails.decides in
      subst (Few (failure ∷ failures)) (sym reaches.1.0) (record { once = fewer.once; left = omega (arith, few.left, fewer.fewer) })

module _ {A : Type 0} (op : AttemptedOperation A) (sharded : Bool) (store : StoreTells) (link : LinkState) (alone : op.spec.paged ≡ false → NeverOpen op.spec) where
  -- where an operation has come so far
  reaches_course : (clock : ClockTells) (count : ℕ) (fixed : Option ℕ) (failures : List AttemptFailure) (kept : Option RetryState) (now : AttemptState) → Reaches op sharded (first_state store link clock count fixed) failures kept now
      → CourseAt op store link (length failures) now × MayGoOn now.held.sent
  reaches_course clock count fixed [] kept now reaches =
      subst (λ s. CourseAt op store link 0 s × MayGoOn s.held.sent) (sym reaches.1) (starts op.spec op.batch store (server_run link), tt)
  reaches_course clock count fixed (failure ∷ failures) kept now reaches =
      let mid = reaches.1.1.0 in
      let rest = reaches.1.1.1 in
      let earlier = rest.0 in
      let came = reaches_course clock count fixed failures earlier mid rest.1.0 in
      let fails = rest.1.1 in (
        failed_course op store link alone earlier (length failures) mid came.1 came.0 now failure fails.makes,
        goes_phase op store link alone earlier (length failures) mid came.1 came.0 now failure.address failure.phase failure.error fails.makes.0
            (subst (λ n. may_be_sent failure.phase n ≡ true) fails.makes.1 (decided_sent earlier failure op.retryability sharded reaches.0 fails.decides)),
      )

  -- the failure that is kept, where only a reply spells it, was read by then
  reaches_read : (clock : ClockTells) (count : ℕ) (fixed : Option ℕ) (failures : List AttemptFailure) (kept : Option RetryState) (now : AttemptState) → Reaches op sharded (first_state store link clock count fixed) failures kept now
      → KeptHas (FailureAt op link (length failures) now) kept
  reaches_read clock count fixed [] kept now reaches = subst (KeptHas (FailureAt op link 0 now)) (sym reaches.0) tt
  reaches_read clock count fixed (failure ∷ failures) kept now reaches =
      let mid = reaches.1.1.0 in
      let rest = reaches.1.1.1 in
      let earlier = rest.0 in
      let came = reaches_course clock count fixed failures earlier mid rest.1.0 in
      let has = reaches_read clock count fixed failures earlier mid rest.1.0 in
      let fails = rest.1.1 in
      subst (KeptHas (FailureAt op link (suc (length failures)) now)) (sym reaches.1.0)
      (decided_read op store link alone earlier (length failures) mid came.1 came.0 sharded earlier now failure (Ok reaches.0) fails.makes has fails.decides)

  -- the last attempt
  module _ (most : ℕ) (few : most ≤ 1) (kept : Option RetryState) (mid now : AttemptState) (goes : MayGoOn mid.held.sent) (course : CourseAt op store link most mid)
      (has : KeptHas (FailureAt op link most mid) kept) where
    over_course : CourseAt op store link (suc most) now → OverAt op store link (suc most) now
    over_course done = course_over op.spec op.batch store (server_run link) (suc most) now.store (server_run now.link) now.held.session now.held.sent done

    more_course : CourseAt op store link most now → OverAt op store link (suc most) now
    more_course done = over_course (one_more op.spec op.batch store (server_run link) most now.store (server_run now.link) now.held.session now.held.sent done)

    -- there was no number, and what is held is as before
    undrawn_same : (ready now : ExecutionSession) (connection_retryability : Retryability) (error : Error) → DrawsNumber ready.sent connection_retryability ready now (Err error) → now ≡ ready
    undrawn_same ready now connection_retryability error draws = by_sent ready.sent refl draws
      where
        err_ok : (number : Option ℤ) → ◌≡◌ {A = Result (Option ℤ) Error} (Err error) (Ok number) → ⊥
        err_ok number same = cc

        by_next : (session numbered : Session) (next : Result ℤ Error) (now : Option Session) → Numbers session numbered next → now ≡ Some numbered → GivesNumber next (Err error)
            → now ≡ Some session
        by_next session numbered (Ok number) now numbers is gives = absurd (err_ok (Some number) gives)
        by_next session numbered (Err other) now numbers is gives = is ∙ ap (λ s. Some s) numbers.0

        by_retryability : (connection_retryability : Retryability) (session now : Option Session) → DrawsSession connection_retryability session now (Err error) → now ≡ session
        by_retryability may.Write (Some session) now draws = by_next session draws.numbered draws.next now draws.numbers draws.is draws.gives
        by_retryability may.Write None now draws = absurd (err_ok None draws.1)
        by_retryability other session now draws = absurd (err_ok None draws.1)

        by_sent : (sent : Option (Option ℤ)) → ready.sent ≡ sent → DrawsNumber sent connection_retryability ready now (Err error) → now ≡ ready
        by_sent (Some before) is draws = absurd (err_ok before draws.1)
        by_sent None is draws = draws.is ∙ ap (λ s. record ready { session = s }) (by_retryability connection_retryability ready.session draws.session draws.draws)

    -- the command was refused before it went out
    at_ready : (ready : AttemptState) → now.link ≡ ready.link → now.store ≡ ready.store → (held : ExecutionSession) → now.held ≡ held
        → Over op.spec op.batch store (server_run link) most ready.store (server_run ready.link) held.session held.sent → OverAt op store link most now
    at_ready ready link_is store_is held held_is over =
        subst (λ l. Over op.spec op.batch store (server_run link) most now.store (server_run l) now.held.session now.held.sent) (sym link_is)
        (subst (λ s. Over op.spec op.batch store (server_run link) most s (server_run ready.link) now.held.session now.held.sent) (sym store_is)
        (subst (λ h. Over op.spec op.batch store (server_run link) most ready.store (server_run ready.link) h.session h.sent) (sym held_is) over))

    more_over : OverAt op store link most now → OverAt op store link (suc most) now
    more_over over = record {
      sends = λ body asked. let sent = over.sends body asked in record { count = sent.count; within = omega (arith, sent.within); once = sent.once; sends = sent.sends };
      holds = over.holds;
    }

    ready_over : (ready : AttemptState) → CourseAt op store link most ready
        → Over op.spec op.batch store (server_run link) most ready.store (server_run ready.link) ready.held.session ready.held.sent
    ready_over ready done = course_over op.spec op.batch store (server_run link) most ready.store (server_run ready.link) ready.held.session ready.held.sent done

    -- a number was drawn, and nothing went out under it
    any_number : (store_now : StoreTells) (number : Option ℤ) (session : Option Session) → HoldsFrom store store_now (Some number) session → HoldsLast store store_now None session
    any_number store_now number None holds = (holds.0, refl)
    any_number store_now number (Some session) holds = record {
      at = holds.at;
      lent = holds.lent;
      lends = holds.lends;
      id = holds.id;
      number = by_number number holds.number;
    }
      where
        by_number : (number : Option ℤ) → NumberFits (Some number) holds.lent session → MayRaise holds.lent session
        by_number None fits = stays holds.lent session fits
        by_number (Some number) fits = may_raise holds.lent session fits.1

    abbrev OverReady : AttemptState → Option Session → Option (Option ℤ) → Type 0
    OverReady ready session sent = Over op.spec op.batch store (server_run link) most ready.store (server_run ready.link) session sent

    unframed_ready : (ready : AttemptState) (connection_retryability : Retryability) (number : Option ℤ) (numbered : ExecutionSession) → DrawsNumber ready.held.sent connection_retryability ready.held numbered (Ok number)
        → CourseAt op store link most ready → OverReady ready numbered.session numbered.sent
    unframed_ready ready connection_retryability number numbered draws done = by_sent ready.held.sent refl
      where
        is_drawn : Drawn op.spec op.batch store (server_run link) ready.held numbered number ready.store
        is_drawn = drawn op.spec op.batch store (server_run link) ready.store connection_retryability ready.held numbered number done.holds draws

        by_sent : (sent : Option (Option ℤ)) → ready.held.sent ≡ sent → OverReady ready numbered.session numbered.sent
        by_sent None is = subst (OverReady ready numbered.session) (sym (is_drawn.same_sent ∙ is)) (record {
          sends = λ body asked. record {
            count = 0;
            within = omega arith;
            once = λ none. omega arith;
            sends = none_sent op.spec.paged (server_run link) (server_run ready.link) (send_of (under (id_of ready.held.session) (number_of ready.held.sent)) body) (send_of (under (id_of numbered.session) None) body)
                done.count (subst (λ s. CountFits s done.count) is done.fits) (done.sends body asked);
          };
          holds = any_number ready.store number numbered.session is_drawn.holds;
        })
        by_sent (Some before) is =
            let same = subst (λ s. DrawsNumber s connection_retryability ready.held numbered (Ok number)) is draws in
            subst (λ h. OverReady ready h.session h.sent) (sym same.0) (ready_over ready done)

    refused_over : (past : Option RetryState) (error : Error) → EndsRefused op past mid now error → OverAt op store link most now
    refused_over past error refused =
        let ready = refused.ready in
        let done = ready_course op store link most mid ready refused.address refused.conn refused.readies course in
        elim refused.refused [
          | inl none ↦ at_ready ready refused.link refused.store ready.held none.same (ready_over ready done)
          | inr other ↦ elim other [
            | inl none ↦ at_ready ready refused.link refused.store ready.held
                (undrawn_same ready.held now.held (on_connection op.retryability refused.conn.description) error none.draws) (ready_over ready done)
            | inr none ↦ at_ready ready refused.link refused.store now.held refl
                (unframed_ready ready (on_connection op.retryability refused.conn.description) none.number now.held none.draws done)
          ]
        ]

    -- the command could not be built again
    again_over : (past : Option RetryState) → RefusedAgain op past mid now → OverAt op store link most now
    again_over past refused =
        let ready = refused.ready in
        let done = ready_course op store link most mid ready refused.address refused.conn refused.readies course in
        at_ready ready refused.link refused.store now.held refl
        (unframed_ready ready (on_connection op.retryability refused.conn.description) refused.number now.held refused.draws done)

    ended_over : (past : Option RetryState) (error : Error) → EndsAtOnce op past mid now error → OverAt op store link (suc most) now
    ended_over past error ends = elim ends [
      | inl unready ↦ more_course
          (subst (λ h. Course op.spec op.batch store (server_run link) most now.store (server_run now.link) h.session h.sent) (sym unready.held)
          (store_stays op.spec op.batch store (server_run link) most mid.store now.store (server_run now.link) mid.held.session mid.held.sent unready.store
          (counted op.spec op.batch store (server_run link) most mid.store (server_run mid.link) (server_run now.link) mid.held.session mid.held.sent (early_counted mid.link now.link unready.asks).server course)))
      | inr other ↦ elim other [
        | inl refused ↦ more_over (refused_over past error refused)
        | inr sent ↦ sent_ends op store link alone past most mid goes course now error sent
      ]
    ]

    abbrev LastAt : Result A Error → Type 0
    LastAt result = OverAt op store link (suc most) now
        × EndsWithReading op.spec op.batch (server_run link) (server_run now.link) (id_of now.held.session) (number_of now.held.sent) result

    -- an error, where what only a reply spells was read in one
    err_last : (error : Error) (result : Result A Error) → result ≡ Err error → OverAt op store link (suc most) now → FailureAt op link most now error → LastAt result
    err_last error result is over reads = subst LastAt (sym is) (
      over,
      λ read. reads_one op.spec op.batch (server_run link) most (server_run now.link) now.held.session now.held.sent error (omega (arith, few)) (reads read),
    )

    -- the error of the failure that is kept
    kept_last : (retry : RetryState) → kept ≡ Some retry → ((error : Error) → ReadAt op link most mid error → ReadAt op link most now error) → FailureAt op link most now retry.failure.error
    kept_last retry is still =
        let was : FailureAt op link most mid retry.failure.error = subst (KeptHas (FailureAt op link most mid)) is has in
        λ read. still retry.failure.error (was read)

    attempt_last : (past : Option RetryState) (attempt : AttemptEnd A) (result : Result A Error) → MakesAttempt op past mid now attempt → EndsWith kept attempt result → LastAt result
    attempt_last past (Done output) result makes ends =
        subst LastAt (sym ends) (
          answered_over op store link alone past most mid goes course now output makes,
          reads_last op store link alone past most mid goes course few now output makes,
        )
    attempt_last past (Failed failure) result makes ends = absurd ends
    attempt_last past (Unselected error) result makes ends = by_kept kept refl ends
      where
        counts : OnlyCounts (server_run mid.link) (server_run now.link)
        counts = (selected_counted mid.link now.link (Err (Fault makes.fault makes.labels)) makes.selects).server

        over : OverAt op store link (suc most) now
        over = more_course (only_link op store link most mid now makes.rest counts course)

        by_kept : (found : Option RetryState) → kept ≡ found → EndsWith {A = A} found (Unselected error) result → LastAt result
        by_kept None is ends = err_last error result ends over (λ read. absurd (fault_unread makes.fault makes.labels may.None error makes.is read))
        by_kept (Some retry) is ends = err_last retry.failure.error result ends over (kept_last retry is (λ other. link_read op link most mid now other makes.rest counts))
    attempt_last past Stopped result makes ends = by_kept kept refl ends
      where
        over : OverAt op store link (suc most) now
        over = more_course (ready_course op store link most mid now makes.1.address makes.1.conn makes.1.readies course)

        by_kept : (found : Option RetryState) → kept ≡ found → EndsWith {A = A} found Stopped result → LastAt result
        by_kept None is ends = absurd ends
        by_kept (Some retry) is ends = err_last retry.failure.error result ends over
            (kept_last retry is (λ other. ready_read op link most mid now makes.1.address makes.1.conn other makes.1.readies))
    attempt_last past Unfit result makes ends = by_kept kept refl ends
      where
        by_kept : (found : Option RetryState) → kept ≡ found → EndsWith {A = A} found Unfit result → LastAt result
        by_kept None is ends = absurd ends
        by_kept (Some retry) is ends = err_last retry.failure.error result ends (more_over (again_over past makes.1))
            (kept_last retry is (λ other. again_read op link past most mid now other makes.1))
    attempt_last past (Ended error) result makes ends =
        err_last error result ends (ended_over past error makes) (λ read. absurd (ended_unread op past mid now error read makes))

  -- the last attempt failed, and its failure may not be followed by another
  refused_read : (most : ℕ) (kept : Option RetryState) (mid now : AttemptState) (result : Result A Error) → MayGoOn mid.held.sent → CourseAt op store link most mid
      → KeptHas (FailureAt op link most mid) kept → (refused : EndsNotAllowed op sharded kept mid now result) → FailureAt op link (suc most) now refused.error
  refused_read most kept mid now result goes course has refused = elim refused.refused [
    | inl is ↦ decided_read op store link alone kept most mid goes course sharded kept now refused.failure (Err refused.error) refused.makes has is
    | inr memory ↦ λ read. absurd (subst IsReadFailure memory.kind_is read)
  ]

  -- the operation is over
  record Finished (now : AttemptState) (result : Result A Error) : Type 0 where
    most : ℕ
    few : most ≤ 2
    over : OverAt op store link most now
    ends : EndsWithReading op.spec op.batch (server_run link) (server_run now.link) (id_of now.held.session) (number_of now.held.sent) result

  finishes : (clock : ClockTells) (count : ℕ) (fixed : Option ℕ) (failures : List AttemptFailure) (kept : Option RetryState) (mid now : AttemptState) (result : Result A Error) → Reaches op sharded (first_state store link clock count fixed) failures kept mid
      → Ends op sharded kept mid now result → Finished now result
  finishes clock count fixed failures kept mid now result reaches ends =
      let came = reaches_course clock count fixed failures kept mid reaches in
      let has = reaches_read clock count fixed failures kept mid reaches in
      let few = reaches_few op sharded store link clock count fixed failures kept mid reaches in
      elim ends [
        | inl last ↦
            let left = one_left kept few.once last.goes_on in
            let one : length failures ≤ 1 = omega (arith, few.left, left) in
            let over = attempt_last (length failures) one kept mid now came.1 came.0 has kept last.attempt result last.makes last.ends in
            record { most = suc (length failures); few = omega arith; over = over.0; ends = over.1 }
        | inr other ↦ elim other [
          | inl limit ↦
              let two : length failures ≤ 2 = omega (arith, few.left) in
              let was : FailureAt op link (length failures) mid limit.retry.failure.error = subst (KeptHas (FailureAt op link (length failures) mid)) limit.is has in
              let reads : FailureAt op link (length failures) now limit.retry.failure.error
              = subst (λ state. FailureAt op link (length failures) state limit.retry.failure.error) (sym limit.same) was in
              record {
                most = length failures;
                few = two;
                over = subst (OverAt op store link (length failures)) (sym limit.same)
                    (course_over op.spec op.batch store (server_run link) (length failures) mid.store (server_run mid.link) mid.held.session mid.held.sent came.0);
                ends = subst (λ r. EndsWithReading op.spec op.batch (server_run link) (server_run now.link) (id_of now.held.session) (number_of now.held.sent) r) (sym limit.result_is)
                    (λ read. reads_one op.spec op.batch (server_run link) (length failures) (server_run now.link) now.held.session now.held.sent limit.retry.failure.error two (reads read));
              }
          | inr refused ↦
              let left = one_left kept few.once refused.goes_on in
              let one : length failures ≤ 1 = omega (arith, few.left, left) in
              let done = failed_course op store link alone kept (length failures) mid came.1 came.0 now refused.failure refused.makes in
              let two : suc (length failures) ≤ 2 = omega (arith, one) in
              let reads : FailureAt op link (suc (length failures)) now refused.error
              = refused_read (length failures) kept mid now result came.1 came.0 has refused in
              record {
                most = suc (length failures);
                few = two;
                over = course_over op.spec op.batch store (server_run link) (suc (length failures)) now.store (server_run now.link) now.held.session now.held.sent done;
                ends = subst (λ r. EndsWithReading op.spec op.batch (server_run link) (server_run now.link) (id_of now.held.session) (number_of now.held.sent) r) (sym refused.result_is)
                    (λ read. reads_one op.spec op.batch (server_run link) (suc (length failures)) (server_run now.link) now.held.session now.held.sent refused.error two (reads read));
              }
        ]
      ]

  -- the session comes back
  borrows : (store_mid store_now : StoreTells) (number : Option ℤ) (session : Option Session) → HoldsLast store store_mid number session
      → GivesBack store_mid store_now session → Borrows store store_now (id_of session) number
  borrows store_mid store_now number None holds gives = (gives ∙ holds.0, holds.1)
  borrows store_mid store_now number (Some session) holds gives = record {
    lent = store_mid;
    out_at = holds.at;
    back_at = gives.at;
    session = holds.lent;
    back = session;
    lends = holds.lends;
    takes = gives.takes;
    id_is = sym holds.id;
    same = holds.id;
    numbered = holds.number;
  }

-- each id is lent as often as before
pub borrows_lends : (store now : StoreTells) (session : Option (List ℕ)) (number : Option ℤ) → Borrows store now session number → LendsAsBefore store now
borrows_lends store now None number borrows = lends_staying store now borrows.0
borrows_lends store now (Some id) number borrows =
    lends_turning store borrows.lent now borrows.out_at borrows.back_at borrows.session borrows.back borrows.lends borrows.same borrows.takes

-- and the ids that were drawn are the next ones
pub borrows_draws : (store now : StoreTells) (session : Option (List ℕ)) (number : Option ℤ) → Borrows store now session number → Draws store now
borrows_draws store now None number borrows = draws_staying store now borrows.0
borrows_draws store now (Some id) number borrows =
    draws_twice store borrows.lent now (draws_lending store borrows.lent borrows.out_at borrows.session borrows.lends)
    (draws_taking borrows.lent now borrows.back borrows.back_at borrows.takes)

-- an operation as a whole, which is not refused for its concern
module _ {A : Type 0} (spec : OperationSpec A) (batch : Batch) (which : SendKind) (before now : Moment) (count count_now : ℕ) (fixed fixed_now : Option ℕ) (result : Result A Error)
    (alone : spec.paged ≡ false → NeverOpen spec) (executes : Proceeds spec batch which before now count count_now fixed fixed_now result) where
  abbrev op : AttemptedOperation A
  op = attempted_operation spec batch which (spec.retryability before.client.options) (concern_of spec which before.client.options)

  -- its attempts are those of a loop
  came : Came op executes.sharded (first_state before.store (besides_out before.link) before.clock count fixed) executes.attempts.kept executes.attempts.mid
  came = came_of op executes.sharded (first_state before.store (besides_out before.link) before.clock count fixed) executes.last result executes.attempts

  -- so it is over
  done : Finished op executes.sharded before.store (besides_out before.link) alone executes.last result
  done = finishes op executes.sharded before.store (besides_out before.link) alone before.clock count fixed came.0 executes.attempts.kept executes.attempts.mid executes.last result came.1 executes.attempts.ends

  -- the server is that of the last attempt
  server_is : server_run now.link ≡ server_run executes.last.link
  server_is = ap server_run executes.link_is

  pub proceeds_sends_one_command : SendsOneCommand spec batch before now result
  proceeds_sends_one_command = record {
    session = id_of executes.last.held.session;
    number = number_of executes.last.held.sent;
    unnumbered = λ nothing.
        ended_bare op executes.sharded nothing (first_state before.store (besides_out before.link) before.clock count fixed) refl came.0 executes.attempts.kept executes.attempts.mid executes.last result came.1
        executes.attempts.ends;
    borrows = borrows op executes.sharded before.store (besides_out before.link) alone executes.last.store now.store (number_of executes.last.held.sent) executes.last.held.session done.over.holds executes.comes_back;
    sends = λ body asked.
        let sent = done.over.sends body asked in
        subst (λ server. SentWithin spec.paged 2 (server_run before.link) server (send_of (under (id_of executes.last.held.session) (number_of executes.last.held.sent)) body)) (sym server_is)
        (record { count = sent.count; within = omega (arith, sent.within, done.few); once = sent.once; sends = sent.sends });
    ends = subst (λ server. EndsWithReading spec batch (server_run before.link) server (id_of executes.last.held.session) (number_of executes.last.held.sent) result) (sym server_is) done.ends;
  }

  pub proceeds_lends : LendsAsBefore before.store now.store
  proceeds_lends = borrows_lends before.store now.store proceeds_sends_one_command.session proceeds_sends_one_command.number proceeds_sends_one_command.borrows

  pub proceeds_draws : Draws before.store now.store
  proceeds_draws = borrows_draws before.store now.store proceeds_sends_one_command.session proceeds_sends_one_command.number proceeds_sends_one_command.borrows
