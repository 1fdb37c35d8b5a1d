-- An operation whose part of the schedule is gentle ends well: it was done, or memory ran out.
use Rattle.std.proofs.Common.{◌≡◌, ℕ, Bool, true, List, [], ◌∷◌, sym, ap, subst, ◌∙◌, inl, inr, arith}
use Rattle.std.specs.Prelude.{nat_lt, Option, None, Some, is_some, Result, Ok, Err}
use Rattle.driver_error.specs.declared.error.Error.{Error}
use Rattle.driver_error.specs.declared.kind.ErrorKind.TheVariants as kind
use Rattle.driver_error.specs.declared.labels.TheConstants.{RETRYABLE_WRITE_ERROR}
use Rattle.driver_error.specs.Error.{kind_of, labels_of}
use Rattle.driver_error.specs.LabelTexts.{has_label}
use Rattle.driver_options.specs.declared.options.Address.{Address}
use Rattle.driver_link.specs.Clock.{ClockTells}
use Rattle.link_faults.specs.declared.fault.LinkError.TheVariants.{Fault}
use Rattle.driver_link.specs.LinkState.{server_run, setup_of}
use Rattle.driver_link.specs.ServerRun.{ServerRun}
use Rattle.driver_session.specs.StoreTells.{DrawnApart}
use Rattle.driver_attempt.specs.declared.attempt_end.AttemptEnd.{AttemptEnd}
use Rattle.driver_attempt.specs.declared.attempt_end.AttemptEnd.TheVariants.{Done, Ended, Failed, Stopped, Unfit, Unselected}
use Rattle.retry_rules.specs.declared.failure.AttemptFailure.{AttemptFailure}
use Rattle.retry_rules.specs.declared.failure.FailurePhase.{FailurePhase}
use Rattle.driver_attempt.specs.Attempting.{AttemptState, EndsAtOnce, FailsIn, MakesAttempt, RefusedAgain, Stops, attempted_operation, besides_out, is_nothing}
use Rattle.driver_attempt.specs.Concerns.{concern_of, concern_refusal}
use Rattle.driver_attempt.specs.Executing.{Attempts, Ends, EndsWith, Executes, Proceeds, first_state, limit_reached}
use Rattle.driver_attempt.specs.Holding.{number_before}
use Rattle.driver_attempt.specs.Moment.{Moment}
use Rattle.retry_rules.specs.OldDeployment.{reworded}
use Rattle.retry_rules.specs.Retry.{RetryState, after_first, avoiding, decide, reworded_failure}
use Rattle.driver_attempt.specs.inside.Executing.{Reaches}
use Rattle.driver_attempt.proofs.AttemptSequence.{avoids}
use Rattle.driver_attempt.proofs.RetryFold.{came_of}
use Rattle.driver_exec.specs.Gentle.{EndsWell, IsGentlePart}
use Rattle.driver_exec.proofs.HeldSessions.{draws_on, not_both}
use Rattle.driver_exec.proofs.Moments.{IsBefore, Leads, before_refl, before_twice, connects_lead, fails_lead, leads_same, leads_twice, one_moment, selects_lead}
use Rattle.driver_exec.proofs.StoreDraws.{back_apart, ends_apart, fails_apart}
use Rattle.driver_exec.proofs.Completeness.Ends.{ok_err, allows, draws_write}
use Rattle.driver_exec.proofs.Completeness.Sessions.{KnownCommand, attempted, IsPrepared, first_prepared, is_conn, none_refused, refused_memory}
use Rattle.driver_exec.proofs.Completeness.Losses.{Lost, again_prepared, unselected_none, LosesWell, fails_well}

module _ {A : Type 0} (known : KnownCommand A) where
  open known use {body, fixed, Serves, repeats, retryability, store, told, link, link_is}

  module _ (clock : ClockTells) (count : ℕ) (told_now : ServerRun) (gentle : IsGentlePart Serves repeats told told_now) where
    -- where an operation stands between its attempts: it has not begun, or its one exchange was lost
    record LostOnce (retry : RetryState) (now : AttemptState) : Type 0 where
      lost : Lost known told_now gentle told now
      attempt : retry.attempt ≡ 1
      limit : retry.limit ≡ 1

    -- the same by what is kept
    abbrev SoFar : Option RetryState → AttemptState → Type 0
    SoFar None now = now ≡ first_state store link clock count fixed
    SoFar (Some retry) now = LostOnce retry now

    -- a further attempt does not fail
    again_none : (retry : RetryState) (mid : AttemptState) (once : LostOnce retry mid) (now : AttemptState) (last : ServerRun) → server_run now.link ≡ Some last → IsBefore last told_now → DrawnApart now.store
        → (address : Address) (phase : FailurePhase) (error : Error) → FailsIn (attempted known) (Some retry) mid now address phase error → ⊥
    again_none retry mid once now last now_is later apart address phase error fails =
        let first = once.lost in
        let second = (fails_well known told_now gentle (Some retry) first.moment mid (again_prepared known told_now gentle told mid first) now last now_is later apart address phase error fails).lost in
        let same = gentle.one first.at second.at first.part second.part first.lossy second.lossy in
        omega (arith, first.until, second.since, same)

    module _ (sharded : Bool) where
      -- after the exchange that was lost there is a further attempt, of one
      module _ (now : AttemptState) (failure : AttemptFailure) (number_is : failure.number ≡ number_before now.held) (lost : Lost known told_now gentle told now) (labelled : has_label (labels_of (reworded failure.error)) RETRYABLE_WRITE_ERROR.now ≡ true) where
        -- what is kept of the failure
        abbrev kept_first : RetryState
        kept_first = after_first (reworded_failure failure)

        -- the decision allows the attempt
        first_decides : decide None failure retryability sharded ≡ Ok (avoiding sharded failure.address kept_first)
        first_decides = allows failure retryability sharded (draws_write true retryability (setup_of link) lost.draws) labelled
            (ap is_some number_is ∙ ap (λ h. is_some (number_before h)) lost.held_is)

        -- so it stands between its attempts
        first_retry : (retry : RetryState) → decide None failure retryability sharded ≡ Ok retry → LostOnce retry now
        first_retry retry decides =
            let is : avoiding sharded failure.address kept_first ≡ retry = cc (sym first_decides ∙ decides) in
            let same = avoids sharded failure.address kept_first in
            record { lost = lost; attempt = sym (ap (λ k. k.attempt) is) ∙ same.0; limit = sym (ap (λ k. k.limit) is) ∙ same.1 }

        -- so the attempt is not refused
        first_refused : (error : Error) → decide None failure retryability sharded ≡ Err error → ⊥
        first_refused error refuses = ok_err (avoiding sharded failure.address kept_first) error (sym first_decides ∙ refuses)

      -- one failure more
      first_fails : (now : AttemptState) (last : ServerRun) (now_is : server_run now.link ≡ Some last) (later : IsBefore last told_now) (apart : DrawnApart now.store) (address : Address) (phase : FailurePhase) (error : Error)
          → FailsIn (attempted known) None (first_state store link clock count fixed) now address phase error → LosesWell known told_now gentle None told (first_state store link clock count fixed) (first_prepared known clock count) now last now_is later apart error
      first_fails now last now_is later apart address phase error fails = fails_well known told_now gentle None told (first_state store link clock count fixed) (first_prepared known clock count) now last now_is later apart address phase error fails

      -- and where the operation stands after it
      fails_far : (kept : Option RetryState) (mid now : AttemptState) (last : ServerRun) → SoFar kept mid → server_run now.link ≡ Some last → IsBefore last told_now → DrawnApart now.store → (failure : AttemptFailure) (retry : RetryState)
          → MakesAttempt (attempted known) kept mid now (Failed failure) → decide kept failure retryability sharded ≡ Ok retry → LostOnce retry now
      fails_far None mid now last far now_is later apart failure retry makes decides =
          let error = failure.error in
          let begun = subst (λ s. FailsIn (attempted known) None s now failure.address failure.phase error) far makes.0 in
          let well = first_fails now last now_is later apart failure.address failure.phase error begun in
          first_retry now failure makes.1 well.lost well.labelled retry decides
      fails_far (Some earlier) mid now last far now_is later apart failure retry makes decides =
          absurd (again_none earlier mid far now last now_is later apart failure.address failure.phase failure.error makes.0)

      -- each moment that an operation reaches is not before the first one
      reaches_leads : (failures : List AttemptFailure) (kept : Option RetryState) (now : AttemptState) → Reaches (attempted known) sharded (first_state store link clock count fixed) failures kept now → Leads told link now.link
      reaches_leads [] kept now reaches = subst (λ s. Leads told link s.link) (sym reaches.1) (leads_same told link link_is)
      reaches_leads (failure ∷ failures) kept now reaches =
          let mid = reaches.1.1.0 in
          let rest = reaches.1.1.1 in
          let came = reaches_leads failures rest.0 mid rest.1.0 in
          leads_twice told link mid.link now.link came
          (fails_lead (attempted known) rest.0 body known.asked came.moment mid now came.is failure.address failure.phase failure.error rest.1.1.makes.0)

      -- what it has come to there
      reaches_far : (failures : List AttemptFailure) (kept : Option RetryState) (now : AttemptState) (last : ServerRun) → Reaches (attempted known) sharded (first_state store link clock count fixed) failures kept now
          → server_run now.link ≡ Some last → IsBefore last told_now → DrawnApart now.store → SoFar kept now
      reaches_far [] kept now last reaches now_is later apart = subst (λ k. SoFar k now) (sym reaches.0) reaches.1
      reaches_far (failure ∷ failures) kept now last reaches now_is later apart =
          let mid = reaches.1.1.0 in
          let rest = reaches.1.1.1 in
          let came = reaches_leads failures rest.0 mid rest.1.0 in
          let more = fails_lead (attempted known) rest.0 body known.asked came.moment mid now came.is failure.address failure.phase failure.error rest.1.1.makes.0 in
          let here = subst (IsBefore came.moment) (one_moment now.link more.moment last more.is now_is) more.later in
          let earlier = fails_apart (attempted known) rest.0 mid now failure.address failure.phase failure.error rest.1.1.makes.0 apart in
          let far = reaches_far failures rest.0 mid came.moment rest.1.0 came.is (before_twice came.moment last told_now here later) earlier in
          subst (λ k. SoFar k now) (sym reaches.1.0) (fails_far rest.0 mid now last far now_is later apart failure reaches.0 rest.1.1.makes rest.1.1.decides)

      -- the last attempt
      module _ (failures : List AttemptFailure) (kept : Option RetryState) (mid now : AttemptState) (reaches : Reaches (attempted known) sharded (first_state store link clock count fixed) failures kept mid)
          (now_is : server_run now.link ≡ Some told_now) (apart_mid : DrawnApart mid.store) (apart : DrawnApart now.store) where
        -- the link leads there
        came_last : Leads told link mid.link
        came_last = reaches_leads failures kept mid reaches

        -- what stands before it, where it leads to the end of the part
        far_last : Leads came_last.moment mid.link now.link → SoFar kept mid
        far_last more = reaches_far failures kept mid came_last.moment reaches came_last.is
            (subst (IsBefore came_last.moment) (one_moment now.link more.moment told_now more.is now_is) more.later) apart_mid

        -- a moment at which the attempt is prepared
        record Prepares : Type 0 where
          moment : ServerRun
          prepared : IsPrepared known moment mid

        -- there is one
        prepares : Leads came_last.moment mid.link now.link → Prepares
        prepares more = by_kept kept (far_last more)
          where
            by_kept : (found : Option RetryState) → SoFar found mid → Prepares
            by_kept None far = record { moment = told; prepared = subst (IsPrepared known told) (sym far) (first_prepared known clock count) }
            by_kept (Some retry) far = record { moment = far.lost.moment; prepared = again_prepared known told_now gentle told mid far.lost }

        -- want of memory is a quiet end
        quiet_memory : (error : Error) (result : Result A Error) → result ≡ Err error → kind_of error ≡ kind.Memory → EndsWell result
        quiet_memory error result is memory = subst EndsWell (sym is) memory

        -- it may be repeated on a further connection
        stops_none : {past : Option RetryState} (retry : RetryState) → LostOnce retry mid → Stops (attempted known) past mid now → ⊥
        stops_none retry once stops =
            let lost = once.lost in
            let is = is_conn known lost.moment mid (again_prepared known told_now gentle told mid lost) now stops.address stops.conn stops.readies in
            let takes = draws_on true retryability (setup_of link) stops.conn.description lost.draws is in
            not_both (sym stops.nothing ∙ ap is_nothing takes.1)

        -- so the attempt does not stop
        stopped_quiet : {past : Option RetryState} (result : Result A Error) → Stops (attempted known) past mid now → EndsWith kept Stopped result → EndsWell result
        stopped_quiet result stops ends =
            let more = (connects_lead came_last.moment mid.link now.link stops.address stops.conn came_last.is stops.readies.connects).leads in
            by_kept kept (far_last more) ends
          where
            by_kept : (found : Option RetryState) → SoFar found mid → EndsWith found Stopped result → EndsWell result
            by_kept None far ends = absurd ends
            by_kept (Some retry) far ends = absurd (stops_none retry far stops)

        -- where it ends at once memory ran out
        ended_quiet : (past : Option RetryState) (error : Error) → EndsAtOnce (attempted known) past mid now error → kind_of error ≡ kind.Memory
        ended_quiet past error ends = elim ends [
          | inl unready ↦ unready.why.kind_is
          | inr other ↦ elim other [
            | inl refused ↦
                let came = (connects_lead came_last.moment mid.link refused.ready.link refused.address refused.conn came_last.is refused.readies.connects).leads in
                let here = prepares (subst (Leads came_last.moment mid.link) (sym refused.link) came) in
                refused_memory known here.moment mid here.prepared past now error apart refused
            | inr sent ↦ sent.why.kind_is
          ]
        ]

        -- the command that went out before is not refused when it is built again
        unfit_none : {past : Option RetryState} → RefusedAgain (attempted known) past mid now → ⊥
        unfit_none again =
            let came = (connects_lead came_last.moment mid.link again.ready.link again.address again.conn came_last.is again.readies.connects).leads in
            let here = prepares (subst (Leads came_last.moment mid.link) (sym again.link) came) in
            none_refused known here.moment mid here.prepared again.ready again.address again.conn again.readies again.error again.refused

        -- each end of the last attempt is quiet
        last_quiet : (past : Option RetryState) (attempt : AttemptEnd A) (result : Result A Error) → MakesAttempt (attempted known) past mid now attempt → EndsWith kept attempt result → EndsWell result
        last_quiet past (Done output) result makes ends = subst EndsWell (sym ends) tt
        last_quiet past (Failed failure) result makes ends = absurd ends
        last_quiet past (Unselected error) result makes ends =
            let here = prepares (selects_lead came_last.moment mid.link now.link (Err (Fault makes.fault makes.labels)) came_last.is makes.selects.calls).leads in
            absurd (unselected_none known told_now gentle past here.moment mid here.prepared now told_now now_is (before_refl told_now) apart error makes)
        last_quiet past Stopped result makes ends = stopped_quiet result makes.1 ends
        last_quiet past Unfit result makes ends = absurd (unfit_none makes.1)
        last_quiet past (Ended error) result makes ends = quiet_memory error result ends (ended_quiet past error makes)

        -- the limit is not reached
        limit_none : (retry : RetryState) → kept ≡ Some retry → limit_reached kept ≡ true → now ≡ mid → ⊥
        limit_none retry is reached same =
            let more = subst (λ s. Leads came_last.moment mid.link s.link) (sym same) (leads_same came_last.moment mid.link came_last.is) in
            let once = subst (λ k. SoFar k mid) is (far_last more) in
            not_both (sym reached ∙ ap limit_reached is ∙ ap (λ n. nat_lt n retry.attempt) once.limit ∙ ap (λ n. nat_lt 1 n) once.attempt)

        -- a failure is not refused a further attempt
        refused_none : (failure : AttemptFailure) (error : Error) → MakesAttempt (attempted known) kept mid now (Failed failure) → decide kept failure retryability sharded ≡ Err error → ⊥
        refused_none failure error makes refuses =
            let more = fails_lead (attempted known) kept body known.asked came_last.moment mid now came_last.is failure.address failure.phase failure.error makes.0 in
            by_kept kept (far_last more) makes.0 refuses
          where
            by_kept : (found : Option RetryState) → SoFar found mid → FailsIn (attempted known) found mid now failure.address failure.phase failure.error → decide found failure retryability sharded ≡ Err error → ⊥
            by_kept None far fails refuses =
                let begun = subst (λ s. FailsIn (attempted known) None s now failure.address failure.phase failure.error) far fails in
                let well = first_fails now told_now now_is (before_refl told_now) apart failure.address failure.phase failure.error begun in
                first_refused now failure makes.1 well.lost well.labelled error refuses
            by_kept (Some retry) far fails refuses =
                again_none retry mid far now told_now now_is (before_refl told_now) apart failure.address failure.phase failure.error fails

        -- so is each end of the operation
        ends_quietly : (result : Result A Error) → Ends (attempted known) sharded kept mid now result → EndsWell result
        ends_quietly result ends = elim ends [
          | inl last ↦ last_quiet kept last.attempt result last.makes last.ends
          | inr other ↦ elim other [
            | inl limit ↦ absurd (limit_none limit.retry limit.is limit.reached limit.same)
            | inr refused ↦ elim refused.refused [
              | inl is ↦ absurd (refused_none refused.failure refused.error refused.makes is)
              | inr memory ↦ quiet_memory refused.error result refused.result_is memory.kind_is
            ]
          ]
        ]

  -- the attempts of an operation whose part of the schedule is gentle end well
  gentle_attempts : (clock : ClockTells) (count : ℕ) (told_now : ServerRun) (gentle : IsGentlePart Serves repeats told told_now) (sharded : Bool) (last : AttemptState)
      → server_run last.link ≡ Some told_now → DrawnApart last.store → (result : Result A Error) → Attempts (attempted known) sharded (first_state store link clock count fixed) last result → EndsWell result
  gentle_attempts clock count told_now gentle sharded last last_is apart result attempts =
      let apart_mid = ends_apart (attempted known) attempts.mid last sharded attempts.kept result attempts.ends apart in
      let came = came_of (attempted known) sharded (first_state store link clock count fixed) last result attempts in
      ends_quietly clock count told_now gentle sharded came.0 attempts.kept attempts.mid last came.1 last_is apart_mid apart result attempts.ends

-- an operation whose concern is not refused and whose part of the schedule is gentle ends well, from one moment to another
gentle_proceeds : {A : Type 0} (known : KnownCommand A) (before now : Moment) (told_now : ServerRun) → known.store ≡ before.store → known.link ≡ besides_out before.link
    → known.retryability ≡ known.spec.retryability before.client.options → known.concern ≡ concern_of known.spec known.which before.client.options
    → server_run now.link ≡ Some told_now → DrawnApart now.store
    → IsGentlePart known.Serves known.repeats known.told told_now → (count count_now : ℕ) (fixed_now : Option ℕ) (result : Result A Error)
    → Proceeds known.spec known.batch known.which before now count count_now known.fixed fixed_now result → EndsWell result
gentle_proceeds known before now told_now store_is link_is retryability_is concern_is now_is drawn gentle count count_now fixed_now result executes =
    let last = executes.last in
    let last_is = ap server_run (sym executes.link_is) ∙ now_is in
    let apart = back_apart last.store now.store last.held.session executes.comes_back drawn in
    gentle_attempts known before.clock count told_now gentle executes.sharded last last_is apart result
    (subst (λ retryability. Attempts (attempted_operation known.spec known.batch known.which retryability known.concern) executes.sharded (first_state known.store known.link before.clock count known.fixed) last result) (sym retryability_is)
    (subst (λ c. Attempts (attempted_operation known.spec known.batch known.which (known.spec.retryability before.client.options) c) executes.sharded (first_state known.store known.link before.clock count known.fixed) last result) (sym concern_is)
    (subst (λ l. Attempts (attempted_operation known.spec known.batch known.which (known.spec.retryability before.client.options) (concern_of known.spec known.which before.client.options)) executes.sharded (first_state known.store l before.clock count known.fixed) last result) (sym link_is)
    (subst (λ s. Attempts (attempted_operation known.spec known.batch known.which (known.spec.retryability before.client.options) (concern_of known.spec known.which before.client.options)) executes.sharded (first_state s (besides_out before.link) before.clock count known.fixed) last result) (sym store_is)
    executes.attempts))))

-- so it is of an operation whose concern is not refused
pub gentle_ends : {A : Type 0} (known : KnownCommand A) (before now : Moment) (told_now : ServerRun) → known.store ≡ before.store → known.link ≡ besides_out before.link
    → known.retryability ≡ known.spec.retryability before.client.options → known.concern ≡ concern_of known.spec known.which before.client.options
    → server_run now.link ≡ Some told_now → DrawnApart now.store
    → IsGentlePart known.Serves known.repeats known.told told_now → (count count_now : ℕ) (fixed_now : Option ℕ) (result : Result A Error)
    → Executes known.spec known.batch known.which before now count count_now known.fixed fixed_now result → EndsWell result
gentle_ends known before now told_now store_is link_is retryability_is concern_is now_is drawn gentle count count_now fixed_now result executes = elim executes [
  | inl refuses ↦ absurd (let e : ◌≡◌ {A = Option (List ℕ)} None (Some refuses.is.text) = sym known.accepted ∙ ap concern_refusal concern_is ∙ refuses.is.refused in cc)
  | inr proceeds ↦ gentle_proceeds known before now told_now store_is link_is retryability_is concern_is now_is drawn gentle count count_now fixed_now result proceeds
]
