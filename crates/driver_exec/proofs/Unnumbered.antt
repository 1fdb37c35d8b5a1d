-- Where nothing of an operation may be repeated there is one attempt, and its send has no number.
use Rattle.std.proofs.Common.{◌≡◌, ℕ, List, [], ◌∷◌, length, refl, ap, subst, ◌∙◌, inl, inr}
use Rattle.std.specs.Prelude.{ℤ, Bool, true, false, Option, None, Some, Result, Ok, Err, unwrap_or}
use Rattle.driver_error.specs.declared.error.Error.{Error}
use Rattle.driver_options.specs.declared.options.Address.{Address}
use Rattle.driver_options.specs.declared.options.Conn.{Conn}
use Rattle.driver_options.specs.declared.options.Description.{Description}
use Rattle.link_faults.specs.declared.fault.LinkError.{LinkError}
use Rattle.link_faults.specs.declared.fault.LinkError.TheVariants.{Fault}
use Rattle.driver_session.specs.declared.retryability.Retryability.{Retryability}
use Rattle.driver_session.specs.declared.retryability.Retryability.TheVariants as may
use Rattle.driver_session.specs.StoreTells.{StoreTells}
use Rattle.driver_attempt.specs.declared.attempt_end.AttemptEnd.{AttemptEnd}
use Rattle.driver_attempt.specs.declared.attempt_end.AttemptEnd.TheVariants.{Done, Ended, Failed, Stopped, Unfit, Unselected}
use Rattle.retry_rules.specs.declared.failure.AttemptFailure.{AttemptFailure}
use Rattle.retry_rules.specs.declared.failure.FailurePhase.{FailurePhase}
use Rattle.retry_rules.specs.declared.failure.FailurePhase.TheVariants.{ConnectionEstablishment, Execution}
use Rattle.driver_attempt.specs.Attempting.{AttemptState, AttemptedOperation, EndsRefused, FailsIn, MakesAttempt, Readies, Sends, asks_session, on_connection}
use Rattle.driver_attempt.specs.Executing.{Ends}
use Rattle.driver_attempt.specs.Holding.{DrawsNumber, ExecutionSession, HoldsSession, needs_session, number_before}
use Rattle.retry_rules.specs.Retry.{RetryState, after, decide, may_be_retried, reworded_failure}
use Rattle.driver_attempt.specs.inside.Executing.{Reaches}
use Rattle.driver_attempt.proofs.Attempts.{may_read_leaves, reads_leave, sent_number}

-- nothing may be repeated on a connection either
on_connection_none : (retryability : Retryability) (description : Description) → retryability ≡ may.None → on_connection retryability description ≡ may.None
on_connection_none retryability description is = ap (λ o. on_connection o description) is

-- then a first number is none
drawn_none : (connection_retryability : Retryability) → connection_retryability ≡ may.None → (held numbered : ExecutionSession) (number : Option ℤ) → number_before held ≡ None → DrawsNumber held.sent connection_retryability held numbered (Ok number) → number ≡ None
drawn_none connection_retryability is held numbered number none draws = by_sent held.sent none (subst (λ t. DrawsNumber held.sent t held numbered (Ok number)) is draws)
  where
    by_sent : (sent : Option (Option ℤ)) → unwrap_or sent None ≡ None → DrawsNumber sent may.None held numbered (Ok number) → number ≡ None
    by_sent (Some first) none draws = let same : number ≡ first = let e : ◌≡◌ {A = Result (Option ℤ) Error} (Ok number) (Ok first) = draws.1 in cc in same ∙ none
    by_sent None none draws = let e : ◌≡◌ {A = Result (Option ℤ) Error} (Ok number) (Ok None) = draws.draws.1 in cc

-- drawing one changes no number of a send
kept_number : (connection_retryability : Retryability) (held numbered : ExecutionSession) (result : Result (Option ℤ) Error) → DrawsNumber held.sent connection_retryability held numbered result → number_before numbered ≡ number_before held
kept_number connection_retryability held numbered result draws = by_sent held.sent draws
  where
    by_sent : (sent : Option (Option ℤ)) → DrawsNumber sent connection_retryability held numbered result → number_before numbered ≡ number_before held
    by_sent (Some first) draws = ap number_before draws.0
    by_sent None draws = ap number_before draws.is

-- an attempt before which no send had a number
module _ {A : Type 0} (op : AttemptedOperation A) (nothing : op.retryability ≡ may.None) (kept : Option RetryState) (before now : AttemptState) (bare : number_before before.held ≡ None) where
  by_need : (need : Bool) (store store_now : StoreTells) (held : ExecutionSession) → HoldsSession need store store_now before.held held (Ok tt) → number_before held ≡ None
  by_need false store store_now held holds = ap number_before holds.1 ∙ bare
  by_need true store store_now held holds = ap number_before holds.is ∙ bare

  readied_bare : (ready : AttemptState) (address : Address) (conn : Conn) → Readies op kept before ready address conn → number_before ready.held ≡ None
  readied_bare ready address conn readies =
      by_need (needs_session (asks_session op.spec.sessions conn.description) before.held) before.store ready.store ready.held readies.holds

  sent_bare : (behind : AttemptState) (address : Address) (conn : Conn) (result : Result (List ℕ) LinkError) → Sends op kept before behind address conn result → number_before behind.held ≡ None
  sent_bare behind address conn result sends =
      sent_number result sends
      ∙ drawn_none (on_connection op.retryability conn.description) (on_connection_none op.retryability conn.description nothing) sends.ready.held sends.numbered sends.number
      (readied_bare sends.ready address conn sends.readies) sends.draws

  failed_bare : (address : Address) (phase : FailurePhase) (error : Error) → FailsIn op kept before now address phase error → number_before now.held ≡ None
  failed_bare address ConnectionEstablishment error fails = ap number_before fails.rest.held ∙ bare
  failed_bare address Execution error fails = elim fails [
    | inl lost ↦ sent_bare now address lost.conn (Err (Fault lost.fault lost.labels)) lost.sends
    | inr spelled ↦ (reads_leave spelled.behind now spelled.reads).number ∙ sent_bare spelled.behind address spelled.conn (Ok spelled.reply) spelled.sends
  ]

  refused_bare : (error : Error) → EndsRefused op kept before now error → number_before now.held ≡ None
  refused_bare error ends =
      let ready = readied_bare ends.ready ends.address ends.conn ends.readies in
      let connection_retryability = on_connection op.retryability ends.conn.description in
      elim ends.refused [
        | inl none ↦ ap number_before none.same ∙ ready
        | inr other ↦ elim other [
          | inl unnumbered ↦ kept_number connection_retryability ends.ready.held now.held (Err error) unnumbered.draws ∙ ready
          | inr unframed ↦ kept_number connection_retryability ends.ready.held now.held (Ok unframed.number) unframed.draws ∙ ready
        ]
      ]

  -- has none after it
  attempt_bare : (attempt : AttemptEnd A) → MakesAttempt op kept before now attempt → number_before now.held ≡ None
  attempt_bare (Done output) makes =
      (reads_leave makes.behind now makes.reads).number ∙ sent_bare makes.behind makes.address makes.conn (Ok makes.reply) makes.sends
  attempt_bare (Failed failure) makes = failed_bare failure.address failure.phase failure.error makes.0
  attempt_bare (Unselected error) makes = ap number_before makes.rest.held ∙ bare
  attempt_bare Stopped makes = readied_bare now makes.1.address makes.1.conn makes.1.readies
  attempt_bare Unfit makes =
      kept_number (on_connection op.retryability makes.1.conn.description) makes.1.ready.held now.held (Ok makes.1.number) makes.1.draws
      ∙ readied_bare makes.1.ready makes.1.address makes.1.conn makes.1.readies
  attempt_bare (Ended error) makes = elim makes [
    | inl unready ↦ ap number_before unready.held ∙ bare
    | inr other ↦ elim other [
      | inl refuses ↦ refused_bare error refuses
      | inr ends ↦ (may_read_leaves op ends.conn ends.result ends.behind now ends.reads).number ∙ sent_bare ends.behind ends.address ends.conn ends.result ends.sends
    ]
  ]

-- no failure is followed by another attempt
module _ {A : Type 0} (op : AttemptedOperation A) (sharded : Bool) (nothing : op.retryability ≡ may.None) (first : AttemptState) where
  not_again : (kept : Option RetryState) (failure : AttemptFailure) (retry : RetryState) → decide kept failure op.retryability sharded ≡ Ok retry → ⊥
  unfolding decide may_be_retried
  not_again kept failure retry decides =
      let e : ◌≡◌ {A = Result RetryState Error} (Err (after kept (reworded_failure failure)).failure.error) (Ok retry) = subst (λ found. decide kept failure found sharded ≡ Ok retry) nothing decides in cc

  pub no_failure : (failures : List AttemptFailure) (kept : Option RetryState) (now : AttemptState) → Reaches op sharded first failures kept now → length failures ≡ 0
  no_failure [] kept now reaches = refl
  no_failure (failure ∷ failures) kept now reaches = let rest = reaches.1.1.1 in absurd (not_again rest.0 failure reaches.0 rest.1.1.decides)

  -- so the operation's send has no number
  pub ended_bare : number_before first.held ≡ None → (failures : List AttemptFailure) (kept : Option RetryState) (mid now : AttemptState) (result : Result A Error) → Reaches op sharded first failures kept mid
      → Ends op sharded kept mid now result → number_before now.held ≡ None
  ended_bare none [] kept mid now result reaches ends =
      let bare : number_before mid.held ≡ None = ap (λ state. number_before state.held) reaches.1 ∙ none in
      elim ends [
        | inl last ↦ attempt_bare op nothing kept mid now bare last.attempt last.makes
        | inr other ↦ elim other [
          | inl limit ↦ ap (λ state. number_before state.held) limit.same ∙ bare
          | inr refused ↦ attempt_bare op nothing kept mid now bare (Failed refused.failure) refused.makes
        ]
      ]
  ended_bare none (failure ∷ failures) kept mid now result reaches ends = let rest = reaches.1.1.1 in absurd (not_again rest.0 failure reaches.0 rest.1.1.decides)
