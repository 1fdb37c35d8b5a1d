-- What the attempts of an operation draw from a store: the ids that it drew grow, so where the last are apart all were.
use Rattle.std.proofs.Common.{◌≡◌, ℕ, refl, sym, subst, ◌∙◌, inl, inr}
use Rattle.std.specs.Prelude.{Bool, true, false, List, Option, None, Some, Result, Ok}
use Rattle.driver_error.specs.declared.error.Error.{Error}
use Rattle.driver_options.specs.declared.options.Address.{Address}
use Rattle.driver_options.specs.declared.options.Conn.{Conn}
use Rattle.link_faults.specs.declared.fault.LinkError.{LinkError}
use Rattle.driver_session.specs.StoreTells.{DrawnApart, Draws, StoreTells}
use Rattle.driver_session.specs.Session.{Session}
use Rattle.driver_session.proofs.IdDraws.{apart_before, draws_lending, draws_staying, draws_taking}
use Rattle.driver_attempt.specs.declared.attempt_end.AttemptEnd.{AttemptEnd}
use Rattle.driver_attempt.specs.declared.attempt_end.AttemptEnd.TheVariants.{Done, Ended, Failed, Stopped, Unfit, Unselected}
use Rattle.retry_rules.specs.declared.failure.FailurePhase.{FailurePhase}
use Rattle.retry_rules.specs.declared.failure.FailurePhase.TheVariants.{ConnectionEstablishment, Execution}
use Rattle.driver_attempt.specs.Attempting.{FailsIn, Readies, AttemptState, Sends, AttemptedOperation, MakesAttempt, asks_session}
use Rattle.driver_attempt.specs.Executing.{Ends}
use Rattle.driver_attempt.specs.Holding.{GivesBack, ExecutionSession, HoldsSession, needs_session}
use Rattle.retry_rules.specs.Retry.{RetryState}
use Rattle.driver_attempt.proofs.Attempts.{may_read_leaves}

-- a session is lent where one is needed
holds_draws : (needed : Bool) (store now : StoreTells) (held held_now : ExecutionSession) → HoldsSession needed store now held held_now (Ok tt) → Draws store now
holds_draws false store now held held_now holds = draws_staying store now holds.0
holds_draws true store now held held_now holds = draws_lending store now holds.at holds.session holds.lends

module _ {A : Type 0} (op : AttemptedOperation A) (mid now : AttemptState) where
  readies_draws : {past : Option RetryState} (address : Address) (conn : Conn) → Readies op past mid now address conn → Draws mid.store now.store
  readies_draws address conn readies =
      holds_draws (needs_session (asks_session op.spec.sessions conn.description) mid.held) mid.store now.store mid.held now.held readies.holds

module _ {A : Type 0} (op : AttemptedOperation A) (past : Option RetryState) (mid now : AttemptState) where
  sends_draws : (behind : AttemptState) → now.store ≡ behind.store → (address : Address) (conn : Conn) (result : Result (List ℕ) LinkError) → Sends op past mid behind address conn result → Draws mid.store now.store
  sends_draws behind same address conn result sends = subst (Draws mid.store) (sym (same ∙ sends.store_is)) (readies_draws op mid sends.ready address conn sends.readies)

  fails_draws : (address : Address) (phase : FailurePhase) (error : Error) → FailsIn op past mid now address phase error → Draws mid.store now.store
  fails_draws address ConnectionEstablishment error fails = draws_staying mid.store now.store fails.rest.store
  fails_draws address Execution error fails = elim fails [
    | inl lost ↦ sends_draws now refl address lost.conn _ lost.sends
    | inr says ↦ sends_draws says.behind says.reads.store address says.conn _ says.sends
  ]

  pub attempt_draws : (attempt : AttemptEnd A) → MakesAttempt op past mid now attempt → Draws mid.store now.store
  attempt_draws (Done output) makes = sends_draws makes.behind makes.reads.store makes.address makes.conn _ makes.sends
  attempt_draws (Failed failure) makes = fails_draws failure.address failure.phase failure.error makes.0
  attempt_draws (Unselected error) makes = draws_staying mid.store now.store makes.rest.store
  attempt_draws Stopped makes = readies_draws op mid now makes.1.address makes.1.conn makes.1.readies
  attempt_draws Unfit makes = subst (Draws mid.store) (sym makes.1.store) (readies_draws op mid makes.1.ready makes.1.address makes.1.conn makes.1.readies)
  attempt_draws (Ended error) makes = elim makes [
    | inl unready ↦ draws_staying mid.store now.store unready.store
    | inr other ↦ elim other [
      | inl refused ↦ subst (Draws mid.store) (sym refused.store) (readies_draws op mid refused.ready refused.address refused.conn refused.readies)
      | inr sent ↦ sends_draws sent.behind (may_read_leaves op sent.conn sent.result sent.behind now sent.reads).store sent.address sent.conn sent.result sent.sends
    ]
  ]

  -- where the ids are apart after a failure they were before it
  pub fails_apart : (address : Address) (phase : FailurePhase) (error : Error) → FailsIn op past mid now address phase error → DrawnApart now.store → DrawnApart mid.store
  fails_apart address phase error fails apart = apart_before mid.store now.store (fails_draws address phase error fails) apart

-- and before the end of an operation
module _ {A : Type 0} (op : AttemptedOperation A) (mid now : AttemptState) where
  pub ends_apart : (sharded : Bool) (kept : Option RetryState) (result : Result A Error) → Ends op sharded kept mid now result → DrawnApart now.store → DrawnApart mid.store
  ends_apart sharded kept result ends apart = elim ends [
    | inl last ↦ apart_before mid.store now.store (attempt_draws op kept mid now last.attempt last.makes) apart
    | inr other ↦ elim other [
      | inl limit ↦ subst (λ s. DrawnApart s.store) limit.same apart
      | inr refused ↦ fails_apart op kept mid now refused.failure.address refused.failure.phase refused.failure.error refused.makes.0 apart
    ]
  ]

-- before a session came back they were apart
pub back_apart : (store now : StoreTells) (session : Option Session) → GivesBack store now session → DrawnApart now → DrawnApart store
back_apart store now None same apart = subst DrawnApart same apart
back_apart store now (Some session) back apart = apart_before store now (draws_taking store now session back.at back.takes) apart
