-- How many sends an operation counts: at most one an attempt, and at most two in all.
use Rattle.std.proofs.Common.{◌≡◌, ℕ, ◌+◌, ◌≤◌, List, [], ◌∷◌, length, refl, ap, ◌∙◌, inl, inr, arith}
use Rattle.std.specs.Prelude.{Bool, Option, Result, Ok, Err}
use Rattle.driver_error.specs.declared.error.Error.{Error}
use Rattle.driver_options.specs.declared.options.Address.{Address}
use Rattle.driver_options.specs.declared.options.Conn.{Conn}
use Rattle.driver_link.specs.Clock.{ClockTells}
use Rattle.link_faults.specs.declared.fault.LinkError.{LinkError}
use Rattle.link_faults.specs.declared.fault.LinkError.TheVariants.{Fault}
use Rattle.driver_link.specs.LinkState.{LinkState}
use Rattle.driver_session.specs.declared.retryability.Retryability.TheVariants as may
use Rattle.driver_session.specs.StoreTells.{StoreTells}
use Rattle.driver_ops.specs.Operations.{Batch, OperationSpec}
use Rattle.driver_ops.specs.SendKinds.{SendKind}
use Rattle.driver_attempt.specs.declared.attempt_end.AttemptEnd.{AttemptEnd}
use Rattle.driver_attempt.specs.declared.attempt_end.AttemptEnd.TheVariants.{Done, Ended, Failed, Stopped, Unfit, Unselected}
use Rattle.retry_rules.specs.declared.failure.AttemptFailure.{AttemptFailure}
use Rattle.retry_rules.specs.declared.failure.FailurePhase.{FailurePhase}
use Rattle.retry_rules.specs.declared.failure.FailurePhase.TheVariants.{ConnectionEstablishment, Execution}
use Rattle.driver_attempt.specs.Attempting.{AttemptState, AttemptedOperation, EndsAtOnce, FailsIn, MakesAttempt, Sends, attempted_operation, besides_out}
use Rattle.driver_attempt.specs.Concerns.{concern_of}
use Rattle.driver_attempt.specs.Executing.{Ends, Proceeds, first_state}
use Rattle.driver_attempt.specs.Moment.{Moment}
use Rattle.retry_rules.specs.Retry.{RetryState}
use Rattle.driver_attempt.specs.inside.Executing.{Reaches}
use Rattle.driver_attempt.proofs.Attempts.{may_read_leaves}
use Rattle.driver_attempt.proofs.AttemptSequence.{one_left}
use Rattle.driver_attempt.proofs.RetryFold.{came_of}
use Rattle.driver_exec.proofs.OneCommand.{reaches_few}
use Rattle.driver_exec.proofs.Unnumbered.{no_failure}

-- one attempt counts one send at most
module _ {A : Type 0} (op : AttemptedOperation A) (kept : Option RetryState) (before now : AttemptState) where
  none_counted : now.count ≡ before.count → now.count ≤ before.count + 1
  none_counted same = omega (arith, same)

  one_counted : (behind : AttemptState) → now.count ≡ behind.count → (address : Address) (conn : Conn) (result : Result (List ℕ) LinkError) → Sends op kept before behind address conn result → now.count ≤ before.count + 1
  one_counted behind same address conn result sends = omega (arith, same, sends.counted, sends.readies.count)

  failed_counted : (address : Address) (phase : FailurePhase) (error : Error) → FailsIn op kept before now address phase error → now.count ≤ before.count + 1
  failed_counted address ConnectionEstablishment error fails = none_counted fails.rest.count
  failed_counted address Execution error fails = elim fails [
    | inl lost ↦ one_counted now refl address lost.conn (Err (Fault lost.fault lost.labels)) lost.sends
    | inr spelled ↦ one_counted spelled.behind spelled.reads.count address spelled.conn (Ok spelled.reply) spelled.sends
  ]

  ended_counted : (error : Error) → EndsAtOnce op kept before now error → now.count ≤ before.count + 1
  ended_counted error ends = elim ends [
    | inl unready ↦ none_counted unready.count
    | inr other ↦ elim other [
      | inl refused ↦ none_counted (refused.count ∙ refused.readies.count)
      | inr sent ↦ one_counted sent.behind (may_read_leaves op sent.conn sent.result sent.behind now sent.reads).count sent.address sent.conn sent.result sent.sends
    ]
  ]

  attempt_counted : (attempt : AttemptEnd A) → MakesAttempt op kept before now attempt → now.count ≤ before.count + 1
  attempt_counted (Done output) makes = one_counted makes.behind makes.reads.count makes.address makes.conn (Ok makes.reply) makes.sends
  attempt_counted (Failed failure) makes = failed_counted failure.address failure.phase failure.error makes.0
  attempt_counted (Unselected error) makes = none_counted makes.rest.count
  attempt_counted Stopped makes = none_counted makes.1.readies.count
  attempt_counted Unfit makes = none_counted (makes.1.count ∙ makes.1.readies.count)
  attempt_counted (Ended error) makes = ended_counted error makes

-- so many as there were failures, and one more
module _ {A : Type 0} (op : AttemptedOperation A) (sharded : Bool) (store : StoreTells) (link : LinkState) (clock : ClockTells) (count : ℕ) (fixed : Option ℕ) where
  reached_counted : (failures : List AttemptFailure) (kept : Option RetryState) (now : AttemptState) → Reaches op sharded (first_state store link clock count fixed) failures kept now
      → now.count ≤ count + length failures
  reached_counted [] kept now reaches = let same : now.count ≡ count = ap (λ s. s.count) reaches.1 in omega (arith, same)
  reached_counted (failure ∷ failures) kept now reaches =
      let mid = reaches.1.1.0 in
      let rest = reaches.1.1.1 in
      let before = reached_counted failures rest.0 mid rest.1.0 in
      let more = failed_counted op rest.0 mid now failure.address failure.phase failure.error rest.1.1.makes.0 in
      omega (arith, before, more)

  ended_few : (failures : List AttemptFailure) (kept : Option RetryState) (mid now : AttemptState) (result : Result A Error) → Reaches op sharded (first_state store link clock count fixed) failures kept mid
      → Ends op sharded kept mid now result → now.count ≤ count + 2
  ended_few failures kept mid now result reaches ends =
      let so_far = reached_counted failures kept mid reaches in
      let few = reaches_few op sharded store link clock count fixed failures kept mid reaches in
      elim ends [
        | inl last ↦
            let left = one_left kept few.once last.goes_on in
            let more = attempt_counted op kept mid now last.attempt last.makes in
            omega (arith, so_far, few.left, left, more)
        | inr other ↦ elim other [
          | inl limit ↦ let same : now.count ≡ mid.count = ap (λ s. s.count) limit.same in omega (arith, so_far, few.left, same)
          | inr refused ↦
              let left = one_left kept few.once refused.goes_on in
              let more = attempt_counted op kept mid now (Failed refused.failure) refused.makes in
              omega (arith, so_far, few.left, left, more)
        ]
      ]

-- an operation that is not refused for its concern counts two sends at most
pub proceeds_few : {A : Type 0} (spec : OperationSpec A) (batch : Batch) (which : SendKind) (before now : Moment) (count count_now : ℕ) (fixed fixed_now : Option ℕ) (result : Result A Error)
    → Proceeds spec batch which before now count count_now fixed fixed_now result → count_now ≤ count + 2
proceeds_few spec batch which before now count count_now fixed fixed_now result executes =
    let op = attempted_operation spec batch which (spec.retryability before.client.options) (concern_of spec which before.client.options) in
    let came = came_of op executes.sharded (first_state before.store (besides_out before.link) before.clock count fixed) executes.last result executes.attempts in
    let few = ended_few op executes.sharded before.store (besides_out before.link) before.clock count fixed came.0 executes.attempts.kept executes.attempts.mid executes.last result came.1 executes.attempts.ends in
    omega (arith, few, executes.count_is)

-- where nothing may be repeated there was no failure before the last attempt
module _ {A : Type 0} (op : AttemptedOperation A) (sharded : Bool) (nothing : op.retryability ≡ may.None) (store : StoreTells) (link : LinkState) (clock : ClockTells) (count : ℕ) (fixed : Option ℕ) where
  ended_once : (failures : List AttemptFailure) (kept : Option RetryState) (mid now : AttemptState) (result : Result A Error) → Reaches op sharded (first_state store link clock count fixed) failures kept mid
      → Ends op sharded kept mid now result → now.count ≤ count + 1
  ended_once failures kept mid now result reaches ends =
      let so_far = reached_counted op sharded store link clock count fixed failures kept mid reaches in
      let none = no_failure op sharded nothing (first_state store link clock count fixed) failures kept mid reaches in
      elim ends [
        | inl last ↦ let more = attempt_counted op kept mid now last.attempt last.makes in omega (arith, so_far, none, more)
        | inr other ↦ elim other [
          | inl limit ↦ let same : now.count ≡ mid.count = ap (λ s. s.count) limit.same in omega (arith, so_far, none, same)
          | inr refused ↦ let more = attempt_counted op kept mid now (Failed refused.failure) refused.makes in omega (arith, so_far, none, more)
        ]
      ]

-- such an operation counts one send at most
pub proceeds_once : {A : Type 0} (spec : OperationSpec A) (batch : Batch) (which : SendKind) (before now : Moment) (count count_now : ℕ) (fixed fixed_now : Option ℕ) (result : Result A Error)
    → spec.retryability before.client.options ≡ may.None → Proceeds spec batch which before now count count_now fixed fixed_now result → count_now ≤ count + 1
proceeds_once spec batch which before now count count_now fixed fixed_now result nothing executes =
    let op = attempted_operation spec batch which (spec.retryability before.client.options) (concern_of spec which before.client.options) in
    let came = came_of op executes.sharded (first_state before.store (besides_out before.link) before.clock count fixed) executes.last result executes.attempts in
    let once = ended_once op executes.sharded nothing before.store (besides_out before.link) before.clock count fixed came.0 executes.attempts.kept executes.attempts.mid executes.last result came.1 executes.attempts.ends in
    omega (arith, once, executes.count_is)
