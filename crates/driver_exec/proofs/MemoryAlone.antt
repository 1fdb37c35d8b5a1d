-- An operation that ends for want of memory tells of nothing else: the failure that it keeps is none of memory, and what ends it
-- at once is that alone.
use Rattle.std.proofs.Common.{◌≡◌, ℕ, List, [], ◌∷◌, refl, sym, ap, subst, ◌∙◌, inl, inr}
use Rattle.std.specs.Prelude.{Bool, true, false, Option, None, Some, IfErr, Result, Ok, Err}
use Rattle.driver_error.specs.declared.error.Error.{Error}
use Rattle.driver_error.specs.declared.kind.ErrorKind.TheVariants as kind
use Rattle.driver_error.specs.Error.{ErrorKind, kind_of}
use Rattle.driver_options.specs.declared.concerns.WriteConcern.{WriteConcern}
use Rattle.driver_options.specs.declared.options.Address.{Address}
use Rattle.link_faults.specs.declared.fault.LinkFault.{LinkFault}
use Rattle.link_faults.specs.declared.fault.LinkFault.TheVariants as fault
use Rattle.link_faults.specs.Failures.{fault_kind}
use Rattle.driver_session.specs.declared.retryability.Retryability.{Retryability}
use Rattle.driver_session.specs.declared.retryability.Retryability.TheVariants as may
use Rattle.driver_ops.specs.Operations.{Batch, MayRefuse, OperationSpec}
use Rattle.driver_ops.specs.SendKinds.{SendKind}
use Rattle.driver_attempt.specs.declared.attempt_end.AttemptEnd.{AttemptEnd}
use Rattle.driver_attempt.specs.declared.attempt_end.AttemptEnd.TheVariants.{Done, Ended, Failed, Stopped, Unfit, Unselected}
use Rattle.retry_rules.specs.declared.failure.AttemptFailure.{AttemptFailure}
use Rattle.retry_rules.specs.declared.failure.FailurePhase.{FailurePhase}
use Rattle.retry_rules.specs.declared.failure.FailurePhase.TheVariants.{ConnectionEstablishment, Execution}
use Rattle.retry_rules.specs.OldDeployment.{reworded, reworded_kind}
use Rattle.retry_rules.specs.Retry.{RetryState, decide}
use Rattle.driver_attempt.specs.Attempting.{AttemptState, AttemptedOperation, EndsAtOnce, EndsRefused, FailsIn, MakesAttempt, on_connection}
use Rattle.driver_attempt.specs.Concerns.{IsConcernError}
use Rattle.driver_attempt.specs.Executing.{Ends, EndsWith, Executes}
use Rattle.driver_attempt.specs.Failures.{IsFaultOf, MemoryAlone, is_memory}
use Rattle.driver_attempt.specs.Holding.{DrawsNumber, ExecutionSession}
use Rattle.driver_attempt.specs.Moment.{Moment}
use Rattle.driver_attempt.specs.inside.Executing.{Reaches}
use Rattle.driver_attempt.proofs.RetryFold.{came_of}
use Rattle.driver_exec.proofs.HeldSessions.{unnumbered_at_end}
use Rattle.driver_exec.proofs.OperationCauses.{KeptHas, ResultHas, decided_has, reworded_is}
use Rattle.driver_exec.proofs.ReadFailures.{any_first}

true_not_false : true ≡ false → ⊥
true_not_false same = cc

-- an error of another kind
other_alone : (error : Error) → is_memory (kind_of error) ≡ false → MemoryAlone error
other_alone error told = λ is. absurd (true_not_false (sym (ap is_memory is) ∙ told))

-- no fault of a link is want of memory
fault_told : (found : LinkFault) → is_memory (fault_kind found) ≡ false
fault_told (fault.Io io) = refl
fault_told (fault.PoolCleared message) = refl
fault_told (fault.Selection message) = refl
fault_told (fault.Authentication message) = refl

-- nor is its error
fault_error_told : (found : LinkFault) (labels : List (List ℕ)) (retryability : Retryability) (error : Error) → IsFaultOf found labels retryability error
    → is_memory (kind_of error) ≡ false
fault_error_told found labels retryability error is = ap is_memory (is.labelled.rest.kind ∙ is.is.kind_is) ∙ fault_told found

-- nor is a refusal of a build
refusal_told : (why : ErrorKind) → MayRefuse why → is_memory why ≡ false
refusal_told (kind.InvalidArgument message) may = refl
refusal_told (kind.BsonSerialization fault) may = refl
refusal_told (kind.IncompatibleServer message) may = refl
refusal_told (kind.Internal message) may = refl
refusal_told _ may = absurd may

-- what is kept of an error is of memory where that is
reworded_told : (why : ErrorKind) → is_memory (reworded_kind why) ≡ is_memory why
unfolding reworded_kind
reworded_told (kind.Command error) = refl
reworded_told _ = refl

-- a number is not drawn at the last one, or for want of memory alone
number_alone : (connection_retryability : Retryability) (held numbered : ExecutionSession) (error : Error) → DrawsNumber held.sent connection_retryability held numbered (Err error)
    → MemoryAlone error
number_alone connection_retryability held numbered error draws =
    elim (unnumbered_at_end None connection_retryability held numbered error (any_first held.session held.sent) draws) [
      | inl memory ↦ λ is. memory
      | inr ends ↦ other_alone error (ap is_memory ends.is.kind_is)
    ]

-- a concern that is refused
concern_alone : (concern : Option WriteConcern) (error : Error) → IsConcernError concern error → MemoryAlone error
concern_alone concern error refuses = elim refuses.is [
  | inl alone ↦ other_alone error (ap is_memory alone.kind_is)
  | inr memory ↦ λ is. memory
]

module _ {A : Type 0} (op : AttemptedOperation A) (sharded : Bool) where
  -- the error of a failed attempt is of another kind
  phase_told : (kept : Option RetryState) (before now : AttemptState) (address : Address) (phase : FailurePhase) (error : Error) → FailsIn op kept before now address phase error
      → is_memory (kind_of error) ≡ false
  phase_told kept before now address ConnectionEstablishment error fails = fault_error_told fails.fault fails.labels op.retryability error fails.is
  phase_told kept before now address Execution error fails = elim fails [
    | inl lost ↦
        ap is_memory lost.is.versioned.kind
        ∙ fault_error_told lost.fault lost.labels (on_connection op.retryability lost.conn.description) lost.is.bare lost.is.is
    | inr spelled ↦ ap is_memory (spelled.is.versioned.kind ∙ spelled.is.is.labelled.rest.kind) ∙ spelled.is.is.told
  ]

  -- so is what is kept of it
  new_alone : (kept : Option RetryState) (before now : AttemptState) (failure : AttemptFailure) → MakesAttempt op kept before now (Failed failure) → MemoryAlone (reworded failure.error)
  new_alone kept before now failure makes =
      other_alone (reworded failure.error)
      (ap is_memory (reworded_is failure.error).0 ∙ reworded_told (kind_of failure.error) ∙ phase_told kept before now failure.address failure.phase failure.error makes.0)

  -- the failure that is kept at each moment that an operation reaches
  reaches_alone : (start : AttemptState) (failures : List AttemptFailure) (kept : Option RetryState) (now : AttemptState) → Reaches op sharded start failures kept now → KeptHas MemoryAlone kept
  reaches_alone start [] kept now reaches = subst (KeptHas MemoryAlone) (sym reaches.0) tt
  reaches_alone start (failure ∷ failures) kept now reaches =
      let mid = reaches.1.1.0 in
      let rest = reaches.1.1.1 in
      let earlier = rest.0 in
      let fails = rest.1.1 in
      subst (KeptHas MemoryAlone) (sym reaches.1.0)
      (decided_has MemoryAlone op sharded earlier failure (Ok reaches.0) (reaches_alone start failures earlier mid rest.1.0) (new_alone earlier mid now failure fails.makes) fails.decides)

  -- a command that is refused before it goes out
  refused_alone : (kept : Option RetryState) (mid now : AttemptState) (error : Error) → EndsRefused op kept mid now error → MemoryAlone error
  refused_alone kept mid now error ends = elim ends.refused [
    | inl none ↦ other_alone error (ap is_memory none.is.kind_is)
    | inr other ↦ elim other [
      | inl unnumbered ↦ number_alone (on_connection op.retryability ends.conn.description) ends.ready.held now.held error unnumbered.draws
      | inr unframed ↦ elim unframed.why [
        | inl early ↦ other_alone error (refusal_told (kind_of error) early.1.may)
        | inr why ↦ elim why [
          | inl none ↦ other_alone error (ap is_memory none.unframed.is.kind_is)
          | inr memory ↦ λ is. memory.0
        ]
      ]
    ]
  ]

  -- an end at once
  ended_alone : (kept : Option RetryState) (mid now : AttemptState) (error : Error) → EndsAtOnce op kept mid now error → MemoryAlone error
  ended_alone kept mid now error ends = elim ends [
    | inl unready ↦ λ is. unready.why
    | inr other ↦ elim other [ inl refused ↦ refused_alone kept mid now error refused | inr sent ↦ λ is. sent.why ]
  ]

  module _ (kept : Option RetryState) (has : KeptHas MemoryAlone kept) (mid now : AttemptState) where
    -- the error of the failure that is kept
    kept_alone : (retry : RetryState) → kept ≡ Some retry → MemoryAlone retry.failure.error
    kept_alone retry is = subst (KeptHas MemoryAlone) is has

    -- the last attempt
    last_alone : (attempt : AttemptEnd A) (result : Result A Error) → MakesAttempt op kept mid now attempt → EndsWith kept attempt result → IfErr result MemoryAlone
    last_alone (Done output) result makes ends = subst (λ r. IfErr r MemoryAlone) (sym ends) tt
    last_alone (Failed failure) result makes ends = absurd ends
    last_alone (Unselected error) result makes ends = by_kept kept refl ends
      where
        by_kept : (found : Option RetryState) → kept ≡ found → EndsWith {A = A} found (Unselected error) result → IfErr result MemoryAlone
        by_kept None is ends = subst (λ r. IfErr r MemoryAlone) (sym ends) (other_alone error (fault_error_told makes.fault makes.labels may.None error makes.is))
        by_kept (Some retry) is ends = subst (λ r. IfErr r MemoryAlone) (sym ends) (kept_alone retry is)
    last_alone Stopped result makes ends = by_kept kept refl ends
      where
        by_kept : (found : Option RetryState) → kept ≡ found → EndsWith {A = A} found Stopped result → IfErr result MemoryAlone
        by_kept None is ends = absurd ends
        by_kept (Some retry) is ends = subst (λ r. IfErr r MemoryAlone) (sym ends) (kept_alone retry is)
    last_alone Unfit result makes ends = by_kept kept refl ends
      where
        by_kept : (found : Option RetryState) → kept ≡ found → EndsWith {A = A} found Unfit result → IfErr result MemoryAlone
        by_kept None is ends = absurd ends
        by_kept (Some retry) is ends = subst (λ r. IfErr r MemoryAlone) (sym ends) (kept_alone retry is)
    last_alone (Ended error) result makes ends = subst (λ r. IfErr r MemoryAlone) (sym ends) (ended_alone kept mid now error makes)

    -- a failure that may not be followed by another attempt
    stopped_alone : (failure : AttemptFailure) (error : Error) (result : Result RetryState Error) → MakesAttempt op kept mid now (Failed failure)
        → decide kept failure op.retryability sharded ≡ result → ResultHas MemoryAlone result
    stopped_alone failure error result makes is = decided_has MemoryAlone op sharded kept failure result has (new_alone kept mid now failure makes) is

    -- an operation's end
    ends_alone : (result : Result A Error) → Ends op sharded kept mid now result → IfErr result MemoryAlone
    ends_alone result ends = elim ends [
      | inl last ↦ last_alone last.attempt result last.makes last.ends
      | inr other ↦ elim other [
        | inl limit ↦ subst (λ r. IfErr r MemoryAlone) (sym limit.result_is) (kept_alone limit.retry limit.is)
        | inr refused ↦ subst (λ r. IfErr r MemoryAlone) (sym refused.result_is) (elim refused.refused [
          | inl is ↦ stopped_alone refused.failure refused.error (Err refused.error) refused.makes is
          | inr memory ↦ λ is. memory
        ])
      ]
    ]

-- an operation as a whole
pub executes_alone : {A : Type 0} (spec : OperationSpec A) (batch : Batch) (which : SendKind) (before now : Moment) (count count_now : ℕ) (fixed fixed_now : Option ℕ) (result : Result A Error)
    → Executes spec batch which before now count count_now fixed fixed_now result → IfErr result MemoryAlone
executes_alone spec batch which before now count count_now fixed fixed_now result executes = elim executes [
  | inl refuses ↦ subst (λ r. IfErr r MemoryAlone) (sym refuses.result_is) (concern_alone _ refuses.error refuses.is)
  | inr proceeds ↦
      let came = came_of _ proceeds.sharded _ proceeds.last result proceeds.attempts in
      ends_alone _ proceeds.sharded proceeds.attempts.kept (reaches_alone _ proceeds.sharded _ came.0 proceeds.attempts.kept proceeds.attempts.mid came.1)
      proceeds.attempts.mid proceeds.last result proceeds.attempts.ends
]
