-- An operation that was done, or whose failure only a reply spells, has built its command.
use Rattle.std.proofs.Common.{◌≡◌, ℕ, List, [], ◌∷◌, refl, sym, subst, ◌∙◌, inl, inr}
use Rattle.std.specs.Prelude.{Bool, false, ◌⊎◌, Option, None, Some, Result, Ok, Err}
use Rattle.driver_error.specs.declared.error.Error.{Error}
use Rattle.driver_error.specs.declared.kind.ErrorKind.TheVariants as kind
use Rattle.driver_error.specs.Error.{IsAlone, kind_of}
use Rattle.driver_error.specs.LabelTexts.{no_labels}
use Rattle.driver_options.specs.declared.concerns.WriteConcern.{WriteConcern}
use Rattle.driver_options.specs.declared.options.Address.{Address}
use Rattle.driver_options.specs.declared.options.Conn.{Conn}
use Rattle.driver_link.specs.Clock.{ClockTells}
use Rattle.link_faults.specs.declared.fault.LinkError.{LinkError}
use Rattle.link_faults.specs.declared.fault.LinkError.TheVariants.{Fault}
use Rattle.driver_link.specs.LinkState.{LinkState, setup_of}
use Rattle.driver_session.specs.declared.retryability.Retryability.{Retryability}
use Rattle.driver_session.specs.declared.retryability.Retryability.TheVariants as may
use Rattle.driver_session.specs.StoreTells.{StoreTells}
use Rattle.driver_ops.specs.declared.command.Command.{Command}
use Rattle.driver_ops.specs.OperationLaw.{NeverOpen}
use Rattle.driver_ops.specs.Operations.{Batch, OperationSpec}
use Rattle.driver_ops.specs.SendKinds.{SendKind}
use Rattle.driver_attempt.specs.declared.attempt_end.AttemptEnd.{AttemptEnd}
use Rattle.driver_attempt.specs.declared.attempt_end.AttemptEnd.TheVariants.{Done, Ended, Failed, Stopped, Unfit, Unselected}
use Rattle.retry_rules.specs.declared.failure.AttemptFailure.{AttemptFailure}
use Rattle.retry_rules.specs.declared.failure.FailurePhase.{FailurePhase}
use Rattle.retry_rules.specs.declared.failure.FailurePhase.TheVariants.{ConnectionEstablishment, Execution}
use Rattle.driver_attempt.specs.Attempting.{AttemptState, AttemptedOperation, FailsIn, MakesAttempt, Sends, attempted_operation, besides_out}
use Rattle.driver_attempt.specs.Concerns.{concern_of}
use Rattle.driver_attempt.specs.Executing.{Ends, EndsWith, Executes, Proceeds, RefusesConcern, first_state}
use Rattle.driver_attempt.specs.Moment.{Moment}
use Rattle.retry_rules.specs.OldDeployment.{reworded}
use Rattle.retry_rules.specs.Retry.{RetryState, decide}
use Rattle.driver_attempt.specs.inside.Executing.{Reaches}
use Rattle.driver_attempt.proofs.RetryFold.{Came, came_of}
use Rattle.driver_exec.specs.Resending.{IsReadFailure}
use Rattle.driver_exec.specs.OperationCauses.{TakesFirst}
use Rattle.driver_exec.specs.Reporting.{HasBuilt, HasRun}
use Rattle.driver_exec.proofs.OperationCauses.{KeptHas, ResultHas, SoFar, decided_has, first_sent, kept_has, reaches_far}
use Rattle.driver_exec.proofs.ReadFailures.{concern_unread, ended_unread, fault_unread, reworded_read}

module _ {A : Type 0} (spec : OperationSpec A) (batch : Batch) (which : SendKind) (retryability : Retryability) (concern : Option WriteConcern) (store : StoreTells) (link : LinkState) (fixed : Option ℕ)
    (alone : spec.paged ≡ false → NeverOpen spec) where
  -- the operation as its attempts see it
  abbrev op : AttemptedOperation A
  op = attempted_operation spec batch which retryability concern

  -- it has come so far
  abbrev Far : Option RetryState → AttemptState → Type 0
  Far kept now = SoFar spec batch which retryability concern store link fixed alone kept now

  -- its command was built by a moment, with as many statements as are fixed then
  pub record BuiltAt (now : AttemptState) : Type 0 where
    pub command : Command
    pub commanded : spec.commands which batch.statements command
    pub is : now.fixed ≡ Some batch.statements
    pub first : TakesFirst spec fixed (setup_of link) batch.statements

  -- it was, where only a reply spells an error
  abbrev pub RunAt : AttemptState → Error → Type 0
  RunAt now error = IsReadFailure (kind_of error) → BuiltAt now

  -- where an operation was done it was, and where only a reply spells its error
  abbrev pub RunBy : AttemptState → Result A Error → Type 0
  RunBy now (Ok output) = BuiltAt now
  RunBy now (Err error) = RunAt now error

  -- it stays built
  still_built : (mid now : AttemptState) → now.fixed ≡ mid.fixed → BuiltAt mid → BuiltAt now
  still_built mid now same built = record { command = built.command; commanded = built.commanded; is = same ∙ built.is; first = built.first }

  module _ (kept past : Option RetryState) (mid : AttemptState) (far : Far kept mid) (now : AttemptState) where
    -- a command that went out was built
    sent_built : (behind : AttemptState) → now.fixed ≡ behind.fixed → (address : Address) (conn : Conn) (result : Result (List ℕ) LinkError) → Sends op past mid behind address conn result → BuiltAt now
    sent_built behind same address conn result sends = record {
      command = sends.exchanges.framed.command;
      commanded = sends.exchanges.framed.built.is;
      is = same ∙ sends.fixed_is;
      first = first_sent spec batch which retryability concern store link fixed alone past mid far.adds.setup far.held_so_far far.fixed_so_far behind address conn result sends;
    }

    -- so was that of an attempt which failed behind its connection
    execution_built : (address : Address) (error : Error) → FailsIn op past mid now address Execution error → BuiltAt now
    execution_built address error fails = elim fails [
      | inl lost ↦ sent_built now refl address lost.conn (Err (Fault lost.fault lost.labels)) lost.sends
      | inr spelled ↦ sent_built spelled.behind spelled.reads.fixed address spelled.conn (Ok spelled.reply) spelled.sends
    ]

    -- what was built before an attempt that failed is built after it
    older_built : (address : Address) (phase : FailurePhase) (error : Error) → FailsIn op past mid now address phase error → BuiltAt mid → BuiltAt now
    older_built address ConnectionEstablishment error fails built = still_built mid now fails.rest.fixed built
    older_built address Execution error fails built = execution_built address error fails

    -- and where only a reply spells its error it was built
    newer_built : (address : Address) (phase : FailurePhase) (error : Error) → FailsIn op past mid now address phase error → RunAt now error
    newer_built address ConnectionEstablishment error fails = λ read. absurd (fault_unread fails.fault fails.labels retryability error fails.is read)
    newer_built address Execution error fails = λ read. execution_built address error fails

    -- so is what is decided after it
    decided_built : (sharded : Bool) (failure : AttemptFailure) (result : Result RetryState Error) → MakesAttempt op past mid now (Failed failure) → KeptHas (RunAt mid) kept
        → decide kept failure op.retryability sharded ≡ result → ResultHas (RunAt now) result
    decided_built sharded failure result makes has is =
        decided_has (RunAt now) op sharded kept failure result
        (kept_has (RunAt mid) (RunAt now) kept (λ error was read. older_built failure.address failure.phase failure.error makes.0 (was read)) has)
        (new_built failure makes) is
      where
        new_built : (failure : AttemptFailure) → MakesAttempt op past mid now (Failed failure) → RunAt now (reworded failure.error)
        new_built failure makes = λ read.
            newer_built failure.address failure.phase failure.error makes.0 (subst IsReadFailure (reworded_read failure.error read) read)

  -- each moment that an operation reaches
  reaches_built : (clock : ClockTells) (count : ℕ) (sharded : Bool) (failures : List AttemptFailure) (kept : Option RetryState) (now : AttemptState) → Reaches op sharded (first_state store link clock count fixed) failures kept now
      → KeptHas (RunAt now) kept
  reaches_built clock count sharded [] kept now reaches = subst (KeptHas (RunAt now)) (sym reaches.0) tt
  reaches_built clock count sharded (failure ∷ failures) kept now reaches =
      let mid = reaches.1.1.0 in
      let rest = reaches.1.1.1 in
      let earlier = rest.0 in
      let fails = rest.1.1 in
      let far = reaches_far spec batch which retryability concern store link fixed alone clock count sharded failures earlier mid rest.1.0 in
      let has = reaches_built clock count sharded failures earlier mid rest.1.0 in
      subst (KeptHas (RunAt now)) (sym reaches.1.0) (decided_built earlier earlier mid far now sharded failure (Ok reaches.0) fails.makes has fails.decides)

  module _ (sharded : Bool) (kept : Option RetryState) (mid now : AttemptState) (far : Far kept mid) (has : KeptHas (RunAt mid) kept) where
    -- the error of the failure that is kept, where no number of statements was fixed since
    kept_built : (retry : RetryState) → kept ≡ Some retry → now.fixed ≡ mid.fixed → RunAt now retry.failure.error
    kept_built retry is same =
        let was : RunAt mid retry.failure.error = subst (KeptHas (RunAt mid)) is has in
        λ read. still_built mid now same (was read)

    -- the last attempt
    last_built : (attempt : AttemptEnd A) (result : Result A Error) → MakesAttempt op kept mid now attempt → EndsWith kept attempt result → RunBy now result
    last_built (Done output) result makes ends = subst (RunBy now) (sym ends) (sent_built kept kept mid far now makes.behind makes.reads.fixed makes.address makes.conn (Ok makes.reply) makes.sends)
    last_built (Failed failure) result makes ends = absurd ends
    last_built (Unselected error) result makes ends = by_kept kept refl ends
      where
        by_kept : (found : Option RetryState) → kept ≡ found → EndsWith {A = A} found (Unselected error) result → RunBy now result
        by_kept None is ends = subst (RunBy now) (sym ends) (λ read. absurd (fault_unread makes.fault makes.labels may.None error makes.is read))
        by_kept (Some retry) is ends = subst (RunBy now) (sym ends) (kept_built retry is makes.rest.fixed)
    last_built Stopped result makes ends = by_kept kept refl ends
      where
        by_kept : (found : Option RetryState) → kept ≡ found → EndsWith {A = A} found Stopped result → RunBy now result
        by_kept None is ends = absurd ends
        by_kept (Some retry) is ends = subst (RunBy now) (sym ends) (kept_built retry is makes.1.readies.fixed)
    last_built Unfit result makes ends = by_kept kept refl ends
      where
        by_kept : (found : Option RetryState) → kept ≡ found → EndsWith {A = A} found Unfit result → RunBy now result
        by_kept None is ends = absurd ends
        by_kept (Some retry) is ends = subst (RunBy now) (sym ends) (kept_built retry is (makes.1.fixed ∙ makes.1.readies.fixed))
    last_built (Ended error) result makes ends = subst (RunBy now) (sym ends) (λ read. absurd (ended_unread op kept mid now error read makes))

    -- the failure that is kept, at a moment that stays
    limit_built : (retry : RetryState) → kept ≡ Some retry → now ≡ mid → RunAt now retry.failure.error
    limit_built retry is same =
        let was : RunAt mid retry.failure.error = subst (KeptHas (RunAt mid)) is has in
        subst (λ state. RunAt state retry.failure.error) (sym same) was

    -- a failure that may not be followed by another attempt
    refused_built : (failure : AttemptFailure) (error : Error) → MakesAttempt op kept mid now (Failed failure)
        → (decide kept failure op.retryability sharded ≡ Err error) ⊎ IsAlone kind.Memory no_labels error → RunAt now error
    refused_built failure error makes refused = elim refused [
      | inl is ↦ decided_built kept kept mid far now sharded failure (Err error) makes has is
      | inr memory ↦ λ read. absurd (subst IsReadFailure memory.kind_is read)
    ]

    -- an operation's end
    ends_built : (result : Result A Error) → Ends op sharded kept mid now result → RunBy now result
    ends_built result ends = elim ends [
      | inl last ↦ last_built last.attempt result last.makes last.ends
      | inr other ↦ elim other [
        | inl limit ↦ subst (RunBy now) (sym limit.result_is) (limit_built limit.retry limit.is limit.same)
        | inr refused ↦ subst (RunBy now) (sym refused.result_is) (refused_built refused.failure refused.error refused.makes refused.refused)
      ]
    ]

module _ {A : Type 0} (spec : OperationSpec A) (batch : Batch) (which : SendKind) (before now : Moment) (count count_now : ℕ) (fixed fixed_now : Option ℕ) (result : Result A Error) where
  -- an operation that is not refused for its concern
  module _ (alone : spec.paged ≡ false → NeverOpen spec) (executes : Proceeds spec batch which before now count count_now fixed fixed_now result) where
    abbrev found_retryability : Retryability
    found_retryability = spec.retryability before.client.options

    abbrev found_concern : Option WriteConcern
    found_concern = concern_of spec which before.client.options

    abbrev start : AttemptState
    start = first_state before.store (besides_out before.link) before.clock count fixed

    -- its attempts are those of a loop
    came : Came (attempted_operation spec batch which found_retryability found_concern) executes.sharded start executes.attempts.kept executes.attempts.mid
    came = came_of (attempted_operation spec batch which found_retryability found_concern) executes.sharded start executes.last result executes.attempts

    -- its command was built by the last of them
    runs : RunBy spec batch which found_retryability found_concern before.store (besides_out before.link) fixed alone executes.last result
    runs =
        let far = reaches_far spec batch which found_retryability found_concern before.store (besides_out before.link) fixed alone before.clock count executes.sharded came.0 executes.attempts.kept executes.attempts.mid
        came.1 in
        let has = reaches_built spec batch which found_retryability found_concern before.store (besides_out before.link) fixed alone before.clock count executes.sharded came.0 executes.attempts.kept executes.attempts.mid
        came.1 in
        ends_built spec batch which found_retryability found_concern before.store (besides_out before.link) fixed alone executes.sharded executes.attempts.kept executes.attempts.mid executes.last far has result
        executes.attempts.ends

    -- so it has its command
    has_built : BuiltAt spec batch which found_retryability found_concern before.store (besides_out before.link) fixed alone executes.last → HasBuilt spec which before fixed fixed_now
    has_built built = record {
      statements = batch.statements;
      is = executes.fixed_is ∙ built.is;
      command = built.command;
      commanded = built.commanded;
      description = built.first.description;
      described = built.first.told;
      takes = built.first.takes;
    }

    by_end : (found : Result A Error) → RunBy spec batch which found_retryability found_concern before.store (besides_out before.link) fixed alone executes.last found → HasRun spec which before fixed fixed_now found
    by_end (Ok output) built = has_built built
    by_end (Err error) run = λ read. has_built (run read)

    proceeds_built : HasRun spec which before fixed fixed_now result
    proceeds_built = by_end result runs

  -- one that is refused
  refused_run : RefusesConcern spec which before now count count_now fixed fixed_now result → HasRun spec which before fixed fixed_now result
  refused_run refuses = subst (HasRun spec which before fixed fixed_now) (sym refuses.result_is)
      (λ read. absurd (concern_unread (concern_of spec which before.client.options) refuses.error refuses.is read))

  -- an operation as a whole
  pub executes_built : (spec.paged ≡ false → NeverOpen spec) → Executes spec batch which before now count count_now fixed fixed_now result → HasRun spec which before fixed fixed_now result
  executes_built alone executes = elim executes [
    | inl refuses ↦ refused_run refuses
    | inr proceeds ↦ proceeds_built alone proceeds
  ]
