-- An operation exchanges nothing before a command of it is built.
use Rattle.std.proofs.Common.{◌≡◌, ℕ, List, [], ◌∷◌, ◌++◌, refl, sym, ap, subst, inl, inr}
use Rattle.std.specs.Prelude.{Bool, Option, None, Some, ◌⊎◌, Result, Ok, Err}
use Rattle.driver_error.specs.declared.error.Error.{Error}
use Rattle.driver_options.specs.declared.options.Address.{Address}
use Rattle.driver_options.specs.declared.options.Conn.{Conn}
use Rattle.link_faults.specs.declared.fault.LinkError.{LinkError}
use Rattle.link_faults.specs.declared.fault.LinkError.TheVariants.{Fault}
use Rattle.driver_link.specs.Counting.{OnlyCounts}
use Rattle.driver_link.specs.LinkState.{LinkState, server_run}
use Rattle.driver_link.specs.ServerRun.{ServerRun}
use Rattle.driver_ops.specs.declared.command.Command.{Command}
use Rattle.driver_ops.specs.Operations.{Batch, OperationSpec}
use Rattle.driver_ops.specs.SendKinds.{SendKind}
use Rattle.driver_attempt.specs.declared.attempt_end.AttemptEnd.{AttemptEnd}
use Rattle.driver_attempt.specs.declared.attempt_end.AttemptEnd.TheVariants.{Done, Ended, Failed, Stopped, Unfit, Unselected}
use Rattle.retry_rules.specs.declared.failure.AttemptFailure.{AttemptFailure}
use Rattle.retry_rules.specs.declared.failure.FailurePhase.{FailurePhase}
use Rattle.retry_rules.specs.declared.failure.FailurePhase.TheVariants.{ConnectionEstablishment, Execution}
use Rattle.driver_attempt.specs.Attempting.{AttemptState, AttemptedOperation, FailsIn, MakesAttempt, Readies, Sends, attempted_operation, besides_out}
use Rattle.driver_attempt.specs.Concerns.{concern_of}
use Rattle.driver_attempt.specs.Executing.{AttemptsFail, Ends, Executes, Proceeds, first_state}
use Rattle.driver_attempt.specs.Moment.{Moment}
use Rattle.retry_rules.specs.Retry.{RetryState}
use Rattle.driver_attempt.proofs.Attempts.{counts_twice}
use Rattle.driver_attempt.proofs.OneAttempt.{checked_counted, connected_counted, early_counted, selected_counted}

-- where nothing happened nothing was sent
counts_refl : (link : Option ServerRun) → OnlyCounts link link
counts_refl None = refl
counts_refl (Some told) = record { server = refl; setup = refl; schedule = refl }

module _ {A : Type 0} (op : AttemptedOperation A) where
  -- a command with the batch's statements is one of the operation's
  abbrev pub HasCommand : Type 0
  HasCommand = (command : Command) × op.spec.commands op.which op.batch.statements command

  -- only calls were counted, or there is such a command
  abbrev pub CountsOrHas : LinkState → LinkState → Type 0
  CountsOrHas link now = OnlyCounts (server_run link) (server_run now) ⊎ HasCommand

  -- the same of two steps
  twice : (a b c : LinkState) → CountsOrHas a b → CountsOrHas b c → CountsOrHas a c
  twice a b c first second = elim first [
    | inl counted ↦ elim second [
      | inl more ↦ inl (counts_twice (server_run a) (server_run b) (server_run c) counted more)
      | inr has ↦ inr has
    ]
    | inr has ↦ inr has
  ]

  -- of none
  stays : (link now : LinkState) → now ≡ link → CountsOrHas link now
  stays link now same = inl (subst (λ l. OnlyCounts (server_run link) (server_run l)) (sym same) (counts_refl (server_run link)))

  -- a command that went out was built
  sent_has : (kept : Option RetryState) (before now : AttemptState) (address : Address) (conn : Conn) (result : Result (List ℕ) LinkError) → Sends op kept before now address conn result → HasCommand
  sent_has kept before now address conn result sends = (sends.exchanges.framed.command, sends.exchanges.framed.built.is)

  -- calls before a command that did not go out
  ready_counts : (kept : Option RetryState) (before ready : AttemptState) (now : LinkState) (address : Address) (conn : Conn) → Readies op kept before ready address conn → now ≡ ready.link
      → CountsOrHas before.link now
  ready_counts kept before ready now address conn readies same =
      inl (subst (λ l. OnlyCounts (server_run before.link) (server_run l)) (sym same) (connected_counted before.link ready.link address conn readies.connects).server)

  -- an attempt that failed
  fails_has : (kept : Option RetryState) (before now : AttemptState) (address : Address) (phase : FailurePhase) (error : Error) → FailsIn op kept before now address phase error
      → CountsOrHas before.link now.link
  fails_has kept before now address ConnectionEstablishment error fails =
      inl (checked_counted before.link fails.mid now.link address (Err (Fault fails.fault fails.labels)) fails.selects fails.checks_out).server
  fails_has kept before now address Execution error fails = elim fails [
    | inl lost ↦ inr (sent_has kept before now address lost.conn (Err (Fault lost.fault lost.labels)) lost.sends)
    | inr spelled ↦ inr (sent_has kept before spelled.behind address spelled.conn (Ok spelled.reply) spelled.sends)
  ]

  -- attempts that failed one after another
  all_have : (sharded : Bool) (earlier : List AttemptFailure) (before : AttemptState) (failures : List AttemptFailure) (now : AttemptState) → AttemptsFail op sharded earlier before failures now
      → CountsOrHas before.link now.link
  all_have sharded earlier before [] now fails = stays before.link now.link (ap (λ s. s.link) fails)
  all_have sharded earlier before (failure ∷ failures) now fails =
      let mid = fails.0 in
      let under = fails.1.0 in
      twice before.link mid.link now.link (fails_has under.kept before mid failure.address failure.phase failure.error under.makes.0)
      (all_have sharded (earlier ++ failure ∷ []) mid failures now fails.1.1)

  -- any attempt
  attempt_has : (kept : Option RetryState) (before now : AttemptState) (attempt : AttemptEnd A) → MakesAttempt op kept before now attempt → CountsOrHas before.link now.link
  attempt_has kept before now (Done output) makes = inr (sent_has kept before makes.behind makes.address makes.conn (Ok makes.reply) makes.sends)
  attempt_has kept before now (Failed failure) makes = fails_has kept before now failure.address failure.phase failure.error makes.0
  attempt_has kept before now (Unselected error) makes = inl (selected_counted before.link now.link (Err (Fault makes.fault makes.labels)) makes.selects).server
  attempt_has kept before now Stopped makes = inl (connected_counted before.link now.link makes.1.address makes.1.conn makes.1.readies.connects).server
  attempt_has kept before now Unfit makes = ready_counts kept before makes.1.ready now.link makes.1.address makes.1.conn makes.1.readies makes.1.link
  attempt_has kept before now (Ended error) makes = elim makes [
    | inl unready ↦ inl (early_counted before.link now.link unready.asks).server
    | inr other ↦ elim other [
      | inl refused ↦ ready_counts kept before refused.ready now.link refused.address refused.conn refused.readies refused.link
      | inr sent ↦ inr (sent_has kept before sent.behind sent.address sent.conn sent.result sent.sends)
    ]
  ]

  -- how it ends
  ends_have : (sharded : Bool) (kept : Option RetryState) (mid now : AttemptState) (result : Result A Error) → Ends op sharded kept mid now result → CountsOrHas mid.link now.link
  ends_have sharded kept mid now result ends = elim ends [
    | inl last ↦ attempt_has kept mid now last.attempt last.makes
    | inr other ↦ elim other [
      | inl limit ↦ stays mid.link now.link (ap (λ s. s.link) limit.same)
      | inr refused ↦ fails_has kept mid now refused.failure.address refused.failure.phase refused.failure.error refused.makes.0
    ]
  ]

module _ {A : Type 0} (spec : OperationSpec A) (batch : Batch) (which : SendKind) (before now : Moment) (count count_now : ℕ) (fixed fixed_now : Option ℕ) (result : Result A Error) where
  -- only calls were counted, or the operation has a command of so many statements
  abbrev pub SendsNothingOrBuilds : Type 0
  SendsNothingOrBuilds = OnlyCounts (server_run before.link) (server_run now.link) ⊎ ((command : Command) × spec.commands which batch.statements command)

  -- it went its way
  proceeds_built : Proceeds spec batch which before now count count_now fixed fixed_now result → SendsNothingOrBuilds
  proceeds_built proceeds =
      let op = attempted_operation spec batch which (spec.retryability before.client.options) (concern_of spec which before.client.options) in
      let begun = first_state before.store (besides_out before.link) before.clock count fixed in
      let attempts = proceeds.attempts in
      let found = twice op begun.link attempts.mid.link proceeds.last.link (all_have op proceeds.sharded [] begun attempts.failures attempts.mid attempts.fails)
      (ends_have op proceeds.sharded attempts.kept attempts.mid proceeds.last result attempts.ends) in
      elim found [
        | inl counts ↦ inl (subst (λ r. OnlyCounts (server_run before.link) r) (sym (ap server_run proceeds.link_is)) counts)
        | inr has ↦ inr has
      ]

  -- so it is of each operation
  pub sends_built : Executes spec batch which before now count count_now fixed fixed_now result → SendsNothingOrBuilds
  sends_built executes = elim executes [
    | inl refuses ↦ inl (subst (λ moment. OnlyCounts (server_run before.link) (server_run moment.link)) (sym refuses.same) (counts_refl (server_run before.link)))
    | inr proceeds ↦ proceeds_built proceeds
  ]
