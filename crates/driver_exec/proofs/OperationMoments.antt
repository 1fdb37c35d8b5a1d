-- A link that tells its server leads from the moment before an operation to the moment after it: no count falls, and the schedule
-- stays.
use Rattle.std.proofs.Common.{◌≡◌, ℕ, List, [], ◌∷◌, ◌++◌, sym, ap, subst, ◌∙◌, inl, inr}
use Rattle.std.specs.Prelude.{Bool, Option, Some, Result, Ok, Err}
use Rattle.driver_error.specs.declared.error.Error.{Error}
use Rattle.link_faults.specs.declared.fault.LinkError.TheVariants.{Fault}
use Rattle.driver_link.specs.declared.machine.SendBody.{SendBody}
use Rattle.driver_link.specs.LinkState.{LinkState, server_run}
use Rattle.driver_link.specs.ServerRun.{ServerRun}
use Rattle.driver_ops.specs.Operations.{AsksFor, Batch, OperationSpec}
use Rattle.driver_ops.specs.SendKinds.{SendKind}
use Rattle.driver_attempt.specs.declared.attempt_end.AttemptEnd.{AttemptEnd}
use Rattle.driver_attempt.specs.declared.attempt_end.AttemptEnd.TheVariants.{Done, Ended, Failed, Stopped, Unfit, Unselected}
use Rattle.retry_rules.specs.declared.failure.AttemptFailure.{AttemptFailure}
use Rattle.driver_attempt.specs.Attempting.{AsksEarly, AttemptState, AttemptedOperation, MakesAttempt, attempted_operation, avoided, besides_out}
use Rattle.driver_attempt.specs.Concerns.{concern_of}
use Rattle.driver_attempt.specs.Executing.{AttemptsFail, Ends, Executes, Proceeds, first_state}
use Rattle.driver_attempt.specs.Moment.{Moment}
use Rattle.retry_rules.specs.Retry.{RetryState}
use Rattle.driver_exec.proofs.Moments.{IsBefore, Leads, before_refl, calling_twice, checks_lead, connects_lead, fails_lead, leads_same, leads_twice, may_read_leads, one_moment, read_leads, selects_lead}

module _ {A : Type 0} (op : AttemptedOperation A) (body : SendBody) (asked : AsksFor op.spec op.batch body) where
  -- attempts that failed one after another
  all_lead : (sharded : Bool) (earlier : List AttemptFailure) (before : AttemptState) (failures : List AttemptFailure) (now : AttemptState) (a : ServerRun) → server_run before.link ≡ Some a
      → AttemptsFail op sharded earlier before failures now → Leads a before.link now.link
  all_lead sharded earlier before [] now a is fails = subst (λ s. Leads a before.link s.link) (sym fails) (leads_same a before.link is)
  all_lead sharded earlier before (failure ∷ failures) now a is fails =
      let mid = fails.0 in
      let under = fails.1.0 in
      let here = fails_lead op under.kept body asked a before mid is failure.address failure.phase failure.error under.makes.0 in
      leads_twice a before.link mid.link now.link here (all_lead sharded (earlier ++ failure ∷ []) mid failures now here.moment here.is fails.1.1)

  -- the calls of one that came to no session
  early_lead : (kept : Option RetryState) (link now : LinkState) (a : ServerRun) → server_run link ≡ Some a → AsksEarly (avoided kept) link now → Leads a link now
  early_lead kept link now a is asks = elim asks [
    | inl fails ↦ (selects_lead a link now (Err fails.failure) is fails.selects.calls).leads
    | inr more ↦
        let here = selects_lead a link more.mid (Ok more.address) is more.selects.calls in
        (calling_twice a link more.mid now here (checks_lead here.leads.moment more.mid now more.result here.leads.is more.checks_out.calls)).leads
  ]

  -- any attempt
  attempt_leads : (kept : Option RetryState) (mid now : AttemptState) (a : ServerRun) → server_run mid.link ≡ Some a → (attempt : AttemptEnd A) → MakesAttempt op kept mid now attempt → Leads a mid.link now.link
  attempt_leads kept mid now a is (Done output) makes =
      read_leads op kept body asked a mid now is makes.behind makes.address makes.conn makes.reply (Ok output) makes.sends makes.reads
  attempt_leads kept mid now a is (Failed failure) makes = fails_lead op kept body asked a mid now is failure.address failure.phase failure.error makes.0
  attempt_leads kept mid now a is (Unselected error) makes = (selects_lead a mid.link now.link (Err (Fault makes.fault makes.labels)) is makes.selects.calls).leads
  attempt_leads kept mid now a is Stopped makes = (connects_lead a mid.link now.link makes.1.address makes.1.conn is makes.1.readies.connects).leads
  attempt_leads kept mid now a is Unfit makes =
      subst (Leads a mid.link) (sym makes.1.link) (connects_lead a mid.link makes.1.ready.link makes.1.address makes.1.conn is makes.1.readies.connects).leads
  attempt_leads kept mid now a is (Ended error) makes = elim makes [
    | inl unready ↦ early_lead kept mid.link now.link a is unready.asks
    | inr other ↦ elim other [
      | inl refused ↦ subst (Leads a mid.link) (sym refused.link) (connects_lead a mid.link refused.ready.link refused.address refused.conn is refused.readies.connects).leads
      | inr sent ↦ may_read_leads op kept body asked a mid now is sent.behind sent.address sent.conn sent.result sent.sends sent.reads
    ]
  ]

  -- how it ends
  ends_lead : (sharded : Bool) (kept : Option RetryState) (mid now : AttemptState) (result : Result A Error) (a : ServerRun) → server_run mid.link ≡ Some a → Ends op sharded kept mid now result
      → Leads a mid.link now.link
  ends_lead sharded kept mid now result a is ends = elim ends [
    | inl last ↦ attempt_leads kept mid now a is last.attempt last.makes
    | inr other ↦ elim other [
      | inl limit ↦ subst (λ s. Leads a mid.link s.link) (sym limit.same) (leads_same a mid.link is)
      | inr refused ↦ fails_lead op kept body asked a mid now is refused.failure.address refused.failure.phase refused.failure.error refused.makes.0
    ]
  ]

module _ {A : Type 0} (spec : OperationSpec A) (batch : Batch) (which : SendKind) (before now : Moment) (count count_now : ℕ) (fixed fixed_now : Option ℕ) (result : Result A Error) (body : SendBody)
    (asked : AsksFor spec batch body) (told told_now : ServerRun) (is : server_run before.link ≡ Some told) (now_is : server_run now.link ≡ Some told_now) where
  -- it went its way
  proceeds_before : Proceeds spec batch which before now count count_now fixed fixed_now result → IsBefore told told_now
  proceeds_before proceeds =
      let op = attempted_operation spec batch which (spec.retryability before.client.options) (concern_of spec which before.client.options) in
      let begun = first_state before.store (besides_out before.link) before.clock count fixed in
      let attempts = proceeds.attempts in
      let failed = all_lead op body asked proceeds.sharded [] begun attempts.failures attempts.mid told is attempts.fails in
      let over = leads_twice told begun.link attempts.mid.link proceeds.last.link failed (ends_lead op body asked proceeds.sharded attempts.kept attempts.mid proceeds.last result failed.moment failed.is attempts.ends) in
      subst (IsBefore told) (one_moment proceeds.last.link over.moment told_now over.is (sym (ap server_run proceeds.link_is) ∙ now_is)) over.later

  -- so it is of each operation
  pub executes_before : Executes spec batch which before now count count_now fixed fixed_now result → IsBefore told told_now
  executes_before executes = elim executes [
    | inl refuses ↦
        let same : server_run before.link ≡ Some told_now = ap (λ moment. server_run moment.link) (sym refuses.same) ∙ now_is in
        subst (IsBefore told) (one_moment before.link told told_now is same) (before_refl told)
    | inr proceeds ↦ proceeds_before proceeds
  ]
