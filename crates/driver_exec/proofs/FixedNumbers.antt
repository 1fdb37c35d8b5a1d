-- How many statements an operation's command has: until the command went out that is fixed as it was when the operation began,
-- and then it is as many as a first build takes.
use Rattle.std.proofs.Common.{◌≡◌, ℕ, List, [], ◌∷◌, ◌++◌, refl, sym, ap, subst, ◌∙◌, inl, inr}
use Rattle.std.specs.Prelude.{ℤ, Bool, true, false, Option, None, Some, is_some, ◌⊎◌, Result, Ok, Err, if◌then◌else◌}
use Rattle.driver_error.specs.declared.error.Error.{Error}
use Rattle.driver_options.specs.declared.options.Address.{Address}
use Rattle.driver_options.specs.declared.options.Conn.{Conn}
use Rattle.driver_options.specs.declared.options.Description.{Description}
use Rattle.link_faults.specs.declared.fault.LinkError.{LinkError}
use Rattle.link_faults.specs.declared.fault.LinkError.TheVariants.{Fault, Memory}
use Rattle.driver_link.specs.declared.machine.Setup.{Setup}
use Rattle.link_faults.specs.Failures.{is_network}
use Rattle.driver_ops.specs.Fields.{SendContext}
use Rattle.driver_ops.specs.Operations.{IsFixed, OperationSpec}
use Rattle.driver_attempt.specs.declared.attempt_end.AttemptEnd.TheVariants.{Failed}
use Rattle.retry_rules.specs.declared.failure.AttemptFailure.{AttemptFailure}
use Rattle.retry_rules.specs.declared.failure.FailurePhase.{FailurePhase}
use Rattle.retry_rules.specs.declared.failure.FailurePhase.TheVariants.{ConnectionEstablishment, Execution}
use Rattle.driver_attempt.specs.AttemptExchanges.{PageAsked, held_after, held_after_answer, held_after_pages}
use Rattle.driver_attempt.specs.Attempting.{AttemptState, AttemptedOperation, FailsIn, LacksFrame, MakesAttempt, Readies, ReadsOn, Sends, asks_session, builds_again}
use Rattle.driver_attempt.specs.Executing.{AttemptsFail}
use Rattle.driver_attempt.specs.Holding.{ExecutionSession, HoldsSession, dirty_session_held, needs_session}
use Rattle.retry_rules.specs.Retry.{RetryState}
use Rattle.driver_attempt.specs.inside.Executing.{Reaches}
use Rattle.driver_exec.specs.OperationCauses.{TakesFirst}
use Rattle.driver_exec.proofs.HeldSessions.{IsOf, is_told}

-- a send under a number is one
sent_none : (number : Option ℤ) → ◌≡◌ {A = Option (Option ℤ)} (Some number) None → ⊥
sent_none number is = cc

-- where there was none, none was
none_sent : (sent : Option (Option ℤ)) → is_some sent ≡ false → sent ≡ None
none_sent None is = refl
none_sent (Some number) is = absurd (let e : true ≡ false = is in cc)

-- what comes of an exchange does not undo its send
pub after_sent : (result : Result (List ℕ) LinkError) (held : ExecutionSession) → (held_after result held).sent ≡ held.sent
after_sent (Ok reply) held = refl
after_sent (Err (Fault fault labels)) held = by_network (is_network fault)
  where
    by_network : (dirty : Bool) → (if dirty then dirty_session_held held else held).sent ≡ held.sent
    by_network true = refl
    by_network false = refl
after_sent (Err Memory) held = refl

after_answer : (answered : Option (Result (List ℕ) LinkError)) (held : ExecutionSession) → (held_after_answer answered held).sent ≡ held.sent
after_answer None held = refl
after_answer (Some result) held = after_sent result held

-- nor do further pages
pub pages_sent : (asked : List PageAsked) (held : ExecutionSession) → (held_after_pages asked held).sent ≡ held.sent
pages_sent [] held = refl
pages_sent (last ∷ earlier) held = after_answer last.answered held

pub read_sent : {A : Type 0} {op : AttemptedOperation A} {conn : Conn} {reply : List ℕ} {answer : Result A Error} (behind now : AttemptState) → ReadsOn op conn reply behind now answer → now.held.sent ≡ behind.held.sent
read_sent behind now reads = ap (λ h. h.sent) reads.exchanges.held_is ∙ pages_sent reads.exchanges.asked behind.held

-- the number that is fixed is as it was when the operation began, or the command went out with so many statements, as a first
-- build takes them
abbrev pub MayBeFixed : {A : Type 0} → OperationSpec A → Option ℕ → Option Setup → ℕ → Option ℕ → Type 0
MayBeFixed spec fixed setup statements now = (now ≡ fixed) ⊎ (TakesFirst spec fixed setup statements × (now ≡ Some statements))

module _ {A : Type 0} (op : AttemptedOperation A) where
  -- nothing is sent until a session is there
  pub ready_sent : {past : Option RetryState} (mid ready : AttemptState) (address : Address) (conn : Conn) → Readies op past mid ready address conn → ready.held.sent ≡ mid.held.sent
  ready_sent mid ready address conn readies = by_need (needs_session (asks_session op.spec.sessions conn.description) mid.held) readies.holds
    where
      by_need : (needed : Bool) → HoldsSession needed mid.store ready.store mid.held ready.held (Ok tt) → ready.held.sent ≡ mid.held.sent
      by_need false holds = ap (λ h. h.sent) holds.1
      by_need true holds = ap (λ h. h.sent) holds.is

  -- a command that went out was sent
  sends_some : (kept : Option RetryState) (before now : AttemptState) (address : Address) (conn : Conn) (result : Result (List ℕ) LinkError) → Sends op kept before now address conn result → now.held.sent ≡ None → ⊥
  sends_some kept before now address conn result sends none =
      sent_none sends.number (sym (ap (λ h. h.sent) sends.held_is ∙ after_sent result (record sends.numbered { sent = Some sends.number })) ∙ none)

  -- where nothing was sent by the end of an attempt that failed, nothing was before it, and the number is as it was
  fails_unsent : (kept : Option RetryState) (before now : AttemptState) (address : Address) (phase : FailurePhase) (error : Error) → FailsIn op kept before now address phase error → now.held.sent ≡ None
      → (now.fixed ≡ before.fixed) × (before.held.sent ≡ None)
  fails_unsent kept before now address ConnectionEstablishment error fails none = (fails.rest.fixed, sym (ap (λ h. h.sent) fails.rest.held) ∙ none)
  fails_unsent kept before now address Execution error fails none = elim fails [
    | inl lost ↦ absurd (sends_some kept before now address lost.conn (Err (Fault lost.fault lost.labels)) lost.sends none)
    | inr spelled ↦ absurd (sends_some kept before spelled.behind address spelled.conn (Ok spelled.reply) spelled.sends (sym (read_sent spelled.behind now spelled.reads) ∙ none))
  ]

  -- the same of the attempt as a whole
  pub failed_unsent : (kept : Option RetryState) (before now : AttemptState) (failure : AttemptFailure) → MakesAttempt op kept before now (Failed failure) → now.held.sent ≡ None
      → (now.fixed ≡ before.fixed) × (before.held.sent ≡ None)
  failed_unsent kept before now failure makes none = fails_unsent kept before now failure.address failure.phase failure.error makes.0 none

  -- and of attempts that failed one after another
  pub all_unsent : (sharded : Bool) (earlier : List AttemptFailure) (before : AttemptState) (failures : List AttemptFailure) (now : AttemptState) → AttemptsFail op sharded earlier before failures now → now.held.sent ≡ None
      → (now.fixed ≡ before.fixed) × (before.held.sent ≡ None)
  all_unsent sharded earlier before [] now fails none = (ap (λ s. s.fixed) fails, sym (ap (λ s. s.held.sent) fails) ∙ none)
  all_unsent sharded earlier before (failure ∷ failures) now fails none =
      let mid = fails.0 in
      let under = fails.1.0 in
      let rest = all_unsent sharded (earlier ++ failure ∷ []) mid failures now fails.1.1 none in
      let here = failed_unsent under.kept before mid failure under.makes rest.1 in
      (rest.0 ∙ here.0, here.1)

  -- so a command that is not built again is built by the number that was fixed when the operation began
  pub first_fixed : (sharded : Bool) (before mid : AttemptState) (failures done : List AttemptFailure) (kept : Option RetryState) → AttemptsFail op sharded [] before failures mid → Reaches op sharded before done kept mid
      → builds_again (is_some kept) mid.held ≡ false → mid.fixed ≡ before.fixed
  first_fixed sharded before mid failures [] kept fails reaches first = ap (λ s. s.fixed) reaches.1
  first_fixed sharded before mid failures (failure ∷ done) kept fails reaches first =
      let unsent : is_some mid.held.sent ≡ false = subst (λ k. builds_again (is_some k) mid.held ≡ false) reaches.1.0 first in
      (all_unsent sharded [] before failures mid fails (none_sent mid.held.sent unsent)).0

  -- what was built and has no frame has as many statements as a first build takes
  pub lacks_first : (fixed : Option ℕ) (setup : Option Setup) (context : SendContext) (description : Description) (before now : Option ℕ) (error : Error) (lacks : LacksFrame op.spec context description before now error)
      → IsOf setup description → MayBeFixed op.spec fixed setup op.batch.statements before → TakesFirst op.spec fixed setup lacks.statements
  lacks_first fixed setup context description before now error lacks is was = elim was [
    | inl same ↦ record {
      description = description;
      told = is_told setup description is;
      takes = subst (λ number. op.spec.takes number description lacks.statements) same lacks.takes;
    }
    | inr sent ↦ subst (TakesFirst op.spec fixed setup) (subst (λ number. IsFixed number lacks.statements) sent.1 lacks.by) sent.0
  ]

  -- a command that went out has as many statements as a first build takes
  pub sends_first : (fixed : Option ℕ) (setup : Option Setup) (kept : Option RetryState) (before now : AttemptState) (address : Address) (conn : Conn) (result : Result (List ℕ) LinkError)
      → Sends op kept before now address conn result → IsOf setup conn.description → MayBeFixed op.spec fixed setup op.batch.statements before.fixed → TakesFirst op.spec fixed setup op.batch.statements
  sends_first fixed setup kept before now address conn result sends is was = elim was [
    | inl same ↦ record {
      description = conn.description;
      told = is_told setup conn.description is;
      takes = subst (λ number. op.spec.takes number conn.description op.batch.statements) (sends.readies.fixed ∙ same) sends.takes;
    }
    | inr sent ↦ sent.0
  ]
