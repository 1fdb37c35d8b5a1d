-- A concern that is refused leaves all as it was; else the operation's attempts, and the session that came back, tell what it
-- left, the cause of its end, and what it built.
use Rattle.std.proofs.Common.{◌≡◌, ℕ, List, refl, sym, ap, inl, inr, subst, ◌∙◌}
use Rattle.std.specs.Prelude.{Option, None, Some, Err}
use Rattle.driver_ops.specs.Operations.{batch_of}
use Rattle.driver_attempt.specs.Client.{store_of}
use Rattle.driver_attempt.specs.Concerns.{IsConcernError, concern_of, concern_refusal}
use Rattle.driver_attempt.proofs.CommandParts.{fixed_some}
use Rattle.driver_attempt.specs.inside.Attempting.{attempt_state}
use Rattle.driver_exec.proofs.BuiltCommands.{executes_built}
use Rattle.driver_exec.proofs.MemoryAlone.{executes_alone}
use Rattle.driver_exec.proofs.InvariantSteps.Standing.{one_command_entries, one_command_failures, one_command_keeps}
use Rattle.driver_exec.proofs.WholeOperation.{executes_caused, executes_sends_one_command}
use Rattle.driver_exec.proofs.execute.execute_operation.Goals as goal

pub returns-clause-executes : goal.returns-clause-executes
returns-clause-executes g c = λ statements fixed. inr (record {
  accepted = subst (λ options. concern_refusal (concern_of (g.O.Operation.spec c.args.op.now) (g.O.Operation.next c.args.op.now) options) ≡ None) c.options.ensures c.in-None.ensures;
  sharded = c.is_sharded-sharded.result;
  sharded_is = c.is_sharded-sharded.ensures;
  last = attempt_state (g.S.SessionStore.tells (store_of c.execute_operation_with_retry-held.new.client)) (g.L.Link.tells c.execute_operation_with_retry-held.new.outside.link) (g.K.Clock.tells c.execute_operation_with_retry-held.new.outside.clock) c.execute_operation_with_retry-held.result.0 c.execute_operation_with_retry-held.new.sends
      (g.O.Operation.built c.execute_operation_with_retry-held.new.op);
  attempts = c.execute_operation_with_retry-held.ensures.attempts statements fixed;
  link_is = refl;
  out = c.execute_operation_with_retry-held.ensures.out;
  count_is = refl;
  fixed_is = refl;
  comes_back = c.check_in_session.ensures.takes.back;
  back_at = c.check_in_session.ensures.takes.back_at;
  words_are = ap g.R.Rng.stream c.execute_operation_with_retry-held.ensures.words;
  client_is = ap (λ options. record { options = options }) (c.check_in_session.ensures.options ∙ c.execute_operation_with_retry-held.ensures.options);
})

-- its concern is not refused
pub returns-clause-unbuilt : goal.returns-clause-unbuilt
returns-clause-unbuilt g c = λ text refused.
    let accepted = subst (λ options. concern_refusal (concern_of (g.O.Operation.spec c.args.op.now) (g.O.Operation.next c.args.op.now) options) ≡ None) c.options.ensures c.in-None.ensures in
    absurd (let e : ◌≡◌ {A = Option (List ℕ)} None (Some text) = sym accepted ∙ refused in cc)

pub returns-clause-one_command : goal.returns-clause-one_command
returns-clause-one_command g c = λ statements fixed.
    executes_sends_one_command (g.O.Operation.spec c.args.op.now) (batch_of c.args.places.now statements) (g.O.Operation.next c.args.op.now) _ _ c.args.sends.now c.execute_operation_with_retry-held.new.sends
    (g.O.Operation.built c.args.op.now) (g.O.Operation.built c.execute_operation_with_retry-held.new.op)
    c.execute_operation_with_retry-held.result.1 (g.met.O.Operation.law c.args.op.now).alone (returns-clause-executes g c statements fixed)

-- a number that is fixed, if one is
pub returns-clause-caused : goal.returns-clause-caused
returns-clause-caused g c =
    let some = fixed_some (g.O.Operation.built c.execute_operation_with_retry-held.new.op) in
    executes_caused (g.O.Operation.spec c.args.op.now) (batch_of c.args.places.now some.0) (g.O.Operation.next c.args.op.now) _ _ c.args.sends.now c.execute_operation_with_retry-held.new.sends
    (g.O.Operation.built c.args.op.now) (g.O.Operation.built c.execute_operation_with_retry-held.new.op)
    c.execute_operation_with_retry-held.result.1 (g.met.O.Operation.law c.args.op.now).alone (returns-clause-executes g c some.0 some.1)

pub returns-clause-keeps : goal.returns-clause-keeps
returns-clause-keeps g c = λ statements fixed body asked.
    one_command_keeps (g.O.Operation.spec c.args.op.now) (batch_of c.args.places.now statements) _ _ body asked c.execute_operation_with_retry-held.result.1 (returns-clause-one_command g c statements fixed)

pub returns-clause-entries : goal.returns-clause-entries
returns-clause-entries g c = λ statements fixed body asked.
    one_command_entries (g.O.Operation.spec c.args.op.now) (batch_of c.args.places.now statements) _ _ body asked (g.met.O.Operation.law c.args.op.now) c.execute_operation_with_retry-held.result.1
    (returns-clause-one_command g c statements fixed)

pub returns-clause-reported : goal.returns-clause-reported
returns-clause-reported g c = λ statements fixed body asked.
    one_command_failures (g.O.Operation.spec c.args.op.now) (batch_of c.args.places.now statements) _ _ body asked c.execute_operation_with_retry-held.result.1
    (returns-clause-one_command g c statements fixed)

-- a number that is fixed, if one is
pub returns-clause-ran : goal.returns-clause-ran
returns-clause-ran g c =
    let some = fixed_some (g.O.Operation.built c.execute_operation_with_retry-held.new.op) in
    executes_built (g.O.Operation.spec c.args.op.now) (batch_of c.args.places.now some.0) (g.O.Operation.next c.args.op.now) _ _ c.args.sends.now c.execute_operation_with_retry-held.new.sends
    (g.O.Operation.built c.args.op.now) (g.O.Operation.built c.execute_operation_with_retry-held.new.op)
    c.execute_operation_with_retry-held.result.1 (g.met.O.Operation.law c.args.op.now).alone (returns-clause-executes g c some.0 some.1)

-- its error is of another kind, or of want of memory alone
pub returns-clause-memory : goal.returns-clause-memory
returns-clause-memory g c =
    let some = fixed_some (g.O.Operation.built c.execute_operation_with_retry-held.new.op) in
    executes_alone (g.O.Operation.spec c.args.op.now) (batch_of c.args.places.now some.0) (g.O.Operation.next c.args.op.now) _ _ c.args.sends.now c.execute_operation_with_retry-held.new.sends
    (g.O.Operation.built c.args.op.now) (g.O.Operation.built c.execute_operation_with_retry-held.new.op)
    c.execute_operation_with_retry-held.result.1 (returns-clause-executes g c some.0 some.1)

pub returns-in-Some-clause-executes : goal.returns-in-Some-clause-executes
returns-in-Some-clause-executes g c = λ statements fixed. inl (record {
  error = c.in-Some.error;
  result_is = refl;
  is = subst (λ options. IsConcernError (concern_of (g.O.Operation.spec c.args.op.now) (g.O.Operation.next c.args.op.now) options) c.in-Some.error) c.options.ensures c.in-Some.ensures;
  same = refl;
  uncounted = refl;
  unfixed = refl;
})

pub returns-in-Some-clause-one_command : goal.returns-in-Some-clause-one_command
returns-in-Some-clause-one_command g c = λ statements fixed.
    executes_sends_one_command (g.O.Operation.spec c.args.op.now) (batch_of c.args.places.now statements) (g.O.Operation.next c.args.op.now) _ _ c.args.sends.now c.args.sends.now (g.O.Operation.built c.args.op.now) (g.O.Operation.built c.args.op.now)
    (Err c.in-Some.error) (g.met.O.Operation.law c.args.op.now).alone (returns-in-Some-clause-executes g c statements fixed)

pub returns-in-Some-clause-caused : goal.returns-in-Some-clause-caused
returns-in-Some-clause-caused g c =
    let some = fixed_some (g.O.Operation.built c.args.op.now) in
    executes_caused (g.O.Operation.spec c.args.op.now) (batch_of c.args.places.now some.0) (g.O.Operation.next c.args.op.now) _ _ c.args.sends.now c.args.sends.now (g.O.Operation.built c.args.op.now) (g.O.Operation.built c.args.op.now)
    (Err c.in-Some.error) (g.met.O.Operation.law c.args.op.now).alone (returns-in-Some-clause-executes g c some.0 some.1)

pub returns-in-Some-clause-keeps : goal.returns-in-Some-clause-keeps
returns-in-Some-clause-keeps g c = λ statements fixed body asked.
    one_command_keeps (g.O.Operation.spec c.args.op.now) (batch_of c.args.places.now statements) _ _ body asked (Err c.in-Some.error) (returns-in-Some-clause-one_command g c statements fixed)

pub returns-in-Some-clause-reported : goal.returns-in-Some-clause-reported
returns-in-Some-clause-reported g c = λ statements fixed body asked.
    one_command_failures (g.O.Operation.spec c.args.op.now) (batch_of c.args.places.now statements) _ _ body asked (Err c.in-Some.error) (returns-in-Some-clause-one_command g c statements fixed)

pub returns-in-Some-clause-ran : goal.returns-in-Some-clause-ran
returns-in-Some-clause-ran g c =
    let some = fixed_some (g.O.Operation.built c.args.op.now) in
    executes_built (g.O.Operation.spec c.args.op.now) (batch_of c.args.places.now some.0) (g.O.Operation.next c.args.op.now) _ _ c.args.sends.now c.args.sends.now (g.O.Operation.built c.args.op.now) (g.O.Operation.built c.args.op.now)
    (Err c.in-Some.error) (g.met.O.Operation.law c.args.op.now).alone (returns-in-Some-clause-executes g c some.0 some.1)

pub returns-in-Some-clause-memory : goal.returns-in-Some-clause-memory
returns-in-Some-clause-memory g c =
    let some = fixed_some (g.O.Operation.built c.args.op.now) in
    executes_alone (g.O.Operation.spec c.args.op.now) (batch_of c.args.places.now some.0) (g.O.Operation.next c.args.op.now) _ _ c.args.sends.now c.args.sends.now (g.O.Operation.built c.args.op.now) (g.O.Operation.built c.args.op.now)
    (Err c.in-Some.error) (returns-in-Some-clause-executes g c some.0 some.1)
