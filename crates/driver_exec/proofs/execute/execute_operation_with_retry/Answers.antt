-- Each attempt goes on from the failures before it, and the last one ends the operation.
use Rattle.std.proofs.Common.{refl, sym, subst, ◌∙◌}
use Rattle.std.specs.Prelude.{Ok, Err}
use Rattle.driver_ops.specs.Operations.{batch_of}
use Rattle.driver_attempt.specs.declared.attempt_end.AttemptEnd.TheVariants.{Failed}
use Rattle.driver_attempt.specs.Client.{options_of, store_of}
use Rattle.driver_attempt.specs.Holding.{holds_nothing}
use Rattle.retry_rules.specs.Retry.{Decides, decide}
use Rattle.driver_attempt.proofs.CommandParts.{bodies_same, counted_twice, fixed_some, fixes_twice}
use Rattle.driver_attempt.proofs.AttemptSequence.{attempt_under_options, attempted_under, decided_fewer, ends_at_limit, ends_last, ends_refused, failed_is, goes_further, may_answer, same_twice}
use Rattle.driver_attempt.specs.inside.Attempting.{attempt_state}
use Rattle.driver_exec.proofs.execute.execute_operation_with_retry.Goals as goal

pub returns-then-limit_reached-clause-attempts : goal.returns-then-limit_reached-clause-attempts
returns-then-limit_reached-clause-attempts g c = λ statements fixed.
    let spec = g.O.Operation.spec c.args.op.now in
    let batch = batch_of c.args.places.now statements in
    let which = g.O.Operation.next c.args.op.now in
    let options = options_of c.args.client.now in
    let began = (attempt_state (g.S.SessionStore.tells (store_of c.args.client.now)) (g.L.Link.tells c.args.outside.now.link) (g.K.Clock.tells c.args.outside.now.clock) holds_nothing c.args.sends.now (g.O.Operation.built c.args.op.now)) in
    let mid = (attempt_state (g.S.SessionStore.tells (store_of c.attempts.client)) (g.L.Link.tells c.attempts.outside.link) (g.K.Clock.tells c.attempts.outside.clock) c.attempts.held c.attempts.sends (g.O.Operation.built c.attempts.op)) in
    ends_at_limit (attempted_under spec batch which options) c.args.sharded began c.attempts.kept mid (c.attempts.invariant.far statements fixed) c.last_error.result (sym c.limit_reached.ensures ∙ c.if-limit_reached.true) c.last_error.ensures

pub attempts-smaller : goal.attempts-smaller
attempts-smaller g c =
    (decided_fewer c.in-Ok.failure c.retryability-retryability.result c.args.sharded c.attempts.kept c.in-Ok-decide.retry c.attempts.invariant.once
    (sym c.limit_reached.ensures ∙ c.if-limit_reached.false) c.in-Ok-decide.ensures).fewer

pub attempts-preserved : goal.attempts-preserved
attempts-preserved g c =
    let spec = g.O.Operation.spec c.args.op.now in
    let which = g.O.Operation.next c.args.op.now in
    let options = options_of c.args.client.now in
    let began = (attempt_state (g.S.SessionStore.tells (store_of c.args.client.now)) (g.L.Link.tells c.args.outside.now.link) (g.K.Clock.tells c.args.outside.now.clock) holds_nothing c.args.sends.now (g.O.Operation.built c.args.op.now)) in
    let mid = (attempt_state (g.S.SessionStore.tells (store_of c.attempts.client)) (g.L.Link.tells c.attempts.outside.link) (g.K.Clock.tells c.attempts.outside.clock) c.attempts.held c.attempts.sends (g.O.Operation.built c.attempts.op)) in
    let now = (attempt_state (g.S.SessionStore.tells (store_of c.make_attempt-next.new.client)) (g.L.Link.tells c.make_attempt-next.new.outside.link) (g.K.Clock.tells c.make_attempt-next.new.outside.clock) c.make_attempt-next.result.0 c.make_attempt-next.new.sends (g.O.Operation.built c.make_attempt-next.new.op)) in
    let goes_on = sym c.limit_reached.ensures ∙ c.if-limit_reached.false in
    let decided = subst (λ o. Decides (decide c.attempts.kept c.in-Ok.failure o c.args.sharded) (Ok c.in-Ok-decide.retry)) c.attempts.invariant.retryability c.in-Ok-decide.ensures in
    let fewer = decided_fewer c.in-Ok.failure c.retryability-retryability.result c.args.sharded c.attempts.kept c.in-Ok-decide.retry c.attempts.invariant.once goes_on c.in-Ok-decide.ensures in
    record {
      far = λ statements fixed.
          let batch = batch_of c.args.places.now statements in
          let makes = attempt_under_options spec (g.O.Operation.spec c.attempts.op) c.attempts.invariant.spec batch which (g.O.Operation.next c.attempts.op) options (options_of c.attempts.client) _ c.attempts.kept mid now c.make_attempt-next.result.1 (Failed c.in-Ok.failure)
          c.attempts.invariant.next c.attempts.invariant.options c.as_ref.ensures.value (failed_is c.make_attempt-next.result.1 c.in-Ok.failure c.in-Ok.ensures) (c.make_attempt-next.ensures.makes statements fixed) in
          goes_further (attempted_under spec batch which options) c.args.sharded began c.attempts.kept mid (c.attempts.invariant.far statements (c.make_attempt-next.ensures.fixed statements fixed)) now goes_on
          c.in-Ok.failure c.in-Ok-decide.retry makes decided;
      spec = same_twice spec (g.O.Operation.spec c.attempts.op) (g.O.Operation.spec c.make_attempt-next.new.op) c.attempts.invariant.spec c.make_attempt-next.ensures.spec;
      fixed = fixes_twice _ (g.O.Operation.built c.attempts.op) _ c.attempts.invariant.fixed c.make_attempt-next.ensures.fixed;
      next = c.make_attempt-next.ensures.next ∙ c.attempts.invariant.next;
      bodies = bodies_same c.args.places.now c.make_attempt-next.ensures.spec c.attempts.invariant.bodies;
      retryability = c.attempts.invariant.retryability;
      options = c.make_attempt-next.ensures.options ∙ c.attempts.invariant.options;
      out = c.make_attempt-next.ensures.out ∙ c.attempts.invariant.out;
      words = c.make_attempt-next.ensures.words ∙ c.attempts.invariant.words;
      call = c.make_attempt-next.ensures.call ∙ c.attempts.invariant.call;
      once = fewer.once;
      counted = counted_twice c.args.sends.now c.attempts.sends c.make_attempt-next.new.sends (g.O.Operation.built c.attempts.op) (g.O.Operation.built c.make_attempt-next.new.op) c.attempts.invariant.counted c.make_attempt-next.ensures.counted c.make_attempt-next.ensures.fixed;
    }

pub returns-in-Err-decide-clause-attempts : goal.returns-in-Err-decide-clause-attempts
returns-in-Err-decide-clause-attempts g c = λ statements fixed.
    let spec = g.O.Operation.spec c.args.op.now in
    let batch = batch_of c.args.places.now statements in
    let which = g.O.Operation.next c.args.op.now in
    let options = options_of c.args.client.now in
    let began = (attempt_state (g.S.SessionStore.tells (store_of c.args.client.now)) (g.L.Link.tells c.args.outside.now.link) (g.K.Clock.tells c.args.outside.now.clock) holds_nothing c.args.sends.now (g.O.Operation.built c.args.op.now)) in
    let mid = (attempt_state (g.S.SessionStore.tells (store_of c.attempts.client)) (g.L.Link.tells c.attempts.outside.link) (g.K.Clock.tells c.attempts.outside.clock) c.attempts.held c.attempts.sends (g.O.Operation.built c.attempts.op)) in
    let now = (attempt_state (g.S.SessionStore.tells (store_of c.make_attempt-next.new.client)) (g.L.Link.tells c.make_attempt-next.new.outside.link) (g.K.Clock.tells c.make_attempt-next.new.outside.clock) c.make_attempt-next.result.0 c.make_attempt-next.new.sends (g.O.Operation.built c.make_attempt-next.new.op)) in
    let goes_on = sym c.limit_reached.ensures ∙ c.if-limit_reached.false in
    let makes = attempt_under_options spec (g.O.Operation.spec c.attempts.op) c.attempts.invariant.spec batch which (g.O.Operation.next c.attempts.op) options (options_of c.attempts.client) _ c.attempts.kept mid now c.make_attempt-next.result.1 (Failed c.in-Ok.failure)
    c.attempts.invariant.next c.attempts.invariant.options c.as_ref.ensures.value (failed_is c.make_attempt-next.result.1 c.in-Ok.failure c.in-Ok.ensures) (c.make_attempt-next.ensures.makes statements fixed) in
    let decided = subst (λ o. Decides (decide c.attempts.kept c.in-Ok.failure o c.args.sharded) (Err c.in-Err-decide.error)) c.attempts.invariant.retryability c.in-Err-decide.ensures in
    ends_refused (attempted_under spec batch which options) c.args.sharded began c.attempts.kept mid (c.attempts.invariant.far statements (c.make_attempt-next.ensures.fixed statements fixed)) now goes_on c.in-Ok.failure c.in-Err-decide.error makes decided

-- an attempt that did not fail may be answered
pub answer_of-requires : goal.answer_of-requires
answer_of-requires g c =
    let spec = g.O.Operation.spec c.args.op.now in
    let options = options_of c.args.client.now in
    let some = fixed_some (g.O.Operation.built c.make_attempt-next.new.op) in
    let batch = batch_of c.args.places.now some.0 in
    let which = g.O.Operation.next c.args.op.now in
    let mid = (attempt_state (g.S.SessionStore.tells (store_of c.attempts.client)) (g.L.Link.tells c.attempts.outside.link) (g.K.Clock.tells c.attempts.outside.clock) c.attempts.held c.attempts.sends (g.O.Operation.built c.attempts.op)) in
    let now = (attempt_state (g.S.SessionStore.tells (store_of c.make_attempt-next.new.client)) (g.L.Link.tells c.make_attempt-next.new.outside.link) (g.K.Clock.tells c.make_attempt-next.new.outside.clock) c.make_attempt-next.result.0 c.make_attempt-next.new.sends (g.O.Operation.built c.make_attempt-next.new.op)) in
    let makes = attempt_under_options spec (g.O.Operation.spec c.attempts.op) c.attempts.invariant.spec batch which (g.O.Operation.next c.attempts.op) options (options_of c.attempts.client) _ c.attempts.kept mid now c.make_attempt-next.result.1 c.make_attempt-next.result.1
    c.attempts.invariant.next c.attempts.invariant.options c.as_ref.ensures.value refl (c.make_attempt-next.ensures.makes some.0 some.1) in
    may_answer (attempted_under spec batch which options) c.attempts.kept mid now c.make_attempt-next.result.1 c.in-Err.end makes c.in-Err.ensures

pub returns-in-Err-clause-attempts : goal.returns-in-Err-clause-attempts
returns-in-Err-clause-attempts g c = λ statements fixed.
    let spec = g.O.Operation.spec c.args.op.now in
    let options = options_of c.args.client.now in
    let batch = batch_of c.args.places.now statements in
    let which = g.O.Operation.next c.args.op.now in
    let began = (attempt_state (g.S.SessionStore.tells (store_of c.args.client.now)) (g.L.Link.tells c.args.outside.now.link) (g.K.Clock.tells c.args.outside.now.clock) holds_nothing c.args.sends.now (g.O.Operation.built c.args.op.now)) in
    let mid = (attempt_state (g.S.SessionStore.tells (store_of c.attempts.client)) (g.L.Link.tells c.attempts.outside.link) (g.K.Clock.tells c.attempts.outside.clock) c.attempts.held c.attempts.sends (g.O.Operation.built c.attempts.op)) in
    let now = (attempt_state (g.S.SessionStore.tells (store_of c.make_attempt-next.new.client)) (g.L.Link.tells c.make_attempt-next.new.outside.link) (g.K.Clock.tells c.make_attempt-next.new.outside.clock) c.make_attempt-next.result.0 c.make_attempt-next.new.sends (g.O.Operation.built c.make_attempt-next.new.op)) in
    let goes_on = sym c.limit_reached.ensures ∙ c.if-limit_reached.false in
    let makes = attempt_under_options spec (g.O.Operation.spec c.attempts.op) c.attempts.invariant.spec batch which (g.O.Operation.next c.attempts.op) options (options_of c.attempts.client) _ c.attempts.kept mid now c.make_attempt-next.result.1 c.make_attempt-next.result.1
    c.attempts.invariant.next c.attempts.invariant.options c.as_ref.ensures.value refl (c.make_attempt-next.ensures.makes statements fixed) in
    ends_last (attempted_under spec batch which options) c.args.sharded began c.attempts.kept mid (c.attempts.invariant.far statements (c.make_attempt-next.ensures.fixed statements fixed)) now goes_on
    c.make_attempt-next.result.1 c.in-Err.end c.answer_of.result makes c.in-Err.ensures c.answer_of.ensures

pub returns-in-Err-clause-spec : goal.returns-in-Err-clause-spec
returns-in-Err-clause-spec g c =
    same_twice (g.O.Operation.spec c.args.op.now) (g.O.Operation.spec c.attempts.op) (g.O.Operation.spec c.make_attempt-next.new.op) c.attempts.invariant.spec c.make_attempt-next.ensures.spec

pub returns-in-Err-clause-fixed : goal.returns-in-Err-clause-fixed
returns-in-Err-clause-fixed g c = fixes_twice _ (g.O.Operation.built c.attempts.op) _ c.attempts.invariant.fixed c.make_attempt-next.ensures.fixed

pub returns-in-Err-decide-clause-spec : goal.returns-in-Err-decide-clause-spec
returns-in-Err-decide-clause-spec g c =
    same_twice (g.O.Operation.spec c.args.op.now) (g.O.Operation.spec c.attempts.op) (g.O.Operation.spec c.make_attempt-next.new.op) c.attempts.invariant.spec c.make_attempt-next.ensures.spec

pub returns-in-Err-decide-clause-fixed : goal.returns-in-Err-decide-clause-fixed
returns-in-Err-decide-clause-fixed g c = fixes_twice _ (g.O.Operation.built c.attempts.op) _ c.attempts.invariant.fixed c.make_attempt-next.ensures.fixed

pub returns-in-Err-clause-counted : goal.returns-in-Err-clause-counted
returns-in-Err-clause-counted g c =
    counted_twice c.args.sends.now c.attempts.sends c.make_attempt-next.new.sends (g.O.Operation.built c.attempts.op) (g.O.Operation.built c.make_attempt-next.new.op) c.attempts.invariant.counted c.make_attempt-next.ensures.counted c.make_attempt-next.ensures.fixed

pub returns-in-Err-decide-clause-counted : goal.returns-in-Err-decide-clause-counted
returns-in-Err-decide-clause-counted g c =
    counted_twice c.args.sends.now c.attempts.sends c.make_attempt-next.new.sends (g.O.Operation.built c.attempts.op) (g.O.Operation.built c.make_attempt-next.new.op) c.attempts.invariant.counted c.make_attempt-next.ensures.counted c.make_attempt-next.ensures.fixed
