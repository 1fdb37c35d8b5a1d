-- Where there is no session, or nothing may be repeated, the attempt ends so; else its command goes out.
use Rattle.std.proofs.Common.{ap, subst, ◌∙◌, sym}
use Rattle.std.proofs.lemmas.Bool.{and_parts}
use Rattle.driver_ops.specs.Operations.{batch_of}
use Rattle.driver_attempt.specs.Attempting.{besides_out, is_nothing, on_connection, stops}
use Rattle.driver_attempt.specs.Client.{options_of, store_of}
use Rattle.driver_attempt.specs.Concerns.{concern_of}
use Rattle.driver_attempt.specs.inside.Attempting.{Sending}
use Rattle.driver_attempt.proofs.OneAttempt.{sent_attempt_made, sessionless_attempt_made, stopped_attempt_made, unready_attempt_made}
use Rattle.driver_attempt.proofs.attempt.execute_operation_on_connection.Goals as goal

pub returns-in-Err-clause-makes : goal.returns-in-Err-clause-makes
returns-in-Err-clause-makes g c = λ statements fixed retryability retryability_is kept again before connects.
    let batch = batch_of c.args.places.now statements in
    let which = g.O.Operation.next c.args.op.now in
    let spec = g.O.Operation.spec c.args.op.now in
    let concern = concern_of spec which (options_of c.args.client.now) in
    let store = g.S.SessionStore.tells (store_of c.args.client.now) in
    let store_now = g.S.SessionStore.tells (store_of c.check_out_session-held.new.client) in
    let link = (g.L.Link.tells c.args.outside.now.link) in
    let clock = g.K.Clock.tells c.args.outside.now.clock in
    let clock_now = g.K.Clock.tells c.check_out_session-held.new.clock in
    let fixed_before = g.O.Operation.built c.args.op.now in
    unready_attempt_made spec batch which retryability concern kept store store_now before link clock clock_now c.args.held c.check_out_session-held.result.0 c.args.sends.now fixed_before c.args.address c.args.on.now.conn.now connects
    c.asks_session-asked.result _ c.supports_sessions.ensures c.asks_session-asked.ensures c.check_out_session-held.result.1 c.check_out_session-held.ensures.holds c.in-Err.error c.in-Err.is

pub returns-then-stops-clause-makes : goal.returns-then-stops-clause-makes
returns-then-stops-clause-makes g c = λ statements fixed retryability retryability_is kept again before connects.
    let batch = batch_of c.args.places.now statements in
    let which = g.O.Operation.next c.args.op.now in
    let spec = g.O.Operation.spec c.args.op.now in
    let concern = concern_of spec which (options_of c.args.client.now) in
    let store = g.S.SessionStore.tells (store_of c.args.client.now) in
    let store_now = g.S.SessionStore.tells (store_of c.check_out_session-held.new.client) in
    let link = (g.L.Link.tells c.args.outside.now.link) in
    let clock = g.K.Clock.tells c.args.outside.now.clock in
    let clock_now = g.K.Clock.tells c.check_out_session-held.new.clock in
    let fixed_before = g.O.Operation.built c.args.op.now in
    let both = and_parts c.args.on.now.again (is_nothing c.args.on.now.connection_retryability) (sym c.stops.ensures ∙ c.if-stops.true) in
    stopped_attempt_made spec batch which retryability concern kept store store_now before link clock clock_now c.args.held c.check_out_session-held.result.0 c.args.sends.now fixed_before c.args.address c.args.on.now.conn.now connects
    c.asks_session-asked.result _ c.supports_sessions.ensures c.asks_session-asked.ensures c.check_out_session-held.result.1 c.check_out_session-held.ensures.holds c.in-Ok.is
    (sym again ∙ both.0) (sym c.may_use.ensures ∙ c.if-may_use.true) (sym (ap is_nothing retryability_is) ∙ both.1)

pub returns-then-may_use-clause-makes : goal.returns-then-may_use-clause-makes
returns-then-may_use-clause-makes g c = λ statements fixed retryability retryability_is kept again before connects.
    let batch = batch_of c.args.places.now statements in
    let which = g.O.Operation.next c.args.op.now in
    let spec = g.O.Operation.spec c.args.op.now in
    let concern = concern_of spec which (options_of c.args.client.now) in
    let store = g.S.SessionStore.tells (store_of c.args.client.now) in
    let store_now = g.S.SessionStore.tells (store_of c.check_out_session-held.new.client) in
    let link = (g.L.Link.tells c.args.outside.now.link) in
    let clock = g.K.Clock.tells c.args.outside.now.clock in
    let clock_now = g.K.Clock.tells c.check_out_session-held.new.clock in
    let fixed_before = g.O.Operation.built c.args.op.now in
    sent_attempt_made spec batch which retryability concern kept store store_now before link clock clock_now c.args.held c.check_out_session-held.result.0 c.args.sends.now fixed_before c.args.address c.args.on.now.conn.now connects
    c.asks_session-asked.result _ c.supports_sessions.ensures c.asks_session-asked.ensures c.check_out_session-held.result.1 c.check_out_session-held.ensures.holds c.in-Ok.is
    (sym c.may_use.ensures ∙ c.if-may_use.true) (ap (λ b. stops b (on_connection retryability c.args.on.now.conn.now.description)) (sym again) ∙ ap (λ t. stops c.args.on.now.again t) (sym retryability_is) ∙ sym c.stops.ensures ∙ c.if-stops.false) (g.L.Link.tells c.send.new.link) _ _ (g.O.Operation.built c.send.new.op) _ _ _ retryability_is again
    (subst (λ k. Sending spec which k batch c.args.on.now.again (besides_out link) (besides_out (g.L.Link.tells c.send.new.link)) c.args.on.now.connection_retryability c.args.on.now.conn.now c.args.address
    c.check_out_session-held.result.0 c.send.result.0 c.args.sends.now c.send.new.sends fixed_before (g.O.Operation.built c.send.new.op) c.send.result.1)
    (ap (λ options. concern_of spec which options) (c.options.ensures ∙ c.check_out_session-held.ensures.options)) (c.send.ensures.sending statements fixed))

pub returns-clause-makes : goal.returns-clause-makes
returns-clause-makes g c = λ statements fixed retryability retryability_is kept again before connects.
    let batch = batch_of c.args.places.now statements in
    let which = g.O.Operation.next c.args.op.now in
    let spec = g.O.Operation.spec c.args.op.now in
    let concern = concern_of spec which (options_of c.args.client.now) in
    let store = g.S.SessionStore.tells (store_of c.args.client.now) in
    let store_now = g.S.SessionStore.tells (store_of c.check_out_session-held.new.client) in
    let link = (g.L.Link.tells c.args.outside.now.link) in
    let clock = g.K.Clock.tells c.args.outside.now.clock in
    let clock_now = g.K.Clock.tells c.check_out_session-held.new.clock in
    let fixed_before = g.O.Operation.built c.args.op.now in
    sessionless_attempt_made spec batch which retryability concern kept store store_now before link clock clock_now c.args.held c.check_out_session-held.result.0 c.args.sends.now fixed_before c.args.address c.args.on.now.conn.now connects
    c.asks_session-asked.result _ c.supports_sessions.ensures c.asks_session-asked.ensures c.check_out_session-held.result.1 c.check_out_session-held.ensures.holds c.in-Ok.is
    c.from_kind-refused.result (sym c.may_use.ensures ∙ c.if-may_use.false) c.from_kind-refused.ensures
