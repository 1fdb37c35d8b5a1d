-- Where a server or a connection was not had the attempt ended so; else it went on with the connection.
use Rattle.std.proofs.Common.{ap, subst, ◌∙◌, sym}
use Rattle.std.specs.Prelude.{Ok, Err}
use Rattle.std.specs.Option.{option_copied}
use Rattle.driver_link.specs.LinkState.{GainsAnswer}
use Rattle.driver_ops.specs.Operations.{batch_of}
use Rattle.driver_attempt.specs.Attempting.{MakesAttempt, attempted_operation, avoided, besides_out}
use Rattle.driver_attempt.specs.Client.{options_of, store_of}
use Rattle.driver_attempt.specs.Concerns.{concern_of}
use Rattle.driver_attempt.proofs.OneAttempt.{asks_avoided, checks_besides, handed_besides, out_again, unconnected_attempt_made, unselected_attempt_made}
use Rattle.driver_attempt.proofs.attempt.make_attempt.Goals as goal
use Rattle.driver_attempt.specs.inside.Attempting.{attempt_state}
use Rattle.driver_attempt.specs.inside.Failures.{EndsUnconnected}

pub returns-in-Err-clause-makes : goal.returns-in-Err-clause-makes
returns-in-Err-clause-makes g c = λ statements fixed.
    unselected_attempt_made (g.O.Operation.spec c.args.op.now) (batch_of c.args.places.now statements) (g.O.Operation.next c.args.op.now) _ _ (option_copied c.args.kept) (g.S.SessionStore.tells (store_of c.args.client.now))
    (g.L.Link.tells c.args.outside.now.link) (g.L.Link.tells c.select.new.self) (g.K.Clock.tells c.args.outside.now.clock) c.args.held c.args.sends.now (g.O.Operation.built c.args.op.now) c.in-Err.failure c.unselected.result
    (asks_avoided _ (avoided (option_copied c.args.kept)) (g.L.Link.tells c.args.outside.now.link) (g.L.Link.tells c.select.new.self) (Err c.in-Err.failure) c.avoided.ensures c.in-Err.ensures)
    c.unselected.ensures

pub returns-in-Err-check_out-clause-makes : goal.returns-in-Err-check_out-clause-makes
returns-in-Err-check_out-clause-makes g c = λ statements fixed.
    let batch = batch_of c.args.places.now statements in
    let which = g.O.Operation.next c.args.op.now in
    let spec = g.O.Operation.spec c.args.op.now in
    let concern = concern_of spec which (options_of c.args.client.now) in
    let store = g.S.SessionStore.tells (store_of c.args.client.now) in
    let link = g.L.Link.tells c.args.outside.now.link in
    let clock = g.K.Clock.tells c.args.outside.now.clock in
    let fixed_before = g.O.Operation.built c.args.op.now in
    let mid = g.L.Link.tells c.select.new.self in
    let checked = g.L.Link.tells c.check_out.new.self in
    let makes = unconnected_attempt_made spec batch which c.retryability-retryability.result concern (option_copied c.args.kept) store link (besides_out mid) checked
    clock c.args.held c.args.sends.now fixed_before c.in-Ok.address c.in-Err-check_out.failure c.unconnected.result
    (asks_avoided _ (avoided (option_copied c.args.kept)) link mid (Ok c.in-Ok.address) c.avoided.ensures c.in-Ok.ensures)
    (checks_besides mid checked c.in-Ok.address (Err c.in-Err-check_out.failure) c.in-Err-check_out.ensures)
    (subst (λ n. EndsUnconnected c.retryability-retryability.result c.in-Ok.address n c.in-Err-check_out.failure c.unconnected.result) c.number-number.ensures c.unconnected.ensures) in
    subst (λ retryability. MakesAttempt (attempted_operation spec batch which retryability concern) (option_copied c.args.kept) (attempt_state store link clock c.args.held c.args.sends.now fixed_before)
    (attempt_state store checked clock c.args.held c.args.sends.now fixed_before) c.unconnected.result)
    (c.retryability-retryability.ensures ∙ ap (λ options. spec.retryability options) c.options.ensures) makes

pub returns-clause-makes : goal.returns-clause-makes
returns-clause-makes g c = λ statements fixed.
    let batch = batch_of c.args.places.now statements in
    let which = g.O.Operation.next c.args.op.now in
    let spec = g.O.Operation.spec c.args.op.now in
    let concern = concern_of spec which (options_of c.args.client.now) in
    let store = g.S.SessionStore.tells (store_of c.args.client.now) in
    let store_now = g.S.SessionStore.tells (store_of c.execute_operation_on_connection-held.new.client) in
    let link = g.L.Link.tells c.args.outside.now.link in
    let mid = g.L.Link.tells c.select.new.self in
    let checked = g.L.Link.tells c.check_out.new.self in
    let sent = g.L.Link.tells c.execute_operation_on_connection-held.new.outside.link in
    let now = g.L.Link.tells c.check_in_connection.new.link in
    let clock = g.K.Clock.tells c.args.outside.now.clock in
    let clock_now = g.K.Clock.tells c.execute_operation_on_connection-held.new.outside.clock in
    let fixed_before = g.O.Operation.built c.args.op.now in
    let fixed_after = g.O.Operation.built c.execute_operation_on_connection-held.new.op in
    let retryability_is = c.retryability-retryability.ensures ∙ ap (λ options. spec.retryability options) c.options.ensures in
    let makes = c.execute_operation_on_connection-held.ensures.makes statements fixed c.retryability-retryability.result c.on_connection.ensures (option_copied c.args.kept) c.is_kept.ensures link (record {
      mid = besides_out mid;
      selects = asks_avoided _ (avoided (option_copied c.args.kept)) link mid (Ok c.in-Ok.address) c.avoided.ensures c.in-Ok.ensures;
      checks_out = checks_besides mid checked c.in-Ok.address (Ok c.in-Ok-check_out.conn) c.in-Ok-check_out.ensures;
    }) in
    subst (λ l. MakesAttempt (attempted_operation spec batch which (spec.retryability (options_of c.args.client.now)) concern) (option_copied c.args.kept) (attempt_state store link clock c.args.held c.args.sends.now fixed_before)
    (record { store = store_now; link = l; clock = clock_now; held = c.execute_operation_on_connection-held.result.0; count = c.execute_operation_on_connection-held.new.sends; fixed = fixed_after }) c.execute_operation_on_connection-held.result.1)
    (sym (handed_besides sent now c.in-Ok-check_out.conn c.check_in_connection.ensures))
    (subst (λ retryability. MakesAttempt (attempted_operation spec batch which retryability concern) (option_copied c.args.kept) (attempt_state store link clock c.args.held c.args.sends.now fixed_before)
    (attempt_state store_now sent clock_now c.execute_operation_on_connection-held.result.0 c.execute_operation_on_connection-held.new.sends fixed_after) c.execute_operation_on_connection-held.result.1) retryability_is makes)

-- what was checked out and handed back is out no more
pub returns-clause-out : goal.returns-clause-out
returns-clause-out g c =
    let link = g.L.Link.tells c.args.outside.now.link in
    let checked = g.L.Link.tells c.check_out.new.self in
    let sent = g.L.Link.tells c.execute_operation_on_connection-held.new.outside.link in
    let conn = c.in-Ok-check_out.conn in
    out_again link.out sent.out (g.L.Link.tells c.check_in_connection.new.link).out conn
    (subst (λ out. GainsAnswer link.out out (Ok conn)) (sym c.execute_operation_on_connection-held.ensures.out)
    (subst (λ out. GainsAnswer out checked.out (Ok conn)) c.in-Ok.ensures.out c.in-Ok-check_out.ensures.out)) c.check_in_connection.ensures.out
