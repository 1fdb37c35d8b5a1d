-- The command is built for the connection, its frame goes out with the front of the places, and what comes of it.
use Rattle.std.proofs.Common.{inr, refl, subst, sym}
use Rattle.std.specs.Prelude.{IsSome, Ok, Err}
use Rattle.std.specs.Option.{option_copied}
use Rattle.driver_ops.specs.Fields.{FramesUnder, in_context}
use Rattle.driver_ops.specs.Operations.{IsFixed}
use Rattle.driver_attempt.specs.Attempting.{besides_out}
use Rattle.driver_attempt.specs.Concerns.{concern_of}
use Rattle.driver_attempt.specs.Holding.{DrawsNumber, held_id}
use Rattle.driver_attempt.specs.inside.Attempting.{ExchangesOnce}
use Rattle.driver_attempt.proofs.CommandParts.{build_fixes, build_some, built_so_many, concern_same, ends_unbuilt, ends_unframed, fixes_twice, reads_some, same_fixes, sends_out}
use Rattle.driver_attempt.proofs.sending.send.Goals as goal

pub exchange-requires : goal.exchange-requires
exchange-requires g c =
    let built = c.in-Ok-build.ensures.builds in
    let concern = option_copied c.effective_concern-concern.result in
    reads_some c.args.places.now c.front-own.result.now (in_context (held_id c.draw_number-held.result.0) c.in-Ok.number concern) c.requires built
    (subst (λ s. FramesUnder (in_context s c.in-Ok.number concern) c.in-Ok-build.command (Ok c.in-Ok-frame_of.frame)) c.id.ensures c.in-Ok-frame_of.ensures)
    c.statements.result c.statements.ensures c.front-own.ensures

pub returns-in-Err-build-clause-sending : goal.returns-in-Err-build-clause-sending
returns-in-Err-build-clause-sending g c = λ statements fixed.
    let link = besides_out (g.L.Link.tells c.args.link.now) in
    let draws = subst (λ r. DrawsNumber c.args.held.sent c.args.on.now.connection_retryability c.args.held c.draw_number-held.result.0 r) c.in-Ok.is c.draw_number-held.ensures in
    ends_unbuilt (g.O.Operation.spec c.args.op.now) (g.O.Operation.next c.args.op.now) (concern_of (g.O.Operation.spec c.args.op.now) (g.O.Operation.next c.args.op.now) c.args.options.now) c.args.places.now statements c.args.on.now.again link link c.args.on.now.connection_retryability c.args.on.now.conn.now
    c.args.address c.args.held c.draw_number-held.result.0 c.in-Ok.number draws c.args.sends.now c.args.sends.now (g.O.Operation.built c.args.op.now) (g.O.Operation.built c.build.new.self)
    c.in-Err-build.error c.builds_again-again.result c.unbuilt.result c.builds_again-again.ensures c.in-Err-build.ensures.builds.1 c.unbuilt.ensures refl refl c.in-Err-build.ensures.builds.0

pub returns-clause-sending : goal.returns-clause-sending
returns-clause-sending g c = λ statements fixed.
    let built = c.in-Ok-build.ensures.builds in
    let link = besides_out (g.L.Link.tells c.args.link.now) in
    let link_now = besides_out (g.L.Link.tells c.exchange.new.link) in
    let held = c.draw_number-held.result.0 in
    let which = g.O.Operation.next c.args.op.now in
    let concern = concern_of (g.O.Operation.spec c.args.op.now) which c.args.options.now in
    let same = concern_same (g.O.Operation.spec c.args.op.now) (g.O.Operation.spec c.build.new.self) c.in-Ok-build.ensures.spec which (g.O.Operation.next c.build.new.self) c.args.options.now c.in-Ok-build.ensures.next in
    let draws = subst (λ r. DrawsNumber c.args.held.sent c.args.on.now.connection_retryability c.args.held held r) c.in-Ok.is c.draw_number-held.ensures in
    let built_fixed = subst (λ o. IsFixed o statements) c.exchange.ensures.built fixed in
    sends_out (g.O.Operation.spec c.args.op.now) which concern c.args.places.now statements c.args.on.now.again link link_now c.args.on.now.connection_retryability c.args.on.now.conn.now
    c.args.address c.args.held held c.in-Ok.number draws c.args.sends.now c.exchange.new.sends (g.O.Operation.built c.args.op.now) (g.O.Operation.built c.exchange.new.op)
    (g.O.Operation.built c.build.new.self) c.in-Ok-build.command built
    built_fixed _ c.in-Ok-build.ensures.spec c.in-Ok-frame_of.frame c.front-own.result.now c.exchange.result.0 c.exchange.result.1
    (subst (λ k. FramesUnder (in_context (held_id held) c.in-Ok.number k) c.in-Ok-build.command (Ok c.in-Ok-frame_of.frame)) same
    (subst (λ k. FramesUnder (in_context (held_id held) c.in-Ok.number k) c.in-Ok-build.command (Ok c.in-Ok-frame_of.frame)) c.effective_concern-concern.ensures
    (subst (λ s. FramesUnder (in_context s c.in-Ok.number (option_copied c.effective_concern-concern.result)) c.in-Ok-build.command (Ok c.in-Ok-frame_of.frame)) c.id.ensures c.in-Ok-frame_of.ensures)))
    c.statements.result c.statements.ensures c.front-own.ensures
    (subst (λ h. ExchangesOnce (g.O.Operation.spec c.build.new.self) statements link link_now c.args.on.now.connection_retryability c.args.on.now.conn.now c.args.address c.in-Ok-frame_of.frame c.front-own.result.now h c.exchange.result.0 c.exchange.result.1)
    c.sent_under-held.ensures (c.exchange.ensures.exchanges statements (built_so_many statements built built_fixed))) c.exchange.ensures.sends c.exchange.ensures.built

pub returns-in-Err-frame_of-clause-sending : goal.returns-in-Err-frame_of-clause-sending
returns-in-Err-frame_of-clause-sending g c = λ statements fixed.
    let which = g.O.Operation.next c.args.op.now in
    let concern = concern_of (g.O.Operation.spec c.args.op.now) which c.args.options.now in
    let same = concern_same (g.O.Operation.spec c.args.op.now) (g.O.Operation.spec c.build.new.self) c.in-Ok-build.ensures.spec which (g.O.Operation.next c.build.new.self) c.args.options.now c.in-Ok-build.ensures.next in
    let link = besides_out (g.L.Link.tells c.args.link.now) in
    let draws = subst (λ r. DrawsNumber c.args.held.sent c.args.on.now.connection_retryability c.args.held c.draw_number-held.result.0 r) c.in-Ok.is c.draw_number-held.ensures in
    ends_unframed (g.O.Operation.spec c.args.op.now) which concern c.args.places.now statements c.args.on.now.again link link c.args.on.now.connection_retryability c.args.on.now.conn.now
    c.args.address c.args.held c.draw_number-held.result.0 c.in-Ok.number draws c.args.sends.now c.args.sends.now (g.O.Operation.built c.args.op.now) (g.O.Operation.built c.build.new.self)
    (g.O.Operation.built c.build.new.self) c.in-Ok-build.command c.in-Ok-build.ensures.builds c.in-Err-frame_of.error _
    (subst (λ k. FramesUnder (in_context (held_id c.draw_number-held.result.0) c.in-Ok.number k) c.in-Ok-build.command (Err c.in-Err-frame_of.error)) same
    (subst (λ k. FramesUnder (in_context (held_id c.draw_number-held.result.0) c.in-Ok.number k) c.in-Ok-build.command (Err c.in-Err-frame_of.error)) c.effective_concern-concern.ensures
    (subst (λ s. FramesUnder (in_context s c.in-Ok.number (option_copied c.effective_concern-concern.result)) c.in-Ok-build.command (Err c.in-Err-frame_of.error)) c.id.ensures c.in-Err-frame_of.ensures))) refl refl refl refl

pub returns-clause-fixed : goal.returns-clause-fixed
returns-clause-fixed g c = fixes_twice _ _ _ (build_fixes c.in-Ok-build.ensures.builds) (same_fixes c.exchange.ensures.built)

pub returns-in-Err-frame_of-clause-fixed : goal.returns-in-Err-frame_of-clause-fixed
returns-in-Err-frame_of-clause-fixed g c = build_fixes c.in-Ok-build.ensures.builds

pub returns-in-Err-build-clause-fixed : goal.returns-in-Err-build-clause-fixed
returns-in-Err-build-clause-fixed g c = same_fixes c.in-Err-build.ensures.builds.0

pub returns-in-Err-clause-fixed : goal.returns-in-Err-clause-fixed
returns-in-Err-clause-fixed g c = λ statements fixed. fixed

-- the command was built, and so its number of statements is fixed
pub returns-clause-counted : goal.returns-clause-counted
returns-clause-counted g c = inr (subst (λ o. IsSome o) (sym c.exchange.ensures.built) (build_some c.in-Ok-build.ensures.builds))
