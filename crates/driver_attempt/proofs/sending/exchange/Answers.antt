-- The exchange answered, and the answer that begins with its reply was read; or it failed.
use Rattle.std.proofs.Common.{refl, subst}
use Rattle.std.specs.Prelude.{Ok, Err}
use Rattle.driver_attempt.specs.Attempting.{besides_out}
use Rattle.driver_attempt.specs.AttemptExchanges.{AttemptExchanges}
use Rattle.driver_attempt.specs.Holding.{held_id}
use Rattle.driver_attempt.specs.inside.Failures.{EndsLost, EndsRead}
use Rattle.driver_attempt.proofs.OneAttempt.{exchanges_besides}
use Rattle.driver_attempt.proofs.sending.exchange.Goals as goal

pub returns-in-Ok-clause-exchanges : goal.returns-in-Ok-clause-exchanges
returns-in-Ok-clause-exchanges g c = λ statements built. record {
  result = Ok c.in-Ok.reply;
  behind = besides_out (g.L.Link.tells c.exchange.new.self);
  exchanges = exchanges_besides (g.L.Link.tells c.args.link.now) _ c.args.on.now.conn.now c.args.frame.now c.args.places.now (Ok c.in-Ok.reply) c.in-Ok.ensures;
  comes = record {
    answer = c.read_exchanges-held.result.1;
    exchanges = subst (λ bytes. AttemptExchanges (g.O.Operation.spec c.args.op.now) statements bytes c.args.on.now.conn.now (held_id c.args.held) (besides_out (g.L.Link.tells c.exchange.new.self)) (besides_out (g.L.Link.tells c.read_exchanges-held.new.link))
        c.args.held c.read_exchanges-held.result.0 c.read_exchanges-held.result.1) c.as_slice.ensures (c.read_exchanges-held.ensures.exchanges statements built);
    ends = subst (λ n. EndsRead c.args.on.now.connection_retryability c.args.on.now.conn.now.description.max_wire_version c.args.address n c.read_exchanges-held.result.1 c.read.result) c.number-number.ensures c.read.ensures;
  };
}

pub returns-in-Err-clause-exchanges : goal.returns-in-Err-clause-exchanges
returns-in-Err-clause-exchanges g c = λ statements built. record {
  result = Err c.in-Err.failure;
  behind = besides_out (g.L.Link.tells c.exchange.new.self);
  exchanges = exchanges_besides (g.L.Link.tells c.args.link.now) _ c.args.on.now.conn.now c.args.frame.now c.args.places.now (Err c.in-Err.failure) c.in-Err.ensures;
  comes = record {
    same = refl;
    held_is = c.after.ensures;
    ends = subst (λ n. EndsLost c.args.on.now.connection_retryability c.args.on.now.conn.now.description.max_wire_version c.args.address n c.in-Err.failure c.lost.result) c.number-number.ensures c.lost.ensures;
  };
}
