-- The command was built and framed, and went out with no place.
use Rattle.std.proofs.Common.{[]}
use Rattle.std.specs.Option.{option_copied}
use Rattle.driver_attempt.proofs.OneAttempt.{exchanges_besides}
use Rattle.driver_attempt.proofs.ReadingPages.{aside_out, aside_reads}
use Rattle.driver_attempt.proofs.pages.exchange_aside.Goals as goal
use Rattle.driver_attempt.specs.Attempting.{besides_out}

pub returns-clause-aside : goal.returns-clause-aside
returns-clause-aside g c =
    let link = g.L.Link.tells c.args.link.now in
    let link_now = g.L.Link.tells c.exchange.new.self in
    aside_out (g.C.Operation.spec c.args.command.now) (g.C.Operation.next c.args.command.now) c.args.conn.now.description (g.C.Operation.built c.args.command.now) (g.C.Operation.built c.build.new.self)
    (option_copied c.args.session) c.requires.none c.in_ok-built.built c.in_ok-built.ensures.builds (besides_out link) (besides_out link_now) c.args.conn.now c.in_ok-frame.frame c.exchange.result c.in_ok-frame.ensures
    (exchanges_besides link link_now c.args.conn.now c.in_ok-frame.frame [] c.exchange.result c.exchange.ensures)

pub exchange-requires : goal.exchange-requires
exchange-requires g c =
    aside_reads (g.C.Operation.spec c.args.command.now) (g.C.Operation.next c.args.command.now) c.args.conn.now.description (g.C.Operation.built c.args.command.now) (g.C.Operation.built c.build.new.self)
    (option_copied c.args.session) c.requires.none c.in_ok-built.built c.in_ok-built.ensures.builds c.requires.bodies c.in_ok-frame.frame c.in_ok-frame.ensures
