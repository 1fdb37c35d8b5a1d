-- The question went out, and this page came of it.
use Rattle.std.proofs.Common.{subst}
use Rattle.std.specs.Prelude.{None}
use Rattle.driver_ops.specs.Fields.{under}
use Rattle.driver_ops.specs.GetMores.{more_spec}
use Rattle.driver_ops.specs.SendKinds.{first}
use Rattle.driver_attempt.specs.AttemptExchanges.{Exchanges, no_statements}
use Rattle.driver_attempt.specs.Attempting.{besides_out}
use Rattle.driver_attempt.specs.Holding.{held_id}
use Rattle.driver_attempt.specs.inside.AttemptExchanges.{page_in}
use Rattle.driver_attempt.proofs.ReadingPages.{more_on, more_same}
use Rattle.driver_attempt.proofs.pages.ask_page.Goals as goal

pub returns-in-Ok-clause-asks : goal.returns-in-Ok-clause-asks
returns-in-Ok-clause-asks g c = λ namespace cursor asks.
    let link = besides_out (g.L.Link.tells c.args.link.now) in
    let link_now = besides_out (g.L.Link.tells c.exchange_aside.new.link) in
    let exchanges = subst (λ session. Exchanges (more_spec c.args.more.now.target c.args.more.now.cursor) first no_statements link link_now c.args.conn.now (under session None) c.in-Ok.answered)
    c.id.ensures c.in-Ok.ensures.aside in
    more_on c.args.conn.now (held_id c.args.held) link link_now namespace cursor c.args.held c.page_after.result.0
    (page_in c.page_after.result.1) c.args.more.now asks c.in-Ok.answered exchanges c.page_after.ensures.came c.page_after.ensures.held

pub returns-in-Ok-clause-more : goal.returns-in-Ok-clause-more
returns-in-Ok-clause-more g c = more_same c.args.more.now c.exchange_aside.new.command c.exchange_aside.ensures.spec

pub returns-in-Err-clause-more : goal.returns-in-Err-clause-more
returns-in-Err-clause-more g c = more_same c.args.more.now c.exchange_aside.new.command c.exchange_aside.ensures.spec
