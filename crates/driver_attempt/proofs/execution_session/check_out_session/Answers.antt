-- A session is lent at a reading of the clock.
use Rattle.std.proofs.Common.{◌≡◌, true, rules}
use Rattle.driver_attempt.specs.Holding.{needs_session}
use Rattle.driver_attempt.proofs.OneAttempt.{holds_lent}
use Rattle.driver_attempt.proofs.execution_session.check_out_session.Goals as goal

pub returns-in-Ok-clause-holds : goal.returns-in-Ok-clause-holds
returns-in-Ok-clause-holds g c =
    let need : needs_session c.args.asked c.args.held ≡ true = search rules in
    holds_lent (needs_session c.args.asked c.args.held) need _ _ _ _ c.args.held c.with_session.result c.in-Ok.session c.now_ms-now.result c.in-Ok.ensures.lends c.with_session.ensures
    c.now_ms-now.ensures
