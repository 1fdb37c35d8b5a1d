-- The session comes back at a reading of the clock.
use Rattle.std.proofs.Common.{◌≡◌, Some, rules}
use Rattle.driver_attempt.proofs.OneAttempt.{gives_held}
use Rattle.driver_attempt.proofs.execution_session.check_in_session.Goals as goal

pub returns-in-Some-clause-takes : goal.returns-in-Some-clause-takes
returns-in-Some-clause-takes g c =
    let is : c.args.held.session ≡ Some c.in-Some.session = search rules in
    gives_held c.args.held.session c.in-Some.session is _ _ _ _ c.now_ms-now.result c.give_back.ensures.takes
    c.now_ms-now.ensures
