-- The cause of a single write is that of its call.
use Rattle.std.proofs.Common.{rules}
use Rattle.driver_attempt.specs.Moment.{moment_of}
use Rattle.call_runs.proofs.CallCauses.{call_cause_ok, cause_err}
use Rattle.call_runs.proofs.making.answer_single.Goals as goal

pub returns-in-Ok-clause-cause : goal.returns-in-Ok-clause-cause
returns-in-Ok-clause-cause g c =
    let before = moment_of g.S.SessionStore.tells g.L.Link.tells g.K.Clock.tells g.R.Rng.stream c.args.client.now c.args.outside.now in
    let now = moment_of g.S.SessionStore.tells g.L.Link.tells g.K.Clock.tells g.R.Rng.stream c.single.new.self c.single.new.outside in
    call_cause_ok before now c.args.write.now c.args.outside.now.call c.in-Ok.answer (search rules)

pub returns-in-Err-clause-cause : goal.returns-in-Err-clause-cause
returns-in-Err-clause-cause g c =
    let before = moment_of g.S.SessionStore.tells g.L.Link.tells g.K.Clock.tells g.R.Rng.stream c.args.client.now c.args.outside.now in
    let now = moment_of g.S.SessionStore.tells g.L.Link.tells g.K.Clock.tells g.R.Rng.stream c.single.new.self c.single.new.outside in
    cause_err before now c.args.write.now c.args.outside.now.call c.in-Err.error (search rules)
