-- One call is made, its outcome is appended, and the run stands as before.
use Rattle.driver_attempt.specs.Moment.{moment_of}
use Rattle.call_runs.proofs.EachCall.{caused_draws, caused_lends, caused_making, caused_replayed}
use Rattle.call_runs.proofs.CallCompleteness.{call_ends}
use Rattle.call_runs.proofs.StandingRuns.{caused_at, stands_more}
use Rattle.call_runs.proofs.call_run.CallRun.make.Goals as goal

pub returns-clause-makes : goal.returns-clause-makes
returns-clause-makes g c = record {
  call = c.next-call.result.now;
  outcome = c.make_call-outcome.result;
  next = c.next-call.ensures;
  appended = c.add.ensures;
  holds = caused_at c.calls_made-number.result c.args.self.now.made (moment_of g.S.SessionStore.tells g.L.Link.tells g.K.Clock.tells g.R.Rng.stream c.args.client.now c.args.outside.now)
      (moment_of g.S.SessionStore.tells g.L.Link.tells g.K.Clock.tells g.R.Rng.stream c.make_call-outcome.new.client c.make_call-outcome.new.outside) c.next-call.result.now c.make_call-outcome.result c.calls_made-number.ensures c.make_call-outcome.ensures.caused;
}

pub returns-clause-complete : goal.returns-clause-complete
returns-clause-complete g c = λ stands apart.
    let call = c.next-call.result.now in
    let outcome = c.make_call-outcome.result in
    record {
      call = call;
      outcome = outcome;
      next = c.next-call.ensures;
      appended = c.add.ensures;
      holds = call_ends c.args.self.now c.args.calls.now
          (moment_of g.S.SessionStore.tells g.L.Link.tells g.K.Clock.tells g.R.Rng.stream c.args.client.now c.args.outside.now)
          (moment_of g.S.SessionStore.tells g.L.Link.tells g.K.Clock.tells g.R.Rng.stream c.make_call-outcome.new.client c.make_call-outcome.new.outside) stands apart call outcome
          (caused_at c.calls_made-number.result c.args.self.now.made (moment_of g.S.SessionStore.tells g.L.Link.tells g.K.Clock.tells g.R.Rng.stream c.args.client.now c.args.outside.now)
          (moment_of g.S.SessionStore.tells g.L.Link.tells g.K.Clock.tells g.R.Rng.stream c.make_call-outcome.new.client c.make_call-outcome.new.outside) call outcome c.calls_made-number.ensures c.make_call-outcome.ensures.caused);
    }

pub returns-clause-stands : goal.returns-clause-stands
returns-clause-stands g c = λ stands apart.
    let call = c.next-call.result.now in
    let outcome = c.make_call-outcome.result in
    stands_more c.args.self.now c.add.new.self c.args.calls.now call outcome (moment_of g.S.SessionStore.tells g.L.Link.tells g.K.Clock.tells g.R.Rng.stream c.args.client.now c.args.outside.now)
    (moment_of g.S.SessionStore.tells g.L.Link.tells g.K.Clock.tells g.R.Rng.stream c.make_call-outcome.new.client c.make_call-outcome.new.outside) c.add.ensures c.requires.next c.next-call.ensures
    (caused_at c.calls_made-number.result c.args.self.now.made (moment_of g.S.SessionStore.tells g.L.Link.tells g.K.Clock.tells g.R.Rng.stream c.args.client.now c.args.outside.now)
    (moment_of g.S.SessionStore.tells g.L.Link.tells g.K.Clock.tells g.R.Rng.stream c.make_call-outcome.new.client c.make_call-outcome.new.outside) call outcome c.calls_made-number.ensures c.make_call-outcome.ensures.caused) stands apart

pub returns-clause-replayed : goal.returns-clause-replayed
returns-clause-replayed g c = λ replayed. caused_replayed c.calls_made-number.result (moment_of g.S.SessionStore.tells g.L.Link.tells g.K.Clock.tells g.R.Rng.stream c.args.client.now c.args.outside.now)
    (moment_of g.S.SessionStore.tells g.L.Link.tells g.K.Clock.tells g.R.Rng.stream c.make_call-outcome.new.client c.make_call-outcome.new.outside) c.next-call.result.now c.make_call-outcome.result c.make_call-outcome.ensures.caused replayed

pub returns-clause-making : goal.returns-clause-making
returns-clause-making g c = caused_making c.calls_made-number.result (moment_of g.S.SessionStore.tells g.L.Link.tells g.K.Clock.tells g.R.Rng.stream c.args.client.now c.args.outside.now)
    (moment_of g.S.SessionStore.tells g.L.Link.tells g.K.Clock.tells g.R.Rng.stream c.make_call-outcome.new.client c.make_call-outcome.new.outside) c.next-call.result.now c.make_call-outcome.result c.make_call-outcome.ensures.caused

pub returns-clause-drawn : goal.returns-clause-drawn
returns-clause-drawn g c = caused_draws c.calls_made-number.result (moment_of g.S.SessionStore.tells g.L.Link.tells g.K.Clock.tells g.R.Rng.stream c.args.client.now c.args.outside.now)
    (moment_of g.S.SessionStore.tells g.L.Link.tells g.K.Clock.tells g.R.Rng.stream c.make_call-outcome.new.client c.make_call-outcome.new.outside) c.next-call.result.now c.make_call-outcome.result c.make_call-outcome.ensures.caused

pub returns-clause-lent : goal.returns-clause-lent
returns-clause-lent g c = caused_lends c.calls_made-number.result (moment_of g.S.SessionStore.tells g.L.Link.tells g.K.Clock.tells g.R.Rng.stream c.args.client.now c.args.outside.now)
    (moment_of g.S.SessionStore.tells g.L.Link.tells g.K.Clock.tells g.R.Rng.stream c.make_call-outcome.new.client c.make_call-outcome.new.outside) c.next-call.result.now c.make_call-outcome.result c.make_call-outcome.ensures.caused
