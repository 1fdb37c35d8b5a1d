-- Each call keeps what holds of the run so far.
use Rattle.std.proofs.Common.{◌≡◌, suc, ◌≤◌, length, refl, sym, ap, subst, ◌∙◌, arith}
use Rattle.driver_session.proofs.IdDraws.{draws_refl, draws_twice}
use Rattle.driver_session.proofs.LentSessions.{lends_refl, lends_twice}
use Rattle.driver_attempt.specs.Client.{store_of}
use Rattle.driver_attempt.specs.Moment.{moment_of}
use Rattle.driver_actions.proofs.ServerMaking.{fresh_replayed, keeps_making_twice, keeps_refl}
use Rattle.call_runs.specs.Standing.{last_number}
use Rattle.call_runs.proofs.CallsInOrder.{began_before, causes_more, causes_start, ended_more, ended_start}
use Rattle.call_runs.proofs.run.run_calls.Goals as goal

pub calls-init : goal.calls-init
calls-init g c =
    let is = c.in_ok-run.ensures.new in
    let at = moment_of g.S.SessionStore.tells g.L.Link.tells g.K.Clock.tells g.R.Rng.stream c.args.client.now c.args.outside.now in
    record {
      within = subst (λ run. run.made ≤ length c.args.calls.now) (sym is) (omega arith);
      room = ap (λ run. run.room) is;
      client = refl;
      stands = λ begins. c.in_ok-run.ensures.stands c.args.calls.now _ begins.new begins.fresh;
      ended = λ begins. ended_start _ _ c.args.calls.now _ is;
      replayed = fresh_replayed at;
      making = keeps_refl at;
      drawn = draws_refl at.store;
      lent = lends_refl at.store;
      causes = causes_start _ _ c.args.calls.now _ is;
      call = subst (λ run. c.args.outside.now.call ≡ last_number c.args.outside.now.call run.made) (sym is) refl;
    }

pub calls-preserved : goal.calls-preserved
calls-preserved g c =
    let first = moment_of g.S.SessionStore.tells g.L.Link.tells g.K.Clock.tells g.R.Rng.stream c.args.client.now c.args.outside.now in
    let mid = moment_of g.S.SessionStore.tells g.L.Link.tells g.K.Clock.tells g.R.Rng.stream c.calls.client c.calls.outside in
    let now = moment_of g.S.SessionStore.tells g.L.Link.tells g.K.Clock.tells g.R.Rng.stream c.make.new.client c.make.new.outside in
    let before = c.calls.invariant in
    let made = c.make.ensures in
    let next : c.make.new.self.made ≡ suc c.calls.run.made = omega (arith, ap (λ run. run.made) made.makes.appended) in
    record {
      within = omega (arith, ap (λ run. run.made) made.makes.appended, c.calls_made.ensures, c.calls-test.true);
      room = ap (λ run. run.room) made.makes.appended ∙ before.room;
      client = made.client ∙ before.client;
      stands = λ begins. made.stands (before.stands (began_before first mid now made.drawn begins)) begins.apart;
      ended = λ begins.
          let began = began_before first mid now made.drawn begins in
          ended_more c.calls.run c.make.new.self c.args.calls.now first mid now before.within (made.complete (before.stands began) begins.apart) (before.ended began);
      replayed = λ fresh. made.replayed (before.replayed fresh);
      making = keeps_making_twice first mid now before.making made.making;
      drawn = draws_twice first.store mid.store now.store before.drawn made.drawn;
      lent = lends_twice first.store mid.store now.store before.lent made.lent;
      causes = causes_more c.calls.run c.make.new.self c.args.calls.now first mid now before.within made.makes before.causes;
      call = made.call ∙ sym (ap (last_number c.args.outside.now.call) next);
    }

pub returns-in_err-run-clause-drawn : goal.returns-in_err-run-clause-drawn
returns-in_err-run-clause-drawn g c = draws_refl (g.S.SessionStore.tells (store_of c.args.client.now))
