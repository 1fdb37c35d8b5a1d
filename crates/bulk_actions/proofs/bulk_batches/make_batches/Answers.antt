-- Each batch goes on behind those so far, or ends the call.
use Rattle.std.proofs.Common.{◌≡◌, true, length, refl, sym, ap, subst, ◌∙◌, ◌≤◌, arith}
use Rattle.std.specs.Prelude.{IfSome, None, Some}
use Rattle.std.proofs.lemmas.Result.{err_from_is_err_and}
use Rattle.bulk_outcomes.specs.Status.{Stands, goes_on}
use Rattle.bulk_fronts.specs.BulkWrites.{bulk_is_ordered}
use Rattle.driver_attempt.specs.Moment.{moment_of}
use Rattle.many_actions.specs.BatchPlans.{places_from}
use Rattle.bulk_actions.specs.inside.BulkBatches.{ComesBehind, NextWithin}
use Rattle.bulk_actions.proofs.BulkSequence.{all_done, begins, goes_further, goes_no_further, stops_at}
use Rattle.bulk_actions.proofs.MemoryAlone.{stands_told}
use Rattle.bulk_actions.proofs.bulk_batches.make_batches.Goals as goal

pub batches-init : goal.batches-init
batches-init g c =
    let at = moment_of g.S.SessionStore.tells g.L.Link.tells g.K.Clock.tells g.R.Rng.stream c.args.client.now c.args.outside.now in
    record {
      far = begins g.T.BulkWriteResult.tells c.args.options.now c.args.outside.now.call c.args.own.now at;
      within = omega arith;
      placed = c.requires.placed;
      stands = tt;
      goes = refl;
      options = refl;
      call = refl;
    }

pub batches-preserved : goal.batches-preserved
batches-preserved g c =
    let before = moment_of g.S.SessionStore.tells g.L.Link.tells g.K.Clock.tells g.R.Rng.stream c.args.client.now c.args.outside.now in
    let mid = moment_of g.S.SessionStore.tells g.L.Link.tells g.K.Clock.tells g.R.Rng.stream c.batches.client c.batches.outside in
    let now = moment_of g.S.SessionStore.tells g.L.Link.tells g.K.Clock.tells g.R.Rng.stream c.next_batch.new.client c.next_batch.new.outside in
    let tells = g.T.BulkWriteResult.tells in
    let so = c.batches.invariant in
    let of = c.in_ok-behind.ensures in
    let later = c.in_ok-behind.behind.standing in
    let count = c.in-Some.count in
    let next = subst (λ n. ComesBehind tells c.args.options.now n c.batches.first c.args.own.now mid now c.batches.standing later (Some count)) so.call
    (subst (λ o. ComesBehind tells c.args.options.now c.batches.outside.call c.batches.first c.args.own.now mid now c.batches.standing later o) c.in-Some.is of.steps) in
    record {
      far = goes_further tells c.args.options.now c.args.outside.now.call c.args.own.now before mid c.batches.first c.batches.standing so.far now later count next;
      within = (subst (λ o. NextWithin c.batches.first (length c.args.own.now) o) c.in-Some.is of.within).1;
      placed = so.placed ∙ ap (λ n. places_from n 0 (length c.args.own.now)) (sym of.call);
      stands = subst (λ o. IfSome o (λ so_many. Stands tells later)) c.in-Some.is of.stands;
      goes = subst (λ o. IfSome o (λ so_many. goes_on (bulk_is_ordered c.args.options.now) later ≡ true)) c.in-Some.is of.goes;
      options = of.options ∙ so.options;
      call = of.call ∙ so.call;
    }

pub returns-in-None-clause-makes : goal.returns-in-None-clause-makes
returns-in-None-clause-makes g c =
    let before = moment_of g.S.SessionStore.tells g.L.Link.tells g.K.Clock.tells g.R.Rng.stream c.args.client.now c.args.outside.now in
    let mid = moment_of g.S.SessionStore.tells g.L.Link.tells g.K.Clock.tells g.R.Rng.stream c.batches.client c.batches.outside in
    let now = moment_of g.S.SessionStore.tells g.L.Link.tells g.K.Clock.tells g.R.Rng.stream c.next_batch.new.client c.next_batch.new.outside in
    let tells = g.T.BulkWriteResult.tells in
    let so = c.batches.invariant in
    let later = c.in_ok-behind.behind.standing in
    let next = subst (λ n. ComesBehind tells c.args.options.now n c.batches.first c.args.own.now mid now c.batches.standing later None) so.call
    (subst (λ o. ComesBehind tells c.args.options.now c.batches.outside.call c.batches.first c.args.own.now mid now c.batches.standing later o) c.in-None.is c.in_ok-behind.ensures.steps) in
    goes_no_further tells c.args.options.now c.args.outside.now.call c.args.own.now before mid c.batches.first c.batches.standing so.far now later next

pub returns-in_err-behind-clause-makes : goal.returns-in_err-behind-clause-makes
returns-in_err-behind-clause-makes g c =
    let before = moment_of g.S.SessionStore.tells g.L.Link.tells g.K.Clock.tells g.R.Rng.stream c.args.client.now c.args.outside.now in
    let mid = moment_of g.S.SessionStore.tells g.L.Link.tells g.K.Clock.tells g.R.Rng.stream c.batches.client c.batches.outside in
    let now = moment_of g.S.SessionStore.tells g.L.Link.tells g.K.Clock.tells g.R.Rng.stream c.next_batch.new.client c.next_batch.new.outside in
    let tells = g.T.BulkWriteResult.tells in
    let so = c.batches.invariant in
    let p = err_from_is_err_and c.from_residual.result c.from_residual.ensures.1 in
    rw (p.1, p.2) (stops_at tells c.args.options.now c.args.outside.now.call c.args.own.now before mid c.batches.first c.batches.standing so.far c.batches.outside.call so.call now _ c.in_err-behind.ensures.steps)

pub returns-clause-makes : goal.returns-clause-makes
returns-clause-makes g c =
    let before = moment_of g.S.SessionStore.tells g.L.Link.tells g.K.Clock.tells g.R.Rng.stream c.args.client.now c.args.outside.now in
    let now = moment_of g.S.SessionStore.tells g.L.Link.tells g.K.Clock.tells g.R.Rng.stream c.batches.client c.batches.outside in
    let so = c.batches.invariant in
    let all : length c.args.own.now ≤ c.batches.first = (let past = c.batches-test.false in omega (arith, past)) in
    all_done g.T.BulkWriteResult.tells c.args.options.now c.args.outside.now.call c.args.own.now before now c.batches.first c.batches.standing so.far c.requires.some all

-- an error that ended a batch
pub returns-in_err-behind-clause-memory : goal.returns-in_err-behind-clause-memory
returns-in_err-behind-clause-memory g c =
    let p = err_from_is_err_and c.from_residual.result c.from_residual.ensures.1 in
    rw (p.1, p.2) c.in_err-behind.ensures.memory

-- what stands where no other batch is made, and where no op is left
pub returns-in-None-clause-alone : goal.returns-in-None-clause-alone
returns-in-None-clause-alone g c = c.in_ok-behind.ensures.alone

pub returns-clause-alone : goal.returns-clause-alone
returns-clause-alone g c = stands_told g.T.BulkWriteResult.tells c.batches.standing c.batches.invariant.stands
