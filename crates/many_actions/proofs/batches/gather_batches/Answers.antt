-- Each batch goes on behind those so far, or ends the call.
use Rattle.std.proofs.Common.{drop, length, refl, sym, ap, subst, ◌∙◌, ◌≤◌, arith}
use Rattle.std.specs.Prelude.{true, false}
use Rattle.driver_ops.specs.declared.target.OperationTarget.TheVariants as target
use Rattle.driver_attempt.specs.Moment.{moment_of}
use Rattle.many_actions.specs.Batches.{places_from}
use Rattle.many_actions.specs.inside.Batches.{GathersBatch, StopsBatches}
use Rattle.many_actions.proofs.BatchSequence.{all_done, begins, goes_further, goes_no_further, stops_there}
use Rattle.many_actions.proofs.batches.gather_batches.Goals as goal

pub batches-init : goal.batches-init
batches-init g c =
    let at = moment_of g.S.SessionStore.tells g.L.Link.tells g.K.Clock.tells g.R.Rng.stream c.args.client.now c.args.outside.now in
    record {
      far = begins (target.Collection c.args.collection.now) c.args.options.now c.args.outside.now.call c.args.own.now at c.args.gathered.now c.requires.nothing;
      within = omega arith;
      placed = c.requires.placed;
      options = refl;
      call = refl;
    }

pub batches-preserved : goal.batches-preserved
batches-preserved g c =
    let before = moment_of g.S.SessionStore.tells g.L.Link.tells g.K.Clock.tells g.R.Rng.stream c.args.client.now c.args.outside.now in
    let mid = moment_of g.S.SessionStore.tells g.L.Link.tells g.K.Clock.tells g.R.Rng.stream c.batches.client c.batches.outside in
    let now = moment_of g.S.SessionStore.tells g.L.Link.tells g.K.Clock.tells g.R.Rng.stream c.gather_batch.new.client c.gather_batch.new.outside in
    let within = target.Collection c.args.collection.now in
    let so = c.batches.invariant in
    let of = c.in-Next.ensures in
    let next = subst (λ n. GathersBatch within c.args.options.now n c.batches.first c.args.own.now mid now c.batches.gathered c.gather_batch.new.gathered true c.in-Next.count) so.call of.comes in
    record {
      far = goes_further within c.args.options.now c.args.outside.now.call c.args.own.now before mid c.batches.first c.batches.gathered so.far now c.gather_batch.new.gathered c.in-Next.count next;
      within = of.steps.1;
      placed = so.placed ∙ ap (λ n. places_from n 0 (length c.args.own.now)) (sym of.call);
      options = of.options ∙ so.options;
      call = of.call ∙ so.call;
    }

pub returns-in-Over-clause-gathers : goal.returns-in-Over-clause-gathers
returns-in-Over-clause-gathers g c =
    let before = moment_of g.S.SessionStore.tells g.L.Link.tells g.K.Clock.tells g.R.Rng.stream c.args.client.now c.args.outside.now in
    let mid = moment_of g.S.SessionStore.tells g.L.Link.tells g.K.Clock.tells g.R.Rng.stream c.batches.client c.batches.outside in
    let now = moment_of g.S.SessionStore.tells g.L.Link.tells g.K.Clock.tells g.R.Rng.stream c.gather_batch.new.client c.gather_batch.new.outside in
    let within = target.Collection c.args.collection.now in
    let so = c.batches.invariant in
    let last = c.in-Over.ensures.comes in
    let next = subst (λ n. GathersBatch within c.args.options.now n c.batches.first c.args.own.now mid now c.batches.gathered c.gather_batch.new.gathered false last.0) so.call last.1 in
    goes_no_further within c.args.options.now c.args.outside.now.call c.args.own.now before mid c.batches.first c.batches.gathered so.far now c.gather_batch.new.gathered last.0 next

pub returns-in-Stopped-clause-gathers : goal.returns-in-Stopped-clause-gathers
returns-in-Stopped-clause-gathers g c =
    let before = moment_of g.S.SessionStore.tells g.L.Link.tells g.K.Clock.tells g.R.Rng.stream c.args.client.now c.args.outside.now in
    let mid = moment_of g.S.SessionStore.tells g.L.Link.tells g.K.Clock.tells g.R.Rng.stream c.batches.client c.batches.outside in
    let now = moment_of g.S.SessionStore.tells g.L.Link.tells g.K.Clock.tells g.R.Rng.stream c.gather_batch.new.client c.gather_batch.new.outside in
    let within = target.Collection c.args.collection.now in
    let so = c.batches.invariant in
    let stops = subst (λ n. StopsBatches within c.args.options.now n c.batches.first (drop c.batches.first c.args.own.now) mid now c.in-Stopped.error) so.call c.in-Stopped.ensures.comes in
    stops_there within c.args.options.now c.args.outside.now.call c.args.own.now before mid c.batches.first c.batches.gathered so.far now c.in-Stopped.error stops

pub returns-in-Stopped-clause-memory : goal.returns-in-Stopped-clause-memory
returns-in-Stopped-clause-memory g c = c.in-Stopped.ensures.memory

pub returns-clause-gathers : goal.returns-clause-gathers
returns-clause-gathers g c =
    let before = moment_of g.S.SessionStore.tells g.L.Link.tells g.K.Clock.tells g.R.Rng.stream c.args.client.now c.args.outside.now in
    let now = moment_of g.S.SessionStore.tells g.L.Link.tells g.K.Clock.tells g.R.Rng.stream c.batches.client c.batches.outside in
    let so = c.batches.invariant in
    let all : length c.args.own.now ≤ c.batches.first = (let past = c.batches-test.false in omega (arith, past)) in
    all_done (target.Collection c.args.collection.now) c.args.options.now c.args.outside.now.call c.args.own.now before now c.batches.first c.batches.gathered so.far all
