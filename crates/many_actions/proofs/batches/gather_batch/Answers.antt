-- The next batch is made of the documents that are left, and gathered, or the call ends with an error.
use Rattle.std.proofs.Common.{drop, length, sym, ap, subst, ◌∙◌}
use Rattle.driver_error.specs.declared.kind.ErrorKind.TheVariants as kind
use Rattle.driver_ops.specs.declared.target.OperationTarget.TheVariants as target
use Rattle.driver_attempt.specs.Moment.{moment_of}
use Rattle.many_actions.specs.Batches.{goes_on, places_from}
use Rattle.many_actions.specs.inside.Batches.{AreSpelled, BatchMade}
use Rattle.many_actions.proofs.BatchParts.{comes_behind, gathers, steps_behind, stops_batch, stops_unmade}
use Rattle.many_actions.proofs.BatchPlaces.{places_left, spelled_left}
use Rattle.many_actions.proofs.MemoryAlone.{alone_told, behind_told, taken_told}
use Rattle.many_actions.proofs.batches.gather_batch.Goals as goal

pub make_batch-requires-clause-placed : goal.make_batch-requires-clause-placed
make_batch-requires-clause-placed g c =
    c.rest_from-their.ensures ∙ ap (drop c.args.first) c.requires.placed ∙ places_left c.args.outside.now.call c.args.first c.args.own.now
    ∙ ap (λ own. places_from c.args.outside.now.call c.args.first (length own)) (sym c.rest_from-rest.ensures)

pub make_batch-requires-clause-spelled : goal.make_batch-requires-clause-spelled
make_batch-requires-clause-spelled g c = subst AreSpelled (sym c.rest_from-rest.ensures) (spelled_left c.args.first c.args.own.now c.requires.spelled)

pub returns-in-Err-clause-comes : goal.returns-in-Err-clause-comes
returns-in-Err-clause-comes g c =
    let before = moment_of g.S.SessionStore.tells g.L.Link.tells g.K.Clock.tells g.R.Rng.stream c.args.client.now c.args.outside.now in
    let now = moment_of g.S.SessionStore.tells g.L.Link.tells g.K.Clock.tells g.R.Rng.stream c.make_batch.new.client c.make_batch.new.outside in
    stops_unmade (target.Collection c.args.collection.now) c.args.options.now c.args.outside.now.call c.args.first (drop c.args.first c.args.own.now) before now c.from_kind.result c.in-Err.ensures.unmade c.from_kind.ensures.kind_is

pub returns-in-Err-clause-memory : goal.returns-in-Err-clause-memory
returns-in-Err-clause-memory g c = alone_told kind.Memory c.from_kind.result c.from_kind.ensures

pub returns-in-Ok-take-clause-comes : goal.returns-in-Ok-take-clause-comes
returns-in-Ok-take-clause-comes g c =
    let before = moment_of g.S.SessionStore.tells g.L.Link.tells g.K.Clock.tells g.R.Rng.stream c.args.client.now c.args.outside.now in
    let now = moment_of g.S.SessionStore.tells g.L.Link.tells g.K.Clock.tells g.R.Rng.stream c.make_batch.new.client c.make_batch.new.outside in
    let within = target.Collection c.args.collection.now in
    let count = c.in-Ok.made.count in
    let came = c.in-Ok.made.came in
    let made = subst (λ own. BatchMade within c.args.options.now c.args.outside.now.call c.args.first own before now count came) c.rest_from-rest.ensures c.in-Ok.ensures.made in
    let goes = c.goes_on-on.ensures ∙ ap (λ ordered. goes_on ordered came) c.is_ordered.ensures in
    comes_behind within c.args.options.now c.args.outside.now.call c.args.first c.args.own.now before now c.args.gathered.now c.take.new.self c.goes_on-on.result count c.behind.result c.behind.ensures
    (gathers within c.args.options.now c.args.outside.now.call c.args.first c.args.own.now before now c.args.gathered.now c.take.new.self count came c.goes_on-on.result made c.in-Ok-take.ensures.ok.0 c.in-Ok-take.ensures.ok.1 goes)

pub returns-in-Ok-take-clause-steps : goal.returns-in-Ok-take-clause-steps
returns-in-Ok-take-clause-steps g c =
    let before = moment_of g.S.SessionStore.tells g.L.Link.tells g.K.Clock.tells g.R.Rng.stream c.args.client.now c.args.outside.now in
    let now = moment_of g.S.SessionStore.tells g.L.Link.tells g.K.Clock.tells g.R.Rng.stream c.make_batch.new.client c.make_batch.new.outside in
    let count = c.in-Ok.made.count in
    let made = subst (λ own. BatchMade (target.Collection c.args.collection.now) c.args.options.now c.args.outside.now.call c.args.first own before now count c.in-Ok.made.came) c.rest_from-rest.ensures c.in-Ok.ensures.made in
    steps_behind c.args.first c.args.own.now made.end.statements c.goes_on-on.result count c.behind.result c.requires.within c.behind.ensures (made.counted c.in-Ok-take.ensures.ok.1)

pub returns-in-Ok-take-clause-memory : goal.returns-in-Ok-take-clause-memory
returns-in-Ok-take-clause-memory g c = behind_told c.goes_on-on.result c.in-Ok.made.count c.behind.result c.behind.ensures

pub returns-in-Err-take-clause-comes : goal.returns-in-Err-take-clause-comes
returns-in-Err-take-clause-comes g c =
    let before = moment_of g.S.SessionStore.tells g.L.Link.tells g.K.Clock.tells g.R.Rng.stream c.args.client.now c.args.outside.now in
    let now = moment_of g.S.SessionStore.tells g.L.Link.tells g.K.Clock.tells g.R.Rng.stream c.make_batch.new.client c.make_batch.new.outside in
    let within = target.Collection c.args.collection.now in
    let made = subst (λ own. BatchMade within c.args.options.now c.args.outside.now.call c.args.first own before now c.in-Ok.made.count c.in-Ok.made.came) c.rest_from-rest.ensures c.in-Ok.ensures.made in
    stops_batch within c.args.options.now c.args.outside.now.call c.args.first (drop c.args.first c.args.own.now) before now c.in-Ok.made.count c.in-Ok.made.came made c.in-Err-take.error c.in-Err-take.ensures.err

pub returns-in-Err-take-clause-memory : goal.returns-in-Err-take-clause-memory
returns-in-Err-take-clause-memory g c = taken_told c.in-Ok.made.came c.in-Err-take.error c.in-Ok.ensures.memory c.in-Err-take.ensures.err
