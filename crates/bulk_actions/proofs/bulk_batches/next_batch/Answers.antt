-- The next batch is made of the ops that are left, and taken into what stands, or the call ends with an error.
use Rattle.std.proofs.Common.{drop, refl, ap, ◌∙◌}
use Rattle.std.proofs.lemmas.Result.{err_from_is_err_and}
use Rattle.bulk_outcomes.specs.Status.{goes_on}
use Rattle.bulk_fronts.specs.BulkWrites.{bulk_is_ordered}
use Rattle.driver_attempt.specs.Moment.{moment_of}
use Rattle.many_actions.proofs.BatchPlaces.{places_left}
use Rattle.bulk_actions.specs.BulkBatches.{end_goes_on}
use Rattle.bulk_actions.proofs.BulkParts.{KeepsKind, comes_behind, goes_behind, next_within, stands_behind, stops_refused, stops_unmade}
use Rattle.bulk_actions.proofs.MemoryAlone.{later_told, refused_told}
use Rattle.bulk_actions.proofs.bulk_batches.next_batch.Goals as goal

pub make_batch-requires-clause-placed : goal.make_batch-requires-clause-placed
make_batch-requires-clause-placed g c =
    c.rest_from-their.ensures ∙ ap (drop c.args.first) c.requires.placed ∙ places_left c.args.outside.now.call c.args.first c.args.own.now

pub returns-in-Err-clause-steps : goal.returns-in-Err-clause-steps
returns-in-Err-clause-steps g c =
    let before = moment_of g.S.SessionStore.tells g.L.Link.tells g.K.Clock.tells g.R.Rng.stream c.args.client.now c.args.outside.now in
    let now = moment_of g.S.SessionStore.tells g.L.Link.tells g.K.Clock.tells g.R.Rng.stream c.make_batch.new.client c.make_batch.new.outside in
    stops_unmade g.T.BulkWriteResult.tells c.args.options.now c.args.outside.now.call c.args.first (drop c.args.first c.args.own.now) before now c.args.standing c.from_kind.result c.in-Err.ensures.unmade c.from_kind.ensures.kind_is

pub returns-in_err-later-clause-steps : goal.returns-in_err-later-clause-steps
returns-in_err-later-clause-steps g c =
    let before = moment_of g.S.SessionStore.tells g.L.Link.tells g.K.Clock.tells g.R.Rng.stream c.args.client.now c.args.outside.now in
    let now = moment_of g.S.SessionStore.tells g.L.Link.tells g.K.Clock.tells g.R.Rng.stream c.make_batch.new.client c.make_batch.new.outside in
    let came = c.in-Ok.made.came in
    let p = err_from_is_err_and c.from_residual.result c.from_residual.ensures.1 in
    rw (p.1, p.2) (stops_refused g.T.BulkWriteResult.tells c.args.options.now c.args.outside.now.call c.args.first c.args.own.now before now c.args.standing c.in-Ok.made.count came c.in-Ok.ensures.made
    _ (end_goes_on (bulk_is_ordered c.args.options.now) came) c.in_err-later.ensures refl)

pub returns-clause-steps : goal.returns-clause-steps
returns-clause-steps g c =
    let before = moment_of g.S.SessionStore.tells g.L.Link.tells g.K.Clock.tells g.R.Rng.stream c.args.client.now c.args.outside.now in
    let now = moment_of g.S.SessionStore.tells g.L.Link.tells g.K.Clock.tells g.R.Rng.stream c.make_batch.new.client c.make_batch.new.outside in
    let on_is = c.should_continue-on.ensures ∙ ap (λ ordered. goes_on ordered c.in_ok-later.later) c.is_ordered.ensures in
    comes_behind g.T.BulkWriteResult.tells c.args.options.now c.args.outside.now.call c.args.first c.args.own.now before now c.args.standing c.in-Ok.made.count c.in-Ok.made.came c.in-Ok.ensures.made
    c.in_ok-later.later c.should_continue-on.result c.count_behind.result c.requires.goes c.in_ok-later.ensures on_is c.count_behind.ensures

pub returns-clause-within : goal.returns-clause-within
returns-clause-within g c =
    let before = moment_of g.S.SessionStore.tells g.L.Link.tells g.K.Clock.tells g.R.Rng.stream c.args.client.now c.args.outside.now in
    let now = moment_of g.S.SessionStore.tells g.L.Link.tells g.K.Clock.tells g.R.Rng.stream c.make_batch.new.client c.make_batch.new.outside in
    let on_is = c.should_continue-on.ensures ∙ ap (λ ordered. goes_on ordered c.in_ok-later.later) c.is_ordered.ensures in
    next_within g.T.BulkWriteResult.tells c.args.options.now c.args.outside.now.call c.args.first c.args.own.now before now c.args.standing c.in-Ok.made.count c.in-Ok.made.came c.in-Ok.ensures.made
    c.in_ok-later.later c.should_continue-on.result c.count_behind.result c.requires.within c.requires.goes c.in_ok-later.ensures on_is c.count_behind.ensures

pub returns-clause-stands : goal.returns-clause-stands
returns-clause-stands g c =
    let before = moment_of g.S.SessionStore.tells g.L.Link.tells g.K.Clock.tells g.R.Rng.stream c.args.client.now c.args.outside.now in
    let now = moment_of g.S.SessionStore.tells g.L.Link.tells g.K.Clock.tells g.R.Rng.stream c.make_batch.new.client c.make_batch.new.outside in
    let on_is = c.should_continue-on.ensures ∙ ap (λ ordered. goes_on ordered c.in_ok-later.later) c.is_ordered.ensures in
    let keeps : KeepsKind g.T.BulkWriteResult.tells = record { success = c.what_stands_keeps_its_kind.ensures.success; failure = c.what_stands_keeps_its_kind.ensures.failure } in
    stands_behind g.T.BulkWriteResult.tells c.args.options.now c.args.outside.now.call c.args.first c.args.own.now before now c.args.standing c.in-Ok.made.count c.in-Ok.made.came c.in-Ok.ensures.made
    c.what_is_followed_stands.ensures keeps c.in_ok-later.later c.should_continue-on.result c.count_behind.result c.requires.standing c.in_ok-later.ensures on_is c.count_behind.ensures

pub returns-clause-goes : goal.returns-clause-goes
returns-clause-goes g c =
    let before = moment_of g.S.SessionStore.tells g.L.Link.tells g.K.Clock.tells g.R.Rng.stream c.args.client.now c.args.outside.now in
    let now = moment_of g.S.SessionStore.tells g.L.Link.tells g.K.Clock.tells g.R.Rng.stream c.make_batch.new.client c.make_batch.new.outside in
    let on_is = c.should_continue-on.ensures ∙ ap (λ ordered. goes_on ordered c.in_ok-later.later) c.is_ordered.ensures in
    goes_behind g.T.BulkWriteResult.tells c.args.options.now c.args.outside.now.call c.args.first c.args.own.now before now c.args.standing c.in-Ok.made.count c.in-Ok.made.came c.in-Ok.ensures.made
    c.in_ok-later.later c.should_continue-on.result c.count_behind.result on_is c.count_behind.ensures

-- there was no memory for the batch
pub returns-in-Err-clause-memory : goal.returns-in-Err-clause-memory
returns-in-Err-clause-memory g c = λ is. c.from_kind.ensures

-- what it came to could not be taken over
pub returns-in_err-later-clause-memory : goal.returns-in_err-later-clause-memory
returns-in_err-later-clause-memory g c =
    let p = err_from_is_err_and c.from_residual.result c.from_residual.ensures.1 in
    rw (p.1, p.2) (refused_told g.T.BulkWriteResult.tells c.args.standing c.in-Ok.made.came _ c.requires.standing c.in-Ok.ensures.memory c.in_err-later.ensures)

-- it was taken over
pub returns-clause-alone : goal.returns-clause-alone
returns-clause-alone g c =
    later_told g.T.BulkWriteResult.tells c.args.standing c.in-Ok.made.came c.in_ok-later.later c.requires.standing c.in-Ok.ensures.memory c.in_ok-later.ensures
