-- The answer of the batches of a call.
use Rattle.std.proofs.lemmas.Result.{err_from_is_err_and}
use Rattle.driver_ops.specs.declared.target.OperationTarget.TheVariants as target
use Rattle.driver_attempt.specs.Moment.{moment_of}
use Rattle.many_actions.proofs.BatchSequence.{done_answered, short_answered, stopped_answered}
use Rattle.many_actions.proofs.MemoryAlone.{answered_told, exit_told}
use Rattle.many_actions.proofs.batches.make_batches.Goals as goal

pub returns-in_err-places-clause-makes : goal.returns-in_err-places-clause-makes
returns-in_err-places-clause-makes g c =
    let at = moment_of g.S.SessionStore.tells g.L.Link.tells g.K.Clock.tells g.R.Rng.stream c.args.client.now c.args.outside.now in
    short_answered (target.Collection c.args.collection.now) c.args.options.now c.args.outside.now.call c.args.own.now at c.from_residual.result c.from_residual.ensures.1

pub returns-in_err-places-clause-memory : goal.returns-in_err-places-clause-memory
returns-in_err-places-clause-memory g c = exit_told c.from_residual.result c.from_residual.ensures.1

pub returns-in_err-gather_batches-clause-makes : goal.returns-in_err-gather_batches-clause-makes
returns-in_err-gather_batches-clause-makes g c =
    let before = moment_of g.S.SessionStore.tells g.L.Link.tells g.K.Clock.tells g.R.Rng.stream c.args.client.now c.args.outside.now in
    let now = moment_of g.S.SessionStore.tells g.L.Link.tells g.K.Clock.tells g.R.Rng.stream c.gather_batches.new.client c.gather_batches.new.outside in
    let p = err_from_is_err_and c.from_residual-in_err-gather_batches.result c.from_residual-in_err-gather_batches.ensures.1 in
    rw (p.1, p.2) (stopped_answered (target.Collection c.args.collection.now) c.args.options.now c.args.outside.now.call c.args.own.now before now _ c.in_err-gather_batches.ensures.gathers)

pub returns-in_err-gather_batches-clause-memory : goal.returns-in_err-gather_batches-clause-memory
returns-in_err-gather_batches-clause-memory g c =
    let p = err_from_is_err_and c.from_residual-in_err-gather_batches.result c.from_residual-in_err-gather_batches.ensures.1 in
    rw (p.1, p.2) c.in_err-gather_batches.ensures.memory

pub returns-clause-makes : goal.returns-clause-makes
returns-clause-makes g c =
    let before = moment_of g.S.SessionStore.tells g.L.Link.tells g.K.Clock.tells g.R.Rng.stream c.args.client.now c.args.outside.now in
    let now = moment_of g.S.SessionStore.tells g.L.Link.tells g.K.Clock.tells g.R.Rng.stream c.gather_batches.new.client c.gather_batches.new.outside in
    done_answered (target.Collection c.args.collection.now) c.args.options.now c.args.outside.now.call c.args.own.now before now c.gather_batches.new.gathered c.answer.result c.in_ok-gather_batches.ensures.gathers c.answer.ensures

pub returns-clause-memory : goal.returns-clause-memory
returns-clause-memory g c = answered_told c.gather_batches.new.gathered c.answer.result c.answer.ensures
