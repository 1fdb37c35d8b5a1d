-- The input of the bulk write is refused, or its batches are made once its ops are, and the answer is what stands behind them.
use Rattle.std.proofs.Common.{◌≡◌, ap, subst, sym}
use Rattle.std.proofs.lemmas.Result.{err_from_is_err_and}
use Rattle.driver_attempt.specs.Moment.{moment_of}
use Rattle.bulk_actions.specs.inside.BulkBatches.{AreBulkOps, StandsBehindAll}
use Rattle.bulk_actions.proofs.BulkAnswers.{all_caused, all_made, short_caused, short_made, stopped_caused, stopped_made, unmade_caused}
use Rattle.bulk_actions.proofs.MemoryAlone.{answer_told, exit_told}
use Rattle.bulk_actions.proofs.OpsLeft.{owned_ops}
use Rattle.bulk_actions.proofs.bulk_all.bulk_all.Goals as goal

pub returns-in_err-own-clause-cause : goal.returns-in_err-own-clause-cause
returns-in_err-own-clause-cause g c =
    let before = moment_of g.S.SessionStore.tells g.L.Link.tells g.K.Clock.tells g.R.Rng.stream c.args.client.now c.args.outside.now in
    let mid = moment_of g.S.SessionStore.tells g.L.Link.tells g.K.Clock.tells g.R.Rng.stream c.bulk_ops.new.client c.args.outside.now in
    let rest : mid ≡ record before { store = mid.store } = ap (λ o. record before { store = mid.store; client = record { options = o } }) c.in_err-own.ensures.options in
    let p = err_from_is_err_and c.from_residual.result c.from_residual.ensures.1 in
    rw (p.1, p.2) (unmade_caused g.T.BulkWriteResult.tells before mid c.args.models.now c.args.options.now c.args.outside.now.call _ rest c.in_err-own.ensures.prepares)

-- an error of the input, or of the ops
pub returns-in_err-own-clause-memory : goal.returns-in_err-own-clause-memory
returns-in_err-own-clause-memory g c =
    let p = err_from_is_err_and c.from_residual.result c.from_residual.ensures.1 in
    rw (p.1, p.2) c.in_err-own.ensures.memory

pub returns-in_err-places-clause-makes : goal.returns-in_err-places-clause-makes
returns-in_err-places-clause-makes g c =
    let before = moment_of g.S.SessionStore.tells g.L.Link.tells g.K.Clock.tells g.R.Rng.stream c.args.client.now c.args.outside.now in
    let mid = moment_of g.S.SessionStore.tells g.L.Link.tells g.K.Clock.tells g.R.Rng.stream c.bulk_ops.new.client c.args.outside.now in
    let rest : mid ≡ record before { store = mid.store } = ap (λ o. record before { store = mid.store; client = record { options = o } }) c.in_ok-own.ensures.options in
    let made = c.in_ok-own.ensures.prepares in
    short_made g.T.BulkWriteResult.tells before c.args.models.now c.args.options.now c.args.outside.now.call made.0 mid rest c.in_ok-own.own made.1 c.from_residual-in_err-places.result c.from_residual-in_err-places.ensures.1

pub returns-in_err-places-clause-cause : goal.returns-in_err-places-clause-cause
returns-in_err-places-clause-cause g c =
    let before = moment_of g.S.SessionStore.tells g.L.Link.tells g.K.Clock.tells g.R.Rng.stream c.args.client.now c.args.outside.now in
    let mid = moment_of g.S.SessionStore.tells g.L.Link.tells g.K.Clock.tells g.R.Rng.stream c.bulk_ops.new.client c.args.outside.now in
    let rest : mid ≡ record before { store = mid.store } = ap (λ o. record before { store = mid.store; client = record { options = o } }) c.in_ok-own.ensures.options in
    let made = c.in_ok-own.ensures.prepares in
    short_caused g.T.BulkWriteResult.tells before c.args.models.now c.args.options.now c.args.outside.now.call made.0 mid rest c.in_ok-own.own made.1 c.from_residual-in_err-places.result c.from_residual-in_err-places.ensures.1

-- there was no memory for the places
pub returns-in_err-places-clause-memory : goal.returns-in_err-places-clause-memory
returns-in_err-places-clause-memory g c = exit_told c.from_residual-in_err-places.result c.from_residual-in_err-places.ensures.1

pub make_batches-requires-clause-ops : goal.make_batches-requires-clause-ops
make_batches-requires-clause-ops g c =
    let made = c.in_ok-own.ensures.prepares in
    subst AreBulkOps (sym c.as_slice.ensures)
    (owned_ops (g.S.SessionStore.tells c.args.client.now.store) (g.S.SessionStore.tells c.bulk_ops.new.client.store) c.args.models.now c.args.options.now c.in_ok-own.own made.0 made.1)

pub returns-in_err-standing-clause-makes : goal.returns-in_err-standing-clause-makes
returns-in_err-standing-clause-makes g c =
    let before = moment_of g.S.SessionStore.tells g.L.Link.tells g.K.Clock.tells g.R.Rng.stream c.args.client.now c.args.outside.now in
    let mid = moment_of g.S.SessionStore.tells g.L.Link.tells g.K.Clock.tells g.R.Rng.stream c.bulk_ops.new.client c.args.outside.now in
    let now = moment_of g.S.SessionStore.tells g.L.Link.tells g.K.Clock.tells g.R.Rng.stream c.make_batches.new.client c.make_batches.new.outside in
    let rest : mid ≡ record before { store = mid.store } = ap (λ o. record before { store = mid.store; client = record { options = o } }) c.in_ok-own.ensures.options in
    let made = c.in_ok-own.ensures.prepares in
    let p = err_from_is_err_and c.from_residual-in_err-standing.result c.from_residual-in_err-standing.ensures.1 in
    rw (p.1, p.2) (stopped_made g.T.BulkWriteResult.tells before c.args.models.now c.args.options.now c.args.outside.now.call made.0 mid rest c.in_ok-own.own made.1 _ c.as_slice.ensures now _
    c.in_err-standing.ensures.makes)

pub returns-in_err-standing-clause-cause : goal.returns-in_err-standing-clause-cause
returns-in_err-standing-clause-cause g c =
    let before = moment_of g.S.SessionStore.tells g.L.Link.tells g.K.Clock.tells g.R.Rng.stream c.args.client.now c.args.outside.now in
    let mid = moment_of g.S.SessionStore.tells g.L.Link.tells g.K.Clock.tells g.R.Rng.stream c.bulk_ops.new.client c.args.outside.now in
    let now = moment_of g.S.SessionStore.tells g.L.Link.tells g.K.Clock.tells g.R.Rng.stream c.make_batches.new.client c.make_batches.new.outside in
    let rest : mid ≡ record before { store = mid.store } = ap (λ o. record before { store = mid.store; client = record { options = o } }) c.in_ok-own.ensures.options in
    let made = c.in_ok-own.ensures.prepares in
    let p = err_from_is_err_and c.from_residual-in_err-standing.result c.from_residual-in_err-standing.ensures.1 in
    rw (p.1, p.2) (stopped_caused g.T.BulkWriteResult.tells before c.args.models.now c.args.options.now c.args.outside.now.call made.0 mid rest c.in_ok-own.own made.1 _ c.as_slice.ensures now _
    c.in_err-standing.ensures.makes)

-- an error that ended the batches
pub returns-in_err-standing-clause-memory : goal.returns-in_err-standing-clause-memory
returns-in_err-standing-clause-memory g c =
    let p = err_from_is_err_and c.from_residual-in_err-standing.result c.from_residual-in_err-standing.ensures.1 in
    rw (p.1, p.2) c.in_err-standing.ensures.memory

pub returns-clause-makes : goal.returns-clause-makes
returns-clause-makes g c =
    let before = moment_of g.S.SessionStore.tells g.L.Link.tells g.K.Clock.tells g.R.Rng.stream c.args.client.now c.args.outside.now in
    let mid = moment_of g.S.SessionStore.tells g.L.Link.tells g.K.Clock.tells g.R.Rng.stream c.bulk_ops.new.client c.args.outside.now in
    let now = moment_of g.S.SessionStore.tells g.L.Link.tells g.K.Clock.tells g.R.Rng.stream c.make_batches.new.client c.make_batches.new.outside in
    let rest : mid ≡ record before { store = mid.store } = ap (λ o. record before { store = mid.store; client = record { options = o } }) c.in_ok-own.ensures.options in
    let made = c.in_ok-own.ensures.prepares in
    all_made g.T.BulkWriteResult.tells before c.args.models.now c.args.options.now c.args.outside.now.call made.0 mid rest c.in_ok-own.own made.1 now c.in_ok-standing.standing c.answer.result
    (subst (λ own. StandsBehindAll g.T.BulkWriteResult.tells c.args.options.now c.args.outside.now.call own mid now c.in_ok-standing.standing) c.as_slice.ensures c.in_ok-standing.ensures.makes) c.answer.ensures

pub returns-clause-cause : goal.returns-clause-cause
returns-clause-cause g c =
    let before = moment_of g.S.SessionStore.tells g.L.Link.tells g.K.Clock.tells g.R.Rng.stream c.args.client.now c.args.outside.now in
    let mid = moment_of g.S.SessionStore.tells g.L.Link.tells g.K.Clock.tells g.R.Rng.stream c.bulk_ops.new.client c.args.outside.now in
    let now = moment_of g.S.SessionStore.tells g.L.Link.tells g.K.Clock.tells g.R.Rng.stream c.make_batches.new.client c.make_batches.new.outside in
    let rest : mid ≡ record before { store = mid.store } = ap (λ o. record before { store = mid.store; client = record { options = o } }) c.in_ok-own.ensures.options in
    let made = c.in_ok-own.ensures.prepares in
    all_caused g.T.BulkWriteResult.tells before c.args.models.now c.args.options.now c.args.outside.now.call made.0 mid rest c.in_ok-own.own made.1 now c.in_ok-standing.standing c.answer.result
    (subst (λ own. StandsBehindAll g.T.BulkWriteResult.tells c.args.options.now c.args.outside.now.call own mid now c.in_ok-standing.standing) c.as_slice.ensures c.in_ok-standing.ensures.makes) c.answer.ensures

-- what stands behind all batches
pub returns-clause-memory : goal.returns-clause-memory
returns-clause-memory g c = answer_told c.in_ok-standing.standing c.answer.result c.answer.ensures c.in_ok-standing.ensures.alone
