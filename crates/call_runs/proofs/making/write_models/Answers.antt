-- The models are those of the list.
use Rattle.std.proofs.Common.{subst}
use Rattle.driver_attempt.specs.Moment.{moment_of}
use Rattle.bulk_actions.specs.BulkCalls.{BulkCaused, MakesBulk}
use Rattle.call_runs.proofs.making.write_models.Goals as goal

pub returns-clause-makes : goal.returns-clause-makes
returns-clause-makes g c =
    let before = moment_of g.S.SessionStore.tells g.L.Link.tells g.K.Clock.tells g.R.Rng.stream c.args.client.now c.args.outside.now in
    let now = moment_of g.S.SessionStore.tells g.L.Link.tells g.K.Clock.tells g.R.Rng.stream c.bulk_all.new.client c.bulk_all.new.outside in
    subst (λ m. MakesBulk g.T.BulkWriteResult.tells before now m c.args.options.now c.args.outside.now.call c.bulk_all.result) c.as_slice-models.ensures c.bulk_all.ensures.makes

pub returns-clause-cause : goal.returns-clause-cause
returns-clause-cause g c =
    let before = moment_of g.S.SessionStore.tells g.L.Link.tells g.K.Clock.tells g.R.Rng.stream c.args.client.now c.args.outside.now in
    let now = moment_of g.S.SessionStore.tells g.L.Link.tells g.K.Clock.tells g.R.Rng.stream c.bulk_all.new.client c.bulk_all.new.outside in
    subst (λ m. BulkCaused g.T.BulkWriteResult.tells before now m c.args.options.now c.args.outside.now.call c.bulk_all.result) c.as_slice-models.ensures c.bulk_all.ensures.cause
