-- A bulk write is made, keeps what stands, tells what the log and the replies spell, is cut into the fewest batches, takes a number for each, and is complete.
use Rattle.driver_attempt.specs.Moment.{moment_of}
use Rattle.bulk_actions.proofs.BulkCompleteness.{bulk_complete}
use Rattle.bulk_actions.proofs.BulkKept.{bulk_keeps}
use Rattle.bulk_actions.proofs.BulkNumbers.{bulk_raises}
use Rattle.bulk_actions.proofs.BulkTold.{bulk_logged}
use Rattle.bulk_actions.proofs.ErrorsSpelled.{bulk_errors}
use Rattle.bulk_actions.proofs.PartlyTold.{bulk_partly}
use Rattle.bulk_actions.proofs.FewestBulk.{bulk_fewest}
use Rattle.bulk_actions.proofs.bulk_write.BulkWrite+S+T.run.Goals as goal

pub returns-clause-keeps : goal.returns-clause-keeps
returns-clause-keeps g c =
    let before = moment_of g.S.SessionStore.tells g.L.Link.tells g.K.Clock.tells g.R.Rng.stream c.args.self.client.now c.args.outside.now in
    let now = moment_of g.S.SessionStore.tells g.L.Link.tells g.K.Clock.tells g.R.Rng.stream c.bulk_all-result.new.client c.bulk_all-result.new.outside in
    bulk_keeps g.T.BulkWriteResult.tells before now c.args.self.models.now c.args.self.options c.args.outside.now.call c.bulk_all-result.result c.bulk_all-result.ensures.makes

pub returns-clause-fewest : goal.returns-clause-fewest
returns-clause-fewest g c =
    let before = moment_of g.S.SessionStore.tells g.L.Link.tells g.K.Clock.tells g.R.Rng.stream c.args.self.client.now c.args.outside.now in
    let now = moment_of g.S.SessionStore.tells g.L.Link.tells g.K.Clock.tells g.R.Rng.stream c.bulk_all-result.new.client c.bulk_all-result.new.outside in
    bulk_fewest g.T.BulkWriteResult.tells before now c.args.self.models.now c.args.self.options c.args.outside.now.call c.bulk_all-result.result c.bulk_all-result.ensures.makes

pub returns-clause-raises : goal.returns-clause-raises
returns-clause-raises g c =
    let before = moment_of g.S.SessionStore.tells g.L.Link.tells g.K.Clock.tells g.R.Rng.stream c.args.self.client.now c.args.outside.now in
    let now = moment_of g.S.SessionStore.tells g.L.Link.tells g.K.Clock.tells g.R.Rng.stream c.bulk_all-result.new.client c.bulk_all-result.new.outside in
    bulk_raises g.T.BulkWriteResult.tells before now c.args.self.models.now c.args.self.options c.args.outside.now.call c.bulk_all-result.result c.bulk_all-result.ensures.makes

pub returns-clause-logged : goal.returns-clause-logged
returns-clause-logged g c =
    let before = moment_of g.S.SessionStore.tells g.L.Link.tells g.K.Clock.tells g.R.Rng.stream c.args.self.client.now c.args.outside.now in
    let now = moment_of g.S.SessionStore.tells g.L.Link.tells g.K.Clock.tells g.R.Rng.stream c.bulk_all-result.new.client c.bulk_all-result.new.outside in
    bulk_logged g.T.BulkWriteResult.tells g.met.T.BulkWriteResult.merges before now c.args.self.models.now c.args.self.options c.args.outside.now.call c.bulk_all-result.result c.bulk_all-result.ensures.makes

pub returns-clause-partial : goal.returns-clause-partial
returns-clause-partial g c =
    let before = moment_of g.S.SessionStore.tells g.L.Link.tells g.K.Clock.tells g.R.Rng.stream c.args.self.client.now c.args.outside.now in
    let now = moment_of g.S.SessionStore.tells g.L.Link.tells g.K.Clock.tells g.R.Rng.stream c.bulk_all-result.new.client c.bulk_all-result.new.outside in
    bulk_partly g.T.BulkWriteResult.tells g.met.T.BulkWriteResult.merges g.met.T.BulkWriteResult.makes_partial before now c.args.self.models.now c.args.self.options c.args.outside.now.call c.bulk_all-result.result
    c.bulk_all-result.ensures.makes

pub returns-clause-told : goal.returns-clause-told
returns-clause-told g c =
    let before = moment_of g.S.SessionStore.tells g.L.Link.tells g.K.Clock.tells g.R.Rng.stream c.args.self.client.now c.args.outside.now in
    let now = moment_of g.S.SessionStore.tells g.L.Link.tells g.K.Clock.tells g.R.Rng.stream c.bulk_all-result.new.client c.bulk_all-result.new.outside in
    bulk_errors g.T.BulkWriteResult.tells g.met.T.BulkWriteResult.merges g.met.T.BulkWriteResult.makes_partial before now c.args.self.models.now c.args.self.options c.args.outside.now.call c.bulk_all-result.result

pub returns-clause-complete : goal.returns-clause-complete
returns-clause-complete g c =
    let before = moment_of g.S.SessionStore.tells g.L.Link.tells g.K.Clock.tells g.R.Rng.stream c.args.self.client.now c.args.outside.now in
    let now = moment_of g.S.SessionStore.tells g.L.Link.tells g.K.Clock.tells g.R.Rng.stream c.bulk_all-result.new.client c.bulk_all-result.new.outside in
    bulk_complete g.T.BulkWriteResult.tells g.met.T.BulkWriteResult.merges before now c.args.self.models.now c.args.self.options c.args.outside.now.call c.bulk_all-result.result c.bulk_all-result.ensures.makes
