-- An insert of many documents is made, keeps what stands, lists what went in, is cut into the fewest batches, and ends well where all is gentle.
use Rattle.std.proofs.Common.{subst}
use Rattle.driver_ops.specs.declared.target.OperationTarget.TheVariants as target
use Rattle.driver_attempt.specs.Moment.{moment_of}
use Rattle.many_actions.specs.ManyCalls.{MakesMany, ManyCaused}
use Rattle.many_actions.proofs.ManyCalls.{many_complete, many_fewest, many_keeps, many_listed, many_raises, many_truly}
use Rattle.many_actions.proofs.insert_many.InsertMany.run.Goals as goal

pub returns-clause-makes : goal.returns-clause-makes
returns-clause-makes g c =
    let before = moment_of g.S.SessionStore.tells g.L.Link.tells g.K.Clock.tells g.R.Rng.stream c.args.client.now c.args.outside.now in
    let now = moment_of g.S.SessionStore.tells g.L.Link.tells g.K.Clock.tells g.R.Rng.stream c.insert_all.new.client c.insert_all.new.outside in
    subst (λ d. MakesMany before now (target.Collection c.args.self.collection) d c.args.self.options c.args.outside.now.call c.insert_all.result) c.as_slice-given.ensures c.insert_all.ensures.makes

pub returns-clause-cause : goal.returns-clause-cause
returns-clause-cause g c =
    let before = moment_of g.S.SessionStore.tells g.L.Link.tells g.K.Clock.tells g.R.Rng.stream c.args.client.now c.args.outside.now in
    let now = moment_of g.S.SessionStore.tells g.L.Link.tells g.K.Clock.tells g.R.Rng.stream c.insert_all.new.client c.insert_all.new.outside in
    subst (λ d. ManyCaused before now (target.Collection c.args.self.collection) d c.args.self.options c.args.outside.now.call c.insert_all.result) c.as_slice-given.ensures c.insert_all.ensures.cause

pub returns-clause-keeps : goal.returns-clause-keeps
returns-clause-keeps g c =
    let before = moment_of g.S.SessionStore.tells g.L.Link.tells g.K.Clock.tells g.R.Rng.stream c.args.client.now c.args.outside.now in
    let now = moment_of g.S.SessionStore.tells g.L.Link.tells g.K.Clock.tells g.R.Rng.stream c.insert_all.new.client c.insert_all.new.outside in
    many_keeps before now (target.Collection c.args.self.collection) c.args.self.documents c.args.self.options c.args.outside.now.call c.insert_all.result (returns-clause-makes g c)

pub returns-clause-listed : goal.returns-clause-listed
returns-clause-listed g c =
    let before = moment_of g.S.SessionStore.tells g.L.Link.tells g.K.Clock.tells g.R.Rng.stream c.args.client.now c.args.outside.now in
    let now = moment_of g.S.SessionStore.tells g.L.Link.tells g.K.Clock.tells g.R.Rng.stream c.insert_all.new.client c.insert_all.new.outside in
    many_listed before now (target.Collection c.args.self.collection) c.args.self.documents c.args.self.options c.args.outside.now.call c.insert_all.result (returns-clause-makes g c)

pub returns-clause-told : goal.returns-clause-told
returns-clause-told g c =
    let before = moment_of g.S.SessionStore.tells g.L.Link.tells g.K.Clock.tells g.R.Rng.stream c.args.client.now c.args.outside.now in
    let now = moment_of g.S.SessionStore.tells g.L.Link.tells g.K.Clock.tells g.R.Rng.stream c.insert_all.new.client c.insert_all.new.outside in
    many_truly before now (target.Collection c.args.self.collection) c.args.self.documents c.args.self.options c.args.outside.now.call c.insert_all.result

pub returns-clause-fewest : goal.returns-clause-fewest
returns-clause-fewest g c =
    let before = moment_of g.S.SessionStore.tells g.L.Link.tells g.K.Clock.tells g.R.Rng.stream c.args.client.now c.args.outside.now in
    let now = moment_of g.S.SessionStore.tells g.L.Link.tells g.K.Clock.tells g.R.Rng.stream c.insert_all.new.client c.insert_all.new.outside in
    many_fewest before now (target.Collection c.args.self.collection) c.args.self.documents c.args.self.options c.args.outside.now.call c.insert_all.result (returns-clause-makes g c)

pub returns-clause-complete : goal.returns-clause-complete
returns-clause-complete g c =
    let before = moment_of g.S.SessionStore.tells g.L.Link.tells g.K.Clock.tells g.R.Rng.stream c.args.client.now c.args.outside.now in
    let now = moment_of g.S.SessionStore.tells g.L.Link.tells g.K.Clock.tells g.R.Rng.stream c.insert_all.new.client c.insert_all.new.outside in
    many_complete before now (target.Collection c.args.self.collection) c.args.self.documents c.args.self.options c.args.outside.now.call c.insert_all.result (returns-clause-makes g c)

pub returns-clause-raises : goal.returns-clause-raises
returns-clause-raises g c =
    let before = moment_of g.S.SessionStore.tells g.L.Link.tells g.K.Clock.tells g.R.Rng.stream c.args.client.now c.args.outside.now in
    let now = moment_of g.S.SessionStore.tells g.L.Link.tells g.K.Clock.tells g.R.Rng.stream c.insert_all.new.client c.insert_all.new.outside in
    many_raises before now (target.Collection c.args.self.collection) c.args.self.documents c.args.self.options c.args.outside.now.call c.insert_all.result (returns-clause-makes g c)

pub returns-clause-memory : goal.returns-clause-memory
returns-clause-memory g c = c.insert_all.ensures.memory
