-- A write keeps what stands, has its entry where it was done, and ends well where all is gentle.
use Rattle.driver_attempt.specs.Moment.{moment_of}
use Rattle.driver_actions.specs.SingleCalls.{first_place}
use Rattle.driver_actions.proofs.CallSends.{makes_raises}
use Rattle.driver_actions.proofs.Completeness.{single_completes}
use Rattle.driver_actions.proofs.CallWrites.Entries.{makes_entry, makes_keeps}
use Rattle.driver_actions.proofs.single.ClientSingleWrites.single.Goals as goal
use Rattle.driver_inputs.specs.Forms.{form_of}

pub returns-clause-keeps : goal.returns-clause-keeps
returns-clause-keeps g c =
    let before = moment_of g.S.SessionStore.tells g.L.Link.tells g.K.Clock.tells g.R.Rng.stream c.args.self.now c.args.outside.now in
    let now = moment_of g.S.SessionStore.tells g.L.Link.tells g.K.Clock.tells g.R.Rng.stream c.make_in.new.client c.make_in.new.outside in
    makes_keeps before now (first_place c.args.outside.now.call) (form_of c.args.write.now) c.make_in.result c.make_in.ensures.makes

pub returns-clause-entry : goal.returns-clause-entry
returns-clause-entry g c =
    let before = moment_of g.S.SessionStore.tells g.L.Link.tells g.K.Clock.tells g.R.Rng.stream c.args.self.now c.args.outside.now in
    let now = moment_of g.S.SessionStore.tells g.L.Link.tells g.K.Clock.tells g.R.Rng.stream c.make_in.new.client c.make_in.new.outside in
    makes_entry before now (first_place c.args.outside.now.call) (form_of c.args.write.now) c.make_in.result c.make_in.ensures.makes

pub returns-clause-complete : goal.returns-clause-complete
returns-clause-complete g c =
    let before = moment_of g.S.SessionStore.tells g.L.Link.tells g.K.Clock.tells g.R.Rng.stream c.args.self.now c.args.outside.now in
    let now = moment_of g.S.SessionStore.tells g.L.Link.tells g.K.Clock.tells g.R.Rng.stream c.make_in.new.client c.make_in.new.outside in
    single_completes (first_place c.args.outside.now.call) before now (form_of c.args.write.now) c.make_in.result c.make_in.ensures.makes

pub returns-clause-raises : goal.returns-clause-raises
returns-clause-raises g c =
    let before = moment_of g.S.SessionStore.tells g.L.Link.tells g.K.Clock.tells g.R.Rng.stream c.args.self.now c.args.outside.now in
    let now = moment_of g.S.SessionStore.tells g.L.Link.tells g.K.Clock.tells g.R.Rng.stream c.make_in.new.client c.make_in.new.outside in
    makes_raises before now (form_of c.args.write.now) (first_place c.args.outside.now.call) c.make_in.result c.make_in.ensures.makes
