-- Where there is no memory for a copy nothing was drawn or asked.
use Rattle.driver_options.specs.declared.updates.Modification.TheVariants.{Update}
use Rattle.driver_options.specs.declared.updates.UpdateOrReplace.TheVariants.{Replacement}
use Rattle.driver_options.specs.FindOptions.{options_of_replace}
use Rattle.driver_attempt.specs.Moment.{moment_of}
use Rattle.driver_actions.proofs.Causes.{caused_exit}
use Rattle.driver_actions.proofs.Parts.{unmade_exit}
use Rattle.driver_actions.proofs.find.find_one_and_replace.Goals as goal
use Rattle.driver_inputs.specs.Forms.{finds}

pub returns-in_err-given-clause-makes : goal.returns-in_err-given-clause-makes
returns-in_err-given-clause-makes g c =
    let before = moment_of g.S.SessionStore.tells g.L.Link.tells g.K.Clock.tells g.R.Rng.stream c.args.client.now c.args.outside.now in
    unmade_exit before (finds c.args.write.now.namespace c.args.write.now.filter (Update (Replacement c.args.write.now.replacement)) (options_of_replace c.args.write.now.options)) c.args.place c.from_residual-in_err-given.result c.from_residual-in_err-given.ensures.1

pub returns-in_err-given-clause-cause : goal.returns-in_err-given-clause-cause
returns-in_err-given-clause-cause g c =
    let before = moment_of g.S.SessionStore.tells g.L.Link.tells g.K.Clock.tells g.R.Rng.stream c.args.client.now c.args.outside.now in
    caused_exit before (finds c.args.write.now.namespace c.args.write.now.filter (Update (Replacement c.args.write.now.replacement)) (options_of_replace c.args.write.now.options)) c.from_residual-in_err-given.result c.from_residual-in_err-given.ensures.1

pub returns-in_err-replacement-clause-makes : goal.returns-in_err-replacement-clause-makes
returns-in_err-replacement-clause-makes g c =
    let before = moment_of g.S.SessionStore.tells g.L.Link.tells g.K.Clock.tells g.R.Rng.stream c.args.client.now c.args.outside.now in
    unmade_exit before (finds c.args.write.now.namespace c.args.write.now.filter (Update (Replacement c.args.write.now.replacement)) (options_of_replace c.args.write.now.options)) c.args.place c.from_residual.result c.from_residual.ensures.1

pub returns-in_err-replacement-clause-cause : goal.returns-in_err-replacement-clause-cause
returns-in_err-replacement-clause-cause g c =
    let before = moment_of g.S.SessionStore.tells g.L.Link.tells g.K.Clock.tells g.R.Rng.stream c.args.client.now c.args.outside.now in
    caused_exit before (finds c.args.write.now.namespace c.args.write.now.filter (Update (Replacement c.args.write.now.replacement)) (options_of_replace c.args.write.now.options)) c.from_residual.result c.from_residual.ensures.1
