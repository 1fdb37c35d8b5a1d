-- The findAndModify is refused for its input, or its operation is run.
use Rattle.std.proofs.Common.{◌∙◌, refl, inl, inr}
use Rattle.std.specs.Prelude.{Ok, Err}
use Rattle.std.proofs.lemmas.Result.{err_from_is_err_and}
use Rattle.driver_attempt.specs.Moment.{moment_of}
use Rattle.driver_actions.proofs.Causes.{caused_input, made_caused}
use Rattle.driver_actions.proofs.Parts.{unmade_early, unmade_input}
use Rattle.driver_actions.proofs.CallWrites.WriteOperations.{find_has, find_made}
use Rattle.driver_actions.proofs.find.find_and_modify.Goals as goal
use Rattle.driver_inputs.specs.Forms.{finds}

pub returns-in-Some-clause-makes : goal.returns-in-Some-clause-makes
returns-in-Some-clause-makes g c =
    let before = moment_of g.S.SessionStore.tells g.L.Link.tells g.K.Clock.tells g.R.Rng.stream c.args.client.now c.args.outside.now in
    unmade_input before (finds c.args.namespace.now c.args.filter.now c.args.modification c.args.options) c.args.place _ c.in-Some.ensures

pub returns-in-Some-clause-cause : goal.returns-in-Some-clause-cause
returns-in-Some-clause-cause g c =
    let before = moment_of g.S.SessionStore.tells g.L.Link.tells g.K.Clock.tells g.R.Rng.stream c.args.client.now c.args.outside.now in
    caused_input before (finds c.args.namespace.now c.args.filter.now c.args.modification c.args.options) _ c.in-Some.ensures

pub returns-in-Err-clause-makes : goal.returns-in-Err-clause-makes
returns-in-Err-clause-makes g c =
    let before = moment_of g.S.SessionStore.tells g.L.Link.tells g.K.Clock.tells g.R.Rng.stream c.args.client.now c.args.outside.now in
    unmade_early before (finds c.args.namespace.now c.args.filter.now c.args.modification c.args.options) c.args.place _ c.from.ensures

pub returns-in-Err-clause-cause : goal.returns-in-Err-clause-cause
returns-in-Err-clause-cause g c =
    let before = moment_of g.S.SessionStore.tells g.L.Link.tells g.K.Clock.tells g.R.Rng.stream c.args.client.now c.args.outside.now in
    caused_input before (finds c.args.namespace.now c.args.filter.now c.args.modification c.args.options) _ (inl c.from.ensures)

pub run_single-requires-clause-bodies : goal.run_single-requires-clause-bodies
run_single-requires-clause-bodies g c = find_has c.args.namespace.now c.args.filter.now c.args.modification c.args.options c.args.place (c.new-find.ensures.target ∙ c.in-Ok.ensures.0) (c.new-find.ensures.filter ∙ c.in-Ok.ensures.1) c.new-find.ensures.modification c.new-find.ensures.options

pub returns-in_err-output-clause-makes : goal.returns-in_err-output-clause-makes
returns-in_err-output-clause-makes g c =
    let before = moment_of g.S.SessionStore.tells g.L.Link.tells g.K.Clock.tells g.R.Rng.stream c.args.client.now c.args.outside.now in
    let now = moment_of g.S.SessionStore.tells g.L.Link.tells g.K.Clock.tells g.R.Rng.stream c.run_single.new.client c.run_single.new.outside in
    let p = err_from_is_err_and c.from_residual.result c.from_residual.ensures.1 in
    rw (p.1, p.2) (inr (find_made c.args.namespace.now c.args.filter.now c.args.modification c.args.options c.args.place (c.new-find.ensures.target ∙ c.in-Ok.ensures.0) (c.new-find.ensures.filter ∙ c.in-Ok.ensures.1) c.new-find.ensures.modification c.new-find.ensures.options c.in_default.ensures before now (Err _) (Err _) c.in_err-output.ensures.runs refl))

pub returns-in_err-output-clause-cause : goal.returns-in_err-output-clause-cause
returns-in_err-output-clause-cause g c =
    let before = moment_of g.S.SessionStore.tells g.L.Link.tells g.K.Clock.tells g.R.Rng.stream c.args.client.now c.args.outside.now in
    let now = moment_of g.S.SessionStore.tells g.L.Link.tells g.K.Clock.tells g.R.Rng.stream c.run_single.new.client c.run_single.new.outside in
    let p = err_from_is_err_and c.from_residual.result c.from_residual.ensures.1 in
    rw (p.1, p.2) (made_caused before now (finds c.args.namespace.now c.args.filter.now c.args.modification c.args.options) c.args.place (Err _) (find_made c.args.namespace.now c.args.filter.now c.args.modification c.args.options c.args.place (c.new-find.ensures.target ∙ c.in-Ok.ensures.0) (c.new-find.ensures.filter ∙ c.in-Ok.ensures.1) c.new-find.ensures.modification c.new-find.ensures.options c.in_default.ensures before now (Err _) (Err _) c.in_err-output.ensures.runs refl))

pub returns-clause-makes : goal.returns-clause-makes
returns-clause-makes g c =
    let before = moment_of g.S.SessionStore.tells g.L.Link.tells g.K.Clock.tells g.R.Rng.stream c.args.client.now c.args.outside.now in
    let now = moment_of g.S.SessionStore.tells g.L.Link.tells g.K.Clock.tells g.R.Rng.stream c.run_single.new.client c.run_single.new.outside in
    find_made c.args.namespace.now c.args.filter.now c.args.modification c.args.options c.args.place (c.new-find.ensures.target ∙ c.in-Ok.ensures.0) (c.new-find.ensures.filter ∙ c.in-Ok.ensures.1) c.new-find.ensures.modification c.new-find.ensures.options c.in_default.ensures before now (Ok _) (Ok _) c.in_ok-output.ensures.runs refl

pub returns-clause-cause : goal.returns-clause-cause
returns-clause-cause g c =
    let before = moment_of g.S.SessionStore.tells g.L.Link.tells g.K.Clock.tells g.R.Rng.stream c.args.client.now c.args.outside.now in
    let now = moment_of g.S.SessionStore.tells g.L.Link.tells g.K.Clock.tells g.R.Rng.stream c.run_single.new.client c.run_single.new.outside in
    made_caused before now (finds c.args.namespace.now c.args.filter.now c.args.modification c.args.options) c.args.place (Ok _) (returns-clause-makes g c)
