-- The delete is refused for its input, or its operation is run.
use Rattle.std.proofs.Common.{refl, inr, subst}
use Rattle.std.specs.Prelude.{Ok, Err}
use Rattle.std.proofs.lemmas.Result.{err_from_is_err_and}
use Rattle.driver_attempt.specs.Moment.{moment_of}
use Rattle.driver_actions.proofs.Causes.{caused_exit, caused_input, made_caused}
use Rattle.driver_actions.proofs.Parts.{unmade_exit, unmade_input}
use Rattle.driver_actions.proofs.CallWrites.WriteOperations.{delete_has, delete_made}
use Rattle.driver_actions.proofs.delete.delete.Goals as goal
use Rattle.driver_inputs.specs.Forms.{deletes}
use Rattle.driver_inputs.specs.Inputs.{IsAccepted, TellsInput}

pub returns-in-Some-clause-makes : goal.returns-in-Some-clause-makes
returns-in-Some-clause-makes g c =
    let told = subst (λ o. TellsInput (deletes c.args.write.now.namespace c.args.write.now.filter c.args.multi o) c.in-Some.error) c.get-options.ensures c.in-Some.ensures in
    let before = moment_of g.S.SessionStore.tells g.L.Link.tells g.K.Clock.tells g.R.Rng.stream c.args.client.now c.args.outside.now in
    unmade_input before (deletes c.args.write.now.namespace c.args.write.now.filter c.args.multi c.args.write.now.options) c.args.place c.in-Some.error told

pub returns-in-Some-clause-cause : goal.returns-in-Some-clause-cause
returns-in-Some-clause-cause g c =
    let told = subst (λ o. TellsInput (deletes c.args.write.now.namespace c.args.write.now.filter c.args.multi o) c.in-Some.error) c.get-options.ensures c.in-Some.ensures in
    let before = moment_of g.S.SessionStore.tells g.L.Link.tells g.K.Clock.tells g.R.Rng.stream c.args.client.now c.args.outside.now in
    caused_input before (deletes c.args.write.now.namespace c.args.write.now.filter c.args.multi c.args.write.now.options) c.in-Some.error told

pub returns-in_err-op-clause-makes : goal.returns-in_err-op-clause-makes
returns-in_err-op-clause-makes g c =
    let before = moment_of g.S.SessionStore.tells g.L.Link.tells g.K.Clock.tells g.R.Rng.stream c.args.client.now c.args.outside.now in
    unmade_exit before (deletes c.args.write.now.namespace c.args.write.now.filter c.args.multi c.args.write.now.options) c.args.place c.from_residual.result c.from_residual.ensures.1

pub returns-in_err-op-clause-cause : goal.returns-in_err-op-clause-cause
returns-in_err-op-clause-cause g c =
    let before = moment_of g.S.SessionStore.tells g.L.Link.tells g.K.Clock.tells g.R.Rng.stream c.args.client.now c.args.outside.now in
    caused_exit before (deletes c.args.write.now.namespace c.args.write.now.filter c.args.multi c.args.write.now.options) c.from_residual.result c.from_residual.ensures.1

pub run_single-requires-clause-bodies : goal.run_single-requires-clause-bodies
run_single-requires-clause-bodies g c = delete_has c.args.write.now.namespace c.args.write.now.filter c.args.multi c.args.write.now.options c.args.place c.in_ok-op.ensures.target c.in_ok-op.ensures.filter c.in_ok-op.ensures.multi c.in_ok-op.ensures.options

pub returns-in_err-output-clause-makes : goal.returns-in_err-output-clause-makes
returns-in_err-output-clause-makes g c =
    let accepted = subst (λ o. IsAccepted (deletes c.args.write.now.namespace c.args.write.now.filter c.args.multi o)) c.get-options.ensures c.in_default.ensures in
    let before = moment_of g.S.SessionStore.tells g.L.Link.tells g.K.Clock.tells g.R.Rng.stream c.args.client.now c.args.outside.now in
    let now = moment_of g.S.SessionStore.tells g.L.Link.tells g.K.Clock.tells g.R.Rng.stream c.run_single.new.client c.run_single.new.outside in
    let p = err_from_is_err_and c.from_residual-in_err-output.result c.from_residual-in_err-output.ensures.1 in
    rw (p.1, p.2) (inr (delete_made c.args.write.now.namespace c.args.write.now.filter c.args.multi c.args.write.now.options c.args.place c.in_ok-op.ensures.target c.in_ok-op.ensures.filter c.in_ok-op.ensures.multi c.in_ok-op.ensures.options accepted before now (Err _) (Err _) c.in_err-output.ensures.runs refl))

pub returns-in_err-output-clause-cause : goal.returns-in_err-output-clause-cause
returns-in_err-output-clause-cause g c =
    let accepted = subst (λ o. IsAccepted (deletes c.args.write.now.namespace c.args.write.now.filter c.args.multi o)) c.get-options.ensures c.in_default.ensures in
    let before = moment_of g.S.SessionStore.tells g.L.Link.tells g.K.Clock.tells g.R.Rng.stream c.args.client.now c.args.outside.now in
    let now = moment_of g.S.SessionStore.tells g.L.Link.tells g.K.Clock.tells g.R.Rng.stream c.run_single.new.client c.run_single.new.outside in
    let p = err_from_is_err_and c.from_residual-in_err-output.result c.from_residual-in_err-output.ensures.1 in
    rw (p.1, p.2) (made_caused before now (deletes c.args.write.now.namespace c.args.write.now.filter c.args.multi c.args.write.now.options) c.args.place (Err _) (delete_made c.args.write.now.namespace c.args.write.now.filter c.args.multi c.args.write.now.options c.args.place c.in_ok-op.ensures.target c.in_ok-op.ensures.filter c.in_ok-op.ensures.multi c.in_ok-op.ensures.options accepted before now (Err _) (Err _) c.in_err-output.ensures.runs refl))

pub returns-clause-makes : goal.returns-clause-makes
returns-clause-makes g c =
    let accepted = subst (λ o. IsAccepted (deletes c.args.write.now.namespace c.args.write.now.filter c.args.multi o)) c.get-options.ensures c.in_default.ensures in
    let before = moment_of g.S.SessionStore.tells g.L.Link.tells g.K.Clock.tells g.R.Rng.stream c.args.client.now c.args.outside.now in
    let now = moment_of g.S.SessionStore.tells g.L.Link.tells g.K.Clock.tells g.R.Rng.stream c.run_single.new.client c.run_single.new.outside in
    delete_made c.args.write.now.namespace c.args.write.now.filter c.args.multi c.args.write.now.options c.args.place c.in_ok-op.ensures.target c.in_ok-op.ensures.filter c.in_ok-op.ensures.multi c.in_ok-op.ensures.options accepted before now (Ok _) (Ok _) c.in_ok-output.ensures.runs refl

pub returns-clause-cause : goal.returns-clause-cause
returns-clause-cause g c =
    let before = moment_of g.S.SessionStore.tells g.L.Link.tells g.K.Clock.tells g.R.Rng.stream c.args.client.now c.args.outside.now in
    let now = moment_of g.S.SessionStore.tells g.L.Link.tells g.K.Clock.tells g.R.Rng.stream c.run_single.new.client c.run_single.new.outside in
    made_caused before now (deletes c.args.write.now.namespace c.args.write.now.filter c.args.multi c.args.write.now.options) c.args.place (Ok _) (returns-clause-makes g c)
