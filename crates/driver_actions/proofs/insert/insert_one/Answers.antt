-- The insert is refused for its input, or its operation is run once its document has an id.
use Rattle.std.proofs.Common.{◌∙◌, refl, ap, inr}
use Rattle.std.specs.Prelude.{Ok, Err}
use Rattle.std.proofs.lemmas.Result.{err_from_is_err_and}
use Rattle.driver_ops.specs.Targets.{in_collection}
use Rattle.driver_attempt.specs.Moment.{moment_of}
use Rattle.driver_actions.proofs.Causes.{caused_exit, caused_input, caused_memory, made_caused}
use Rattle.driver_actions.proofs.Parts.{insert_made, may_draw, unmade_exit, unmade_input, unmade_memory}
use Rattle.driver_actions.proofs.RefusedFirst.{own_memory}
use Rattle.driver_actions.proofs.CallWrites.WriteOperations.{insert_has, insert_ran}
use Rattle.driver_actions.proofs.insert.insert_one.Goals as goal
use Rattle.driver_inputs.specs.Forms.{inserts}

pub returns-in-Some-clause-makes : goal.returns-in-Some-clause-makes
returns-in-Some-clause-makes g c =
    let before = moment_of g.S.SessionStore.tells g.L.Link.tells g.K.Clock.tells g.R.Rng.stream c.args.client.now c.args.outside.now in
    unmade_input before (inserts c.args.write.now.namespace c.args.write.now.document c.args.write.now.options) c.args.place _ c.in-Some.ensures

pub returns-in-Some-clause-cause : goal.returns-in-Some-clause-cause
returns-in-Some-clause-cause g c =
    let before = moment_of g.S.SessionStore.tells g.L.Link.tells g.K.Clock.tells g.R.Rng.stream c.args.client.now c.args.outside.now in
    caused_input before (inserts c.args.write.now.namespace c.args.write.now.document c.args.write.now.options) _ c.in-Some.ensures

pub returns-in_err-namespace-clause-makes : goal.returns-in_err-namespace-clause-makes
returns-in_err-namespace-clause-makes g c =
    let before = moment_of g.S.SessionStore.tells g.L.Link.tells g.K.Clock.tells g.R.Rng.stream c.args.client.now c.args.outside.now in
    unmade_exit before (inserts c.args.write.now.namespace c.args.write.now.document c.args.write.now.options) c.args.place c.from_residual.result c.from_residual.ensures.1

pub returns-in_err-namespace-clause-cause : goal.returns-in_err-namespace-clause-cause
returns-in_err-namespace-clause-cause g c =
    let before = moment_of g.S.SessionStore.tells g.L.Link.tells g.K.Clock.tells g.R.Rng.stream c.args.client.now c.args.outside.now in
    caused_exit before (inserts c.args.write.now.namespace c.args.write.now.document c.args.write.now.options) c.from_residual.result c.from_residual.ensures.1

pub returns-in_err-own-clause-makes : goal.returns-in_err-own-clause-makes
returns-in_err-own-clause-makes g c =
    let before = moment_of g.S.SessionStore.tells g.L.Link.tells g.K.Clock.tells g.R.Rng.stream c.args.client.now c.args.outside.now in
    let mid = moment_of g.S.SessionStore.tells g.L.Link.tells g.K.Clock.tells g.R.Rng.stream c.own_document.new.client c.args.outside.now in
    let p = err_from_is_err_and c.from_residual-in_err-own.result c.from_residual-in_err-own.ensures.1 in
    rw (p.1, p.2) (unmade_memory before mid c.args.write.now.namespace c.args.write.now.document c.args.write.now.options c.args.place _
    (may_draw before c.args.write.now.document mid.store mid.client.options c.in_err-own.ensures.options c.in_err-own.ensures.draws c.in_err-own.ensures.unused)
    (own_memory c.args.write.now.namespace c.args.write.now.document c.args.write.now.options _ c.in_default.ensures.values c.in_err-own.ensures.refusal))

pub returns-in_err-own-clause-cause : goal.returns-in_err-own-clause-cause
returns-in_err-own-clause-cause g c =
    let before = moment_of g.S.SessionStore.tells g.L.Link.tells g.K.Clock.tells g.R.Rng.stream c.args.client.now c.args.outside.now in
    let mid = moment_of g.S.SessionStore.tells g.L.Link.tells g.K.Clock.tells g.R.Rng.stream c.own_document.new.client c.args.outside.now in
    let p = err_from_is_err_and c.from_residual-in_err-own.result c.from_residual-in_err-own.ensures.1 in
    rw (p.1, p.2) (caused_memory before mid refl (inserts c.args.write.now.namespace c.args.write.now.document c.args.write.now.options) _ c.in_default.ensures
    (own_memory c.args.write.now.namespace c.args.write.now.document c.args.write.now.options _ c.in_default.ensures.values c.in_err-own.ensures.refusal))

pub run_single-requires-clause-bodies : goal.run_single-requires-clause-bodies
run_single-requires-clause-bodies g c =
    let owns = c.in_ok-own.ensures.owns in
    insert_has c.args.write.now.namespace c.args.write.now.document owns.sent c.args.write.now.options c.args.place c.in_ok-own.own.document owns.spelled owns.document.found (c.new-insert.ensures.target ∙ ap (λ n. in_collection n) c.in_ok-namespace.ensures.same) c.new-insert.ensures.first c.new-insert.ensures.documents c.new-insert.ensures.options

pub returns-in_err-run_single-clause-makes : goal.returns-in_err-run_single-clause-makes
returns-in_err-run_single-clause-makes g c =
    let before = moment_of g.S.SessionStore.tells g.L.Link.tells g.K.Clock.tells g.R.Rng.stream c.args.client.now c.args.outside.now in
    let mid = moment_of g.S.SessionStore.tells g.L.Link.tells g.K.Clock.tells g.R.Rng.stream c.own_document.new.client c.args.outside.now in
    let now = moment_of g.S.SessionStore.tells g.L.Link.tells g.K.Clock.tells g.R.Rng.stream c.run_single.new.client c.run_single.new.outside in
    let owns = c.in_ok-own.ensures.owns in
    let p = err_from_is_err_and c.from_residual-in_err-run_single.result c.from_residual-in_err-run_single.ensures.1 in
    rw (p.1, p.2) (inr (insert_made before mid.store mid.client.options c.in_ok-own.ensures.options c.args.write.now.namespace c.args.write.now.document c.args.write.now.options c.args.place c.in_ok-own.own.document c.in_ok-own.own.answer owns c.in_default.ensures now (Err _) (Err _)
    (insert_ran c.args.write.now.namespace c.args.write.now.document owns.sent c.args.write.now.options c.args.place c.in_ok-own.own.document owns.spelled owns.document.found (c.new-insert.ensures.target ∙ ap (λ n. in_collection n) c.in_ok-namespace.ensures.same) c.new-insert.ensures.first c.new-insert.ensures.documents c.new-insert.ensures.options mid now (Err _) c.in_err-run_single.ensures.runs) refl))

pub returns-in_err-run_single-clause-cause : goal.returns-in_err-run_single-clause-cause
returns-in_err-run_single-clause-cause g c =
    let before = moment_of g.S.SessionStore.tells g.L.Link.tells g.K.Clock.tells g.R.Rng.stream c.args.client.now c.args.outside.now in
    let mid = moment_of g.S.SessionStore.tells g.L.Link.tells g.K.Clock.tells g.R.Rng.stream c.own_document.new.client c.args.outside.now in
    let now = moment_of g.S.SessionStore.tells g.L.Link.tells g.K.Clock.tells g.R.Rng.stream c.run_single.new.client c.run_single.new.outside in
    let owns = c.in_ok-own.ensures.owns in
    let p = err_from_is_err_and c.from_residual-in_err-run_single.result c.from_residual-in_err-run_single.ensures.1 in
    rw (p.1, p.2) (made_caused before now (inserts c.args.write.now.namespace c.args.write.now.document c.args.write.now.options) c.args.place (Err _) (insert_made before mid.store mid.client.options c.in_ok-own.ensures.options c.args.write.now.namespace c.args.write.now.document c.args.write.now.options c.args.place c.in_ok-own.own.document c.in_ok-own.own.answer owns c.in_default.ensures now (Err _) (Err _)
    (insert_ran c.args.write.now.namespace c.args.write.now.document owns.sent c.args.write.now.options c.args.place c.in_ok-own.own.document owns.spelled owns.document.found (c.new-insert.ensures.target ∙ ap (λ n. in_collection n) c.in_ok-namespace.ensures.same) c.new-insert.ensures.first c.new-insert.ensures.documents c.new-insert.ensures.options mid now (Err _) c.in_err-run_single.ensures.runs) refl))

pub returns-clause-makes : goal.returns-clause-makes
returns-clause-makes g c =
    let before = moment_of g.S.SessionStore.tells g.L.Link.tells g.K.Clock.tells g.R.Rng.stream c.args.client.now c.args.outside.now in
    let mid = moment_of g.S.SessionStore.tells g.L.Link.tells g.K.Clock.tells g.R.Rng.stream c.own_document.new.client c.args.outside.now in
    let now = moment_of g.S.SessionStore.tells g.L.Link.tells g.K.Clock.tells g.R.Rng.stream c.run_single.new.client c.run_single.new.outside in
    let owns = c.in_ok-own.ensures.owns in
    insert_made before mid.store mid.client.options c.in_ok-own.ensures.options c.args.write.now.namespace c.args.write.now.document c.args.write.now.options c.args.place c.in_ok-own.own.document c.in_ok-own.own.answer owns c.in_default.ensures now (Ok _) (Ok _)
    (insert_ran c.args.write.now.namespace c.args.write.now.document owns.sent c.args.write.now.options c.args.place c.in_ok-own.own.document owns.spelled owns.document.found (c.new-insert.ensures.target ∙ ap (λ n. in_collection n) c.in_ok-namespace.ensures.same) c.new-insert.ensures.first c.new-insert.ensures.documents c.new-insert.ensures.options mid now (Ok _) c.in_ok-run_single.ensures.runs) refl

pub returns-clause-cause : goal.returns-clause-cause
returns-clause-cause g c =
    let before = moment_of g.S.SessionStore.tells g.L.Link.tells g.K.Clock.tells g.R.Rng.stream c.args.client.now c.args.outside.now in
    let now = moment_of g.S.SessionStore.tells g.L.Link.tells g.K.Clock.tells g.R.Rng.stream c.run_single.new.client c.run_single.new.outside in
    made_caused before now (inserts c.args.write.now.namespace c.args.write.now.document c.args.write.now.options) c.args.place (Ok _) (returns-clause-makes g c)
