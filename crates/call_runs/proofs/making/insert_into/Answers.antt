-- The documents are inserted into a copy of the collection.
use Rattle.std.proofs.Common.{subst}
use Rattle.driver_ops.specs.Targets.{in_collection}
use Rattle.driver_attempt.specs.Moment.{moment_of}
use Rattle.many_actions.specs.ManyCalls.{MakesMany, ManyCaused}
use Rattle.many_actions.proofs.ManyParts.{many_refused_exit, many_unmade_exit}
use Rattle.bulk_actions.proofs.MemoryAlone.{exit_told}
use Rattle.call_runs.proofs.making.insert_into.Goals as goal

pub returns-in_err-try_clone-clause-makes : goal.returns-in_err-try_clone-clause-makes
returns-in_err-try_clone-clause-makes g c =
    let before = moment_of g.S.SessionStore.tells g.L.Link.tells g.K.Clock.tells g.R.Rng.stream c.args.client.now c.args.outside.now in
    many_unmade_exit (in_collection c.args.namespace.now) c.args.documents.now c.args.options.now c.args.outside.now.call before c.from_residual.result c.from_residual.ensures.1

pub returns-in_err-try_clone-clause-cause : goal.returns-in_err-try_clone-clause-cause
returns-in_err-try_clone-clause-cause g c =
    let before = moment_of g.S.SessionStore.tells g.L.Link.tells g.K.Clock.tells g.R.Rng.stream c.args.client.now c.args.outside.now in
    many_refused_exit (in_collection c.args.namespace.now) c.args.documents.now c.args.options.now c.args.outside.now.call before c.from_residual.result c.from_residual.ensures.1

-- there was no memory for the copy
pub returns-in_err-try_clone-clause-memory : goal.returns-in_err-try_clone-clause-memory
returns-in_err-try_clone-clause-memory g c = exit_told c.from_residual.result c.from_residual.ensures.1

pub returns-clause-makes : goal.returns-clause-makes
returns-clause-makes g c =
    let before = moment_of g.S.SessionStore.tells g.L.Link.tells g.K.Clock.tells g.R.Rng.stream c.args.client.now c.args.outside.now in
    let now = moment_of g.S.SessionStore.tells g.L.Link.tells g.K.Clock.tells g.R.Rng.stream c.insert_all.new.client c.insert_all.new.outside in
    subst (λ d. MakesMany before now (in_collection c.args.namespace.now) d c.args.options.now c.args.outside.now.call c.insert_all.result) c.as_slice-documents.ensures
    (subst (λ n. MakesMany before now (in_collection n) c.as_slice-documents.result.now c.args.options.now c.args.outside.now.call c.insert_all.result) c.in_ok-try_clone.ensures.same c.insert_all.ensures.makes)

pub returns-clause-cause : goal.returns-clause-cause
returns-clause-cause g c =
    let before = moment_of g.S.SessionStore.tells g.L.Link.tells g.K.Clock.tells g.R.Rng.stream c.args.client.now c.args.outside.now in
    let now = moment_of g.S.SessionStore.tells g.L.Link.tells g.K.Clock.tells g.R.Rng.stream c.insert_all.new.client c.insert_all.new.outside in
    subst (λ d. ManyCaused before now (in_collection c.args.namespace.now) d c.args.options.now c.args.outside.now.call c.insert_all.result) c.as_slice-documents.ensures
    (subst (λ n. ManyCaused before now (in_collection n) c.as_slice-documents.result.now c.args.options.now c.args.outside.now.call c.insert_all.result) c.in_ok-try_clone.ensures.same c.insert_all.ensures.cause)
