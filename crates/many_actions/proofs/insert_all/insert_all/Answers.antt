-- The insert is refused for its input, or its batches are made once its documents have their ids.
use Rattle.std.proofs.Common.{subst, sym}
use Rattle.std.specs.Prelude.{Err}
use Rattle.std.proofs.lemmas.Result.{err_from_is_err_and}
use Rattle.driver_ops.specs.declared.target.OperationTarget.TheVariants as target
use Rattle.driver_ops.specs.Targets.{namespace_of}
use Rattle.driver_attempt.specs.Moment.{moment_of}
use Rattle.many_actions.specs.inside.Batches.{AreSpelled, BatchesMade}
use Rattle.many_actions.proofs.ManyParts.{many_caused, many_made, many_refused, many_short, many_unmade, owns_spelled}
use Rattle.many_actions.proofs.ManyRefusals.{own_many_memory}
use Rattle.many_actions.proofs.MemoryAlone.{many_input_told, one_told}
use Rattle.many_actions.proofs.insert_all.insert_all.Goals as goal

pub returns-in-Some-clause-makes : goal.returns-in-Some-clause-makes
returns-in-Some-clause-makes g c =
    let before = moment_of g.S.SessionStore.tells g.L.Link.tells g.K.Clock.tells g.R.Rng.stream c.args.client.now c.args.outside.now in
    many_unmade (target.Collection c.args.collection.now) c.args.documents.now c.args.options.now c.args.outside.now.call before _ c.in-Some.ensures

pub returns-in-Some-clause-cause : goal.returns-in-Some-clause-cause
returns-in-Some-clause-cause g c =
    let before = moment_of g.S.SessionStore.tells g.L.Link.tells g.K.Clock.tells g.R.Rng.stream c.args.client.now c.args.outside.now in
    many_refused (target.Collection c.args.collection.now) c.args.documents.now c.args.options.now c.args.outside.now.call before _ c.in-Some.ensures

pub returns-in-Some-clause-memory : goal.returns-in-Some-clause-memory
returns-in-Some-clause-memory g c = many_input_told (namespace_of (target.Collection c.args.collection.now)) c.args.documents.now c.args.options.now _ c.in-Some.ensures

pub returns-in_err-own-clause-makes : goal.returns-in_err-own-clause-makes
returns-in_err-own-clause-makes g c =
    let before = moment_of g.S.SessionStore.tells g.L.Link.tells g.K.Clock.tells g.R.Rng.stream c.args.client.now c.args.outside.now in
    let mid = moment_of g.S.SessionStore.tells g.L.Link.tells g.K.Clock.tells g.R.Rng.stream c.own_documents.new.client c.args.outside.now in
    let within = target.Collection c.args.collection.now in
    let p = err_from_is_err_and c.from_residual.result c.from_residual.ensures.1 in
    rw (p.1, p.2) (many_short within c.args.documents.now c.args.options.now c.args.outside.now.call before mid.store mid.client.options c.in_err-own.ensures.options _ c.in_err-own.ensures.draws
    (own_many_memory (namespace_of within) c.args.documents.now c.args.options.now _ c.in_default.ensures c.in_err-own.ensures.refusal))

pub returns-in_err-own-clause-cause : goal.returns-in_err-own-clause-cause
returns-in_err-own-clause-cause g c =
    let before = moment_of g.S.SessionStore.tells g.L.Link.tells g.K.Clock.tells g.R.Rng.stream c.args.client.now c.args.outside.now in
    let mid = moment_of g.S.SessionStore.tells g.L.Link.tells g.K.Clock.tells g.R.Rng.stream c.own_documents.new.client c.args.outside.now in
    let within = target.Collection c.args.collection.now in
    let p = err_from_is_err_and c.from_residual.result c.from_residual.ensures.1 in
    rw (p.1, p.2) (many_caused within c.args.documents.now c.args.options.now c.args.outside.now.call before mid (Err _) c.in_default.ensures
    (many_short within c.args.documents.now c.args.options.now c.args.outside.now.call before mid.store mid.client.options c.in_err-own.ensures.options _ c.in_err-own.ensures.draws
    (own_many_memory (namespace_of within) c.args.documents.now c.args.options.now _ c.in_default.ensures c.in_err-own.ensures.refusal)))

pub returns-in_err-own-clause-memory : goal.returns-in_err-own-clause-memory
returns-in_err-own-clause-memory g c =
    let p = err_from_is_err_and c.from_residual.result c.from_residual.ensures.1 in
    rw (p.1, p.2) (one_told c.args.documents.now _ c.in_err-own.ensures.refusal)

pub make_batches-requires : goal.make_batches-requires
make_batches-requires g c = record { spelled = subst AreSpelled (sym c.as_slice.ensures) (owns_spelled c.in_ok-own.ensures.owns) }

pub returns-clause-makes : goal.returns-clause-makes
returns-clause-makes g c =
    let before = moment_of g.S.SessionStore.tells g.L.Link.tells g.K.Clock.tells g.R.Rng.stream c.args.client.now c.args.outside.now in
    let mid = moment_of g.S.SessionStore.tells g.L.Link.tells g.K.Clock.tells g.R.Rng.stream c.own_documents.new.client c.args.outside.now in
    let now = moment_of g.S.SessionStore.tells g.L.Link.tells g.K.Clock.tells g.R.Rng.stream c.make_batches.new.client c.make_batches.new.outside in
    let within = target.Collection c.args.collection.now in
    let made = subst (λ own. BatchesMade within c.args.options.now c.args.outside.now.call own mid now c.make_batches.result) c.as_slice.ensures c.make_batches.ensures.makes in
    many_made within c.args.documents.now c.args.options.now c.args.outside.now.call before mid.store mid.client.options c.in_ok-own.ensures.options c.in_ok-own.own c.in_ok-own.ensures.owns c.in_default.ensures now c.make_batches.result made

pub returns-clause-cause : goal.returns-clause-cause
returns-clause-cause g c =
    let before = moment_of g.S.SessionStore.tells g.L.Link.tells g.K.Clock.tells g.R.Rng.stream c.args.client.now c.args.outside.now in
    let now = moment_of g.S.SessionStore.tells g.L.Link.tells g.K.Clock.tells g.R.Rng.stream c.make_batches.new.client c.make_batches.new.outside in
    many_caused (target.Collection c.args.collection.now) c.args.documents.now c.args.options.now c.args.outside.now.call before now c.make_batches.result c.in_default.ensures (returns-clause-makes g c)

pub returns-clause-memory : goal.returns-clause-memory
returns-clause-memory g c = c.make_batches.ensures.memory
