-- What is made is so by the results that are asked for.
use Rattle.std.proofs.Common.{subst, sym}
use Rattle.driver_attempt.specs.Moment.{moment_of}
use Rattle.call_runs.specs.CallMaking.{BulkHasCause, MakesBulkCall}
use Rattle.call_runs.proofs.making.answer_bulk.Goals as goal

pub returns-then-verbose-clause-makes : goal.returns-then-verbose-clause-makes
returns-then-verbose-clause-makes g c =
    let before = moment_of g.S.SessionStore.tells g.L.Link.tells g.K.Clock.tells g.R.Rng.stream c.args.client.now c.args.outside.now in
    let now = moment_of g.S.SessionStore.tells g.L.Link.tells g.K.Clock.tells g.R.Rng.stream c.answer_verbose.new.client c.answer_verbose.new.outside in
    subst (λ v. MakesBulkCall before now c.args.models.now c.args.options.now v c.args.outside.now.call c.answer_verbose.result) (sym c.if-verbose.true) c.answer_verbose.ensures.makes

pub returns-then-verbose-clause-cause : goal.returns-then-verbose-clause-cause
returns-then-verbose-clause-cause g c =
    let before = moment_of g.S.SessionStore.tells g.L.Link.tells g.K.Clock.tells g.R.Rng.stream c.args.client.now c.args.outside.now in
    let now = moment_of g.S.SessionStore.tells g.L.Link.tells g.K.Clock.tells g.R.Rng.stream c.answer_verbose.new.client c.answer_verbose.new.outside in
    subst (λ v. BulkHasCause before now c.args.models.now c.args.options.now v c.args.outside.now.call c.answer_verbose.result) (sym c.if-verbose.true) c.answer_verbose.ensures.cause

pub returns-else-verbose-clause-makes : goal.returns-else-verbose-clause-makes
returns-else-verbose-clause-makes g c =
    let before = moment_of g.S.SessionStore.tells g.L.Link.tells g.K.Clock.tells g.R.Rng.stream c.args.client.now c.args.outside.now in
    let now = moment_of g.S.SessionStore.tells g.L.Link.tells g.K.Clock.tells g.R.Rng.stream c.answer_summary.new.client c.answer_summary.new.outside in
    subst (λ v. MakesBulkCall before now c.args.models.now c.args.options.now v c.args.outside.now.call c.answer_summary.result) (sym c.if-verbose.false) c.answer_summary.ensures.makes

pub returns-else-verbose-clause-cause : goal.returns-else-verbose-clause-cause
returns-else-verbose-clause-cause g c =
    let before = moment_of g.S.SessionStore.tells g.L.Link.tells g.K.Clock.tells g.R.Rng.stream c.args.client.now c.args.outside.now in
    let now = moment_of g.S.SessionStore.tells g.L.Link.tells g.K.Clock.tells g.R.Rng.stream c.answer_summary.new.client c.answer_summary.new.outside in
    subst (λ v. BulkHasCause before now c.args.models.now c.args.options.now v c.args.outside.now.call c.answer_summary.result) (sym c.if-verbose.false) c.answer_summary.ensures.cause
