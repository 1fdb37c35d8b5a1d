-- A batch was made where its operation was executed.
use Rattle.std.proofs.Common.{ap, ◌∙◌}
use Rattle.driver_ops.specs.declared.target.OperationTarget.TheVariants as target
use Rattle.driver_attempt.specs.Moment.{moment_of}
use Rattle.many_actions.proofs.BatchParts.{batch_has, batch_made, kept_client}
use Rattle.many_actions.proofs.batches.make_batch.Goals as goal

pub execute_operation-came-requires : goal.execute_operation-came-requires
execute_operation-came-requires g c =
    let made = c.new-insert.ensures in
    batch_has (made.target ∙ ap (λ k. target.Collection k) c.in_ok-copy.ensures) made.first made.documents made.options c.args.outside.now.call c.args.places.now c.requires.spelled c.requires.placed

pub returns-clause-made : goal.returns-clause-made
returns-clause-made g c =
    let before = moment_of g.S.SessionStore.tells g.L.Link.tells g.K.Clock.tells g.R.Rng.stream c.args.client.now c.args.outside.now in
    let now = moment_of g.S.SessionStore.tells g.L.Link.tells g.K.Clock.tells g.R.Rng.stream c.execute_operation-came.new.client c.execute_operation-came.new.outside in
    let made = c.new-insert.ensures in
    let of = c.execute_operation-came.ensures in
    batch_made (made.target ∙ ap (λ k. target.Collection k) c.in_ok-copy.ensures) made.first made.documents made.options c.args.outside.now.call c.args.places.now before now _ _ _ _ c.execute_operation-came.result c.statements-count.result
    c.requires.left c.requires.placed c.new-sends.ensures made.fixed (record { executes = of.executes; one_command = of.one_command; caused = of.caused; ran = of.ran }) c.statements-count.ensures

-- what its operation came to is handed on
pub returns-clause-memory : goal.returns-clause-memory
returns-clause-memory g c = c.execute_operation-came.ensures.memory

pub returns-clause-options : goal.returns-clause-options
returns-clause-options g c = ap (λ client. client.options) (kept_client c.execute_operation-came.ensures.executes)
