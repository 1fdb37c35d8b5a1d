-- A batch was made where its operation was executed.
use Rattle.std.proofs.Common.{drop, ap, ◌∙◌}
use Rattle.driver_ops.specs.Limits.{built_count}
use Rattle.driver_attempt.specs.Moment.{moment_of}
use Rattle.many_actions.proofs.BatchParts.{kept_client}
use Rattle.many_actions.proofs.BatchPlaces.{some_left}
use Rattle.bulk_actions.proofs.BulkParts.{bulk_made, first_within}
use Rattle.bulk_actions.proofs.OpsLeft.{left_bodies}
use Rattle.bulk_actions.proofs.bulk_batches.make_batch.Goals as goal

pub execute_operation-came-requires : goal.execute_operation-came-requires
execute_operation-came-requires g c =
    let op = c.in_ok-op.op in
    let made = c.in_ok-op.ensures in
    left_bodies g.T.BulkWriteResult.tells c.args.options.now op.options.now op.target op.first c.args.first c.args.outside.now.call c.args.own.now op.ops.now c.args.places.now c.requires.ops made.ops made.options c.requires.placed

pub returns-clause-made : goal.returns-clause-made
returns-clause-made g c =
    let before = moment_of g.S.SessionStore.tells g.L.Link.tells g.K.Clock.tells g.R.Rng.stream c.args.client.now c.args.outside.now in
    let now = moment_of g.S.SessionStore.tells g.L.Link.tells g.K.Clock.tells g.R.Rng.stream c.execute_operation-came.new.client c.execute_operation-came.new.outside in
    let op = c.in_ok-op.op in
    let made = c.in_ok-op.ensures in
    let of = c.execute_operation-came.ensures in
    bulk_made g.T.BulkWriteResult.tells g.met.T.BulkWriteResult.merges.one_kind c.args.outside.now.call op.target op.first c.args.first op.ops.now (drop c.args.first c.args.own.now) op.options.now c.args.options.now c.args.places.now before now
    _ _ _ _ c.execute_operation-came.result c.statements-count.result made.target (made.first ∙ first_within c.args.first c.args.own.now c.requires.within) made.ops made.options c.requires.placed
    c.new-sends.ensures (ap built_count made.fixed) (some_left c.args.first c.args.own.now c.requires.within)
    (record { executes = of.executes; one_command = of.one_command; caused = of.caused; ran = of.ran }) c.statements-count.ensures

pub returns-clause-options : goal.returns-clause-options
returns-clause-options g c = ap (λ client. client.options) (kept_client c.execute_operation-came.ensures.executes)

-- what its operation came to
pub returns-clause-memory : goal.returns-clause-memory
returns-clause-memory g c = c.execute_operation-came.ensures.memory
