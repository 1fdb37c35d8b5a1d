-- The input is refused and nothing was drawn, or the ops were made, or there was no memory for them.
use Rattle.driver_attempt.specs.Client.{store_of}
use Rattle.bulk_actions.proofs.BulkJudged.{prepared, unprepared}
use Rattle.bulk_actions.proofs.MemoryAlone.{input_told, models_told}
use Rattle.bulk_actions.proofs.bulk_start.bulk_ops.Goals as goal

pub returns-in-Some-clause-prepares : goal.returns-in-Some-clause-prepares
returns-in-Some-clause-prepares g c =
    unprepared (g.S.SessionStore.tells (store_of c.args.client.now)) c.args.models.now c.args.options.now _ c.in-Some.ensures

pub returns-clause-prepares : goal.returns-clause-prepares
returns-clause-prepares g c =
    prepared (g.S.SessionStore.tells (store_of c.args.client.now)) (g.S.SessionStore.tells (store_of c.own_ops.new.client)) c.args.models.now c.args.options.now c.own_ops.result
    c.in_default.ensures c.own_ops.ensures.owns c.own_ops.ensures.refusal c.own_ops.ensures.draws

-- an error of the input
pub returns-in-Some-clause-memory : goal.returns-in-Some-clause-memory
returns-in-Some-clause-memory g c = input_told c.args.models.now c.args.options.now _ c.in-Some.ensures

-- an error of the ops
pub returns-clause-memory : goal.returns-clause-memory
returns-clause-memory g c = models_told c.args.models.now c.own_ops.result c.own_ops.ensures.refusal
