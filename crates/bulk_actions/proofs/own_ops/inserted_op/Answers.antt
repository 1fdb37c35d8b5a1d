-- The document has its own id, so its op is sent as it is.
use Rattle.driver_attempt.specs.Client.{store_of}
use Rattle.bulk_actions.proofs.SentOps.{sent_as_given}
use Rattle.bulk_actions.proofs.own_ops.inserted_op.Goals as goal

pub returns-in-Some-clause-sends : goal.returns-in-Some-clause-sends
returns-in-Some-clause-sends g c =
    sent_as_given (g.S.SessionStore.tells (store_of c.args.client.now)) c.args.model.now c.in-Some.field-0.now c.insert_op.result c.in-Some.ensures c.insert_op.ensures
