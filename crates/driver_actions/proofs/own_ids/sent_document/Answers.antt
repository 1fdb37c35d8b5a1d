-- A document that has an id is sent with it.
use Rattle.driver_attempt.specs.Client.{store_of}
use Rattle.driver_actions.proofs.OwnIds.{if_sent_as_given}
use Rattle.driver_actions.proofs.own_ids.sent_document.Goals as goal

pub returns-in-Some-clause-owns : goal.returns-in-Some-clause-owns
returns-in-Some-clause-owns g c =
    if_sent_as_given (g.S.SessionStore.tells (store_of c.args.client.now)) c.args.document.now c.in-Some.id.now c.sent_with_own_id.result c.in-Some.ensures
    c.sent_with_own_id.ensures.id c.sent_with_own_id.ensures.spelled
