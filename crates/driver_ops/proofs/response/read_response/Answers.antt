-- An error that the reply says, with the reply.
use Rattle.driver_ops.proofs.ResponseReading.{says_error}
use Rattle.driver_ops.proofs.response.read_response.Goals as goal

pub returns-in-Some : goal.returns-in-Some
returns-in-Some c = says_error c.args.bytes.now c.in_ok-body.body c.in_ok-body.ensures _ c.in-Some.error c.in-Some.ensures c.with_reply.ensures
