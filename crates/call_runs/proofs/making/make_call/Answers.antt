-- A call is made between two readings of the clock.
use Rattle.call_runs.proofs.CallParts.{call_caused}
use Rattle.call_runs.proofs.making.make_call.Goals as goal

pub returns-clause-caused : goal.returns-clause-caused
returns-clause-caused g c =
    call_caused _ _ _ _ c.args.call.now c.args.outside.now.call _ c.now_ms-started_ms.ensures c.now_ms-ended_ms.ensures c.answer_call-result.ensures.makes c.answer_call-result.ensures.cause
    c.answer_call-result.ensures.memory
