use Rattle.std.proofs.Common.{◌≡◌, IfOk, List, subst, sym}
use Rattle.driver_link.specs.Exchange.{reply}
use Rattle.driver_link.specs.declared.machine.Send.{Send}
use Rattle.model_server.specs.Meets.{reply_of}
use Rattle.model_server.proofs.meeting.meet.Goals as goal

pub returns-in-ReplyLost-clause-reply : goal.returns-in-ReplyLost-clause-reply
returns-in-ReplyLost-clause-reply c =
    subst (λ item. IfOk c.lose_reply.result (λ made. (trace : List Send) → reply_of made ≡ reply (record c.args.server.now { trace = trace }) c.args.send.now item))
    (sym c.in-ReplyLost.is) c.lose_reply.ensures.reply
