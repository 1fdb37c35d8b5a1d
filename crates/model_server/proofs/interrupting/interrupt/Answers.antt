use Rattle.std.proofs.Common.{◌≡◌, List, ap, sym, ◌∙◌, w32}
use Rattle.std.proofs.lemmas.Int.{to_z-of_z}
use Rattle.std.proofs.lemmas.Result.{IfOk-weaker}
use mir.Val.{of_z, to_z}
use Rattle.driver_link.specs.Cases.{is_decided, known_of}
use Rattle.driver_link.specs.Exchange.{interrupted_labels}
use Rattle.driver_link.specs.Gathered.{gathered_by}
use Rattle.driver_link.specs.Interrupting.{interruption, told_of_error}
use Rattle.driver_link.specs.Replies.{error_reply, served_reply}
use Rattle.driver_link.specs.Serving.{served, usual}
use Rattle.driver_link.specs.declared.machine.Send.{Send}
use Rattle.model_server.proofs.InterruptLaws.{decided_law, decided_reply_law, open_law, open_reply_law}
use Rattle.model_effects.specs.Changes.{changed}
use Rattle.model_server.proofs.interrupting.interrupt.Goals as goal

pub returns-then-is_decided-clause-reply : goal.returns-then-is_decided-clause-reply
returns-then-is_decided-clause-reply c =
    let is = ap is_decided (sym c.case_of-case.ensures) ∙ sym (c.is_decided.ensures (gathered_by (known_of c.args.server.now c.args.send.now))) ∙ c.if-is_decided.true in
    IfOk-weaker c.prepare.result
    (λ made. (trace : List Send) → made.reply ≡ served_reply usual (record c.args.server.now { trace = trace }) c.args.send.now) _
    (λ made reply trace. reply trace ∙ decided_reply_law c.args.server.now trace c.args.send.now c.args.after c.args.code c.args.labels.now is)
    c.prepare.ensures.reply

pub returns-then-is_decided-clause-server : goal.returns-then-is_decided-clause-server
returns-then-is_decided-clause-server c =
    let is = ap is_decided (sym c.case_of-case.ensures) ∙ sym (c.is_decided.ensures (gathered_by (known_of c.args.server.now c.args.send.now))) ∙ c.if-is_decided.true in
    IfOk-weaker c.prepare.result
    (λ made. (trace : List Send) → changed made.effect made.change (record c.args.server.now { trace = trace }) ≡ served usual (record c.args.server.now { trace = trace }) c.args.send.now) _
    (λ made now trace. now trace ∙ decided_law c.args.server.now trace c.args.send.now c.args.after c.args.labels.now is)
    c.prepare.ensures.server

pub returns-clause-reply : goal.returns-clause-reply
returns-clause-reply c =
    let is = ap is_decided (sym c.case_of-case.ensures) ∙ sym (c.is_decided.ensures (gathered_by (known_of c.args.server.now c.args.send.now))) ∙ c.if-is_decided.false in
    IfOk-weaker c.interrupt_in.result
    (λ made. (trace : List Send) → made.reply ≡ error_reply (to_z w32 (of_z w32 c.args.code)) (interrupted_labels c.args.after c.args.labels.now (record c.args.server.now { trace = trace }) c.args.send.now)) _
    (λ made reply trace. reply trace
    ∙ (λ i. error_reply (to_z-of_z w32 c.args.code c.ranges.code i) (interrupted_labels c.args.after c.args.labels.now (record c.args.server.now { trace = trace }) c.args.send.now))
    ∙ open_reply_law c.args.server.now trace c.args.send.now c.args.after c.args.code c.args.labels.now is)
    c.interrupt_in.ensures.reply

pub returns-clause-server : goal.returns-clause-server
returns-clause-server c =
    let is = ap is_decided (sym c.case_of-case.ensures) ∙ sym (c.is_decided.ensures (gathered_by (known_of c.args.server.now c.args.send.now))) ∙ c.if-is_decided.false in
    IfOk-weaker c.interrupt_in.result
    (λ made. (trace : List Send) → changed made.effect made.change (record c.args.server.now { trace = trace }) ≡ told_of_error (interrupted_labels c.args.after c.args.labels.now (record c.args.server.now { trace = trace }) c.args.send.now) (interruption c.args.after (record c.args.server.now { trace = trace }) c.args.send.now) c.args.send.now) _
    (λ made now trace. now trace ∙ open_law c.args.server.now trace c.args.send.now c.args.after c.args.labels.now is)
    c.interrupt_in.ensures.server
