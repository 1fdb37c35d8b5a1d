use Rattle.std.proofs.Common.{List, ap, ◌∙◌}
use Rattle.driver_link.specs.Cases.{known_of, writes_of}
use Rattle.driver_link.specs.Exchange.{plan_of}
use Rattle.driver_link.specs.Gathered.{gathered_by}
use Rattle.driver_link.specs.Replies.{reply_in}
use Rattle.driver_link.specs.Serving.{Plan, cursors_after, done_in, session_after}
use Rattle.driver_link.specs.Statements.{entries_of}
use Rattle.driver_link.specs.declared.machine.Entry.{Entry}
use Rattle.model_effects.proofs.ServeLaws.{serve_law, served_reply_law}
use Rattle.model_effects.specs.Parts.{parts_as}
use Rattle.model_effects.specs.Seen.{seen}
use Rattle.model_effects.proofs.exchange.prepare.Goals as goal

pub returns-clause-reply : goal.returns-clause-reply
returns-clause-reply c = λ trace.
    let plan : Plan = plan_of c.args.results.now c.args.fail.now c.args.concern.now c.args.page in
    let entries : List Entry = gathered_by (known_of c.args.server.now c.args.send.now) in
    served_reply_law c.args.server.now trace c.args.send.now c.met_of-met.result.case plan c.in_ok-done.done c.in_ok-reply.reply c.met_of-met.ensures.case
    (c.in_ok-done.ensures entries c.args.concern.now c.args.page
    ∙ ap (λ kept. done_in (seen c.met_of-met.result.case entries) plan kept c.args.send.now.body) c.met_of-met.ensures.kept)
    (c.in_ok-reply.ensures entries c.args.results.now c.args.fail.now
    ∙ ap (λ done. reply_in (seen c.met_of-met.result.case entries) plan done c.args.server.now c.args.send.now) c.as_slice.ensures)

pub returns-clause-server : goal.returns-clause-server
returns-clause-server c = λ trace.
    let plan : Plan = plan_of c.args.results.now c.args.fail.now c.args.concern.now c.args.page in
    let entries : List Entry = gathered_by (known_of c.args.server.now c.args.send.now) in
    serve_law c.args.server.now trace c.args.send.now c.met_of-met.result.case plan c.in_ok-done.done c.in_ok-effect.effect c.in_ok-change.change c.met_of-met.ensures.case
    (c.in_ok-done.ensures entries c.args.concern.now c.args.page
    ∙ ap (λ kept. done_in (seen c.met_of-met.result.case entries) plan kept c.args.send.now.body) c.met_of-met.ensures.kept)
    (λ state. c.in_ok-effect.ensures state
    ∙ λ i. parts_as session_after c.args.send.now.session c.args.send.now.number c.met_of-met.result.case (c.as_slice-2.ensures i)
    (entries_of c.args.send.now.session c.args.send.now.number (writes_of c.args.send.now) (c.as_slice-2.ensures i)) state c.args.send.now)
    (λ state. c.in_ok-change.ensures state (gathered_by (known_of state c.args.send.now))
    ∙ ap (λ done. cursors_after (seen c.met_of-met.result.case (gathered_by (known_of state c.args.send.now))) c.args.page done c.args.send.now state) c.as_slice-3.ensures)
