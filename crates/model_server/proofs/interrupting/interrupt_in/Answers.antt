use Rattle.std.proofs.Common.{ap, ◌∙◌, w32}
use Rattle.std.proofs.lemmas.Int.{to_z-of_z}
use Rattle.driver_link.specs.Cases.{known_of, writes_of}
use Rattle.driver_link.specs.Gathered.{gathered_by}
use Rattle.driver_link.specs.Honesty.{has_transient}
use Rattle.driver_link.specs.Interrupting.{interruption, runs_in, session_interrupted, told_of_error}
use Rattle.driver_link.specs.Replies.{error_reply}
use Rattle.driver_link.specs.Statements.{entries_of}
use Rattle.driver_link.specs.declared.machine.Server.{Server}
use Rattle.model_server.proofs.InterruptLaws.{interrupt_law, labels_law}
use Rattle.model_effects.specs.Parts.{parts_as}
use Rattle.model_effects.specs.Seen.{seen}
use Rattle.model_server.specs.Transient.{called}
use Rattle.model_server.proofs.interrupting.interrupt_in.Goals as goal

pub returns-clause-reply : goal.returns-clause-reply
returns-clause-reply c = λ trace.
    let entries = gathered_by (known_of c.args.server.now c.args.send.now) in
    c.whole.ensures ∙ c.in_ok-reply.ensures
    ∙ (λ i. error_reply (to_z-of_z w32 c.args.code c.ranges.code i) c.as_slice-2.result.now)
    ∙ ap (error_reply c.args.code) (c.as_slice-2.ensures
    ∙ labels_law c.args.server.now trace c.args.send.now c.args.case c.args.after c.requires.case c.requires.open c.args.labels.now c.in_ok-answered.answered c.in_ok-done.done _ _ _
    (c.in_ok-done.ensures entries)
    (c.runs_in.ensures ∙ ap (runs_in (seen c.args.case entries)) c.as_slice.ensures)
    c.ran_before.ensures (c.can_still_be_transient.ensures entries) c.in_ok-answered.ensures)

pub returns-clause-server : goal.returns-clause-server
returns-clause-server c = λ trace.
    let entries = gathered_by (known_of c.args.server.now c.args.send.now) in
    let now : Server = record c.args.server.now { trace = trace } in
    interrupt_law c.args.server.now trace c.args.send.now c.args.case c.args.after c.requires.case c.requires.open c.in_ok-answered.answered c.in_ok-done.done c.in_ok-effect.effect _
    (c.in_ok-done.ensures entries)
    (λ state. c.in_ok-effect.ensures state
    ∙ λ i. called c.has_transient-transient.result (parts_as session_interrupted c.args.send.now.session c.args.send.now.number c.args.case (c.as_slice-4.ensures i)
    (entries_of c.args.send.now.session c.args.send.now.number (writes_of c.args.send.now) (c.as_slice-4.ensures i)) state c.args.send.now) c.args.send.now)
    (c.has_transient-transient.ensures ∙ ap has_transient c.as_slice-3.ensures)
    ∙ ap (λ labels. told_of_error labels (interruption c.args.after now c.args.send.now) c.args.send.now)
    (labels_law c.args.server.now trace c.args.send.now c.args.case c.args.after c.requires.case c.requires.open c.args.labels.now c.in_ok-answered.answered c.in_ok-done.done _ _ _
    (c.in_ok-done.ensures entries)
    (c.runs_in.ensures ∙ ap (runs_in (seen c.args.case entries)) c.as_slice.ensures)
    c.ran_before.ensures (c.can_still_be_transient.ensures entries) c.in_ok-answered.ensures)
