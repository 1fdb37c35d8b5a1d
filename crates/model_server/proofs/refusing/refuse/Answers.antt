use Rattle.std.proofs.Common.{ap, ◌∙◌, w32}
use Rattle.std.proofs.lemmas.Int.{to_z-of_z}
use Rattle.driver_link.specs.Interrupting.{told_of_error}
use Rattle.driver_link.specs.Replies.{error_reply}
use Rattle.driver_link.specs.declared.machine.Server.{Server}
use Rattle.model_server.proofs.TransientLaws.{cursors_stay, refused_law}
use Rattle.model_server.proofs.refusing.refuse.Goals as goal

pub returns-clause-reply : goal.returns-clause-reply
returns-clause-reply c = λ trace.
    c.whole.ensures ∙ c.in_ok-reply.ensures
    ∙ (λ i. error_reply (to_z-of_z w32 c.args.code c.ranges.code i) c.as_slice.result.now)
    ∙ ap (error_reply c.args.code) (c.as_slice.ensures
    ∙ refused_law c.args.server.now trace c.args.send.now c.args.labels.now c.in_ok-answered.answered _ _ c.ran_before.ensures c.can_be_transient.ensures c.in_ok-answered.ensures)

pub returns-clause-server : goal.returns-clause-server
returns-clause-server c = λ trace.
    let now : Server = record c.args.server.now { trace = trace } in
    cursors_stay c.refused_effect-effect.result now
    ∙ c.refused_effect-effect.ensures now
    ∙ ap (λ labels. told_of_error labels now c.args.send.now) (c.as_slice-2.ensures
    ∙ refused_law c.args.server.now trace c.args.send.now c.args.labels.now c.in_ok-answered.answered _ _ c.ran_before.ensures c.can_be_transient.ensures c.in_ok-answered.ensures)
