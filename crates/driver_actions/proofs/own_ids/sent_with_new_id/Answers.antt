-- A document that has no id is refused with the one that was drawn.
use Rattle.std.proofs.Common.{rules}
use Rattle.std.proofs.lemmas.Result.{err_from_is_err_and}
use Rattle.driver_actions.proofs.OwnIds.{refused_drawn}
use Rattle.driver_actions.proofs.own_ids.sent_with_new_id.Goals as goal

pub returns-in_err-bytes-clause-refusal : goal.returns-in_err-bytes-clause-refusal
returns-in_err-bytes-clause-refusal g c =
    let p = err_from_is_err_and c.from_residual.result c.from_residual.ensures.1 in
    rw (p.1, p.2) (refused_drawn c.args.document.now c.object_id-id.result _ (search rules) c.in_err-bytes.ensures)
