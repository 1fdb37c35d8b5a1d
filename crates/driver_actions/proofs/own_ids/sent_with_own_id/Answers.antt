-- A document that has an id is refused as it was given.
use Rattle.std.proofs.lemmas.Result.{err_from_is_err_and}
use Rattle.driver_actions.proofs.OwnIds.{refused_as_given}
use Rattle.driver_actions.proofs.own_ids.sent_with_own_id.Goals as goal

pub returns-in_err-bytes-clause-refusal : goal.returns-in_err-bytes-clause-refusal
returns-in_err-bytes-clause-refusal c =
    let p = err_from_is_err_and c.from_residual.result c.from_residual.ensures.1 in
    rw (p.1, p.2) (refused_as_given c.args.document.now c.args.id.now _ c.requires.has c.in_err-bytes.ensures)
