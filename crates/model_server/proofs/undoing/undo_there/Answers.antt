use Rattle.std.proofs.Common.{ap, sym, ◌∙◌}
use Rattle.std.specs.FinMap as finite
use Rattle.model_server.specs.Undoing.{known_before}
use Rattle.model_server.proofs.UndoLaws.{rewritten_there}
use Rattle.model_server.proofs.undoing.undo_there.Goals as goal

pub returns : goal.returns
returns c =
    c.give_back.ensures ∙ c.lend-known.ensures.back _
    ∙ ap (finite.insert c.args.sessions.now c.args.id) c.undo_known.ensures
    ∙ sym (rewritten_there c.args.sessions.now c.args.id (known_before c.args.past) _ c.lend-known.ensures.known)
