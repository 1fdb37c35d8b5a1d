use Rattle.std.proofs.Common.{◌∙◌}
use Rattle.model_effects.specs.Changes.{changed}
use Rattle.model_effects.specs.Displacing.{displaced_by}
use Rattle.model_server.specs.Undoing.{server_before}
use Rattle.model_server.proofs.UndoLaws.{all_back}
use Rattle.model_server.proofs.undoing.note.Goals as goal

pub returns : goal.returns
returns c =
    (λ i. server_before (record {
      sessions = c.in_ok-note_sessions.field-0;
      entries = c.len.ensures i;
      cursors = c.len-2.ensures i;
      closes = c.place_closed.ensures i;
    }) (displaced_by c.args.effect.now c.args.change.now c.args.server.now) (changed c.args.effect.now c.args.change.now c.args.server.now))
    ∙ all_back c.in_ok-note_sessions.field-0 c.args.effect.now c.args.change.now c.args.server.now c.in_ok-note_sessions.ensures
