-- The cursor is ended where it is open still.
use Rattle.std.proofs.Common.{sym, ap, subst, ◌∙◌}
use Rattle.std.specs.Prelude.{◌&&◌, not}
use Rattle.driver_attempt.specs.Attempting.{besides_out}
use Rattle.driver_attempt.specs.inside.AttemptExchanges.{EndsWhere}
use Rattle.driver_attempt.proofs.pages.end_failed.Goals as goal

pub returns-then-is_open-clause-ends : goal.returns-then-is_open-clause-ends
returns-then-is_open-clause-ends g c = λ namespace cursor asks.
    subst (λ ends. EndsWhere ends c.args.conn.now (besides_out (g.L.Link.tells c.args.link.now)) (besides_out (g.L.Link.tells c.end_cursor.new.link)) namespace cursor c.args.error c.end_cursor.result)
    (sym c.if-is_open.true ∙ c.is_open.ensures ∙ ap (λ failed. not c.args.lost && failed) c.has_failed-failed.ensures)
    (c.end_cursor.ensures.ends namespace cursor (c.into_kill.ensures.target ∙ asks.0) (c.into_kill.ensures.cursor ∙ asks.1))
