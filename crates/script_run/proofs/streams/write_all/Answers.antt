-- The piece that was taken goes behind the front.
use Rattle.std.proofs.Common.{◌∙◌}
use Rattle.script_run.proofs.Pieces.{Appends_more, within_left}
use Rattle.script_run.proofs.streams.write_all.Goals as goal

pub writes-preserved : goal.writes-preserved
writes-preserved g c = (
  Appends_more _ _ _ c.writes.at c.in_ok-count.count c.args.bytes.now c.writes.invariant.0 c.in_ok-count.ensures.taken,
  within_left c.writes.at c.in_ok-count.count c.args.bytes.now c.writes.invariant.1 c.in_ok-count.ensures.within,
  c.in_ok-count.ensures.cause ∙ c.writes.invariant.2,
)
