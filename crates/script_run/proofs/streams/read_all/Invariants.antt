-- What was read so far, which is within the limit, with no read that failed.
use Rattle.std.proofs.Common.{◌≡◌, ◌+◌, ◌-◌, ◌≤◌, length}
use Rattle.driver_link.specs.Streams.{Consumes}
use Rattle.script_run.proofs.streams.read_all.Given as goal

abbrev pub invariant-reads : goal.invariant-reads
invariant-reads g l =
    Consumes (g.I.Source.left l.fn.source) (g.I.Source.left l.source) l.bytes
    × (length l.bytes ≤ l.limit)
    × (g.I.Source.faults l.source ≡ g.I.Source.faults l.fn.source)

abbrev pub decreases-reads : goal.decreases-reads
decreases-reads g l = l.limit + 1 - length l.bytes
