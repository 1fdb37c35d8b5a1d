-- The front that was written so far, with no write that failed.
use Rattle.std.proofs.Common.{◌≡◌, ◌-◌, ◌≤◌, length, take}
use Rattle.driver_link.specs.Streams.{Appends}
use Rattle.script_run.proofs.streams.write_all.Given as goal

abbrev pub invariant-writes : goal.invariant-writes
invariant-writes g l =
    Appends (g.O.Sink.contents l.fn.sink) (g.O.Sink.contents l.sink) (take l.at l.bytes)
    × (l.at ≤ length l.bytes)
    × (g.O.Sink.faults l.sink ≡ g.O.Sink.faults l.fn.sink)

abbrev pub decreases-writes : goal.decreases-writes
decreases-writes g l = length l.bytes - l.at
