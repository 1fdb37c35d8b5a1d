use Rattle.std.proofs.Common.{◌≡◌, map, take, sum}
use Rattle.driver_batches.specs.Sizes.{Fits}
use Rattle.driver_batches.proofs.sizes.longest_front.Given as goal

-- the front so far fits, and this is its sum
abbrev pub invariant-loop-i : goal.invariant-loop-i
invariant-loop-i g l = record {
  fits : Fits l.limits (take l.i (map g.W.Measured.size l.writes));
  summed : l.total ≡ sum (take l.i (map g.W.Measured.size l.writes));
}
