-- The picks that are left make the same of the server as all made of the first.
use Rattle.std.proofs.Common.{◌≡◌, drop}
use Rattle.driver_link.specs.Exchange.{after_picks}
use Rattle.script_run.proofs.program.deliver_each.Given as goal

abbrev pub invariant-loop-pick : goal.invariant-loop-pick
invariant-loop-pick l =
    record l.server { server = after_picks l.server.server (drop l.pick-index l.picks) }
    ≡ record l.fn.server { server = after_picks l.fn.server.server l.picks }
