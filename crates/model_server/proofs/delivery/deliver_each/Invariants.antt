-- The picks that are left make the same of the server as all made of the first, and what was served so far
-- can be undone.
use Rattle.std.proofs.Common.{◌≡◌, drop}
use Rattle.driver_link.specs.Exchange.{after_picks}
use Rattle.model_server.specs.Undoing.{each_before}
use Rattle.model_server.proofs.delivery.deliver_each.Given as goal

abbrev pub invariant-loop-pick : goal.invariant-loop-pick
invariant-loop-pick l = record {
  rest : after_picks l.server (drop l.pick-index l.picks) ≡ after_picks l.fn.server l.picks;
  back : each_before l.lates.items l.server ≡ l.fn.server;
}
