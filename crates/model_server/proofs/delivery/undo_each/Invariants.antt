-- What is left to undo makes the same of the server as all made of the first.
use Rattle.std.proofs.Common.{◌≡◌, length}
use Rattle.model_server.specs.Undoing.{each_before}
use Rattle.model_server.proofs.delivery.undo_each.Given as goal

abbrev pub invariant-loop-late : goal.invariant-loop-late
invariant-loop-late l = each_before l.lates l.server ≡ each_before l.fn.lates l.fn.server

abbrev pub decreases-loop-late : goal.decreases-loop-late
decreases-loop-late l = length l.lates
