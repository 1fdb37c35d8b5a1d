-- What was made, then what is left.
use Rattle.std.proofs.Common.{◌≡◌, ◌++◌, drop}
use Rattle.driver_link.specs.Replies.{write_errors}
use Rattle.model_replies.proofs.replying.write_errors.Given as goal

abbrev pub invariant-loop-at : goal.invariant-loop-at
invariant-loop-at l = l.errors ++ write_errors l.at (drop l.at l.done) ≡ write_errors 0 l.done
