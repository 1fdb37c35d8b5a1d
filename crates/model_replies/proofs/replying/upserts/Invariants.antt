-- What was made, then what is left.
use Rattle.std.proofs.Common.{◌≡◌, ◌++◌, drop}
use Rattle.driver_link.specs.Replies.{upserts}
use Rattle.model_replies.proofs.replying.upserts.Given as goal

abbrev pub invariant-loop-at : goal.invariant-loop-at
invariant-loop-at l = l.upserts ++ upserts l.at (drop l.at l.done) ≡ upserts 0 l.done
