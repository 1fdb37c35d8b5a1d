-- What was copied so far is the front of the writes.
use Rattle.std.proofs.Common.{◌≡◌, ◌++◌, drop}
use Rattle.model_replies.proofs.copying.copied_writes.Given as goal

abbrev pub invariant-loop-write : goal.invariant-loop-write
invariant-loop-write l = l.copies ++ drop l.write-index l.writes ≡ l.writes
