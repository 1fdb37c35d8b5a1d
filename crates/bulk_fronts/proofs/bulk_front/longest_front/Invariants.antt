-- The ops so far go out together, with these bytes; they are spelled, and their namespaces are found by their texts.
use Rattle.std.proofs.Common.{bytes_eq}
use Rattle.std.specs.HashMap as hash
use Rattle.bulk_fronts.proofs.BulkSteps.{IsFoundSoFar}
use Rattle.bulk_fronts.proofs.bulk_front.longest_front.Given as goal

abbrev pub invariant-loop-i : goal.invariant-loop-i
invariant-loop-i l = IsFoundSoFar l.limits l.ops l.i l.total l.front (λ text. hash.get_by (λ k. bytes_eq text k.now) l.numbers)
