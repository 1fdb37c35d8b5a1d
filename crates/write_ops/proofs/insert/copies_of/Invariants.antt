-- The copies, then the spellings of the documents that are left.
use Rattle.std.proofs.Common.{◌≡◌, ◌++◌, drop, map}
use Rattle.write_ops.proofs.insert.copies_of.Given as goal

abbrev pub invariant-loop-own : goal.invariant-loop-own
invariant-loop-own l = l.copies ++ map (λ own. own.bytes) (drop l.own-index l.documents) ≡ map (λ own. own.bytes) l.documents
