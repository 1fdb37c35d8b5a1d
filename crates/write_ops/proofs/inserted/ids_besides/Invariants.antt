-- The ids of the documents that were passed.
use Rattle.std.proofs.Common.{◌≡◌, ◌-◌, ◌≤◌, length, nat_eq, not, take}
use Rattle.std.specs.HashSet.{contains}
use Rattle.write_ops.specs.InsertAnswers.{ids_where}
use Rattle.write_ops.proofs.inserted.ids_besides.Given as goal

abbrev pub invariant-documents : goal.invariant-documents
invariant-documents l = record {
  within : l.at ≤ length l.documents;
  found : l.ids ≡ ids_where (λ at. not (contains nat_eq l.failed at)) 0 (take l.at l.documents);
}

abbrev pub decreases-documents : goal.decreases-documents
decreases-documents l = length l.documents - l.at
