-- The ids of the documents that were passed.
use Rattle.std.proofs.Common.{◌≡◌, ◌-◌, ◌≤◌, length, take, true}
use Rattle.write_ops.specs.InsertAnswers.{ids_where}
use Rattle.write_ops.proofs.inserted.ids_of.Given as goal

abbrev pub invariant-documents : goal.invariant-documents
invariant-documents l = record {
  within : l.at ≤ length l.documents;
  found : l.ids ≡ ids_where (λ at. true) 0 (take l.at l.documents);
}

abbrev pub decreases-documents : goal.decreases-documents
decreases-documents l = length l.documents - l.at
