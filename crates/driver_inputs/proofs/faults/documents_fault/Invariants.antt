-- The fault so far, and those of the documents that are left.
use Rattle.std.proofs.Common.{◌≡◌, drop, map}
use Rattle.bson_lite.specs.declared.bson.Bson as bson
use Rattle.driver_inputs.specs.Faults.{first_of, values_fault}
use Rattle.driver_inputs.proofs.faults.documents_fault.Given as goal

abbrev pub invariant-loop-document : goal.invariant-loop-document
invariant-loop-document l =
    first_of l.fault (values_fault (map (λ document. bson.Document document) (drop l.document-index l.documents))) ≡ values_fault (map (λ document. bson.Document document) l.documents)
