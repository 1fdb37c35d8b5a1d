-- The documents that were copied, then those that are left.
use Rattle.std.proofs.Common.{◌≡◌, ◌++◌, drop, map}
use Rattle.bson_lite.specs.declared.bson.Bson as bson
use Rattle.driver_ops.proofs.option_fields.documents_value.Given as goal

abbrev pub invariant-loop-document : goal.invariant-loop-document
invariant-loop-document l = l.values ++ map (λ document. bson.Document document) (drop l.document-index l.documents) ≡ map (λ document. bson.Document document) l.documents
