-- What was made, then what is left.
use Rattle.std.proofs.Common.{◌≡◌, ◌++◌, map, drop}
use Rattle.bson_lite.specs.declared.bson.Bson as bson
use Rattle.model_replies.proofs.replying.documents.Given as goal

abbrev pub invariant-loop-document : goal.invariant-loop-document
invariant-loop-document l = l.values ++ map (λ document. bson.Document document) (drop l.document-index l.page) ≡ map (λ document. bson.Document document) l.page
