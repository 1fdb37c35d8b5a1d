-- What was copied so far is the front of the documents.
use Rattle.std.proofs.Common.{◌≡◌, ◌++◌, drop}
use Rattle.model_effects.proofs.serving.copied_documents.Given as goal

abbrev pub invariant-loop-document : goal.invariant-loop-document
invariant-loop-document l = l.copies ++ drop l.document-index l.documents ≡ l.documents
