-- What was made, then the documents of the values that are left.
use Rattle.std.proofs.Common.{◌≡◌, ◌++◌, drop, map}
use Rattle.many_actions.proofs.insert_many.documents_of.Given as goal

abbrev pub invariant-loop-doc : goal.invariant-loop-doc
invariant-loop-doc g l = l.documents ++ map g.T.ToDocument.document (drop l.doc-index l.docs) ≡ map g.T.ToDocument.document l.docs
