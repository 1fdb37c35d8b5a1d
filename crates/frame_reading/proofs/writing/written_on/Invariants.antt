-- The writes that were made, then those of the documents that are left.
use Rattle.std.proofs.Common.{◌≡◌, ◌++◌}
use Rattle.driver_link.specs.Writes.{writes_on}
use Rattle.frame_reading.proofs.writing.written_on.Given as goal

abbrev pub invariant-loop-document : goal.invariant-loop-document
invariant-loop-document l =
    l.writes.items ++ writes_on l.kind l.namespace l.document-iterator.rest.items ≡ writes_on l.kind l.namespace l.fn.documents
