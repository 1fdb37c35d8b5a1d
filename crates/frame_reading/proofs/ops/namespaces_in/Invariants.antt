-- The namespaces that were found, then those of the documents that are left.
use Rattle.std.proofs.Common.{◌≡◌, ◌++◌, drop}
use Rattle.std.specs.Option.{option_map}
use Rattle.driver_link.specs.Writes.{namespaces_in}
use Rattle.frame_reading.proofs.ops.namespaces_in.Given as goal

abbrev pub invariant-loop-document : goal.invariant-loop-document
invariant-loop-document l =
    option_map (λ more. l.namespaces ++ more) (namespaces_in (drop l.document-index l.documents)) ≡ namespaces_in l.documents
