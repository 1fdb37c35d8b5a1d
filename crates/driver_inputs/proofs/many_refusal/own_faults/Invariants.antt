-- The fault so far, and those of the documents that are left.
use Rattle.std.proofs.Common.{◌≡◌, drop}
use Rattle.driver_inputs.specs.Faults.{first_of}
use Rattle.driver_inputs.specs.ManyFaults.{own_faults}
use Rattle.driver_inputs.proofs.many_refusal.own_faults.Given as goal

abbrev pub invariant-loop-document : goal.invariant-loop-document
invariant-loop-document l = first_of l.fault (own_faults (drop l.document-index l.documents)) ≡ own_faults l.documents
