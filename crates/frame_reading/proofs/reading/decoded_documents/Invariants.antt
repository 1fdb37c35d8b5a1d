-- For documents that the bytes spell: those that were read are their front.
use Rattle.std.proofs.Common.{List}
use Rattle.bson_lite.specs.declared.bson.Bson.{Bson}
use Rattle.bson_lite.specs.declared.document.Pair.{Pair}
use Rattle.driver_link.specs.Reads.{SpellAll}
use Rattle.driver_link.specs.Sequences.{documents_at}
use Rattle.frame_reading.proofs.ReadLaws.{Halves}
use Rattle.frame_reading.proofs.reading.decoded_documents.Given as goal

abbrev pub invariant-loop-at : goal.invariant-loop-at
invariant-loop-at l =
    (documents : List (List (Pair Bson))) → SpellAll documents (documents_at l.frame.sequences l.place)
    → Halves documents (documents_at l.frame.sequences l.place) l.documents.items l.at
