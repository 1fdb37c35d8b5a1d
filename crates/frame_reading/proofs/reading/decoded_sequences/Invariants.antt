-- For sequences that the frame spells: those that were read are their front.
use Rattle.std.proofs.Common.{List}
use Rattle.driver_link.specs.Reads.{SpellSequences}
use Rattle.driver_link.specs.declared.frame.Documents.{Documents}
use Rattle.frame_reading.proofs.ReadLaws.{Parted}
use Rattle.frame_reading.proofs.reading.decoded_sequences.Given as goal

abbrev pub invariant-loop-at : goal.invariant-loop-at
invariant-loop-at l =
    (all : List Documents) → SpellSequences all l.frame.sequences → Parted all l.frame.sequences l.sequences.items l.at
