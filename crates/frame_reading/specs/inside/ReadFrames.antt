-- What a frame reads as, and the documents of its one sequence.
use Rattle.std.specs.Prelude.{◌≡◌, List, Option, None, Some}
use Rattle.bson_lite.specs.declared.bson.Bson.{Bson}
use Rattle.bson_lite.specs.declared.document.Pair.{Pair}
use Rattle.driver_link.specs.declared.frame.Documents.{Documents}
use Rattle.driver_link.specs.declared.frame.Sequence.{Sequence}
use Rattle.wire_keys.specs.declared.keys.TheConstants.{DOCUMENTS}
use Rattle.driver_link.specs.declared.machine.Place.{Place}
use Rattle.driver_link.specs.declared.machine.Send.{Send}
use Rattle.driver_link.specs.Asking.{only_sequence}
use Rattle.driver_link.specs.Framed.{Framed}
use Rattle.driver_link.specs.Reads.{Reads, SpellSequences}

-- what was found is what the frame reads as with places, where it reads as a send
abbrev pub ReadsFrame : Framed → List Place → Option Send → Type 0
ReadsFrame frame places found = (send : Send) → Reads frame places send → found ≡ Some send

-- documents are those that sequences spell in one sequence under their name, where some were found
abbrev pub AreLone : List Sequence → Option (List (List (Pair Bson))) → Type 0
AreLone sequences None = Unit {0}
AreLone sequences (Some documents) = (all : List Documents) → SpellSequences all sequences → only_sequence DOCUMENTS.now all ≡ Some documents
