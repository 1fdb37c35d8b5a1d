-- A frame with the places of its writes, read as a send. It reads as at most one.
use Rattle.std.specs.Prelude.{◌≡◌, ℕ, List, [], ◌∷◌, Some}
use Rattle.bson_lite.specs.declared.bson.Bson.{Bson}
use Rattle.bson_lite.specs.declared.document.Pair.{Pair}
use Rattle.bson_lite.specs.Spelling.{Spells}
use Rattle.driver_link.specs.declared.frame.Documents.{Documents}
use Rattle.driver_link.specs.declared.frame.Sequence.{Sequence}
use Rattle.driver_link.specs.declared.machine.Place.{Place}
use Rattle.driver_link.specs.declared.machine.Send.{Send}
use Rattle.driver_link.specs.Framed.{Framed}
use Rattle.driver_link.specs.Asking.{spelled}

-- each document has its bytes at the same place
abbrev pub SpellAll : List (List (Pair Bson)) → List (List ℕ) → Type 0
SpellAll [] [] = Unit {0}
SpellAll [] (bytes ∷ rest) = ⊥
SpellAll (document ∷ documents) [] = ⊥
SpellAll (document ∷ documents) (bytes ∷ rest) = Spells document bytes × SpellAll documents rest

-- the bytes of a sequence spell these documents, under the same name
pub record SpellsSequence (read : Documents) (sequence : Sequence) : Type 0 where
  pub name : read.name ≡ sequence.name
  pub documents : SpellAll read.documents sequence.documents

-- each sequence spells its documents
abbrev pub SpellSequences : List Documents → List Sequence → Type 0
SpellSequences [] [] = Unit {0}
SpellSequences [] (sequence ∷ rest) = ⊥
SpellSequences (read ∷ more) [] = ⊥
SpellSequences (read ∷ more) (sequence ∷ rest) = SpellsSequence read sequence × SpellSequences more rest

-- the frame's body and sequences spell the send, and its writes stand with the places
pub record Reads (frame : Framed) (places : List Place) (send : Send) : Type 0 where
  pub body : List (Pair Bson)
  pub sequences : List Documents
  pub body_spelled : Spells body frame.body
  pub sequences_spelled : SpellSequences sequences frame.sequences
  pub spelled : spelled frame.database body sequences places ≡ Some send
