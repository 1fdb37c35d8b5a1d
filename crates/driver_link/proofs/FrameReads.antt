-- A frame with the places of its writes reads as at most one send.
use Rattle.std.proofs.Common.{◌≡◌, ℕ, List, [], ◌∷◌, refl, sym, ap, ◌∙◌}
use Rattle.bson_lite.proofs.Nested.{read_again}
use Rattle.bson_lite.specs.Reading.{read}
use Rattle.bson_lite.specs.Spelling.{Spells}
use Rattle.bson_lite.specs.declared.bson.Bson.{Bson}
use Rattle.bson_lite.specs.declared.document.Pair.{Pair}
use Rattle.driver_link.proofs.Lists.{some_is_some}
use Rattle.driver_link.specs.Asking.{spelled}
use Rattle.driver_link.specs.Framed.{Framed}
use Rattle.driver_link.specs.Reads.{Reads, SpellAll, SpellSequences, SpellsSequence}
use Rattle.driver_link.specs.declared.frame.Documents.{Documents}
use Rattle.driver_link.specs.declared.frame.Sequence.{Sequence}
use Rattle.driver_link.specs.declared.machine.Place.{Place}
use Rattle.driver_link.specs.declared.machine.Send.{Send}

-- bytes spell one document alone
pub document_once : (a b : List (Pair Bson)) (bytes : List ℕ) → Spells a bytes → Spells b bytes → a ≡ b
document_once a b bytes left right = cc (sym (read_again a left.has) ∙ ap read (sym left.is ∙ right.is) ∙ read_again b right.has)

-- pieces of bytes spell one list of documents alone
documents_once : (a b : List (List (Pair Bson))) (bytes : List (List ℕ)) → SpellAll a bytes → SpellAll b bytes → a ≡ b
documents_once [] [] [] left right = refl
documents_once [] [] (piece ∷ bytes) left right = absurd left
documents_once [] (y ∷ b) [] left right = absurd right
documents_once [] (y ∷ b) (piece ∷ bytes) left right = absurd left
documents_once (x ∷ a) [] [] left right = absurd left
documents_once (x ∷ a) [] (piece ∷ bytes) left right = absurd right
documents_once (x ∷ a) (y ∷ b) [] left right = absurd left
documents_once (x ∷ a) (y ∷ b) (piece ∷ bytes) left right =
    let head : x ≡ y = document_once x y piece left.0 right.0 in
    let rest : a ≡ b = documents_once a b bytes left.1 right.1 in
    λ i. head i ∷ rest i

-- a sequence by its name and its documents
abbrev with_name : List ℕ → List (List (Pair Bson)) → Documents
with_name name documents = record { name = name; documents = documents }

-- a sequence is read in one way
sequence_once : (a b : Documents) (sequence : Sequence) → SpellsSequence a sequence → SpellsSequence b sequence → a ≡ b
sequence_once a b sequence left right =
    let named : a.name ≡ b.name = left.name ∙ sym right.name in
    let are : a.documents ≡ b.documents = documents_once a.documents b.documents sequence.documents left.documents right.documents in
    λ i. with_name (named i) (are i)

sequences_once : (a b : List Documents) (sequences : List Sequence) → SpellSequences a sequences → SpellSequences b sequences → a ≡ b
sequences_once [] [] [] left right = refl
sequences_once [] [] (sequence ∷ sequences) left right = absurd left
sequences_once [] (y ∷ b) [] left right = absurd right
sequences_once [] (y ∷ b) (sequence ∷ sequences) left right = absurd left
sequences_once (x ∷ a) [] [] left right = absurd left
sequences_once (x ∷ a) [] (sequence ∷ sequences) left right = absurd right
sequences_once (x ∷ a) (y ∷ b) [] left right = absurd left
sequences_once (x ∷ a) (y ∷ b) (sequence ∷ sequences) left right =
    let head : x ≡ y = sequence_once x y sequence left.0 right.0 in
    let rest : a ≡ b = sequences_once a b sequences left.1 right.1 in
    λ i. head i ∷ rest i

-- so the send is one
pub reads_once : (frame : Framed) (places : List Place) (one other : Send) → Reads frame places one → Reads frame places other → one ≡ other
reads_once frame places one other left right =
    let body : left.body ≡ right.body = document_once left.body right.body frame.body left.body_spelled right.body_spelled in
    let sequences : left.sequences ≡ right.sequences
    = sequences_once left.sequences right.sequences frame.sequences left.sequences_spelled right.sequences_spelled in
    some_is_some one other (sym left.spelled ∙ (λ i. spelled frame.database (body i) (sequences i) places) ∙ right.spelled)
