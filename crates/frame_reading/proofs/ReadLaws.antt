-- What a frame's documents are, read one after another.
use Rattle.std.proofs.Common.{◌≡◌, ◌<◌, ◌≤◌, ℕ, ◌+◌, List, [], ◌∷◌, ◌++◌, Some, None, drop, length, slice_get, refl, sym, ap, ◌∙◌, append_assoc, append-nil, add-one, subst, drop-cons, arith}
use Rattle.std.proofs.lemmas.List.{drop_all}
use Rattle.std.proofs.lemmas.Option.{slice_get_within, get_or_from_slice_get}
use Rattle.std.specs.Prelude.{Bool, true, Option, bytes_eq, if◌then◌else◌}
use Rattle.std.specs.Option.{option_map_or}
use Rattle.bson_lite.specs.declared.bson.Bson.{Bson}
use Rattle.bson_lite.specs.declared.document.Pair.{Pair}
use Rattle.bson_lite.specs.Spelling.{Spells}
use Rattle.driver_link.specs.Asking.{only_sequence, spelled}
use Rattle.wire_keys.specs.declared.keys.TheConstants.{DOCUMENTS}
use Rattle.driver_link.specs.Framed.{Framed}
use Rattle.driver_link.specs.Reads.{Reads, SpellAll, SpellSequences, SpellsSequence}
use Rattle.driver_link.specs.Sequences.{documents_at, name_at}
use Rattle.driver_link.specs.declared.frame.Documents.{Documents}
use Rattle.driver_link.specs.declared.frame.Sequence.{Sequence}
use Rattle.driver_link.specs.declared.machine.Place.{Place}
use Rattle.driver_link.specs.declared.machine.Send.{Send}
use Rattle.frame_reading.specs.inside.ReadFrames.{AreLone}

-- two values that are there are the same
pub some_same : {A : Type 0} {x y : A} → Some x ≡ Some y → x ≡ y
some_same e = cc

-- the list from a place on
pub drop_at : {A : Type 0} (xs : List A) (at : ℕ) (x : A) → slice_get xs at ≡ Some x → drop at xs ≡ x ∷ drop (at + 1) xs
drop_at xs at x is =
    let within : at < length xs = slice_get_within xs at x is in
    drop-cons xs at x within ∙ (λ i. get_or_from_slice_get xs at x x is i ∷ drop (sym (add-one at) i) xs)

-- documents that were read, and those that are left to read
pub record Halves (documents : List (List (Pair Bson))) (bytes : List (List ℕ)) (made : List (List (Pair Bson))) (at : ℕ) : Type 0 where
  pub rest : List (List (Pair Bson))
  pub is : documents ≡ made ++ rest
  pub spelled : SpellAll rest (drop at bytes)

pub halves_start : (documents : List (List (Pair Bson))) (bytes : List (List ℕ)) → SpellAll documents bytes → Halves documents bytes [] 0
halves_start documents bytes spelled = record { rest = documents; is = refl; spelled = spelled }

-- the first of those that are left is what its bytes spell
halves_more : (documents rest : List (List (Pair Bson))) (bytes left : List (List ℕ)) (made : List (List (Pair Bson))) (at : ℕ) (piece : List ℕ) (document : List (Pair Bson))
    → drop (at + 1) bytes ≡ left
    → ((d : List (Pair Bson)) → Spells d piece → Some document ≡ Some d)
    → documents ≡ made ++ rest → SpellAll rest (piece ∷ left) → Halves documents bytes (made ++ document ∷ []) (at + 1)
halves_more documents [] bytes left made at piece document next only is spelled = absurd spelled
halves_more documents (d ∷ rest) bytes left made at piece document next only is spelled = record {
  rest = rest;
  is = is ∙ (λ i. made ++ some_same (sym (only d spelled.0)) i ∷ rest) ∙ sym (append_assoc made (document ∷ []) rest);
  spelled = subst (SpellAll rest) (sym next) spelled.1;
}

pub halves_next : (documents : List (List (Pair Bson))) (bytes : List (List ℕ)) (made : List (List (Pair Bson))) (at : ℕ) (piece : List ℕ) (document : List (Pair Bson))
    → slice_get bytes at ≡ Some piece
    → ((d : List (Pair Bson)) → Spells d piece → Some document ≡ Some d)
    → Halves documents bytes made at → Halves documents bytes (made ++ document ∷ []) (at + 1)
halves_next documents bytes made at piece document here only halves =
    halves_more documents halves.rest bytes (drop (at + 1) bytes) made at piece document refl only halves.is
    (subst (SpellAll halves.rest) (drop_at bytes at piece here) halves.spelled)

-- where bytes spell nothing there are no documents
none_more : (rest : List (List (Pair Bson))) (left : List (List ℕ)) (piece : List ℕ)
    → ((d : List (Pair Bson)) → Spells d piece → None ≡ Some d) → SpellAll rest (piece ∷ left) → ⊥
none_more [] left piece none spelled = spelled
none_more (d ∷ rest) left piece none spelled = let no = none d spelled.0 in cc

pub halves_none : (documents : List (List (Pair Bson))) (bytes : List (List ℕ)) (made : List (List (Pair Bson))) (at : ℕ) (piece : List ℕ)
    → slice_get bytes at ≡ Some piece
    → ((d : List (Pair Bson)) → Spells d piece → None ≡ Some d)
    → Halves documents bytes made at → ⊥
halves_none documents bytes made at piece here none halves =
    none_more halves.rest (drop (at + 1) bytes) piece none (subst (SpellAll halves.rest) (drop_at bytes at piece here) halves.spelled)

-- at the end all documents were read
all_read : (rest : List (List (Pair Bson))) → SpellAll rest [] → rest ≡ []
all_read [] spelled = refl
all_read (d ∷ rest) spelled = absurd spelled

pub halves_end : (documents : List (List (Pair Bson))) (bytes : List (List ℕ)) (made : List (List (Pair Bson))) (at : ℕ)
    → length bytes ≤ at → Halves documents bytes made at → Some made ≡ Some documents
halves_end documents bytes made at end halves =
    let none : halves.rest ≡ [] = all_read halves.rest (subst (SpellAll halves.rest) (drop_all at bytes end) halves.spelled) in
    ap (λ d. Some d) (sym (halves.is ∙ ap (λ rest. made ++ rest) none ∙ append-nil made))

-- a sequence by its name and its documents
abbrev pub with_name : List ℕ → List (List (Pair Bson)) → Documents
with_name name documents = record { name = name; documents = documents }

pub sequence_read : (sequences : List Sequence) (place : ℕ) (sequence : Sequence) (read : Documents) (name : List ℕ) (documents : List (List (Pair Bson)))
    → slice_get sequences place ≡ Some sequence → SpellsSequence read sequence
    → name ≡ name_at sequences place
    → ((ds : List (List (Pair Bson))) → SpellAll ds (documents_at sequences place) → Some documents ≡ Some ds)
    → Some (with_name name documents) ≡ Some read
sequence_read sequences place sequence read name documents here spells name_is each =
    let bytes_are : documents_at sequences place ≡ sequence.documents = ap (λ found. option_map_or (λ s. s.documents) found []) here in
    let named : name ≡ read.name = name_is ∙ ap (λ found. option_map_or (λ s. s.name) found []) here ∙ sym spells.name in
    let are : documents ≡ read.documents = some_same (each read.documents (subst (SpellAll read.documents) (sym bytes_are) spells.documents)) in
    λ i. Some (with_name (named i) (are i))

-- a sequence that was not read spells nothing
pub sequence_unread : (sequences : List Sequence) (place : ℕ) (sequence : Sequence) (read : Documents)
    → slice_get sequences place ≡ Some sequence → SpellsSequence read sequence
    → ((ds : List (List (Pair Bson))) → SpellAll ds (documents_at sequences place) → None ≡ Some ds) → ⊥
sequence_unread sequences place sequence read here spells none =
    let bytes_are : documents_at sequences place ≡ sequence.documents = ap (λ found. option_map_or (λ s. s.documents) found []) here in
    let no = none read.documents (subst (SpellAll read.documents) (sym bytes_are) spells.documents) in cc

-- sequences that were read, and those that are left to read
pub record Parted (all : List Documents) (sequences : List Sequence) (made : List Documents) (at : ℕ) : Type 0 where
  pub rest : List Documents
  pub is : all ≡ made ++ rest
  pub spelled : SpellSequences rest (drop at sequences)

pub parted_start : (all : List Documents) (sequences : List Sequence) → SpellSequences all sequences → Parted all sequences [] 0
parted_start all sequences spelled = record { rest = all; is = refl; spelled = spelled }

parted_more : (all rest : List Documents) (sequences left : List Sequence) (made : List Documents) (at : ℕ) (sequence : Sequence) (read : Documents)
    → drop (at + 1) sequences ≡ left
    → ((d : Documents) → SpellsSequence d sequence → Some read ≡ Some d)
    → all ≡ made ++ rest → SpellSequences rest (sequence ∷ left) → Parted all sequences (made ++ read ∷ []) (at + 1)
parted_more all [] sequences left made at sequence read next only is spelled = absurd spelled
parted_more all (d ∷ rest) sequences left made at sequence read next only is spelled = record {
  rest = rest;
  is = is ∙ (λ i. made ++ some_same (sym (only d spelled.0)) i ∷ rest) ∙ sym (append_assoc made (read ∷ []) rest);
  spelled = subst (SpellSequences rest) (sym next) spelled.1;
}

pub parted_next : (all : List Documents) (sequences : List Sequence) (made : List Documents) (at : ℕ) (sequence : Sequence) (read : Documents)
    → slice_get sequences at ≡ Some sequence
    → ((d : Documents) → SpellsSequence d sequence → Some read ≡ Some d)
    → Parted all sequences made at → Parted all sequences (made ++ read ∷ []) (at + 1)
parted_next all sequences made at sequence read here only parted =
    parted_more all parted.rest sequences (drop (at + 1) sequences) made at sequence read refl only parted.is
    (subst (SpellSequences parted.rest) (drop_at sequences at sequence here) parted.spelled)

none_left : (rest : List Documents) (left : List Sequence) (sequence : Sequence)
    → ((d : Documents) → SpellsSequence d sequence → None ≡ Some d) → SpellSequences rest (sequence ∷ left) → ⊥
none_left [] left sequence none spelled = spelled
none_left (d ∷ rest) left sequence none spelled = let no = none d spelled.0 in cc

pub parted_none : (all : List Documents) (sequences : List Sequence) (made : List Documents) (at : ℕ) (sequence : Sequence)
    → slice_get sequences at ≡ Some sequence
    → ((d : Documents) → SpellsSequence d sequence → None ≡ Some d)
    → Parted all sequences made at → ⊥
parted_none all sequences made at sequence here none parted =
    none_left parted.rest (drop (at + 1) sequences) sequence none (subst (SpellSequences parted.rest) (drop_at sequences at sequence here) parted.spelled)

all_parted : (rest : List Documents) → SpellSequences rest [] → rest ≡ []
all_parted [] spelled = refl
all_parted (d ∷ rest) spelled = absurd spelled

pub parted_end : (all : List Documents) (sequences : List Sequence) (made : List Documents) (at : ℕ)
    → length sequences ≤ at → Parted all sequences made at → Some made ≡ Some all
parted_end all sequences made at end parted =
    let none : parted.rest ≡ [] = all_parted parted.rest (subst (SpellSequences parted.rest) (drop_all at sequences end) parted.spelled) in
    ap (λ d. Some d) (sym (parted.is ∙ ap (λ rest. made ++ rest) none ∙ append-nil made))

-- the send that a frame reads as is the one that its documents spell
pub read_law : (frame : Framed) (places : List Place) (send : Send) (body : List (Pair Bson)) (sequences : List Documents)
    → ((d : List (Pair Bson)) → Spells d frame.body → Some body ≡ Some d)
    → ((ds : List Documents) → SpellSequences ds frame.sequences → Some sequences ≡ Some ds)
    → Reads frame places send → spelled frame.database body sequences places ≡ Some send
read_law frame places send body sequences only each reads =
    let body_is : body ≡ reads.body = some_same (only reads.body reads.body_spelled) in
    let sequences_are : sequences ≡ reads.sequences = some_same (each reads.sequences reads.sequences_spelled) in
    (λ i. spelled frame.database (body_is i) (sequences_are i) places) ∙ reads.spelled

-- the documents of one sequence under their name are the only ones
lone_of : (sequences : List Sequence) (documents : List (List (Pair Bson))) → length sequences ≡ 1 → bytes_eq (name_at sequences 0) DOCUMENTS.now ≡ true
    → ((ds : List (List (Pair Bson))) → SpellAll ds (documents_at sequences 0) → Some documents ≡ Some ds)
    → (all : List Documents) → SpellSequences all sequences → only_sequence DOCUMENTS.now all ≡ Some documents
unfolding only_sequence
lone_of [] documents one named each all spelled = absurd (omega (arith, one))
lone_of (sequence ∷ []) documents one named each [] spelled = absurd spelled
lone_of (sequence ∷ []) documents one named each (read ∷ []) spelled =
    ap (λ (name : List ℕ). if bytes_eq name DOCUMENTS.now then Some read.documents else None) spelled.0.name
    ∙ ap (λ (same : Bool). if same then Some read.documents else None) named
    ∙ sym (each read.documents spelled.0.documents)
lone_of (sequence ∷ []) documents one named each (read ∷ other ∷ rest) spelled = absurd spelled.1
lone_of (sequence ∷ other ∷ rest) documents one named each all spelled = absurd (omega (arith, one))

pub are_lone : (sequences : List Sequence) (found : Option (List (List (Pair Bson)))) → length sequences ≡ 1 → bytes_eq (name_at sequences 0) DOCUMENTS.now ≡ true
    → ((ds : List (List (Pair Bson))) → SpellAll ds (documents_at sequences 0) → found ≡ Some ds) → AreLone sequences found
are_lone sequences None one named each = tt
are_lone sequences (Some documents) one named each = lone_of sequences documents one named each
