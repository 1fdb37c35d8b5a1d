-- The sizes in bytes of the op that inserts a document and of the document that describes a namespace.
use Rattle.std.proofs.Common.{◌≡◌, ℕ, ◌+◌, List, [], ◌∷◌, ◌++◌, length, length-append, refl, sym, ap, ◌∙◌, arith}
use Rattle.std.specs.Prelude.{pos, None}
use denote.Hole.Carrier.{roll}
use Rattle.bson_lite.specs.declared.bson.Bson as bson
use Rattle.bson_lite.specs.declared.bson.Bson.{Bson}
use Rattle.bson_lite.specs.declared.bson.Bson.TheOpen.{Bson-F}
use Rattle.bson_lite.specs.declared.bson.Bson.TheVariants.{rolls-Document}
use Rattle.bson_lite.specs.declared.document.Pair.{Pair}
use Rattle.bson_lite.specs.Spelling.{counted, element, four, framed, spelled, spelling}
use Rattle.bson_lite.proofs.Nested.{folded}
use Rattle.wire_keys.specs.declared.keys.TheConstants.{DOCUMENT, INSERT, NAMESPACE}
use Rattle.driver_link.specs.Numbers.{field}
use Rattle.bulk_fronts.specs.declared.own_op.OwnOp.{OwnOp}
use Rattle.bulk_fronts.specs.BulkFronts.{described_size}
use Rattle.bulk_fronts.specs.inside.BulkFronts.{added_bytes}

-- a text as a value
text_spelled : (text : List ℕ) → spelled (bson.String text) ≡ (2, counted text)
unfolding bson.roll-Bson roll
text_spelled text = (folded (Bson-F.String text)).spells

-- a document as a value
pub document_spelled : (document : List (Pair Bson)) → spelled (bson.Document document) ≡ (3, spelling document)
document_spelled document = ap spelled (sym (rolls-Document document)) ∙ (folded (Bson-F.Document document)).spells

-- a number as a value
number_spelled : (n : ℕ) → spelled (bson.Int32 (pos n)) ≡ (16, four n)
unfolding bson.roll-Bson roll
number_spelled n = (folded (Bson-F.Int32 (pos n))).spells

-- a document in bytes is five longer than its elements
framed_length : (parts : List ℕ) → length (framed parts) ≡ length parts + 5
framed_length parts = omega (arith, length-append (four (length parts + 5)) (parts ++ 0 ∷ []), length-append parts (0 ∷ []))

-- an element is longer than its value by its key and two bytes
element_length : (key : List ℕ) (form : ℕ) (value rest : List ℕ) → length (element key (form, value) ++ rest) ≡ length key + 2 + length value + length rest
element_length key form value rest = omega (arith, length-append (element key (form, value)) rest, length-append key (0 ∷ value))

-- a text in bytes is five longer
counted_length : (text : List ℕ) → length (counted text) ≡ length text + 5
counted_length text = omega (arith, length-append (four (length text + 1)) (text ++ 0 ∷ []), length-append text (0 ∷ []))

-- the document that describes a namespace
pub described_length : (text : List ℕ) → described_size text ≡ length text + 14
described_length text =
    let key : length NAMESPACE.now ≡ 2 = refl in
    ap (λ (value : ℕ × List ℕ). length (framed (element NAMESPACE.now value ++ []))) (text_spelled text)
    ∙ omega (arith, key, framed_length (element NAMESPACE.now (2, counted text) ++ []), element_length NAMESPACE.now 2 (counted text) [], counted_length text)

-- the op that inserts a document
pub insert_length : (document : List (Pair Bson)) → length (spelling (field INSERT.now (bson.Int32 (pos 0)) ∷ field DOCUMENT.now (bson.Document document) ∷ [])) ≡ length (spelling document) + 27
insert_length document =
    let first : length INSERT.now ≡ 6 = refl in
    let second : length DOCUMENT.now ≡ 8 = refl in
    let number : length (four 0) ≡ 4 = refl in
    let last : List ℕ = element DOCUMENT.now (3, spelling document) ++ [] in
    ap (λ (value : ℕ × List ℕ). length (framed (element INSERT.now value ++ (element DOCUMENT.now (spelled (bson.Document document)) ++ [])))) (number_spelled 0)
    ∙ ap (λ (value : ℕ × List ℕ). length (framed (element INSERT.now (16, four 0) ++ (element DOCUMENT.now value ++ [])))) (document_spelled document)
    ∙ omega (arith, first, second, number, framed_length (element INSERT.now (16, four 0) ++ last), element_length INSERT.now 16 (four 0) last, element_length DOCUMENT.now 3 (spelling document) [])

-- the bytes that an op adds where its namespace is described
pub added_new : (own : OwnOp) → added_bytes None own ≡ length own.bytes + length own.namespace + 14
added_new own = omega (arith, described_length own.namespace)
