-- The body of a plain insert in bytes, field by field.
use Rattle.std.proofs.Common.{◌≡◌, ℕ, ℤ, pos, negsuc, suc, ◌+◌, ◌<◌, Bool, true, false, List, [], ◌∷◌, ◌++◌, map, bytes_eq, length, length-append, append-nil, append_assoc, refl, sym, ap, ◌∙◌, arith}
use Rattle.std.specs.Prelude.{if◌then◌else◌}
use Rattle.std.specs.Int.{w64, cast_unsigned}
use Rattle.std.specs.Str.{is_utf8}
use Rattle.std.proofs.lemmas.Bool.{ltb-true}
use denote.Hole.Carrier.{roll}
use mir.Val.{SFits}
use Rattle.bson_lite.specs.declared.bson.Binary.{Binary}
use Rattle.bson_lite.specs.declared.bson.Bson as bson
use Rattle.bson_lite.specs.declared.bson.Bson.{Bson}
use Rattle.bson_lite.specs.declared.bson.Bson.TheOpen.{Bson-F}
use Rattle.bson_lite.specs.declared.bson.Bson.TheVariants.{rolls-Document}
use Rattle.bson_lite.specs.declared.document.Pair.{Pair}
use Rattle.bson_lite.specs.Ranges.{fits}
use Rattle.bson_lite.specs.Spelling.{body_of, counted, deepest_pair, depth, eight, element, four, framed, on_value, spelled, spelling, valid, valid_pairs, zero_in, zero_within}
use Rattle.bson_lite.proofs.Nested.{Folded, folded}
use Rattle.bson_lite.proofs.Numbers.{same-bytes_eq}
use Rattle.wire_keys.specs.declared.keys.TheConstants.{DATABASE, INSERT, ORDERED, SESSION, SESSION_ID, TRANSACTION_NUMBER, UUID_SUBTYPE}
use Rattle.frame_reading.specs.declared.plain_insert.PlainInsert.{PlainInsert}
use Rattle.frame_reading.specs.inside.PlainInserts.{collection_field, database_field, number_field, order_field, plain_body, session_document, session_field}

-- a text, a flag, a number, bytes and a document as values
pub text_value : (text : List ℕ) → Folded (bson.String text) (2, counted text) 0 false (is_utf8 text)
unfolding bson.roll-Bson roll
text_value text = folded (Bson-F.String text)

pub flag_value : (flag : Bool) → Folded (bson.Boolean flag) (8, (if flag then 1 else 0) ∷ []) 0 false true
unfolding bson.roll-Bson roll
flag_value flag = folded (Bson-F.Boolean flag)

pub number_value : (number : ℤ) → Folded (bson.Int64 number) (18, eight (cast_unsigned w64 number)) 0 false (fits 0x8000_0000_0000_0000 number)
unfolding bson.roll-Bson roll
number_value number = folded (Bson-F.Int64 number)

pub binary_value : (binary : Binary) → Folded (bson.Binary binary) (5, four (length binary.bytes) ++ binary.subtype ∷ binary.bytes) 0 false true
unfolding bson.roll-Bson roll
binary_value binary = folded (Bson-F.Binary binary)

document_spelled : (document : List (Pair Bson)) → spelled (bson.Document document) ≡ (3, spelling document)
document_spelled document = ap spelled (sym (rolls-Document document)) ∙ (folded (Bson-F.Document document)).spells

pub document_depth : (document : List (Pair Bson)) → depth (bson.Document document) ≡ suc (deepest_pair (map (on_value depth) document))
document_depth document = ap depth (sym (rolls-Document document)) ∙ (folded (Bson-F.Document document)).nests

pub document_zero : (document : List (Pair Bson)) → zero_within (bson.Document document) ≡ zero_in document
document_zero document = ap zero_within (sym (rolls-Document document)) ∙ (folded (Bson-F.Document document)).zeros

pub document_valid : (document : List (Pair Bson)) → valid (bson.Document document) ≡ valid_pairs document
document_valid document = ap valid (sym (rolls-Document document)) ∙ (folded (Bson-F.Document document)).valids

-- the field of a collection, up to the length of its name
pub collection_spelled : (collection : List ℕ) → body_of (collection_field collection) ≡ (2 ∷ 105 ∷ 110 ∷ 115 ∷ 101 ∷ 114 ∷ 116 ∷ 0 ∷ []) ++ counted collection
collection_spelled collection =
    ap (λ (value : ℕ × List ℕ). element INSERT.now value ++ []) (text_value collection).spells
    ∙ append-nil ((2 ∷ 105 ∷ 110 ∷ 115 ∷ 101 ∷ 114 ∷ 116 ∷ 0 ∷ []) ++ counted collection)

-- the field that says whether an insert is ordered, up to that
pub order_spelled : (ordered : Bool) → body_of (order_field ordered) ≡ (8 ∷ 111 ∷ 114 ∷ 100 ∷ 101 ∷ 114 ∷ 101 ∷ 100 ∷ 0 ∷ []) ++ (if ordered then 1 else 0) ∷ []
order_spelled ordered =
    ap (λ (value : ℕ × List ℕ). element ORDERED.now value ++ []) (flag_value ordered).spells

-- the one element of the document that names a session
abbrev id_element : List ℕ → List ℕ
id_element id = 5 ∷ 105 ∷ 100 ∷ 0 ∷ 16 ∷ 0 ∷ 0 ∷ 0 ∷ 4 ∷ id

id_spelled : (id : List ℕ) → length id ≡ 16 → body_of (session_document id) ≡ id_element id
id_spelled id sixteen =
    ap (λ (value : ℕ × List ℕ). element SESSION_ID.now value ++ []) (binary_value (record { subtype = UUID_SUBTYPE; bytes = id })).spells
    ∙ ap (λ (n : ℕ). element SESSION_ID.now (5, four n ++ UUID_SUBTYPE ∷ id) ++ []) sixteen
    ∙ append-nil (id_element id)

document_bytes : (id : List ℕ) → length id ≡ 16 → spelling (session_document id) ≡ 30 ∷ 0 ∷ 0 ∷ 0 ∷ (id_element id ++ 0 ∷ [])
document_bytes id sixteen =
    let long : length (id_element id) + 5 ≡ 30 = omega (arith, sixteen) in
    ap (λ (elements : List ℕ). framed elements) (id_spelled id sixteen)
    ∙ ap (λ (n : ℕ). four n ++ (id_element id ++ 0 ∷ [])) long

-- the field of a session, up to its id
abbrev session_head : List ℕ
session_head = 3 ∷ 108 ∷ 115 ∷ 105 ∷ 100 ∷ 0 ∷ 30 ∷ 0 ∷ 0 ∷ 0 ∷ 5 ∷ 105 ∷ 100 ∷ 0 ∷ 16 ∷ 0 ∷ 0 ∷ 0 ∷ 4 ∷ []

pub session_spelled : (id : List ℕ) → length id ≡ 16 → body_of (session_field id) ≡ session_head ++ (id ++ 0 ∷ [])
session_spelled id sixteen =
    ap (λ (value : ℕ × List ℕ). element SESSION.now value ++ []) (document_spelled (session_document id))
    ∙ ap (λ (bytes : List ℕ). element SESSION.now (3, bytes) ++ []) (document_bytes id sixteen)
    ∙ append-nil (session_head ++ (id ++ 0 ∷ []))

-- the field of a transaction number, up to the number
abbrev pub number_head : List ℕ
number_head = 18 ∷ 116 ∷ 120 ∷ 110 ∷ 78 ∷ 117 ∷ 109 ∷ 98 ∷ 101 ∷ 114 ∷ 0 ∷ []

pub number_spelled : (number : ℤ) → body_of (number_field number) ≡ number_head ++ eight (cast_unsigned w64 number)
number_spelled number =
    ap (λ (value : ℕ × List ℕ). element TRANSACTION_NUMBER.now value ++ []) (number_value number).spells
    ∙ append-nil (number_head ++ eight (cast_unsigned w64 number))

-- the field of a database, up to the length of its name
pub database_spelled : (database : List ℕ) → body_of (database_field database) ≡ (2 ∷ 36 ∷ 100 ∷ 98 ∷ 0 ∷ []) ++ counted database
database_spelled database =
    ap (λ (value : ℕ × List ℕ). element DATABASE.now value ++ []) (text_value database).spells
    ∙ append-nil ((2 ∷ 36 ∷ 100 ∷ 98 ∷ 0 ∷ []) ++ counted database)

-- a number in the range of 64 bits is one of them
pub signed_64 : (number : ℤ) → fits 0x8000_0000_0000_0000 number ≡ true → SFits w64 number
signed_64 (pos n) in_range = let below : n < 0x8000_0000_0000_0000 = ltb-true n 0x8000_0000_0000_0000 in_range in record { sfits = below }
signed_64 (negsuc n) in_range = let below : n < 0x8000_0000_0000_0000 = ltb-true n 0x8000_0000_0000_0000 in_range in record { sfits = below }

-- parts that were appended one after another
pub two_parts : (out first second : List ℕ) → (out ++ first) ++ second ≡ out ++ (first ++ second)
two_parts out first second = append_assoc out first second

pub three_parts : (out first second third : List ℕ) → ((out ++ first) ++ second) ++ third ≡ out ++ (first ++ (second ++ third))
three_parts out first second third =
    append_assoc (out ++ first) second third ∙ append_assoc out first (second ++ third)

-- the elements of two documents
body_join : (a b : List (Pair Bson)) → body_of (a ++ b) ≡ body_of a ++ body_of b
body_join [] b = refl
body_join (pair ∷ a) b =
    ap (λ (rest : List ℕ). element pair.key (spelled pair.value) ++ rest) (body_join a b)
    ∙ sym (append_assoc (element pair.key (spelled pair.value)) (body_of a) (body_of b))

-- more fields behind some
one_more : (out mid new : List ℕ) (fields more : List (Pair Bson)) → mid ≡ out ++ body_of fields → new ≡ mid ++ body_of more → new ≡ out ++ body_of (fields ++ more)
one_more out mid new fields more so_far is =
    is ∙ ap (λ (bytes : List ℕ). bytes ++ body_of more) so_far ∙ append_assoc out (body_of fields) (body_of more)
    ∙ ap (λ (bytes : List ℕ). out ++ bytes) (sym (body_join fields more))

-- all five in their order
pub five_fields : (plain : PlainInsert) (out one two three four_bytes five : List ℕ)
    → one ≡ out ++ body_of (collection_field plain.namespace.coll) → two ≡ one ++ body_of (order_field plain.ordered) → three ≡ two ++ body_of (session_field plain.session)
    → four_bytes ≡ three ++ body_of (number_field plain.number) → five ≡ four_bytes ++ body_of (database_field plain.namespace.db)
    → five ≡ out ++ body_of (plain_body plain)
five_fields plain out one two three four_bytes five first second third fourth fifth =
    let a : List (Pair Bson) = collection_field plain.namespace.coll in
    let b : List (Pair Bson) = order_field plain.ordered in
    let c : List (Pair Bson) = session_field plain.session in
    let d : List (Pair Bson) = number_field plain.number in
    one_more out four_bytes five (((a ++ b) ++ c) ++ d) (database_field plain.namespace.db)
    (one_more out three four_bytes ((a ++ b) ++ c) d
    (one_more out two three (a ++ b) c (one_more out one two a b first second) third) fourth) fifth

-- bytes with the length of others in front, which are the same, are the body
pub told_by_bytes : (plain : PlainInsert) (bytes body : List ℕ) → bytes ≡ four (length body) ++ (body_of (plain_body plain) ++ 0 ∷ []) → bytes_eq bytes body ≡ true
    → body ≡ spelling (plain_body plain)
told_by_bytes plain bytes body is equal =
    let elements : List ℕ = body_of (plain_body plain) in
    let same : bytes ≡ body = same-bytes_eq bytes body equal in
    let whole : body ≡ four (length body) ++ (elements ++ 0 ∷ []) = sym same ∙ is in
    let size : length body ≡ length elements + 5 =
    ap length whole ∙ omega (arith, length-append (four (length body)) (elements ++ 0 ∷ []), length-append elements (0 ∷ [])) in
    whole ∙ ap (λ (n : ℕ). four n ++ (elements ++ 0 ∷ [])) size
