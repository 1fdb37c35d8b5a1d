-- The executor's fields in bytes, and that they may stand behind any body.
use Rattle.std.proofs.Common.{◌≡◌, ℕ, suc, ◌+◌, Bool, true, false, ◌||◌, ◌&&◌, List, [], ◌∷◌, ◌++◌, map, length, append-nil, append_assoc, refl, sym, ap, subst, ◌∙◌, arith}
use Rattle.std.specs.Prelude.{ℤ, Option, None, Some, Ok}
use Rattle.std.specs.Int.{w64, cast_unsigned}
use Rattle.std.specs.Str.{IsUtf8, chars, is_utf8}
use Rattle.std.proofs.lemmas.Str.{is_utf8-from_IsUtf8}
use lib.Utf8.{encode}
use denote.Hole.Carrier.{roll}
use Rattle.bson_lite.specs.declared.bson.Binary.{Binary}
use Rattle.bson_lite.specs.declared.bson.Bson as bson
use Rattle.bson_lite.specs.declared.bson.Bson.{Bson}
use Rattle.bson_lite.specs.declared.bson.Bson.TheOpen.{Bson-F}
use Rattle.bson_lite.specs.declared.bson.Bson.TheVariants.{rolls-Document}
use Rattle.bson_lite.specs.declared.document.Pair.{Pair}
use Rattle.bson_lite.specs.Ranges.{fits}
use Rattle.bson_lite.specs.Spelling.{Spells, body_of, counted, deepest_pair, depth, eight, element, four, framed, on_value, spelled, spelling, valid, valid_pairs, zero_in, zero_within}
use Rattle.bson_lite.proofs.Nested.{Folded, folded}
use Rattle.driver_options.specs.declared.concerns.WriteConcern.{WriteConcern}
use Rattle.wire_keys.specs.declared.keys.TheConstants.{DATABASE, SESSION, SESSION_ID, TRANSACTION_NUMBER, UUID_SUBTYPE}
use Rattle.driver_link.specs.Framed.{Framed}
use Rattle.driver_link.specs.Numbers.{field}
use Rattle.driver_ops.specs.declared.command.Command.{Command}
use Rattle.driver_ops.specs.Fields.{FramesUnder, IsSixteen, executor_fields, in_context, number_field, session_document, session_field}
use Rattle.driver_attempt.specs.inside.JoinedBodies.{InRange, MayJoin, SpellsBody, database_field}
use Rattle.driver_attempt.proofs.JoinedBodies.{AreSound, body_join, joined, spells_join}

-- a text, a number, bytes and a document as values
text_is : (text : List ℕ) → Folded (bson.String text) (2, counted text) 0 false (is_utf8 text)
unfolding bson.roll-Bson roll
text_is text = folded (Bson-F.String text)

number_is : (number : ℤ) → Folded (bson.Int64 number) (18, eight (cast_unsigned w64 number)) 0 false (fits 0x8000_0000_0000_0000 number)
unfolding bson.roll-Bson roll
number_is number = folded (Bson-F.Int64 number)

binary_is : (binary : Binary) → Folded (bson.Binary binary) (5, four (length binary.bytes) ++ binary.subtype ∷ binary.bytes) 0 false true
unfolding bson.roll-Bson roll
binary_is binary = folded (Bson-F.Binary binary)

document_spelled : (document : List (Pair Bson)) → spelled (bson.Document document) ≡ (3, spelling document)
document_spelled document = ap spelled (sym (rolls-Document document)) ∙ (folded (Bson-F.Document document)).spells

document_depth : (document : List (Pair Bson)) → depth (bson.Document document) ≡ suc (deepest_pair (map (on_value depth) document))
document_depth document = ap depth (sym (rolls-Document document)) ∙ (folded (Bson-F.Document document)).nests

document_zero : (document : List (Pair Bson)) → zero_within (bson.Document document) ≡ zero_in document
document_zero document = ap zero_within (sym (rolls-Document document)) ∙ (folded (Bson-F.Document document)).zeros

document_valid : (document : List (Pair Bson)) → valid (bson.Document document) ≡ valid_pairs document
document_valid document = ap valid (sym (rolls-Document document)) ∙ (folded (Bson-F.Document document)).valids

-- the keys are texts
session_key : is_utf8 SESSION.now ≡ true
unfolding is_utf8 chars encode
session_key = refl

id_key : is_utf8 SESSION_ID.now ≡ true
unfolding is_utf8 chars encode
id_key = refl

number_key : is_utf8 TRANSACTION_NUMBER.now ≡ true
unfolding is_utf8 chars encode
number_key = refl

database_key : is_utf8 DATABASE.now ≡ true
unfolding is_utf8 chars encode
database_key = refl

-- the id of a session as a value
abbrev uuid : List ℕ → Binary
uuid id = record { subtype = UUID_SUBTYPE; bytes = id }

-- the one element of the document that names a session
abbrev id_element : List ℕ → List ℕ
id_element id = 5 ∷ 105 ∷ 100 ∷ 0 ∷ 16 ∷ 0 ∷ 0 ∷ 0 ∷ 4 ∷ id

id_spelled : (id : List ℕ) → length id ≡ 16 → body_of (field SESSION_ID.now (bson.Binary (uuid id)) ∷ []) ≡ id_element id
id_spelled id sixteen =
    ap (λ (value : ℕ × List ℕ). element SESSION_ID.now value ++ []) (binary_is (uuid id)).spells
    ∙ ap (λ (n : ℕ). element SESSION_ID.now (5, four n ++ UUID_SUBTYPE ∷ id) ++ []) sixteen
    ∙ append-nil (id_element id)

document_bytes : (id : List ℕ) → length id ≡ 16 → spelling (session_document id) ≡ 30 ∷ 0 ∷ 0 ∷ 0 ∷ (id_element id ++ 0 ∷ [])
unfolding session_document
document_bytes id sixteen =
    let long : length (id_element id) + 5 ≡ 30 = omega (arith, sixteen) in
    ap (λ (elements : List ℕ). framed elements) (id_spelled id sixteen)
    ∙ ap (λ (n : ℕ). four n ++ (id_element id ++ 0 ∷ [])) long

-- the field of a session, up to its id
abbrev session_head : List ℕ
session_head = 3 ∷ 108 ∷ 115 ∷ 105 ∷ 100 ∷ 0 ∷ 30 ∷ 0 ∷ 0 ∷ 0 ∷ 5 ∷ 105 ∷ 100 ∷ 0 ∷ 16 ∷ 0 ∷ 0 ∷ 0 ∷ 4 ∷ []

pub session_spelled : (id : List ℕ) → length id ≡ 16 → body_of (session_field (Some id)) ≡ session_head ++ (id ++ 0 ∷ [])
unfolding session_field
session_spelled id sixteen =
    ap (λ (value : ℕ × List ℕ). element SESSION.now value ++ []) (document_spelled (session_document id))
    ∙ ap (λ (bytes : List ℕ). element SESSION.now (3, bytes) ++ []) (document_bytes id sixteen)
    ∙ append-nil (session_head ++ (id ++ 0 ∷ []))

-- the field of a transaction number, up to the number
abbrev pub number_head : List ℕ
number_head = 18 ∷ 116 ∷ 120 ∷ 110 ∷ 78 ∷ 117 ∷ 109 ∷ 98 ∷ 101 ∷ 114 ∷ 0 ∷ []

pub number_spelled : (number : ℤ) → body_of (number_field (Some number)) ≡ number_head ++ eight (cast_unsigned w64 number)
unfolding number_field
number_spelled number =
    ap (λ (value : ℕ × List ℕ). element TRANSACTION_NUMBER.now value ++ []) (number_is number).spells
    ∙ append-nil (number_head ++ eight (cast_unsigned w64 number))

-- the field of a database, up to the length of its name
abbrev database_head : List ℕ
database_head = 2 ∷ 36 ∷ 100 ∷ 98 ∷ 0 ∷ []

pub database_spelled : (database : List ℕ) → body_of (database_field database) ≡ database_head ++ (four (length database + 1) ++ (database ++ 0 ∷ []))
database_spelled database =
    ap (λ (value : ℕ × List ℕ). element DATABASE.now value ++ []) (text_is database).spells
    ∙ append-nil (database_head ++ (four (length database + 1) ++ (database ++ 0 ∷ [])))

-- parts that were appended one after another
pub two_parts : (out first second : List ℕ) → (out ++ first) ++ second ≡ out ++ (first ++ second)
two_parts out first second = append_assoc out first second

pub three_parts : (out first second third : List ℕ) → ((out ++ first) ++ second) ++ third ≡ out ++ (first ++ (second ++ third))
three_parts out first second third =
    append_assoc (out ++ first) second third ∙ append_assoc out first (second ++ third)

pub four_parts : (out first second third last : List ℕ) → (((out ++ first) ++ second) ++ third) ++ last ≡ out ++ (first ++ (second ++ (third ++ last)))
four_parts out first second third last =
    append_assoc ((out ++ first) ++ second) third last ∙ three_parts out first second (third ++ last)

-- the fields in their order
pub fields_spelled : (session : Option (List ℕ)) (number : Option ℤ) (database : List ℕ)
    → (body_of (session_field session) ++ body_of (number_field number)) ++ body_of (database_field database)
    ≡ body_of (executor_fields (in_context session number None) database)
unfolding executor_fields
fields_spelled session number database =
    let both : List (Pair Bson) = session_field session ++ number_field number in
    sym (body_join (both ++ []) (database_field database)
    ∙ ap (λ (parts : List (Pair Bson)). body_of parts ++ body_of (database_field database)) (append-nil both)
    ∙ ap (λ (parts : List ℕ). parts ++ body_of (database_field database)) (body_join (session_field session) (number_field number)))

-- each may stand behind a body
none_sound : AreSound []
none_sound = record { deep = omega arith; zeros = refl; valids = refl }

id_sound : (id : List ℕ) → AreSound (field SESSION_ID.now (bson.Binary (uuid id)) ∷ [])
id_sound id = record {
  deep = omega (arith, (binary_is (uuid id)).nests);
  zeros = ap (λ (zero : Bool). (false || zero) || false) (binary_is (uuid id)).zeros;
  valids = ap (λ (key : Bool). (key && valid (bson.Binary (uuid id))) && true) id_key ∙ ap (λ (value : Bool). (true && value) && true) (binary_is (uuid id)).valids;
}

id_flat : (id : List ℕ) → deepest_pair (map (on_value depth) (field SESSION_ID.now (bson.Binary (uuid id)) ∷ [])) ≡ 0
id_flat id = omega (arith, (binary_is (uuid id)).nests)

session_sound : (session : Option (List ℕ)) → AreSound (session_field session)
unfolding session_field session_document
session_sound None = none_sound
session_sound (Some id) =
    let document : List (Pair Bson) = field SESSION_ID.now (bson.Binary (uuid id)) ∷ [] in
    record {
      deep = omega (arith, document_depth document, id_flat id);
      zeros = ap (λ (zero : Bool). (false || zero) || false) (document_zero document ∙ (id_sound id).zeros);
      valids = ap (λ (key : Bool). (key && valid (bson.Document document)) && true) session_key
          ∙ ap (λ (value : Bool). (true && value) && true) (document_valid document ∙ (id_sound id).valids);
    }

number_sound : (number : Option ℤ) → InRange number → AreSound (number_field number)
unfolding number_field
number_sound None in_range = none_sound
number_sound (Some number) in_range = record {
  deep = omega (arith, (number_is number).nests);
  zeros = ap (λ (zero : Bool). (false || zero) || false) (number_is number).zeros;
  valids = ap (λ (key : Bool). (key && valid (bson.Int64 number)) && true) number_key ∙ ap (λ (value : Bool). (true && value) && true) ((number_is number).valids ∙ in_range);
}

database_sound : (database : List ℕ) → IsUtf8 database → AreSound (database_field database)
database_sound database utf8 = record {
  deep = omega (arith, (text_is database).nests);
  zeros = ap (λ (zero : Bool). (false || zero) || false) (text_is database).zeros;
  valids = ap (λ (key : Bool). (key && valid (bson.String database)) && true) database_key
      ∙ ap (λ (value : Bool). (true && value) && true) ((text_is database).valids ∙ is_utf8-from_IsUtf8 database utf8);
}

fields_sound : (session : Option (List ℕ)) (number : Option ℤ) (database : List ℕ) → InRange number → IsUtf8 database
    → AreSound (executor_fields (in_context session number None) database)
unfolding executor_fields
fields_sound session number database in_range utf8 =
    let both : List (Pair Bson) = session_field session ++ number_field number in
    joined (both ++ []) (database_field database) (joined both [] (joined (session_field session) (number_field number) (session_sound session) (number_sound number in_range)) none_sound) (database_sound database utf8)

-- so the bytes spell the body with them
pub body_spelled : (session : Option (List ℕ)) (number : Option ℤ) (command : Command) (own fields : List ℕ) (found : Option (List ℕ)) → Spells command.body own
    → fields ≡ body_of (executor_fields (in_context session number None) command.database) → InRange number → IsUtf8 command.database → MayJoin own fields found
    → SpellsBody (in_context session number None) command found
body_spelled session number command own fields None spells are in_range utf8 joins = tt
body_spelled session number command own fields (Some bytes) spells are in_range utf8 joins =
    spells_join command.body (executor_fields (in_context session number None) command.database) own fields bytes spells are (fields_sound session number command.database in_range utf8) joins

-- and the frame with them is that of the command
pub frames_joined : (session : Option (List ℕ)) (number : Option ℤ) (concern : Option WriteConcern) (command : Command) (body : List ℕ) (frame : Framed) → concern ≡ None → IsSixteen session
    → SpellsBody (in_context session number None) command (Some body) → frame ≡ record { database = command.database; body = body; sequences = command.sequences }
    → FramesUnder (in_context session number concern) command (Ok frame)
frames_joined session number concern command body frame none sixteen spells is = (
  sixteen,
  record {
    database = ap (λ (f : Framed). f.database) is;
    sequences = ap (λ (f : Framed). f.sequences) is;
    spelled = subst (λ (given : Option WriteConcern). Spells (command.body ++ executor_fields (in_context session number given) command.database) frame.body) (sym none)
        (subst (λ (bytes : List ℕ). Spells (command.body ++ executor_fields (in_context session number None) command.database) bytes) (sym (ap (λ (f : Framed). f.body) is)) spells);
  },
)
