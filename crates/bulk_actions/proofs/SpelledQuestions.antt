-- The question for a page of a bulk write has a spelling, under each session and under none.
use Rattle.std.proofs.Common.{◌≡◌, ℕ, suc, ◌+◌, ◌≤◌, Bool, false, ◌||◌, List, [], ◌∷◌, ◌++◌, length, map, nat_lt, le-ltb, length-append, refl, ap, ◌∙◌, sym, arith}
use Rattle.std.specs.Prelude.{ℤ, Option, None, Some}
use Rattle.std.proofs.lemmas.Bool.{or_from}
use denote.Hole.Carrier.{roll}
use Rattle.bson_lite.specs.declared.bson.Bson.{Bson}
use Rattle.bson_lite.specs.declared.bson.Bson as bson
use Rattle.bson_lite.specs.declared.bson.Bson.TheOpen.{Bson-F}
use Rattle.bson_lite.specs.declared.bson.Bson.TheVariants.{rolls-Document}
use Rattle.bson_lite.specs.declared.document.Pair.{Pair}
use Rattle.bson_lite.specs.Spelling.{body_of, deepest_pair, depth, element, four, framed, holds_zero, nesting, on_value, refusal, spelled, spelling, zero_in, zero_in_pairs, zero_within}
use Rattle.bson_lite.proofs.Named.{by_tests}
use Rattle.bson_lite.proofs.Nested.{folded}
use Rattle.wire_keys.specs.declared.keys.TheConstants.{COLLECTION, DATABASE, GET_MORE, SESSION, SESSION_ID, UUID_SUBTYPE}
use Rattle.driver_link.specs.Numbers.{field}
use Rattle.driver_ops.specs.Fields.{IsSixteen, executor_fields, number_field, session_document, session_field, under}
use Rattle.driver_ops.specs.GetMores.{more_command}
use Rattle.bulk_ops.specs.BulkPages.{bulk_namespace}

-- a value nests at most so many levels, holds no zero byte where it may not, and has at most so many bytes
record IsSmall (levels bytes : ℕ) (value : Bson) : Type 0 where
  nests : depth value ≤ levels
  zeros : zero_within value ≡ false
  short : length (spelled value).1 ≤ bytes

within : (n most : ℕ) (long : ℕ) → long ≡ n → n ≤ most → long ≤ most
within n most long is bound = omega (arith, is, bound)

number_small : (number : ℤ) → IsSmall 0 8 (bson.Int64 number)
unfolding bson.roll-Bson roll
number_small number =
    let facts = folded (Bson-F.Int64 number) in record {
      nests = within 0 0 _ facts.nests (omega arith);
      zeros = facts.zeros;
      short = within 8 8 _ (ap (λ (s : ℕ × List ℕ). length s.1) facts.spells) (omega arith);
    }

text_small : (text : List ℕ) (most : ℕ) → length text + 5 ≤ most → IsSmall 0 most (bson.String text)
unfolding bson.roll-Bson roll
text_small text most bound =
    let facts = folded (Bson-F.String text) in
    let long : length (four (length text + 1) ++ (text ++ 0 ∷ [])) ≡ length text + 5
    = omega (arith, length-append (four (length text + 1)) (text ++ 0 ∷ []), length-append text (0 ∷ [])) in record {
      nests = within 0 0 _ facts.nests (omega arith);
      zeros = facts.zeros;
      short = within (length text + 5) most _ (ap (λ (s : ℕ × List ℕ). length s.1) facts.spells ∙ long) bound;
    }

binary_small : (bytes : List ℕ) → length bytes ≡ 16 → IsSmall 0 21 (bson.Binary (record { subtype = UUID_SUBTYPE; bytes = bytes }))
unfolding bson.roll-Bson roll
binary_small bytes sixteen =
    let facts = folded (Bson-F.Binary (record { subtype = UUID_SUBTYPE; bytes = bytes })) in
    let long : length (four (length bytes) ++ UUID_SUBTYPE ∷ bytes) ≡ 21 = omega (arith, length-append (four (length bytes)) (UUID_SUBTYPE ∷ bytes), sixteen) in record {
      nests = within 0 0 _ facts.nests (omega arith);
      zeros = facts.zeros;
      short = within 21 21 _ (ap (λ (s : ℕ × List ℕ). length s.1) facts.spells ∙ long) (omega arith);
    }

-- fields nest at most so many levels, hold no zero byte where they may not, and have at most so many bytes
record AreSmall (levels bytes : ℕ) (fields : List (Pair Bson)) : Type 0 where
  nests : deepest_pair (map (on_value depth) fields) ≤ levels
  zeros : zero_in_pairs (map (on_value zero_within) fields) ≡ false
  short : length (body_of fields) ≤ bytes

none_small : AreSmall 0 0 []
none_small = record { nests = omega arith; zeros = refl; short = omega arith }

-- one field more
field_small : (key : List ℕ) (value : Bson) (fields : List (Pair Bson)) (deep bytes levels more : ℕ) → holds_zero key ≡ false → IsSmall deep bytes value → deep ≤ levels → AreSmall levels more fields
    → AreSmall levels (length key + 2 + bytes + more) (field key value ∷ fields)
field_small key value fields deep bytes levels more no_zero value_is less rest =
    let value_deep = value_is.nests in
    let rest_deep = rest.nests in
    let value_short = value_is.short in
    let rest_short = rest.short in record {
      nests = omega (arith, value_deep, less, rest_deep);
      zeros = or_from (holds_zero key || zero_within value) (zero_in_pairs (map (on_value zero_within) fields)) (or_from (holds_zero key) (zero_within value) no_zero value_is.zeros) rest.zeros;
      short = omega (arith, length-append (element key (spelled value)) (body_of fields), length-append key (0 ∷ (spelled value).1), value_short, rest_short);
    }

framed_long : (parts : List ℕ) → length (framed parts) ≡ length parts + 5
framed_long parts = omega (arith, length-append (four (length parts + 5)) (parts ++ 0 ∷ []), length-append parts (0 ∷ []))

-- small fields as a value
document_small : (fields : List (Pair Bson)) (levels bytes : ℕ) → AreSmall levels bytes fields → IsSmall (suc levels) (bytes + 5) (bson.Document fields)
document_small fields levels bytes small =
    let facts = folded (Bson-F.Document fields) in
    let rolls = rolls-Document fields in
    let deep = small.nests in
    let short = small.short in record {
      nests = within (suc (deepest_pair (map (on_value depth) fields))) (suc levels) (depth (bson.Document fields)) (ap depth (sym rolls) ∙ facts.nests) (omega (arith, deep));
      zeros = ap zero_within (sym rolls) ∙ facts.zeros ∙ small.zeros;
      short = within (length (framed (body_of fields))) (bytes + 5) (length (spelled (bson.Document fields)).1)
          (ap (λ (value : Bson). length (spelled value).1) (sym rolls) ∙ ap (λ (s : ℕ × List ℕ). length s.1) facts.spells) (omega (arith, framed_long (body_of fields), short));
    }

-- such a document is not refused
small_spelled : (fields : List (Pair Bson)) → AreSmall 99 2147483642 fields → refusal fields ≡ None
small_spelled fields small =
    let deep = small.nests in
    let short = small.short in
    let nests : nesting fields ≤ 100 = omega (arith, deep) in
    let long : length (spelling fields) ≤ 2147483647 = omega (arith, framed_long (body_of fields), short) in
    ap (λ (b : Bool). by_tests b (zero_in fields) (nat_lt 2147483647 (length (spelling fields)))) (le-ltb 100 (nesting fields) nests)
    ∙ ap (λ (b : Bool). by_tests false b (nat_lt 2147483647 (length (spelling fields)))) small.zeros
    ∙ ap (λ (b : Bool). by_tests false false b) (le-ltb 2147483647 (length (spelling fields)) long)

widened : (fields : List (Pair Bson)) (bytes : ℕ) → bytes ≤ 2147483642 → AreSmall 1 bytes fields → AreSmall 99 2147483642 fields
widened fields bytes bound small =
    let deep = small.nests in
    let short = small.short in
    record { nests = omega (arith, deep); zeros = small.zeros; short = omega (arith, bound, short) }

-- the fields of a question behind its session
abbrev last_fields : List (Pair Bson)
last_fields = field DATABASE.now (bson.String bulk_namespace.db) ∷ []

last_small : AreSmall 1 15 last_fields
last_small =
    let key : length DATABASE.now ≡ 3 = refl in
    let five : length bulk_namespace.db ≡ 5 = refl in
    let all = field_small DATABASE.now (bson.String bulk_namespace.db) [] 0 10 1 0 refl (text_small bulk_namespace.db 10 (omega (arith, five))) (omega arith) (record { nests = omega arith; zeros = refl; short = omega arith }) in
    let short = all.short in
    record { nests = all.nests; zeros = all.zeros; short = omega (arith, key, short) }

-- the question itself
question_small : (cursor : ℤ) (behind : List (Pair Bson)) (bytes : ℕ) → AreSmall 1 bytes behind
    → AreSmall 1 (length GET_MORE.now + 2 + 8 + (length COLLECTION.now + 2 + 19 + bytes)) (field GET_MORE.now (bson.Int64 cursor) ∷ field COLLECTION.now (bson.String bulk_namespace.coll) ∷ behind)
question_small cursor behind bytes small =
    let fourteen : length bulk_namespace.coll ≡ 14 = refl in
    field_small GET_MORE.now (bson.Int64 cursor) (field COLLECTION.now (bson.String bulk_namespace.coll) ∷ behind) 0 8 1 (length COLLECTION.now + 2 + 19 + bytes) refl (number_small cursor) (omega arith)
    (field_small COLLECTION.now (bson.String bulk_namespace.coll) behind 0 19 1 bytes refl (text_small bulk_namespace.coll 19 (omega (arith, fourteen))) (omega arith) small)

session_small : (id : List ℕ) → length id ≡ 16 → IsSmall 1 30 (bson.Document (session_document id))
unfolding session_document
session_small id sixteen =
    let key : length SESSION_ID.now ≡ 2 = refl in
    let inner = field_small SESSION_ID.now (bson.Binary (record { subtype = UUID_SUBTYPE; bytes = id })) [] 0 21 0 0 refl (binary_small id sixteen) (omega arith) none_small in
    let document = document_small (field SESSION_ID.now (bson.Binary (record { subtype = UUID_SUBTYPE; bytes = id })) ∷ []) 0 (length SESSION_ID.now + 2 + 21 + 0) inner in
    let short = document.short in
    record { nests = document.nests; zeros = document.zeros; short = omega (arith, key, short) }

-- so each is spelled
pub spells_questions : (cursor : ℤ) (session : Option (List ℕ)) → IsSixteen session → refusal (more_command bulk_namespace cursor ++ executor_fields (under session None) bulk_namespace.db) ≡ None
unfolding more_command executor_fields session_field number_field
spells_questions cursor None sixteen =
    let more : length GET_MORE.now ≡ 7 = refl in
    let collection : length COLLECTION.now ≡ 10 = refl in
    let fields : List (Pair Bson) = field GET_MORE.now (bson.Int64 cursor) ∷ field COLLECTION.now (bson.String bulk_namespace.coll) ∷ last_fields in
    small_spelled fields (widened fields (length GET_MORE.now + 2 + 8 + (length COLLECTION.now + 2 + 19 + 15)) (omega (arith, more, collection)) (question_small cursor last_fields 15 last_small))
spells_questions cursor (Some id) sixteen =
    let more : length GET_MORE.now ≡ 7 = refl in
    let collection : length COLLECTION.now ≡ 10 = refl in
    let session : length SESSION.now ≡ 4 = refl in
    let behind : List (Pair Bson) = field SESSION.now (bson.Document (session_document id)) ∷ last_fields in
    let behind_small = field_small SESSION.now (bson.Document (session_document id)) last_fields 1 30 1 15 refl (session_small id sixteen) (omega arith) last_small in
    let fields : List (Pair Bson) = field GET_MORE.now (bson.Int64 cursor) ∷ field COLLECTION.now (bson.String bulk_namespace.coll) ∷ behind in
    small_spelled fields (widened fields (length GET_MORE.now + 2 + 8 + (length COLLECTION.now + 2 + 19 + (length SESSION.now + 2 + 30 + 15))) (omega (arith, more, collection, session))
    (question_small cursor behind (length SESSION.now + 2 + 30 + 15) behind_small))
