-- The body of a plain insert has a spelling, is the only document that its bytes spell, and reads as what it says.
use Rattle.std.proofs.Common.{◌≡◌, ℕ, ◌≤◌, Bool, true, false, ◌||◌, ◌&&◌, List, [], ◌∷◌, map, length, refl, sym, ap, subst, ◌∙◌, arith}
use Rattle.std.specs.Prelude.{ℤ, Option, None, Some}
use Rattle.std.specs.Option.{option_and_then, option_map}
use Rattle.std.specs.Str.{chars, is_utf8}
use Rattle.std.proofs.lemmas.Bool.{or_from}
use Rattle.std.proofs.lemmas.Str.{is_utf8-from_IsUtf8}
use lib.Utf8.{encode}
use denote.Hole.Carrier.{out}
use Rattle.bson_lite.specs.declared.bson.Binary.{Binary}
use Rattle.bson_lite.specs.declared.bson.Bson as bson
use Rattle.bson_lite.specs.declared.bson.Bson.{Bson}
use Rattle.bson_lite.specs.declared.document.Pair.{Pair}
use Rattle.bson_lite.specs.Spelling.{Spells, deepest_pair, depth, holds_zero, on_value, spelling, valid, valid_pairs, zero_in, zero_within}
use Rattle.bson_lite.proofs.Numbers.{bytes_eq-same}
use Rattle.driver_link.specs.declared.frame.Documents.{Documents}
use Rattle.wire_keys.specs.declared.keys.TheConstants.{AUTOCOMMIT, DATABASE, INSERT, ORDERED, SESSION, SESSION_ID, START_TRANSACTION, TRANSACTION_NUMBER, UUID_SUBTYPE}
use Rattle.driver_link.specs.declared.machine.Place.{Place}
use Rattle.driver_link.specs.declared.machine.SendBody.{SendBody}
use Rattle.driver_link.specs.Asking.{asks, asks_as, asks_insert, may_go_to, spelled, target}
use Rattle.driver_link.specs.CommandNames.{command_named}
use Rattle.driver_link.specs.Commands.{flag, flag_value, goes_to, needed, optional, optional_value, sent_as, session_id_of, uuid_in}
use Rattle.driver_link.specs.Framed.{Framed}
use Rattle.driver_link.specs.Numbers.{field}
use Rattle.driver_link.specs.Values.{binary_of, int64_of, text_of}
use Rattle.driver_link.proofs.Forms.{bool_is, document_is, text_is}
use Rattle.driver_link.proofs.FrameReads.{document_once}
use Rattle.frame_reading.specs.declared.plain_insert.PlainInsert.{PlainInsert}
use Rattle.frame_reading.specs.inside.PlainInserts.{IsPlainInsert, IsSound, asks_documents, plain_body, plain_send, session_document}
use Rattle.frame_reading.proofs.PlainBytes.{binary_value, document_depth, document_valid, document_zero, flag_value as flag_folded, number_value, text_value}

-- fields that nest two levels at most and have no zero byte where none may stand, of values in their ranges
record AreSound (fields : List (Pair Bson)) : Type 0 where
  deep : deepest_pair (map (on_value depth) fields) ≤ 2
  zeros : zero_in fields ≡ false
  valids : valid_pairs fields ≡ true

none_sound : AreSound []
none_sound = record { deep = omega arith; zeros = refl; valids = refl }

one_sound : (key : List ℕ) (value : Bson) (fields : List (Pair Bson)) → holds_zero key ≡ false → is_utf8 key ≡ true → depth value ≤ 2 → zero_within value ≡ false → valid value ≡ true
    → AreSound fields → AreSound (field key value ∷ fields)
one_sound key value fields no_zero utf8 shallow zeros valids rest = record {
  deep = omega (arith, shallow, rest.deep);
  zeros = or_from (holds_zero key || zero_within value) (zero_in fields) (or_from (holds_zero key) (zero_within value) no_zero zeros) rest.zeros;
  valids = ap (λ (b : Bool). (b && valid value) && valid_pairs fields) utf8 ∙ ap (λ (b : Bool). (true && b) && valid_pairs fields) valids ∙ rest.valids;
}

-- the keys are texts
insert_key : is_utf8 INSERT.now ≡ true
unfolding is_utf8 chars encode
insert_key = refl

order_key : is_utf8 ORDERED.now ≡ true
unfolding is_utf8 chars encode
order_key = refl

session_key : is_utf8 SESSION.now ≡ true
unfolding is_utf8 chars encode
session_key = refl

id_key : is_utf8 SESSION_ID.now ≡ true
unfolding is_utf8 chars encode
id_key = refl

number_key : is_utf8 TRANSACTION_NUMBER.now ≡ true
unfolding is_utf8 chars encode
number_key = refl

database_key : is_utf8 DATABASE.now ≡ true
unfolding is_utf8 chars encode
database_key = refl

-- the bytes of a session's id as a value
abbrev uuid : List ℕ → Binary
uuid id = record { subtype = UUID_SUBTYPE; bytes = id }

id_flat : (id : List ℕ) → deepest_pair (map (on_value depth) (session_document id)) ≡ 0
id_flat id = omega (arith, (binary_value (uuid id)).nests)

id_sound : (id : List ℕ) → AreSound (session_document id)
id_sound id =
    let value = binary_value (uuid id) in
    one_sound SESSION_ID.now (bson.Binary (uuid id)) [] refl id_key (omega (arith, value.nests)) value.zeros value.valids none_sound

-- so the body has a spelling where it is short
plain_sound : (plain : PlainInsert) → IsSound plain → AreSound (plain_body plain)
plain_sound plain sound =
    let coll = text_value plain.namespace.coll in
    let order = flag_folded plain.ordered in
    let number = number_value plain.number in
    let database = text_value plain.namespace.db in
    let document : List (Pair Bson) = session_document plain.session in
    let named = id_sound plain.session in
    one_sound INSERT.now (bson.String plain.namespace.coll) _ refl insert_key (omega (arith, coll.nests)) coll.zeros (coll.valids ∙ is_utf8-from_IsUtf8 plain.namespace.coll sound.collection)
    (one_sound ORDERED.now (bson.Boolean plain.ordered) _ refl order_key (omega (arith, order.nests)) order.zeros order.valids
    (one_sound SESSION.now (bson.Document document) _ refl session_key (omega (arith, document_depth document, id_flat plain.session)) (document_zero document ∙ named.zeros) (document_valid document ∙ named.valids)
    (one_sound TRANSACTION_NUMBER.now (bson.Int64 plain.number) _ refl number_key (omega (arith, number.nests)) number.zeros (number.valids ∙ sound.number)
    (one_sound DATABASE.now (bson.String plain.namespace.db) [] refl database_key (omega (arith, database.nests)) database.zeros (database.valids ∙ is_utf8-from_IsUtf8 plain.namespace.db sound.database) none_sound))))

plain_spells : (plain : PlainInsert) (body : List (Pair Bson)) (bytes : List ℕ) → IsSound plain → bytes ≡ spelling (plain_body plain) → Spells body bytes → Spells (plain_body plain) bytes
plain_spells plain body bytes sound is spells =
    let are = plain_sound plain sound in
    let deep : deepest_pair (map (on_value depth) (plain_body plain)) ≤ 2 = are.deep in
    let same : length (spelling (plain_body plain)) ≡ length (spelling body) = ap length (sym is ∙ spells.is) in
    record {
      has = record {
        nests = omega (arith, deep);
        zero_free = are.zeros;
        well_formed = are.valids;
        short = subst (λ (long : ℕ). long ≤ 2147483647) (sym same) spells.has.short;
      };
      is = is;
    }

-- so what its bytes spell is the body, and reads alike
pub plain_read : (frame : Framed) (database bytes : List ℕ) (plain : PlainInsert) (body : List (Pair Bson)) (sequences : List Documents) (places : List Place)
    → database ≡ frame.database → bytes ≡ frame.body → IsPlainInsert database bytes plain → Spells body frame.body
    → spelled plain.namespace.db (plain_body plain) sequences places ≡ spelled frame.database body sequences places
plain_read frame database bytes plain body sequences places database_is bytes_are reads spells =
    let is : frame.body ≡ spelling (plain_body plain) = sym bytes_are ∙ reads.is in
    let same : plain_body plain ≡ body = document_once (plain_body plain) body frame.body (plain_spells plain body frame.body reads.sound is spells) spells in
    let named : plain.namespace.db ≡ frame.database = reads.names ∙ database_is in
    λ i. spelled (named i) (same i) sequences places

-- what stands in the body
number_is : (number : ℤ) → int64_of (bson.Int64 number) ≡ Some number
unfolding bson.out-Bson out
number_is number = refl

binary_is : (binary : Binary) → binary_of (bson.Binary binary) ≡ Some binary
unfolding bson.out-Bson out
binary_is binary = refl

uuid_is : (id : List ℕ) → length id ≡ 16 → uuid_in (uuid id) ≡ Some id
unfolding uuid_in
uuid_is id sixteen = rw sixteen

id_is : (id : List ℕ) → length id ≡ 16 → session_id_of (bson.Document (session_document id)) ≡ Some id
unfolding session_id_of
id_is id sixteen = rw (document_is (session_document id), binary_is (uuid id)) (uuid_is id sixteen)

module _ (plain : PlainInsert) (sixteen : length plain.session ≡ 16) where
  database_read : needed text_of DATABASE.now (plain_body plain) ≡ Some plain.namespace.db
  unfolding needed
  database_read = text_is plain.namespace.db

  goes : goes_to plain.namespace.db (plain_body plain) ≡ true
  unfolding goes_to
  goes = rw database_read (bytes_eq-same plain.namespace.db)

  session_read : optional session_id_of SESSION.now (plain_body plain) ≡ Some (Some plain.session)
  unfolding optional_value
  session_read = ap (λ (found : Option (List ℕ)). option_map (λ one. Some one) found) (id_is plain.session sixteen)

  number_read : optional int64_of TRANSACTION_NUMBER.now (plain_body plain) ≡ Some (Some plain.number)
  unfolding optional_value
  number_read = ap (λ (found : Option ℤ). option_map (λ one. Some one) found) (number_is plain.number)

  start_read : flag true START_TRANSACTION.now (plain_body plain) ≡ Some false
  unfolding flag_value
  start_read = refl

  transaction_read : flag false AUTOCOMMIT.now (plain_body plain) ≡ Some false
  unfolding flag_value
  transaction_read = refl

  sent_is : (asked : SendBody) → sent_as (plain_body plain) asked ≡ Some (plain_send plain asked)
  unfolding sent_as
  sent_is asked = rw (session_read, number_read, start_read, transaction_read)

  asks_is : (sequences : List Documents) (places : List Place) → asks plain.namespace.db (plain_body plain) sequences places ≡ asks_documents plain.namespace plain.ordered sequences places
  unfolding asks command_named may_go_to asks_as target asks_insert needed
  asks_is sequences places = rw (text_is plain.namespace.coll, bool_is plain.ordered) refl

  sent_by : (asked : Option SendBody) → option_and_then (sent_as (plain_body plain)) asked ≡ option_map (plain_send plain) asked
  sent_by None = refl
  sent_by (Some asked) = sent_is asked

  -- it is the send of what its documents ask for
  pub plain_spelled : (sequences : List Documents) (places : List Place)
      → spelled plain.namespace.db (plain_body plain) sequences places ≡ option_map (plain_send plain) (asks_documents plain.namespace plain.ordered sequences places)
  unfolding spelled
  plain_spelled sequences places = rw (goes, asks_is sequences places) (sent_by (asks_documents plain.namespace plain.ordered sequences places))
