-- A bulk write's command asks for the writes of its models.
use Rattle.std.proofs.Common.{◌≡◌, ℕ, zero, suc, ◌+◌, ◌<◌, ◌≤◌, Bool, true, false, not, cond, List, [], ◌∷◌, ◌++◌, append_assoc, bytes_eq, codes, drop, drop_at, length, length-append, length-take, lt-ltb, map, min, slice_get, take, take_at, refl, sym, ap, subst, ◌∙◌, arith}
use Rattle.std.specs.Prelude.{pos, nat_lt, Option, None, Some, unwrap_or, if◌then◌else◌}
use Rattle.std.specs.Cmp.Lexicographic.{bytes_decides}
use Rattle.std.specs.List.{AllByRecursion, list_any, position_or_len}
use Rattle.std.specs.Option.{option_and_then, option_map}
use Rattle.std.proofs.lemmas.Bool.{or_parts}
use denote.Hole.Carrier.{out}
use Rattle.bson_lite.specs.declared.bson.Bson as bson
use Rattle.bson_lite.specs.declared.bson.Bson.{Bson}
use Rattle.bson_lite.specs.declared.document.Pair.{Pair}
use Rattle.bson_lite.specs.declared.namespace.Namespace.{Namespace}
use Rattle.bson_lite.specs.Namespace.{dotted}
use Rattle.bson_lite.specs.Spelling.{Spells}
use Rattle.bulk_outcomes.specs.BulkResults.{ResultSpec}
use Rattle.driver_options.specs.declared.models.WriteModel.{WriteModel}
use Rattle.driver_options.specs.declared.models.WriteModel.TheVariants.{InsertOne, UpdateOne, UpdateMany, ReplaceOne, DeleteOne, DeleteMany}
use Rattle.driver_options.specs.declared.write_options.BulkWriteOptions.{BulkWriteOptions}
use Rattle.driver_options.specs.Models.{namespace_of}
use Rattle.driver_link.specs.declared.command.CommandName.TheVariants as name
use Rattle.wire_keys.specs.declared.keys.TheConstants.{ADMIN, BULK_WRITE, DELETE, DOCUMENT, INSERT, NAMESPACES, OPS, ORDERED, UPDATE}
use Rattle.driver_link.specs.declared.machine.Place.{Place}
use Rattle.driver_link.specs.declared.machine.PlacedWrite.{PlacedWrite}
use Rattle.driver_link.specs.declared.machine.SendBody.{SendBody}
use Rattle.driver_link.specs.declared.machine.SendBody.TheVariants.{Write}
use Rattle.driver_link.specs.declared.machine.SendCommand.TheVariants as command
use Rattle.driver_link.specs.declared.machine.WriteKind.TheVariants as kind
use Rattle.driver_link.specs.declared.machine.Written.{Written}
use Rattle.driver_link.specs.Asking.{asks, asks_as, asks_bulk, asks_ops, asks_writes, is_plain_one, may_go_to, only_sequence}
use Rattle.driver_link.specs.CommandNames.{command_named}
use Rattle.driver_link.specs.Commands.{needed}
use Rattle.driver_link.specs.Numbers.{field}
use Rattle.driver_link.specs.Reads.{SpellAll, SpellSequences}
use Rattle.driver_link.specs.Values.{bool_of}
use Rattle.driver_link.specs.Writes.{common_keys, cut, is_dot, namespace_by, namespace_in, namespaces_in, op_of, op_write, ops_of, placed, write_on}
use Rattle.driver_link.proofs.Forms.{bool_is, document_is, text_is}
use Rattle.driver_link.proofs.Lists.{none_is_some, some_is_some}
use Rattle.driver_ops.specs.declared.command.Command.{Command}
use Rattle.driver_ops.specs.declared.keys.TheConstants.{BYPASS_DOCUMENT_VALIDATION, COMMENT, ERRORS_ONLY, LET}
use Rattle.driver_ops.specs.declared.target.OperationTarget.{OperationTarget}
use Rattle.driver_ops.specs.Fields.{IsPlain}
use Rattle.driver_ops.specs.OptionFields.{document_in, flag_of, option_field}
use Rattle.driver_ops.specs.Operations.{CommandAsks, HasBodies, IsBuilt}
use Rattle.driver_ops.specs.SendKinds.{SendKind}
use Rattle.driver_ops.proofs.PlainOptions.{lacks_join, plain_bypass, plain_comment, plain_let}
use Rattle.bulk_fronts.specs.declared.own_op.OwnOp.{OwnOp}
use Rattle.bulk_fronts.specs.BulkFronts.{AreNumbered}
use Rattle.bulk_fronts.specs.BulkOps.{AreOps, IsUndotted, delete_fields, model_writes, model_written, namespace_document, numbered, op_document, op_fields, replace_one_fields, update_many_fields, update_one_fields}
use Rattle.bulk_ops.specs.BulkSpec.{AsksBulk, bulk_spec, is_verbose}
use Rattle.bulk_fronts.specs.BulkWrites.{AreDescribed, IsBulkCommand, bulk_command, bulk_is_ordered, described, numbered_ops, op_namespaces}
use Rattle.bulk_fronts.specs.Distinct.{distinct_with, number_in, number_of, with_text, with_text_by}
use Rattle.bulk_fronts.proofs.BulkNumbers.{numbered_spells}
use Rattle.bulk_fronts.proofs.BulkSpelled.{AreKnown, all_known}
use Rattle.bulk_fronts.proofs.Distinct.{number_below}

-- the place of the dot between the two names
dot_place : (db coll : List ℕ) → list_any is_dot db ≡ false → position_or_len is_dot (db ++ codes "." ++ coll) ≡ length db
dot_place [] coll plain = refl
dot_place (byte ∷ db) coll plain =
    let here = or_parts (is_dot byte) (list_any is_dot db) plain in
    ap (λ (dot : Bool). cond (not dot) (1 + position_or_len is_dot (db ++ codes "." ++ coll)) 0) here.0
    ∙ one_more (position_or_len is_dot (db ++ codes "." ++ coll)) (length db) (dot_place db coll here.1)
  where
    one_more : (a b : ℕ) → a ≡ b → 1 + a ≡ suc b
    one_more a b is = omega (arith, is)

-- a text that is cut at a place
abbrev cut_as : ℕ → List ℕ → Option Namespace
cut_as place text = if nat_lt place (length text) then Some (record { db = take place text; coll = drop (place + 1) text }) else None

-- two names with a dot between them
cut_here : (db coll : List ℕ) → cut_as (length db) (db ++ codes "." ++ coll) ≡ Some (record { db = db; coll = coll })
cut_here db coll =
    let text : List ℕ = db ++ codes "." ++ coll in
    let dot : length (codes ".") ≡ 1 = refl in
    let inside : length db < length text = omega (arith, dot, length-append (db ++ codes ".") coll, length-append db (codes ".")) in
    let front : take (length db) text ≡ db = ap (take (length db)) (append_assoc db (codes ".") coll) ∙ take_at db (codes "." ++ coll) (length db) refl in
    let back : drop (length db + 1) text ≡ coll = drop_at (db ++ codes ".") coll (length db + 1) (length-append db (codes ".")) in
    ap (λ (b : Bool). if b then Some (record { db = take (length db) text; coll = drop (length db + 1) text }) else None) (lt-ltb (length db) (length text) inside)
    ∙ (λ i. Some (record { db = front i; coll = back i }))

-- the text of a namespace whose database has no dot is cut where the names meet
pub cut_dotted : (model : WriteModel) → IsUndotted model → cut (dotted (namespace_of model)) ≡ Some (namespace_of model)
unfolding cut
cut_dotted model plain =
    ap (λ (place : ℕ). cut_as place (dotted (namespace_of model))) (dot_place (namespace_of model).db (namespace_of model).coll plain)
    ∙ cut_here (namespace_of model).db (namespace_of model).coll

-- each text is cut into the namespace at its place
abbrev CutsTo : List (List ℕ) → List Namespace → Type 0
CutsTo [] [] = Unit {0}
CutsTo [] (namespace ∷ namespaces) = ⊥
CutsTo (text ∷ texts) [] = ⊥
CutsTo (text ∷ texts) (namespace ∷ namespaces) = (cut text ≡ Some namespace) × CutsTo texts namespaces

-- the documents that describe them are read so
one_read : (text : List ℕ) (namespace : Namespace) → cut text ≡ Some namespace → namespace_in (namespace_document text) ≡ Some namespace
unfolding namespace_in needed
one_read text namespace is = ap (option_and_then cut) (text_is text) ∙ is

namespaces_read : (texts : List (List ℕ)) (namespaces : List Namespace) → CutsTo texts namespaces → namespaces_in (map namespace_document texts) ≡ Some namespaces
unfolding namespaces_in
namespaces_read [] [] cuts = refl
namespaces_read [] (namespace ∷ namespaces) cuts = absurd cuts
namespaces_read (text ∷ texts) [] cuts = absurd cuts
namespaces_read (text ∷ texts) (namespace ∷ namespaces) cuts =
    ap (option_and_then (λ (one : Namespace). option_map (λ (rest : List Namespace). one ∷ rest) (namespaces_in (map namespace_document texts)))) (one_read text namespace cuts.0)
    ∙ ap (option_map (λ (rest : List Namespace). namespace ∷ rest)) (namespaces_read texts namespaces cuts.1)

-- a text more
cuts_push : (texts : List (List ℕ)) (namespaces : List Namespace) (text : List ℕ) (namespace : Namespace) → CutsTo texts namespaces → cut text ≡ Some namespace
    → CutsTo (texts ++ text ∷ []) (namespaces ++ namespace ∷ [])
cuts_push [] [] text namespace cuts is = (is, tt)
cuts_push [] (one ∷ namespaces) text namespace cuts is = absurd cuts
cuts_push (other ∷ texts) [] text namespace cuts is = absurd cuts
cuts_push (other ∷ texts) (one ∷ namespaces) text namespace cuts is = (cuts.0, cuts_push texts namespaces text namespace cuts.1 is)

-- namespaces into which texts are cut
record AreCut (texts : List (List ℕ)) : Type 0 where
  namespaces : List Namespace
  cuts : CutsTo texts namespaces

cuts_by : (found : Option ℕ) (texts : List (List ℕ)) (text : List ℕ) (namespace : Namespace) → AreCut texts → cut text ≡ Some namespace → AreCut (with_text_by found texts text)
cuts_by None texts text namespace are is = record { namespaces = are.namespaces ++ namespace ∷ []; cuts = cuts_push texts are.namespaces text namespace are.cuts is }
cuts_by (Some number) texts text namespace are is = are

-- the texts of ops are cut
cuts_with : (texts : List (List ℕ)) (models : List WriteModel) (own : List OwnOp) → AreOps models own → AllByRecursion IsUndotted models → AreCut texts → AreCut (distinct_with texts (map (λ (one : OwnOp). one.namespace) own))
unfolding distinct_with with_text
cuts_with texts [] [] are plain cut_so = cut_so
cuts_with texts [] (one ∷ own) are plain cut_so = absurd are
cuts_with texts (model ∷ models) [] are plain cut_so = absurd are
cuts_with texts (model ∷ models) (one ∷ own) are plain cut_so =
    cuts_with (with_text_by (number_in texts one.namespace) texts one.namespace) models own are.1 plain.1
    (cuts_by (number_in texts one.namespace) texts one.namespace (namespace_of model) cut_so (ap cut are.0.namespace ∙ cut_dotted model plain.0))

-- the namespace of a number is that of its text
known_at : (texts : List (List ℕ)) (namespaces : List Namespace) (text : List ℕ) (number : ℕ) (namespace : Namespace) → CutsTo texts namespaces → number_in texts text ≡ Some number
    → cut text ≡ Some namespace → slice_get namespaces number ≡ Some namespace
known_at [] namespaces text number namespace cuts is cut_is = absurd (none_is_some number is)
known_at (other ∷ texts) [] text number namespace cuts is cut_is = absurd cuts
known_at (other ∷ texts) (one ∷ namespaces) text number namespace cuts is cut_is =
    by_test (bytes_eq text other) (number_in texts text) refl (λ n at. known_at texts namespaces text n namespace cuts.1 at cut_is) is
  where
    by_test : (same : Bool) (found : Option ℕ) → bytes_eq text other ≡ same → ((n : ℕ) → found ≡ Some n → slice_get namespaces n ≡ Some namespace)
        → (if same then Some 0 else option_map (λ (n : ℕ). suc n) found) ≡ Some number → slice_get (one ∷ namespaces) number ≡ Some namespace
    by_test true found same later now =
        ap (slice_get (one ∷ namespaces)) (sym (some_is_some 0 number now)) ∙ sym cuts.0 ∙ ap cut (sym ((bytes_decides text other).0 same)) ∙ cut_is
    by_test false None same later now = absurd (none_is_some number now)
    by_test false (Some n) same later now =
        ap (slice_get (one ∷ namespaces)) (sym (some_is_some (suc n) number now)) ∙ later n refl

-- an op reads as its model's write
op_read : (known : List Namespace) (n : ℕ) (model : WriteModel) → slice_get known n ≡ Some (namespace_of model) → op_of known (op_document n model) ≡ Some (model_written model)
unfolding op_of op_write namespace_by command_named needed bson.out-Bson out
op_read known n (InsertOne model) is =
    ap (option_and_then (λ (namespace : Namespace). op_write name.Insert namespace (field DOCUMENT.now (bson.Document model.document) ∷ []))) is
    ∙ ap (option_map (write_on kind.Insert model.namespace)) (document_is model.document)
op_read known n (UpdateOne model) is = ap (option_and_then (λ (namespace : Namespace). op_write name.Update namespace (update_one_fields model))) is
op_read known n (UpdateMany model) is = ap (option_and_then (λ (namespace : Namespace). op_write name.Update namespace (update_many_fields model))) is
op_read known n (ReplaceOne model) is = ap (option_and_then (λ (namespace : Namespace). op_write name.Update namespace (replace_one_fields model))) is
op_read known n (DeleteOne model) is = ap (option_and_then (λ (namespace : Namespace). op_write name.Delete namespace (delete_fields false model.filter model.collation model.hint))) is
op_read known n (DeleteMany model) is = ap (option_and_then (λ (namespace : Namespace). op_write name.Delete namespace (delete_fields true model.filter model.collation model.hint))) is

-- the ops of models, each on the number of its namespace
abbrev op_documents : List (List ℕ) → List WriteModel → List OwnOp → List (List (Pair Bson))
op_documents texts [] own = []
op_documents texts (model ∷ models) [] = []
op_documents texts (model ∷ models) (one ∷ own) = op_document (number_of texts one.namespace) model ∷ op_documents texts models own

-- read as their writes
ops_read : (texts : List (List ℕ)) (namespaces : List Namespace) (models : List WriteModel) (own : List OwnOp) → CutsTo texts namespaces → AreOps models own → AllByRecursion IsUndotted models → AreKnown texts own
    → ops_of namespaces (op_documents texts models own) ≡ Some (map model_written models)
unfolding ops_of
ops_read texts namespaces [] own cuts are plain known = refl
ops_read texts namespaces (model ∷ models) [] cuts are plain known = absurd are
ops_read texts namespaces (model ∷ models) (one ∷ own) cuts are plain known =
    let number_is : number_of texts one.namespace ≡ known.0.0 = ap (λ (found : Option ℕ). unwrap_or found (length texts)) known.0.1 in
    let here = known_at texts namespaces one.namespace known.0.0 (namespace_of model) cuts known.0.1 (ap cut are.0.namespace ∙ cut_dotted model plain.0) in
    ap (option_and_then (λ (write : Written). option_map (λ (rest : List Written). write ∷ rest) (ops_of namespaces (op_documents texts models own))))
    (op_read namespaces (number_of texts one.namespace) model (ap (slice_get namespaces) number_is ∙ here))
    ∙ ap (option_map (λ (rest : List Written). model_written model ∷ rest)) (ops_read texts namespaces models own cuts are.1 plain.1 known.1)

-- the writes of models with as many places are those of the bulk write
placed_models : (models : List WriteModel) (places : List Place) → length places ≡ length models → placed (map model_written models) places ≡ Some (model_writes models places)
unfolding placed
placed_models [] [] each = refl
placed_models [] (place ∷ places) each = absurd (omega (arith, each))
placed_models (model ∷ models) [] each = absurd (omega (arith, each))
placed_models (model ∷ models) (place ∷ places) each =
    ap (option_map (λ (writes : List PlacedWrite). record { place = place; written = model_written model } ∷ writes)) (placed_models models places (omega (arith, each)))

-- a body of a bulk write asks for that
asks_first : (ordered : Bool) (fields : List (Pair Bson)) (texts : List (List ℕ)) (documents : List (List (Pair Bson))) (known : List Namespace) (models : List WriteModel) (places : List Place)
    → needed bool_of ORDERED.now (field BULK_WRITE.now (bson.Int32 (pos 1)) ∷ fields) ≡ Some ordered → namespaces_in (map namespace_document texts) ≡ Some known
    → ops_of known documents ≡ Some (map model_written models) → length places ≡ length models
    → asks ADMIN.now (field BULK_WRITE.now (bson.Int32 (pos 1)) ∷ fields)
    (record { name = NAMESPACES.now; documents = map namespace_document texts } ∷ record { name = OPS.now; documents = documents } ∷ []) places
    ≡ Some (Write command.BulkWrite ordered (model_writes models places))
unfolding asks command_named may_go_to asks_as is_plain_one asks_bulk only_sequence asks_ops asks_writes bson.out-Bson out
asks_first ordered fields texts documents known models places is known_is ops_is each =
    rw (is, known_is, ops_is) (ap (option_map (λ (writes : List PlacedWrite). Write command.BulkWrite ordered writes)) (placed_models models places each))

-- with whichever of the executor's fields
ordered_of : (options : BulkWriteOptions) (verbose : Bool) (fields : List (Pair Bson)) → needed bool_of ORDERED.now (bulk_command options verbose ++ fields) ≡ Some (bulk_is_ordered options)
unfolding needed bulk_command
ordered_of options verbose fields = bool_is (bulk_is_ordered options)

asks_is : (options : BulkWriteOptions) (verbose : Bool) (fields : List (Pair Bson)) (texts : List (List ℕ)) (documents : List (List (Pair Bson))) (known : List Namespace) (models : List WriteModel) (places : List Place)
    → namespaces_in (map namespace_document texts) ≡ Some known → ops_of known documents ≡ Some (map model_written models) → length places ≡ length models
    → asks ADMIN.now (bulk_command options verbose ++ fields)
    (record { name = NAMESPACES.now; documents = map namespace_document texts } ∷ record { name = OPS.now; documents = documents } ∷ []) places
    ≡ Some (Write command.BulkWrite (bulk_is_ordered options) (model_writes models places))
unfolding bulk_command
asks_is options verbose fields texts documents known models places known_is ops_is each =
    asks_first (bulk_is_ordered options) _ texts documents known models places (ordered_of options verbose fields) known_is ops_is each

-- the body has none of the executor's fields
plain_errors_only : (flag : Bool) → IsPlain (field ERRORS_ONLY.now (bson.Boolean flag) ∷ [])
plain_errors_only flag = (refl, (refl, (refl, (refl, (refl, (refl, (refl, (refl, (refl, tt)))))))))

plain_is : (options : BulkWriteOptions) (verbose : Bool) → IsPlain (bulk_command options verbose)
unfolding bulk_command
plain_is options verbose =
    let head : List (Pair Bson) = field BULK_WRITE.now (bson.Int32 (pos 1)) ∷ field ORDERED.now (bson.Boolean (bulk_is_ordered options)) ∷ [] in
    let bypass = option_field BYPASS_DOCUMENT_VALIDATION.now (flag_of options.bypass_document_validation) in
    let comment = option_field COMMENT.now options.comment in
    let vars = option_field LET.now (document_in options.let_vars) in
    lacks_join common_keys (((head ++ bypass) ++ comment) ++ vars) (field ERRORS_ONLY.now (bson.Boolean (not verbose)) ∷ [])
    (lacks_join common_keys ((head ++ bypass) ++ comment) vars
    (lacks_join common_keys (head ++ bypass) comment
    (lacks_join common_keys head bypass (refl, (refl, (refl, (refl, (refl, (refl, (refl, (refl, (refl, tt))))))))) (plain_bypass (flag_of options.bypass_document_validation)))
    (plain_comment options.comment))
    (plain_let (document_in options.let_vars)))
    (plain_errors_only (not verbose))

-- the documents of namespaces are spelled
texts_spelled : (texts : List (List ℕ)) → AreDescribed texts → SpellAll (map namespace_document texts) (described texts)
texts_spelled [] all = tt
texts_spelled (text ∷ texts) all = (record { has = all.0; is = refl }, texts_spelled texts all.1)

-- an op on a number of 31 bits is spelled by its bytes with that number
pub op_spelled : (n : ℕ) (model : WriteModel) (bytes : List ℕ) → n < 2147483648 → Spells (op_document 0 model) bytes → Spells (op_document n model) (numbered n bytes)
op_spelled n (InsertOne model) bytes small spells = numbered_spells INSERT.now refl (op_fields (InsertOne model)) n bytes small spells
op_spelled n (UpdateOne model) bytes small spells = numbered_spells UPDATE.now refl (op_fields (UpdateOne model)) n bytes small spells
op_spelled n (UpdateMany model) bytes small spells = numbered_spells UPDATE.now refl (op_fields (UpdateMany model)) n bytes small spells
op_spelled n (ReplaceOne model) bytes small spells = numbered_spells UPDATE.now refl (op_fields (ReplaceOne model)) n bytes small spells
op_spelled n (DeleteOne model) bytes small spells = numbered_spells DELETE.now refl (op_fields (DeleteOne model)) n bytes small spells
op_spelled n (DeleteMany model) bytes small spells = numbered_spells DELETE.now refl (op_fields (DeleteMany model)) n bytes small spells

-- so are all
ops_spelled : (texts : List (List ℕ)) (models : List WriteModel) (own : List OwnOp) → AreOps models own → AreKnown texts own → length texts ≤ 2147483648
    → SpellAll (op_documents texts models own) (numbered_ops texts own)
ops_spelled texts [] [] are known few = tt
ops_spelled texts [] (one ∷ own) are known few = absurd are
ops_spelled texts (model ∷ models) [] are known few = absurd are
ops_spelled texts (model ∷ models) (one ∷ own) are known few =
    let below : known.0.0 < length texts = number_below texts one.namespace known.0.0 known.0.1 in
    let number_is : number_of texts one.namespace ≡ known.0.0 = ap (λ (found : Option ℕ). unwrap_or found (length texts)) known.0.1 in
    (op_spelled (number_of texts one.namespace) model one.bytes (omega (arith, below, number_is, few)) are.0.spelled, ops_spelled texts models own are.1 known.1 few)

-- fronts of models and of their ops
front_ops : (count : ℕ) (models : List WriteModel) (own : List OwnOp) → AreOps models own → AreOps (take count models) (take count own)
front_ops zero models own are = tt
front_ops (suc count) [] [] are = tt
front_ops (suc count) [] (one ∷ own) are = absurd are
front_ops (suc count) (model ∷ models) [] are = absurd are
front_ops (suc count) (model ∷ models) (one ∷ own) are = (are.0, front_ops count models own are.1)

front_undotted : (count : ℕ) (models : List WriteModel) → AllByRecursion IsUndotted models → AllByRecursion IsUndotted (take count models)
front_undotted zero models plain = tt
front_undotted (suc count) [] plain = tt
front_undotted (suc count) (model ∷ models) plain = (plain.0, front_undotted count models plain.1)

ops_length : (models : List WriteModel) (own : List OwnOp) → AreOps models own → length models ≡ length own
ops_length [] [] are = refl
ops_length [] (one ∷ own) are = absurd are
ops_length (model ∷ models) [] are = absurd are
ops_length (model ∷ models) (one ∷ own) are = ap suc (ops_length models own are.1)

fronts_each : (models : List WriteModel) (own : List OwnOp) (places : List Place) (count : ℕ) → AreOps models own → length places ≡ length own → length (take count places) ≡ length (take count models)
fronts_each models own places count are each =
    length-take count places ∙ ap (min count) (each ∙ sym (ops_length models own are)) ∙ sym (length-take count models)

module _ (target : OperationTarget) (first : ℕ) (own : List OwnOp) (options : BulkWriteOptions) {R : Type 0} (tells : ResultSpec R) (count : ℕ) (made : Command)
    (is : IsBulkCommand own options (is_verbose tells) count made) (few : AreNumbered (take count own)) where
  abbrev texts : List (List ℕ)
  texts = op_namespaces (take count own)

  asks_for : (places : List Place) (body : SendBody) → AsksBulk own options count places body → CommandAsks made (take count places) body
  asks_for places body asked =
      let models : List WriteModel = take count asked.models in
      let are = front_ops count asked.models own asked.are_ops in
      let plain = front_undotted count asked.models asked.undotted in
      let cut_so = cuts_with [] models (take count own) are plain (record { namespaces = []; cuts = tt }) in
      let known = all_known (take count own) in
      record {
        sequences = record { name = NAMESPACES.now; documents = map namespace_document texts } ∷ record { name = OPS.now; documents = op_documents texts models (take count own) } ∷ [];
        spelled = subst (SpellSequences (record { name = NAMESPACES.now; documents = map namespace_document texts } ∷ record { name = OPS.now; documents = op_documents texts models (take count own) } ∷ []))
            (sym is.sequences)
            (record { name = refl; documents = texts_spelled texts is.spelled }, (record { name = refl; documents = ops_spelled texts models (take count own) are known few }, tt));
        asks = λ fields common. rw (is.database, is.body, asked.is)
            (asks_is options (is_verbose tells) fields texts (op_documents texts models (take count own)) cut_so.namespaces models (take count places)
            (namespaces_read texts cut_so.namespaces cut_so.cuts)
            (ops_read texts cut_so.namespaces models (take count own) cut_so.cuts are plain known)
            (fronts_each asked.models own places count asked.are_ops asked.each_placed));
      }

  -- such a command is a bulk write's
  pub built_bulk : (which : SendKind) → made.name ≡ name.BulkWrite → IsBuilt (bulk_spec tells target first own options) which count made
  built_bulk which is_name = record {
    name = is_name;
    is = is;
    plain = subst IsPlain (sym is.body) (plain_is options (is_verbose tells));
    asks = asks_for;
    within = λ places body asked. subst (λ long. count ≤ long) (sym asked.each_placed) is.within;
  }

-- for each command that it may build the bulk write asks for something, where each op has a place
pub bulk_bodies_of : (target : OperationTarget) (first : ℕ) (own : List OwnOp) (options : BulkWriteOptions) {R : Type 0} (tells : ResultSpec R) (models : List WriteModel) (places : List Place)
    → AreOps models own → AllByRecursion IsUndotted models → length places ≡ length own → HasBodies (bulk_spec tells target first own options) places
bulk_bodies_of target first own options tells models places are plain each = λ which statements made is. (
  Write command.BulkWrite (bulk_is_ordered options) (model_writes (take statements models) (take statements places)),
  record { models = models; are_ops = are; undotted = plain; each_placed = each; is = refl },
)
