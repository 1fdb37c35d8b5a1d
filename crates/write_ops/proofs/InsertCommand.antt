-- An insert's command asks for the insert of its documents.
use Rattle.std.proofs.Common.{◌≡◌, ℕ, zero, suc, ◌≤◌, List, [], ◌∷◌, ◌++◌, length, map, min, refl, ap, Bool, subst, sym, ◌∙◌, arith, length-take, ◌⊎◌, inl, inr}
use Rattle.std.specs.Prelude.{take, Option, None, Some}
use Rattle.std.specs.Option.{option_and_then, option_map}
use Rattle.bson_lite.specs.declared.bson.Bson.{Bson}
use Rattle.bson_lite.specs.declared.bson.Bson as bson
use Rattle.bson_lite.specs.declared.document.Pair.{Pair}
use Rattle.bson_lite.specs.declared.fault.EncodeFault.{EncodeFault}
use Rattle.bson_lite.specs.declared.namespace.Namespace.{Namespace}
use Rattle.bson_lite.specs.Fields.{value_of}
use Rattle.bson_lite.specs.Spelling.{refusal}
use Rattle.driver_error.specs.declared.error.Error.{Error}
use Rattle.driver_error.specs.declared.kind.ErrorKind.TheVariants as kind
use Rattle.driver_error.specs.Error.{ErrorKind, IsAlone, kind_of}
use Rattle.driver_error.specs.LabelTexts.{no_labels}
use Rattle.driver_options.specs.declared.options.Description.{Description}
use Rattle.driver_options.specs.declared.write_options.InsertManyOptions.{InsertManyOptions}
use Rattle.driver_batches.specs.declared.sizes.Limits.{Limits}
use Rattle.driver_link.specs.declared.command.CommandName.TheVariants as name
use Rattle.wire_keys.specs.declared.keys.TheConstants.{DOCUMENTS, INSERT, ORDERED}
use Rattle.driver_link.specs.declared.machine.Place.{Place}
use Rattle.driver_link.specs.declared.machine.SendBody.{SendBody}
use Rattle.driver_link.specs.declared.machine.SendBody.TheVariants.{Write}
use Rattle.driver_link.specs.declared.machine.SendCommand.TheVariants as command
use Rattle.driver_link.specs.declared.machine.WriteKind.TheVariants as write_kind
use Rattle.driver_link.specs.Asking.{asks, asks_as, asks_insert, asks_writes, may_go_to, only_sequence, target}
use Rattle.driver_link.specs.CommandNames.{command_named}
use Rattle.driver_link.specs.Commands.{needed}
use Rattle.driver_link.specs.Numbers.{field}
use Rattle.driver_link.specs.Reads.{SpellAll, SpellSequences}
use Rattle.driver_link.specs.Values.{bool_of}
use Rattle.driver_link.specs.Writes.{common_keys, placed, writes_on}
use Rattle.driver_link.proofs.Forms.{bool_is, text_is}
use Rattle.driver_ops.specs.declared.command.Command.{Command}
use Rattle.driver_ops.specs.declared.keys.TheConstants.{BYPASS_DOCUMENT_VALIDATION, COMMENT}
use Rattle.driver_ops.specs.declared.target.OperationTarget.{OperationTarget}
use Rattle.driver_ops.specs.Fields.{IsPlain, IsSixteen, SendContext, executor_fields, with_fields}
use Rattle.driver_ops.specs.Inserts.{BodyRefused, IsOneSequence, insert_body, insert_command, insert_is_ordered, insert_write, insert_writes}
use Rattle.driver_ops.specs.Operations.{BuildsCommand, CommandAsks, HasBodies, IsBuilt, MayRefuse, Refuses}
use Rattle.driver_ops.specs.OptionFields.{flag_of, option_field}
use Rattle.driver_ops.specs.SendKinds.{SendKind}
use Rattle.driver_ops.specs.Targets.{database_of, namespace_of}
use Rattle.driver_ops.proofs.Frames.{skips}
use Rattle.driver_ops.proofs.PlainOptions.{lacks_join, plain_bypass, plain_comment}
use Rattle.write_ops.specs.declared.own_document.OwnDocument.{OwnDocument}
use Rattle.write_ops.specs.InsertFronts.{RefusesFront, TakesFront, insert_limits, text_at}
use Rattle.write_ops.specs.InsertSpec.{AreOwn, AsksInsert, IsInsertCommand, insert_spec}
use Rattle.write_ops.specs.inside.InsertFronts.{IsTaken, StopsAt}
use Rattle.write_ops.proofs.InsertFronts.{fixed_by, refuses_front}
use Rattle.statement_ops.proofs.StatementCommand.{stays}

-- the option before the order is no order
no_order : (collection : List ℕ) (value : Option Bson) → value_of ORDERED.now ((field INSERT.now (bson.String collection) ∷ []) ++ option_field BYPASS_DOCUMENT_VALIDATION.now value) ≡ None
no_order collection None = refl
no_order collection (Some value) = refl

-- an insert's body
module _ (namespace : Namespace) (options : InsertManyOptions) where
  abbrev front : List (Pair Bson)
  front = (field INSERT.now (bson.String namespace.coll) ∷ []) ++ option_field BYPASS_DOCUMENT_VALIDATION.now (flag_of options.bypass_document_validation)

  abbrev order : List (Pair Bson)
  order = field ORDERED.now (bson.Boolean (insert_is_ordered options)) ∷ []

  abbrev comment : List (Pair Bson)
  comment = option_field COMMENT.now options.comment

  ordered_in : (fields : List (Pair Bson)) → value_of ORDERED.now (insert_command namespace options ++ fields) ≡ Some (bson.Boolean (insert_is_ordered options))
  unfolding insert_command
  ordered_in fields =
      stays ORDERED.now ((front ++ order) ++ comment) fields (bson.Boolean (insert_is_ordered options))
      (stays ORDERED.now (front ++ order) comment (bson.Boolean (insert_is_ordered options))
      (skips ORDERED.now front order (no_order namespace.coll (flag_of options.bypass_document_validation))))

  ordered_of : (fields : List (Pair Bson)) → needed bool_of ORDERED.now (insert_command namespace options ++ fields) ≡ Some (insert_is_ordered options)
  unfolding needed
  ordered_of fields = ap (option_and_then bool_of) (ordered_in fields) ∙ bool_is (insert_is_ordered options)

  plain_is : IsPlain (insert_command namespace options)
  unfolding insert_command
  plain_is =
      lacks_join common_keys (front ++ order) comment
      (lacks_join common_keys front order
      (lacks_join common_keys (field INSERT.now (bson.String namespace.coll) ∷ []) (option_field BYPASS_DOCUMENT_VALIDATION.now (flag_of options.bypass_document_validation))
      (refl, (refl, (refl, (refl, (refl, (refl, (refl, (refl, (refl, tt))))))))) (plain_bypass (flag_of options.bypass_document_validation)))
      (refl, (refl, (refl, (refl, (refl, (refl, (refl, (refl, (refl, tt)))))))))) (plain_comment options.comment)

-- the writes of documents with as many places are those of the insert
pub placed_writes : (namespace : Namespace) (documents : List (List (Pair Bson))) (places : List Place) → length places ≡ length documents
    → placed (writes_on write_kind.Insert namespace documents) places ≡ Some (insert_writes namespace documents places)
unfolding placed
placed_writes namespace [] [] each = refl
placed_writes namespace [] (place ∷ places) each = absurd (omega arith)
placed_writes namespace (document ∷ documents) [] each = absurd (omega arith)
placed_writes namespace (document ∷ documents) (place ∷ places) each =
    ap (option_map (λ writes. insert_write namespace document place ∷ writes)) (placed_writes namespace documents places (omega arith))

-- a body that inserts asks for that
asks_first : (database coll : List ℕ) (ordered : Bool) (fields : List (Pair Bson)) (documents : List (List (Pair Bson))) (places : List Place)
    → needed bool_of ORDERED.now (field INSERT.now (bson.String coll) ∷ fields) ≡ Some ordered → length places ≡ length documents
    → asks database (field INSERT.now (bson.String coll) ∷ fields) (record { name = DOCUMENTS.now; documents = documents } ∷ []) places
    ≡ Some (Write command.Insert ordered (insert_writes (record { db = database; coll = coll }) documents places))
unfolding asks command_named may_go_to asks_as target asks_insert only_sequence asks_writes
asks_first database coll ordered fields documents places is each =
    rw (text_is coll, is)
    (ap (option_map (λ writes. Write command.Insert ordered writes)) (placed_writes (record { db = database; coll = coll }) documents places each))

asks_is : (namespace : Namespace) (options : InsertManyOptions) (fields : List (Pair Bson)) (documents : List (List (Pair Bson))) (places : List Place) → length places ≡ length documents
    → asks namespace.db (insert_command namespace options ++ fields) (record { name = DOCUMENTS.now; documents = documents } ∷ []) places
    ≡ Some (Write command.Insert (insert_is_ordered options) (insert_writes namespace documents places))
unfolding insert_command
asks_is namespace options fields documents places each =
    asks_first namespace.db namespace.coll (insert_is_ordered options) _ documents places (ordered_of namespace options fields) each

-- the command with the executor's fields has the whole body
body_is : (namespace : Namespace) (options : InsertManyOptions) (context : SendContext)
    → insert_command namespace options ++ executor_fields context namespace.db ≡ insert_body namespace options context
unfolding insert_body
body_is namespace options context = refl

-- the body with the executor's fields of an insert's command that has no spelling
pub body_refused : (namespace : Namespace) (own : List OwnDocument) (options : InsertManyOptions) (context : SendContext) (statements : ℕ) (made : Command) (fault : EncodeFault)
    → IsInsertCommand namespace own options statements made
    → IsSixteen context.session → refusal (with_fields context made).body ≡ Some fault → BodyRefused namespace options context fault
body_refused namespace own options context statements made fault is sixteen refused = record {
  sixteen = sixteen;
  is = subst (λ body. refusal body ≡ Some fault) (body_is namespace options context)
      (subst (λ database. refusal (insert_command namespace options ++ executor_fields context database) ≡ Some fault) is.database
      (subst (λ body. refusal (body ++ executor_fields context made.database) ≡ Some fault) is.body refused));
}

-- there are as many documents as spellings of them
own_length : (documents : List (List (Pair Bson))) (own : List OwnDocument) → AreOwn documents own → length documents ≡ length own
own_length [] [] are = refl
own_length [] (document ∷ own) are = absurd are
own_length (document ∷ documents) [] are = absurd are
own_length (document ∷ documents) (one ∷ own) are = ap suc (own_length documents own are.2)

-- the spellings of the front are those of the front of the documents
own_spelled : (documents : List (List (Pair Bson))) (own : List OwnDocument) (count : ℕ) → AreOwn documents own
    → SpellAll (take count documents) (map (λ document. document.bytes) (take count own))
own_spelled documents own zero are = tt
own_spelled [] [] (suc count) are = tt
own_spelled [] (document ∷ own) (suc count) are = absurd are
own_spelled (document ∷ documents) [] (suc count) are = absurd are
own_spelled (document ∷ documents) (one ∷ own) (suc count) are = (are.0, own_spelled documents own count are.2)

-- the front of the places is as long as that of the documents
fronts_each : (documents : List (List (Pair Bson))) (own : List OwnDocument) (places : List Place) (count : ℕ) → AreOwn documents own → length places ≡ length own
    → length (take count places) ≡ length (take count documents)
fronts_each documents own places count are each =
    length-take count places ∙ ap (min count) (each ∙ sym (own_length documents own are)) ∙ sym (length-take count documents)

module _ (target : OperationTarget) (first : ℕ) (own : List OwnDocument) (options : InsertManyOptions) (count : ℕ) (made : Command) (is : IsInsertCommand (namespace_of target) own options count made) where
  abbrev namespace : Namespace
  namespace = namespace_of target

  asks_for : (places : List Place) (body : SendBody) → AsksInsert namespace own options count places body → CommandAsks made (take count places) body
  asks_for places body asked = record {
    sequences = record { name = DOCUMENTS.now; documents = take count asked.documents } ∷ [];
    spelled = subst (SpellSequences (record { name = DOCUMENTS.now; documents = take count asked.documents } ∷ [])) (sym is.sequences)
        (record { name = refl; documents = own_spelled asked.documents own count asked.are_own }, tt);
    asks = λ fields common. rw (is.database, is.body, asked.is)
        (asks_is namespace options fields (take count asked.documents) (take count places) (fronts_each asked.documents own places count asked.are_own asked.each_placed));
  }

  -- such a command is an insert's
  pub built_insert : (which : SendKind) → made.name ≡ name.Insert → IsBuilt (insert_spec target first own options) which count made
  built_insert which is_name = record {
    name = is_name;
    is = is;
    plain = subst IsPlain (sym is.body) (plain_is namespace options);
    asks = asks_for;
    within = λ places body asked. subst (λ long. count ≤ long) (sym asked.each_placed) is.within;
  }

module _ (target : OperationTarget) (first : ℕ) (own : List OwnDocument) (options : InsertManyOptions) where
  -- for each command that it may build the insert asks for something, where each document has a place
  pub insert_bodies : (documents : List (List (Pair Bson))) (places : List Place) → AreOwn documents own → length places ≡ length own
      → HasBodies (insert_spec target first own options) places
  insert_bodies documents places are each = λ which statements made is. (
    Write command.Insert (insert_is_ordered options) (insert_writes (namespace_of target) (take statements documents) (take statements places)),
    record { documents = documents; are_own = are; each_placed = each; is = refl },
  )

  -- a build that took so many documents
  pub builds_insert : (which : SendKind) (description : Description) (limits : Limits) (fixed before : Option ℕ) (count : ℕ) (made : Command)
      → limits ≡ insert_limits (namespace_of target) options description → fixed ≡ before → IsTaken limits own fixed count
      → made.name ≡ name.Insert → made.database ≡ database_of target → made.body ≡ insert_command (namespace_of target) options
      → IsOneSequence made.sequences (map (λ document. document.bytes) (take count own))
      → BuildsCommand (insert_spec target first own options) which description before (Some count) made
  builds_insert which description limits fixed before count made limits_are fixed_is taken is_name database body sequences =
      let takes = subst (λ known. TakesFront known own before count) limits_are (subst (λ known. TakesFront limits own known count) fixed_is taken.takes) in
      record {
        statements = count;
        built = built_insert target first own options count made
            (record { some = taken.some; within = taken.within; database = database; body = body; sequences = sequences }) which is_name;
        takes = takes;
        fixed = fixed_by (insert_limits (namespace_of target) options description) own before count takes;
        now_is = refl;
      }

  -- a build that is refused, since a document does not go out
  refuses_alone : (description : Description) (limits : Limits) (fixed before : Option ℕ) (at : ℕ) (error : Error)
      → limits ≡ insert_limits (namespace_of target) options description → fixed ≡ before → StopsAt limits own fixed at
      → IsAlone (kind.InvalidArgument (text_at limits first own at)) no_labels error → Refuses (insert_spec target first own options) before description error
  refuses_alone description limits fixed before at error limits_are fixed_is stops alone = record {
    refused = subst (λ known. RefusesFront known first own before error) limits_are
        (subst (λ known. RefusesFront limits first own known error) fixed_is (refuses_front limits first own fixed at error stops alone.kind_is));
    may = subst (λ (why : ErrorKind). MayRefuse why) (sym alone.kind_is) tt;
    alone = record { kind_is = refl; labels_are = alone.labels_are; no_version = alone.no_version; no_source = alone.no_source; no_response = alone.no_response };
  }

  pub refuses_insert : (description : Description) (limits : Limits) (fixed before : Option ℕ) (at : ℕ) (error : Error)
      → limits ≡ insert_limits (namespace_of target) options description → fixed ≡ before → StopsAt limits own fixed at
      → IsAlone (kind.InvalidArgument (text_at limits first own at)) no_labels error ⊎ IsAlone kind.Memory no_labels error
      → Refuses (insert_spec target first own options) before description error ⊎ (kind_of error ≡ kind.Memory)
  refuses_insert description limits fixed before at error limits_are fixed_is stops (inl alone) =
      inl (refuses_alone description limits fixed before at error limits_are fixed_is stops alone)
  refuses_insert description limits fixed before at error limits_are fixed_is stops (inr memory) = inr memory.kind_is
