-- The id of a caller's document, from what the store drew for it.
use Rattle.std.proofs.Common.{◌≡◌, List, [], ◌∷◌, length, refl, sym, ap, subst, ◌∙◌, inl, inr}
use Rattle.std.specs.Prelude.{Option, None, Some, ◌⊎◌, Result, Ok, Err, IfOk}
use Rattle.bson_lite.specs.declared.bson.Bson as bson
use Rattle.bson_lite.specs.declared.bson.Bson.{Bson}
use Rattle.bson_lite.specs.declared.bson.ObjectId.{ObjectId}
use Rattle.bson_lite.specs.declared.document.Pair.{Pair}
use Rattle.bson_lite.specs.Fields.{id_key, value_of, with_id}
use Rattle.bson_lite.specs.Spelling.{Spells}
use Rattle.bson_lite.proofs.Named.{kept_with, none_found, with_none}
use Rattle.driver_error.specs.declared.error.Error.{Error}
use Rattle.driver_error.specs.declared.kind.ErrorKind.TheVariants.{Memory}
use Rattle.server_answers.specs.declared.results.InsertOneResult.{InsertOneResult}
use Rattle.driver_error.specs.Error.{IsAlone}
use Rattle.driver_error.specs.LabelTexts.{no_labels}
use Rattle.driver_session.specs.StoreTells.{DrawsObjectId, MayDrawObjectId, StoreTells}
use Rattle.driver_ops.specs.Encoding.{IsUnspelled}
use Rattle.write_ops.specs.declared.own_document.OwnDocument.{OwnDocument}
use Rattle.driver_attempt.specs.Moment.{Moment}
use Rattle.driver_actions.specs.Causes.{TellsOwnRefusal}
use Rattle.driver_actions.specs.OwnIds.{DrawsOwn, DrawsOwnId, MayDrawBy, Owns}
use Rattle.driver_actions.specs.OwnDocuments.{IsSent}

-- an id of twelve bytes
abbrev some_id : ObjectId
some_id = record { bytes = 0 ∷ 0 ∷ 0 ∷ 0 ∷ 0 ∷ 0 ∷ 0 ∷ 0 ∷ 0 ∷ 0 ∷ 0 ∷ 0 ∷ [] }

-- a document that has an id is sent with it, and nothing is drawn
pub sent_as_given : (store : StoreTells) (document : List (Pair Bson)) (value : Bson) (own : OwnDocument) → ◌≡◌ {A = Option Bson} (Some value) (value_of id_key document)
    → own.id ≡ value → Spells document own.bytes → IsSent store store document own
sent_as_given store document value own found same spelled = record {
  sent = document;
  document = record {
    id = some_id;
    twelve = refl;
    draws = subst (λ (given : Option Bson). DrawsOwnId given store store some_id) found refl;
    document = sym (kept_with some_id document value found);
    found = sym found ∙ ap (λ (v : Bson). Some v) (sym same);
  };
  spelled = spelled;
}

pub if_sent_as_given : (store : StoreTells) (document : List (Pair Bson)) (value : Bson) (result : Result OwnDocument Error) → ◌≡◌ {A = Option Bson} (Some value) (value_of id_key document)
    → IfOk result (λ own. own.id ≡ value) → IfOk result (λ own. Spells document own.bytes) → IfOk result (λ own. IsSent store store document own)
if_sent_as_given store document value (Ok own) found same spelled = sent_as_given store document value own found same spelled
if_sent_as_given store document value (Err error) found same spelled = tt

-- the id that is found where one was put first
found_first : (id : ObjectId) (document : List (Pair Bson)) → ◌≡◌ {A = Option Bson} (value_of id_key document) None → value_of id_key (with_id id document) ≡ Some (bson.ObjectId id)
found_first id document none = ap (value_of id_key) (with_none id document (none_found document none))

-- one that has none is sent with the id that was drawn
pub sent_drawn : (store now : StoreTells) (document : List (Pair Bson)) (id : ObjectId) (own : OwnDocument) → ◌≡◌ {A = Option Bson} (value_of id_key document) None
    → length id.bytes ≡ 12 → DrawsObjectId store now id.bytes → own.id ≡ bson.ObjectId id → Spells (with_id id document) own.bytes → IsSent store now document own
sent_drawn store now document id own none twelve draws is spelled = record {
  sent = with_id id document;
  document = record {
    id = id;
    twelve = twelve;
    draws = subst (λ (given : Option Bson). DrawsOwnId given store now id) (sym none) draws;
    document = refl;
    found = found_first id document none ∙ ap (λ (v : Bson). Some v) (sym is);
  };
  spelled = spelled;
}

-- why a document that has an id is refused
pub refused_as_given : (document : List (Pair Bson)) (value : Bson) (error : Error) → ◌≡◌ {A = Option Bson} (Some value) (value_of id_key document)
    → IsAlone Memory no_labels error ⊎ IsUnspelled document error → TellsOwnRefusal document error
refused_as_given document value error found why = elim why [
  | inl memory ↦ inl memory
  | inr unspelled ↦ inr (record {
    id = some_id;
    twelve = refl;
    unspelled = subst (λ (given : List (Pair Bson)). IsUnspelled given error) (sym (kept_with some_id document value found)) unspelled;
  })
]

-- and one that has none
pub refused_drawn : (document : List (Pair Bson)) (id : ObjectId) (error : Error) → length id.bytes ≡ 12
    → IsAlone Memory no_labels error ⊎ IsUnspelled (with_id id document) error → TellsOwnRefusal document error
refused_drawn document id error twelve why = elim why [
  | inl memory ↦ inl memory
  | inr unspelled ↦ inr (record { id = id; twelve = twelve; unspelled = unspelled })
]

-- a document that is sent owns its id where the answer tells it
pub owns_answered : (store store_now : StoreTells) (given : List (Pair Bson)) (own : OwnDocument) (answer : InsertOneResult) → IsSent store store_now given own
    → answer ≡ record { inserted_id = own.id } → Owns store store_now given own answer
owns_answered store store_now given own answer found is = record { sent = found.sent; document = found.document; spelled = found.spelled; answer_is = is }

-- an object id was drawn or not, and nothing else changed
pub record OnlyDrew (before now : Moment) : Type 0 where
  pub draws : MayDrawObjectId before.store now.store
  pub rest : now ≡ record before { store = now.store }

-- where the id of a document was drawn, if it had none, only that changed
pub own_drawn : (found : Option Bson) (store now : StoreTells) (id : ObjectId) → DrawsOwnId found store now id → MayDrawObjectId store now
own_drawn None store now id draws = inr (id.bytes, draws)
own_drawn (Some value) store now id same = inl same

pub own_drew : {before now : Moment} {document : List (Pair Bson)} {id : ObjectId} → DrawsOwn before now document id → OnlyDrew before now
own_drew {before = before} {now = now} {document = document} {id = id} own =
    record { draws = own_drawn (value_of id_key document) before.store now.store id own.draws; rest = own.rest }

-- so it is before a call that was not made
pub unmade_drew : {before now : Moment} {document : List (Pair Bson)} (error : Error) → MayDrawBy before now document error → OnlyDrew before now
unmade_drew {before = before} {now = now} error draws = elim draws [
  | inl same ↦ record { draws = inl (ap (λ moment. moment.store) same); rest = subst (λ moment. moment ≡ record before { store = moment.store }) (sym same) refl }
  | inr memory ↦ record { draws = memory.1.draws; rest = memory.1.rest }
]
