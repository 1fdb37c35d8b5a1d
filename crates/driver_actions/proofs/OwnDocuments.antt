-- The caller's documents with their ids, one after another.
use Rattle.std.proofs.Common.{◌≡◌, ℕ, ◌+◌, ◌<◌, ◌≤◌, List, [], ◌∷◌, ◌++◌, length, get_or, take, refl, sym, ap, subst, ◌∙◌, inl, inr}
use Rattle.std.proofs.lemmas.List.{take_all, take_more}
use Rattle.std.proofs.lemmas.Option.{slice_get-get_or}
use Rattle.std.specs.Prelude.{Option, None, Some, IsSome, ◌⊎◌}
use Rattle.bson_lite.specs.declared.bson.Bson.{Bson}
use Rattle.bson_lite.specs.declared.bson.ObjectId.{ObjectId}
use Rattle.bson_lite.specs.declared.document.Pair.{Pair}
use Rattle.bson_lite.specs.Fields.{id_key, value_of, with_id}
use Rattle.bson_lite.specs.Spelling.{Spells}
use Rattle.driver_error.specs.declared.error.Error.{Error}
use Rattle.driver_options.specs.declared.options.ClientOptions.{ClientOptions}
use Rattle.driver_session.specs.StoreTells.{StoreTells}
use Rattle.write_ops.specs.declared.own_document.OwnDocument.{OwnDocument}
use Rattle.write_ops.specs.InsertSpec.{AreOwn}
use Rattle.driver_attempt.specs.Moment.{Moment}
use Rattle.driver_actions.specs.Causes.{TellsOwnRefusal}
use Rattle.driver_actions.specs.ManyIds.{DrawsForFront, DrawsOwnIds, OwnsAll}
use Rattle.driver_actions.specs.OwnIds.{DrawsOwnId}
use Rattle.driver_actions.specs.OwnDocuments.{DrawsFront, DrawsTwelve, IsSent, MayDrawTwelve, TellsOneRefusal}
use Rattle.driver_inputs.specs.ManyInputs.{AreTwelve, with_ids}

-- one id more of twelve bytes
twelve_push : (ids : List ObjectId) (id : ObjectId) → AreTwelve ids → length id.bytes ≡ 12 → AreTwelve (ids ++ id ∷ [])
twelve_push [] id all twelve = (twelve, tt)
twelve_push (one ∷ ids) id all twelve = (all.0, twelve_push ids id all.1 twelve)

-- one document more, for which an id was drawn where it has none
draws_push : (store mid now : StoreTells) (given : List (List (Pair Bson))) (ids : List ObjectId) (document : List (Pair Bson)) (id : ObjectId) → DrawsOwnIds store mid given ids
    → DrawsOwnId (value_of id_key document) mid now id → DrawsOwnIds store now (given ++ document ∷ []) (ids ++ id ∷ [])
draws_push store mid now [] [] document id draws last =
    (now, (subst (λ (at : StoreTells). DrawsOwnId (value_of id_key document) at now id) draws last, refl))
draws_push store mid now [] (one ∷ ids) document id draws last = absurd draws
draws_push store mid now (one ∷ given) [] document id draws last = absurd draws
draws_push store mid now (one ∷ given) (drawn ∷ ids) document id draws last =
    (draws.0, (draws.1.0, draws_push draws.0 mid now given ids document id draws.1.1 last))

-- one more that is sent as it is spelled with its id
own_push : (store mid : StoreTells) (given : List (List (Pair Bson))) (ids : List ObjectId) (own : List OwnDocument) (document : List (Pair Bson)) (id : ObjectId) (last : OwnDocument)
    → DrawsOwnIds store mid given ids → AreOwn (with_ids ids given) own → Spells (with_id id document) last.bytes → value_of id_key (with_id id document) ≡ Some last.id
    → AreOwn (with_ids (ids ++ id ∷ []) (given ++ document ∷ [])) (own ++ last ∷ [])
own_push store mid [] [] [] document id last draws are spelled found = (spelled, found, tt)
own_push store mid [] [] (other ∷ own) document id last draws are spelled found = absurd are
own_push store mid [] (drawn ∷ ids) own document id last draws are spelled found = absurd draws
own_push store mid (one ∷ given) [] own document id last draws are spelled found = absurd draws
own_push store mid (one ∷ given) (drawn ∷ ids) [] document id last draws are spelled found = absurd are
own_push store mid (one ∷ given) (drawn ∷ ids) (other ∷ own) document id last draws are spelled found =
    (are.0, are.1, own_push draws.0 mid given ids own document id last draws.1.1 are.2 spelled found)

owns_push : (store mid now : StoreTells) (given : List (List (Pair Bson))) (document : List (Pair Bson)) (own : List OwnDocument) (last : OwnDocument) → OwnsAll store mid given own
    → IsSent mid now document last → OwnsAll store now (given ++ document ∷ []) (own ++ last ∷ [])
owns_push store mid now given document own last owns sent =
    let id = sent.document.id in
    record {
      ids = owns.ids ++ id ∷ [];
      twelve = twelve_push owns.ids id owns.twelve sent.document.twelve;
      draws = draws_push store mid now given owns.ids document id owns.draws sent.document.draws;
      are_own = own_push store mid given owns.ids own document id last owns.draws owns.are_own
          (subst (λ (document_now : List (Pair Bson)). Spells document_now last.bytes) sent.document.document sent.spelled)
          (ap (value_of id_key) (sym sent.document.document) ∙ sent.document.found);
    }

-- the front with one document more
front_more : (documents : List (List (Pair Bson))) (at : ℕ) (document : List (Pair Bson)) → at < length documents → document ≡ get_or documents at document
    → take (at + 1) documents ≡ take at documents ++ document ∷ []
front_more documents at document within read =
    take_more documents at document within ∙ ap (λ (last : List (Pair Bson)). take at documents ++ last ∷ []) (sym read)

-- no document yet
pub owns_start : (store : StoreTells) (documents : List (List (Pair Bson))) (own : List OwnDocument) → own ≡ [] → OwnsAll store store (take 0 documents) own
owns_start store documents own none =
    let start : OwnsAll store store [] [] = record { ids = []; twelve = tt; draws = refl; are_own = tt } in
    subst (λ (now : List OwnDocument). OwnsAll store store [] now) (sym none) start

-- one more
pub owns_more : (store mid now : StoreTells) (documents : List (List (Pair Bson))) (at : ℕ) (document : List (Pair Bson)) (own own_now : List OwnDocument) (last : OwnDocument)
    → at < length documents → document ≡ get_or documents at document → OwnsAll store mid (take at documents) own → IsSent mid now document last → own_now ≡ own ++ last ∷ []
    → OwnsAll store now (take (at + 1) documents) own_now
owns_more store mid now documents at document own own_now last within read owns sent pushed =
    let more : OwnsAll store now (take at documents ++ document ∷ []) (own ++ last ∷ []) = owns_push store mid now (take at documents) document own last owns sent in
    subst (λ (made : List OwnDocument). OwnsAll store now (take (at + 1) documents) made) (sym pushed)
    (subst (λ (given : List (List (Pair Bson))). OwnsAll store now given (own ++ last ∷ [])) (sym (front_more documents at document within read)) more)

-- all of them
pub owns_whole : (store now : StoreTells) (documents : List (List (Pair Bson))) (at : ℕ) (own : List OwnDocument) → length documents ≤ at
    → OwnsAll store now (take at documents) own → OwnsAll store now documents own
owns_whole store now documents at own past owns = subst (λ (given : List (List (Pair Bson))). OwnsAll store now given own) (take_all at documents past) owns

-- no id was drawn
pub draws_none : (store : StoreTells) (documents : List (List (Pair Bson))) → DrawsFront store store documents
draws_none store documents = record { count = 0; ids = []; twelve = tt; draws = refl }

-- those of the documents so far were
pub front_of : (store now : StoreTells) (documents : List (List (Pair Bson))) (at : ℕ) (own : List OwnDocument) → OwnsAll store now (take at documents) own → DrawsFront store now documents
front_of store now documents at own owns = record { count = at; ids = owns.ids; twelve = owns.twelve; draws = owns.draws }

front_kept : (store mid now : StoreTells) (documents : List (List (Pair Bson))) (at : ℕ) (own : List OwnDocument) → OwnsAll store mid (take at documents) own → now ≡ mid
    → DrawsFront store now documents
front_kept store mid now documents at own owns same =
    subst (λ (told : StoreTells). DrawsFront store told documents) (sym same) (front_of store mid documents at own owns)

front_drawn : (store mid now : StoreTells) (documents : List (List (Pair Bson))) (at : ℕ) (document : List (Pair Bson)) (own : List OwnDocument) (id : ObjectId)
    → at < length documents → document ≡ get_or documents at document → OwnsAll store mid (take at documents) own → length id.bytes ≡ 12
    → DrawsOwnId (value_of id_key document) mid now id → DrawsFront store now documents
front_drawn store mid now documents at document own id within read owns twelve draws = record {
  count = at + 1;
  ids = owns.ids ++ id ∷ [];
  twelve = twelve_push owns.ids id owns.twelve twelve;
  draws = subst (λ (given : List (List (Pair Bson))). DrawsOwnIds store now given (owns.ids ++ id ∷ [])) (sym (front_more documents at document within read))
      (draws_push store mid now (take at documents) owns.ids document id owns.draws draws);
}

-- the id of one more was drawn or not, but none for a document that has one
own_or_kept : (found : Option Bson) (store now : StoreTells) (drawn : DrawsTwelve store now) → (IsSome found → now ≡ store) → (now ≡ store) ⊎ DrawsOwnId found store now drawn.id
own_or_kept None store now drawn unused = inr drawn.draws
own_or_kept (Some value) store now drawn unused = inl (unused refl)

pub front_may : (store mid now : StoreTells) (documents : List (List (Pair Bson))) (at : ℕ) (document : List (Pair Bson)) (own : List OwnDocument) → at < length documents
    → document ≡ get_or documents at document → OwnsAll store mid (take at documents) own → MayDrawTwelve mid now → (IsSome (value_of id_key document) → now ≡ mid)
    → DrawsFront store now documents
front_may store mid now documents at document own within read owns may unused = elim may [
  | inl same ↦ front_kept store mid now documents at own owns same
  | inr drawn ↦ elim (own_or_kept (value_of id_key document) mid now drawn unused) [
    | inl same ↦ front_kept store mid now documents at own owns same
    | inr draws ↦ front_drawn store mid now documents at document own drawn.id within read owns drawn.twelve draws
  ]
]

-- what refuses one of the documents
pub tells_one : (documents : List (List (Pair Bson))) (at : ℕ) (document : List (Pair Bson)) (error : Error) → at < length documents → document ≡ get_or documents at document
    → TellsOwnRefusal document error → TellsOneRefusal documents error
tells_one documents at document error within read tells = elim tells [
  | inl memory ↦ inl memory
  | inr own ↦ inr (record { at = at; document = document; stands = slice_get-get_or documents at document within ∙ ap (λ (given : List (Pair Bson)). Some given) (sym read); own = own })
]

-- the store of a client drew ids for the front, and its options stay
pub draws_for_front : (before : Moment) (documents : List (List (Pair Bson))) (store : StoreTells) (options : ClientOptions) → options ≡ before.client.options
    → DrawsFront before.store store documents → DrawsForFront before (record before { store = store; client = record { options = options } }) documents
draws_for_front before documents store options is front = record {
  count = front.count;
  ids = front.ids;
  twelve = front.twelve;
  draws = front.draws;
  rest = ap (λ (o : ClientOptions). record before { store = store; client = record { options = o } }) is;
}
