-- The ops of the caller's models, one after another.
use Rattle.std.proofs.Common.{◌≡◌, ℕ, ◌+◌, ◌<◌, ◌≤◌, List, [], ◌∷◌, ◌++◌, length, get_or, take, refl, sym, ap, subst, ◌∙◌, inl, inr}
use Rattle.std.proofs.lemmas.List.{take_all, take_more}
use Rattle.std.proofs.lemmas.Option.{slice_get-get_or}
use Rattle.std.specs.Prelude.{Some, ◌⊎◌}
use Rattle.bson_lite.specs.declared.bson.ObjectId.{ObjectId}
use Rattle.driver_error.specs.declared.error.Error.{Error}
use Rattle.driver_error.specs.declared.kind.ErrorKind.TheVariants.{Memory}
use Rattle.driver_error.specs.Error.{IsAlone}
use Rattle.driver_error.specs.LabelTexts.{no_labels}
use Rattle.driver_options.specs.declared.models.WriteModel.{WriteModel}
use Rattle.driver_session.specs.StoreTells.{StoreTells}
use Rattle.bulk_fronts.specs.declared.own_op.OwnOp.{OwnOp}
use Rattle.bulk_fronts.specs.BulkOps.{AreOps, IsOpOf}
use Rattle.bulk_actions.specs.BulkIds.{DrawsForModels, DrawsModelId, DrawsModelIds, OwnsOps}
use Rattle.bulk_actions.specs.inside.OwnOps.{IsModelError, IsSentOp, MayDrawForModel, TellsOneModel}
use Rattle.driver_inputs.specs.BulkInputs.{with_model_id, with_model_ids}
use Rattle.driver_inputs.specs.ManyInputs.{AreTwelve}

-- one id more of twelve bytes
twelve_push : (ids : List ObjectId) (id : ObjectId) → AreTwelve ids → length id.bytes ≡ 12 → AreTwelve (ids ++ id ∷ [])
twelve_push [] id all twelve = (twelve, tt)
twelve_push (one ∷ ids) id all twelve = (all.0, twelve_push ids id all.1 twelve)

-- one model more, for which an id was drawn where it wants one
draws_push : (store mid now : StoreTells) (given : List WriteModel) (ids : List ObjectId) (model : WriteModel) (id : ObjectId) → DrawsModelIds store mid given ids → DrawsModelId model mid now id
    → DrawsModelIds store now (given ++ model ∷ []) (ids ++ id ∷ [])
draws_push store mid now [] [] model id draws last = (now, (subst (λ (at : StoreTells). DrawsModelId model at now id) draws last, refl))
draws_push store mid now [] (one ∷ ids) model id draws last = absurd draws
draws_push store mid now (one ∷ given) [] model id draws last = absurd draws
draws_push store mid now (one ∷ given) (drawn ∷ ids) model id draws last = (draws.0, (draws.1.0, draws_push draws.0 mid now given ids model id draws.1.1 last))

-- one op more
op_push : (store mid : StoreTells) (given : List WriteModel) (ids : List ObjectId) (own : List OwnOp) (model : WriteModel) (id : ObjectId) (last : OwnOp) → DrawsModelIds store mid given ids
    → AreOps (with_model_ids ids given) own → IsOpOf (with_model_id id model) last → AreOps (with_model_ids (ids ++ id ∷ []) (given ++ model ∷ [])) (own ++ last ∷ [])
op_push store mid [] [] [] model id last draws are is = (is, tt)
op_push store mid [] [] (other ∷ own) model id last draws are is = absurd are
op_push store mid [] (drawn ∷ ids) own model id last draws are is = absurd draws
op_push store mid (one ∷ given) [] own model id last draws are is = absurd draws
op_push store mid (one ∷ given) (drawn ∷ ids) [] model id last draws are is = absurd are
op_push store mid (one ∷ given) (drawn ∷ ids) (other ∷ own) model id last draws are is = (are.0, op_push draws.0 mid given ids own model id last draws.1.1 are.1 is)

owns_push : (store mid now : StoreTells) (given : List WriteModel) (model : WriteModel) (own : List OwnOp) (last : OwnOp) → OwnsOps store mid given own → IsSentOp mid now model last
    → OwnsOps store now (given ++ model ∷ []) (own ++ last ∷ [])
owns_push store mid now given model own last owns sent = record {
  ids = owns.ids ++ sent.id ∷ [];
  twelve = twelve_push owns.ids sent.id owns.twelve sent.twelve;
  draws = draws_push store mid now given owns.ids model sent.id owns.draws sent.draws;
  are_ops = op_push store mid given owns.ids own model sent.id last owns.draws owns.are_ops sent.is_op;
}

-- the front with one model more
front_more : (models : List WriteModel) (at : ℕ) (model : WriteModel) → at < length models → model ≡ get_or models at model → take (at + 1) models ≡ take at models ++ model ∷ []
front_more models at model within read = take_more models at model within ∙ ap (λ (last : WriteModel). take at models ++ last ∷ []) (sym read)

-- no model yet
pub ops_start : (store : StoreTells) (models : List WriteModel) (own : List OwnOp) → own ≡ [] → OwnsOps store store (take 0 models) own
ops_start store models own none =
    let start : OwnsOps store store [] [] = record { ids = []; twelve = tt; draws = refl; are_ops = tt } in
    subst (λ (now : List OwnOp). OwnsOps store store [] now) (sym none) start

-- one more
pub ops_more : (store mid now : StoreTells) (models : List WriteModel) (at : ℕ) (model : WriteModel) (own own_now : List OwnOp) (last : OwnOp) → at < length models → model ≡ get_or models at model
    → OwnsOps store mid (take at models) own → IsSentOp mid now model last → own_now ≡ own ++ last ∷ [] → OwnsOps store now (take (at + 1) models) own_now
ops_more store mid now models at model own own_now last within read owns sent pushed =
    let more : OwnsOps store now (take at models ++ model ∷ []) (own ++ last ∷ []) = owns_push store mid now (take at models) model own last owns sent in
    subst (λ (made : List OwnOp). OwnsOps store now (take (at + 1) models) made) (sym pushed)
    (subst (λ (given : List WriteModel). OwnsOps store now given (own ++ last ∷ [])) (sym (front_more models at model within read)) more)

-- all of them
pub ops_whole : (store now : StoreTells) (models : List WriteModel) (at : ℕ) (own : List OwnOp) → length models ≤ at → OwnsOps store now (take at models) own → OwnsOps store now models own
ops_whole store now models at own past owns = subst (λ (given : List WriteModel). OwnsOps store now given own) (take_all at models past) owns

-- no id was drawn
pub models_none : (store : StoreTells) (models : List WriteModel) → DrawsForModels store store models
models_none store models = record { count = 0; ids = []; twelve = tt; draws = refl }

-- those of the models so far were
pub models_of : (store now : StoreTells) (models : List WriteModel) (at : ℕ) (own : List OwnOp) → OwnsOps store now (take at models) own → DrawsForModels store now models
models_of store now models at own owns = record { count = at; ids = owns.ids; twelve = owns.twelve; draws = owns.draws }

-- that of one more was drawn or not
pub models_may : (store mid now : StoreTells) (models : List WriteModel) (at : ℕ) (model : WriteModel) (own : List OwnOp) → at < length models → model ≡ get_or models at model
    → OwnsOps store mid (take at models) own → MayDrawForModel mid now model → DrawsForModels store now models
models_may store mid now models at model own within read owns (inl same) =
    subst (λ (told : StoreTells). DrawsForModels store told models) (sym same) (models_of store mid models at own owns)
models_may store mid now models at model own within read owns (inr drawn) = record {
  count = at + 1;
  ids = owns.ids ++ drawn.id ∷ [];
  twelve = twelve_push owns.ids drawn.id owns.twelve drawn.twelve;
  draws = subst (λ (given : List WriteModel). DrawsModelIds store now given (owns.ids ++ drawn.id ∷ [])) (sym (front_more models at model within read))
      (draws_push store mid now (take at models) owns.ids model drawn.id owns.draws drawn.draws);
}

-- what refuses one of the models
pub tells_one_model : (models : List WriteModel) (at : ℕ) (model : WriteModel) (error : Error) → at < length models → model ≡ get_or models at model
    → IsAlone Memory no_labels error ⊎ IsModelError model error → TellsOneModel models error
tells_one_model models at model error within read (inl memory) = inl memory
tells_one_model models at model error within read (inr own) =
    inr (record { at = at; model = model; stands = slice_get-get_or models at model within ∙ ap (λ (given : WriteModel). Some given) (sym read); own = own })
