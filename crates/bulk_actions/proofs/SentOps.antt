-- A model's op as it is sent: behind the id that was drawn for the document that it inserts, else as it is.
use Rattle.std.proofs.Common.{◌≡◌, List, length, refl, sym, ap, subst, inl, inr}
use Rattle.std.specs.Prelude.{Option, None, Some, Result, Ok, Err}
use Rattle.bson_lite.specs.declared.bson.Bson.{Bson}
use Rattle.bson_lite.specs.declared.bson.ObjectId.{ObjectId}
use Rattle.bson_lite.specs.declared.document.Pair.{Pair}
use Rattle.bson_lite.specs.Fields.{id_key, value_of, with_id}
use Rattle.bson_lite.proofs.Named.{kept_with}
use Rattle.driver_error.specs.declared.error.Error.{Error}
use Rattle.driver_options.specs.declared.models.DeleteManyModel.{DeleteManyModel}
use Rattle.driver_options.specs.declared.models.DeleteOneModel.{DeleteOneModel}
use Rattle.driver_options.specs.declared.models.InsertOneModel.{InsertOneModel}
use Rattle.driver_options.specs.declared.models.ReplaceOneModel.{ReplaceOneModel}
use Rattle.driver_options.specs.declared.models.UpdateManyModel.{UpdateManyModel}
use Rattle.driver_options.specs.declared.models.UpdateOneModel.{UpdateOneModel}
use Rattle.driver_options.specs.declared.models.WriteModel.{WriteModel}
use Rattle.driver_options.specs.declared.models.WriteModel.TheVariants.{InsertOne, UpdateOne, UpdateMany, ReplaceOne, DeleteOne, DeleteMany}
use Rattle.driver_session.specs.StoreTells.{DrawsObjectId, StoreTells}
use Rattle.driver_ops.specs.Encoding.{IsUnspelled}
use Rattle.bulk_fronts.specs.declared.own_op.OwnOp.{OwnOp}
use Rattle.bulk_fronts.specs.BulkOps.{IsOpOf, SpellsOp, op_document}
use Rattle.driver_actions.specs.OwnIds.{DrawsOwnId}
use Rattle.bulk_actions.specs.BulkIds.{DrawsModelId}
use Rattle.bulk_actions.specs.inside.OwnOps.{DrawsForModel, SendsOp}
use Rattle.driver_inputs.specs.BulkInputs.{with_model_id}
use Rattle.driver_inputs.specs.ManyFaults.{zero_id}

-- the op of an insert whose document gets the id that was drawn
pub sent_with_drawn : (store now : StoreTells) (model : InsertOneModel) (id : ObjectId) (made : Result OwnOp Error) → ◌≡◌ {A = Option Bson} (value_of id_key model.document) None
    → length id.bytes ≡ 12 → DrawsObjectId store now id.bytes → SpellsOp (InsertOne (record { namespace = model.namespace; document = with_id id model.document })) made
    → SendsOp store now (InsertOne model) made
sent_with_drawn store now model id (Ok own) none twelve draws spelled = record {
  id = id;
  twelve = twelve;
  draws = subst (λ (given : Option Bson). DrawsOwnId given store now id) (sym none) draws;
  is_op = spelled;
}
sent_with_drawn store now model id (Err error) none twelve draws (inl memory) = inl memory
sent_with_drawn store now model id (Err error) none twelve draws (inr unspelled) = inr (record { id = id; twelve = twelve; unspelled = unspelled })

-- it was drawn for the insert
pub drawn_for_insert : (store now : StoreTells) (model : InsertOneModel) (id : ObjectId) → ◌≡◌ {A = Option Bson} (value_of id_key model.document) None → length id.bytes ≡ 12
    → DrawsObjectId store now id.bytes → DrawsForModel store now (InsertOne model)
drawn_for_insert store now model id none twelve draws =
    record { id = id; twelve = twelve; draws = subst (λ (given : Option Bson). DrawsOwnId given store now id) (sym none) draws }

zero_is_twelve : length zero_id.bytes ≡ 12
unfolding zero_id
zero_is_twelve = refl

-- the op of a model that stays as it is
found_sent : (store : StoreTells) (model : WriteModel) (made : Result OwnOp Error) → ((id : ObjectId) → with_model_id id model ≡ model) → DrawsModelId model store store zero_id
    → SpellsOp model made → SendsOp store store model made
found_sent store model (Ok own) same draws spelled = record {
  id = zero_id;
  twelve = zero_is_twelve;
  draws = draws;
  is_op = subst (λ (sent : WriteModel). IsOpOf sent own) (sym (same zero_id)) spelled;
}
found_sent store model (Err error) same draws (inl memory) = inl memory
found_sent store model (Err error) same draws (inr unspelled) = inr (record {
  id = zero_id;
  twelve = zero_is_twelve;
  unspelled = subst (λ (sent : WriteModel). IsUnspelled (op_document 0 sent) error) (sym (same zero_id)) unspelled;
})

-- that of an insert whose document has an id
pub sent_as_given : (store : StoreTells) (model : InsertOneModel) (value : Bson) (made : Result OwnOp Error) → ◌≡◌ {A = Option Bson} (Some value) (value_of id_key model.document)
    → SpellsOp (InsertOne model) made → SendsOp store store (InsertOne model) made
sent_as_given store model value made found =
    found_sent store (InsertOne model) made
    (λ id. ap (λ (document : List (Pair Bson)). InsertOne (record { namespace = model.namespace; document = document })) (kept_with id model.document value found))
    (subst (λ (given : Option Bson). DrawsOwnId given store store zero_id) found refl)

pub sent_update_one : (store : StoreTells) (model : UpdateOneModel) (made : Result OwnOp Error) → SpellsOp (UpdateOne model) made → SendsOp store store (UpdateOne model) made
sent_update_one store model made = found_sent store (UpdateOne model) made (λ id. refl) refl

pub sent_update_many : (store : StoreTells) (model : UpdateManyModel) (made : Result OwnOp Error) → SpellsOp (UpdateMany model) made → SendsOp store store (UpdateMany model) made
sent_update_many store model made = found_sent store (UpdateMany model) made (λ id. refl) refl

pub sent_replace_one : (store : StoreTells) (model : ReplaceOneModel) (made : Result OwnOp Error) → SpellsOp (ReplaceOne model) made → SendsOp store store (ReplaceOne model) made
sent_replace_one store model made = found_sent store (ReplaceOne model) made (λ id. refl) refl

pub sent_delete_one : (store : StoreTells) (model : DeleteOneModel) (made : Result OwnOp Error) → SpellsOp (DeleteOne model) made → SendsOp store store (DeleteOne model) made
sent_delete_one store model made = found_sent store (DeleteOne model) made (λ id. refl) refl

pub sent_delete_many : (store : StoreTells) (model : DeleteManyModel) (made : Result OwnOp Error) → SpellsOp (DeleteMany model) made → SendsOp store store (DeleteMany model) made
sent_delete_many store model made = found_sent store (DeleteMany model) made (λ id. refl) refl
