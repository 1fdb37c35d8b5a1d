-- An insert whose document fits into a command alone is refused no build.
use Rattle.std.proofs.Common.{◌≡◌, ℕ, List, [], ◌∷◌, length, sym, subst, arith, inl, inr}
use Rattle.std.specs.Prelude.{Option, Some}
use Rattle.bson_lite.specs.declared.bson.Bson.{Bson}
use Rattle.bson_lite.specs.declared.bson.ObjectId.{ObjectId}
use Rattle.bson_lite.specs.declared.document.Pair.{Pair}
use Rattle.bson_lite.specs.declared.namespace.Namespace.{Namespace}
use Rattle.bson_lite.specs.Fields.{with_id}
use Rattle.bson_lite.specs.Spelling.{Spells}
use Rattle.driver_error.specs.declared.error.Error.{Error}
use Rattle.driver_options.specs.declared.options.Description.{Description}
use Rattle.driver_options.specs.declared.write_options.InsertManyOptions.{InsertManyOptions}
use Rattle.driver_batches.specs.Sizes.{Fits}
use Rattle.driver_link.specs.declared.machine.Setup.{Setup}
use Rattle.driver_ops.specs.Operations.{Refuses}
use Rattle.driver_ops.specs.Targets.{in_collection}
use Rattle.write_ops.specs.declared.own_document.OwnDocument.{OwnDocument}
use Rattle.write_ops.specs.InsertFronts.{IsFrontOf, RefusesFront, insert_limits}
use Rattle.write_ops.specs.InsertSpec.{insert_spec}
use Rattle.driver_exec.proofs.FixedNumbers.{MayBeFixed}
use Rattle.driver_exec.proofs.HeldSessions.{IsOf}
use Rattle.driver_actions.specs.CallParts.{FitsAlone}
use Rattle.driver_inputs.specs.Forms.{inserts}

-- a caller's document with its id, as it is sent
module _ (namespace : Namespace) (document : List (Pair Bson)) (options : InsertManyOptions) (id : ObjectId) (own : OwnDocument) (twelve : length id.bytes ≡ 12)
    (spelled : Spells (with_id id document) own.bytes) where
  -- where it fits alone so do its bytes
  own_fits : (description : Description) → FitsAlone description (inserts namespace document options) → Fits (insert_limits namespace options description) (length own.bytes ∷ [])
  own_fits description fits = subst (λ bytes. Fits (insert_limits namespace options description) (length bytes ∷ [])) (sym spelled.is) (fits id twelve)

  -- the front of it is not empty
  not_refused : (description : Description) → FitsAlone description (inserts namespace document options) → (error : Error)
      → RefusesFront (insert_limits namespace options description) 0 (own ∷ []) (Some 1) error → ⊥
  not_refused description fits error refused =
      let none : refused.0 ≡ 0 = (let below = refused.1 in omega arith) in
      let longest : IsFrontOf (insert_limits namespace options description) (own ∷ []) 0 = subst (λ at. IsFrontOf (insert_limits namespace options description) (own ∷ []) at) none refused.2 in
      longest.longest 1 (omega arith) (omega arith) (own_fits description fits)

  -- so none of its builds is refused over the setup's connections
  pub insert_unrefused : (setup : Setup) → FitsAlone setup.description (inserts namespace document options) → (told : Option Setup) → told ≡ Some setup → (description : Description) → IsOf told description
      → (number : Option ℕ) → MayBeFixed (insert_spec (in_collection namespace) 0 (own ∷ []) options) (Some 1) told 1 number
      → (error : Error) → Refuses (insert_spec (in_collection namespace) 0 (own ∷ []) options) number description error → ⊥
  insert_unrefused setup fits told told_is description is number fixed error refuses =
      let same : description ≡ setup.description = subst (λ t. IsOf t description) told_is is in
      let one : number ≡ Some 1 = elim fixed [ inl begun ↦ begun | inr sent ↦ sent.1 ] in
      not_refused description (subst (λ d. FitsAlone d (inserts namespace document options)) (sym same) fits) error
      (subst (λ n. RefusesFront (insert_limits namespace options description) 0 (own ∷ []) n error) one refuses.refused)
