-- A bulk write raises the numbers of idle sessions by one at most for each of its batches, and leaves the rest of a moment as a call may.
use Rattle.std.proofs.Common.{◌≡◌, ℕ, ◌+◌, ◌<◌, ◌≤◌, true, List, [], ◌∷◌, length, refl, sym, ap, subst, ◌∙◌, inl, inr, arith}
use Rattle.std.specs.Prelude.{Option, Result, Ok, Err}
use Rattle.bson_lite.specs.declared.bson.ObjectId.{ObjectId}
use Rattle.bson_lite.specs.Fields.{with_id}
use Rattle.bson_lite.specs.Namespace.{dotted}
use Rattle.driver_error.specs.declared.error.Error.{Error}
use Rattle.bulk_outcomes.specs.BulkResults.{ResultSpec}
use Rattle.driver_options.specs.declared.models.WriteModel.{WriteModel}
use Rattle.driver_options.specs.declared.models.WriteModel.TheVariants.{DeleteMany, DeleteOne, InsertOne, ReplaceOne, UpdateMany, UpdateOne}
use Rattle.driver_options.specs.declared.write_options.BulkWriteOptions.{BulkWriteOptions}
use Rattle.driver_link.specs.declared.machine.Setup.{Setup}
use Rattle.driver_link.specs.LinkState.{server_run}
use Rattle.bulk_fronts.specs.declared.own_op.OwnOp.{OwnOp}
use Rattle.bulk_fronts.specs.BulkFronts.{sized_ops}
use Rattle.bulk_ops.specs.BulkSpec.{is_verbose}
use Rattle.bulk_fronts.proofs.BulkFronts.{length_sized}
use Rattle.bulk_fronts.proofs.BulkSizes.{insert_length}
use Rattle.driver_attempt.specs.Moment.{Moment}
use Rattle.driver_inputs.specs.BulkInputs.{with_model_id, with_model_ids}
use Rattle.driver_inputs.specs.ManyFaults.{zero_id}
use Rattle.driver_inputs.specs.ManyInputs.{AreTwelve}
use Rattle.driver_actions.specs.Raises.{RaisesBy, RaisesByWhereTold}
use Rattle.many_actions.specs.Numbers.{server_setup}
use Rattle.many_actions.proofs.BatchSizes.{with_id_size}
use Rattle.driver_actions.proofs.MovesBeside.{CallMoves, moves_drew, moves_more, moves_raising, raises_more}
use Rattle.many_actions.proofs.PlannedBatches.{PlanNumbers, batches_raise}
use Rattle.bulk_actions.specs.BulkBatches.{bulk_plan}
use Rattle.bulk_actions.specs.BulkCalls.{EndsShort, MadeBulk, MakesBulk}
use Rattle.bulk_actions.specs.BulkNumbers.{RaisesByBulk, bulk_numbers, numbers_for, sized_with_ids}
use Rattle.bulk_actions.specs.FewestBulk.{sent_models, sized_model}
use Rattle.bulk_actions.proofs.BulkJudged.{zero_is_twelve}
use Rattle.bulk_actions.proofs.BulkKept.{IsGivenModel, drew_by, good, made_drew, made_moves, unmade_ids}
use Rattle.bulk_actions.proofs.BulkPlanned.{GoodModels, IsOfModel, bulk_planned}
use Rattle.bulk_actions.proofs.FewestBulk.{ids_each, sizes_are, sizes_left}
use Rattle.bulk_actions.proofs.OpRuns.{fewer_numbers, some_number}

-- each id is as long
same_sized : (id : ObjectId) → length id.bytes ≡ 12 → (model : WriteModel) → sized_model (with_model_id id model) ≡ sized_model (with_model_id zero_id model)
same_sized id twelve (InsertOne model) =
    ap (λ size. record { namespace = dotted model.namespace; size = size })
    (insert_length (with_id id model.document)
    ∙ ap (λ count. count + 27) (with_id_size id model.document twelve ∙ sym (with_id_size zero_id model.document zero_is_twelve))
    ∙ sym (insert_length (with_id zero_id model.document)))
same_sized id twelve (UpdateOne model) = refl
same_sized id twelve (UpdateMany model) = refl
same_sized id twelve (ReplaceOne model) = refl
same_sized id twelve (DeleteOne model) = refl
same_sized id twelve (DeleteMany model) = refl

-- so models count for the same under all ids
pub all_sized : (ids : List ObjectId) (models : List WriteModel) → length ids ≡ length models → AreTwelve ids → sent_models ids models ≡ sized_with_ids models
unfolding sized_with_ids
all_sized [] [] same twelve = refl
all_sized [] (model ∷ models) same twelve = absurd (omega (arith, same))
all_sized (id ∷ ids) [] same twelve = absurd (omega (arith, same))
all_sized (id ∷ ids) (model ∷ models) same twelve =
    ap (λ first. first ∷ sent_models ids models) (same_sized id twelve.0 model)
    ∙ ap (λ rest. sized_model (with_model_id zero_id model) ∷ rest) (all_sized ids models (omega (arith, same)) twelve.1)

module _ {R : Type 0} (tells : ResultSpec R) (options : BulkWriteOptions) (setup : Option Setup) where
  -- how many numbers these ops take at most
  abbrev numbers_left : List OwnOp → ℕ
  numbers_left own = numbers_for setup options (is_verbose tells) (sized_ops own)

  -- a batch takes one of them at least, and leaves one fewer
  pub plan_numbers : PlanNumbers (bulk_plan tells options) setup numbers_left
  plan_numbers = record {
    one = λ own some. some_number setup options (is_verbose tells) (sized_ops own) (subst (λ n. 0 < n) (sym (length_sized own)) some);
    fewer = λ index own description statements described takes some within.
        subst (λ ops. 1 + numbers_for setup options (is_verbose tells) ops ≤ numbers_left own) (sym (sizes_left statements own))
        (fewer_numbers setup options (is_verbose tells) (sized_ops own) statements description described takes.front.0 some (subst (λ n. statements ≤ n) (sym (length_sized own)) within));
  }

module _ {R : Type 0} (tells : ResultSpec R) (before now : Moment) (models : List WriteModel) (options : BulkWriteOptions) (call : ℕ) where
  -- the setup of its server
  abbrev setup : Option Setup
  setup = server_setup (server_run before.link)

  -- the numbers that it takes at most
  abbrev most_numbers : ℕ
  most_numbers = bulk_numbers setup models options (is_verbose tells)

  made_raises : (result : Result R Error) → MadeBulk tells before now models options call result → RaisesByBulk before now models options (is_verbose tells)
  made_raises result made =
      let drew = made_drew tells before now models options call result made in
      let setup_is : server_setup (server_run made.mid.link) ≡ setup = ap (λ moment. server_setup (server_run moment.link)) made.rest in
      let batches : RaisesBy (numbers_for setup options (is_verbose tells) (sized_ops made.own)) made.mid now
      = batches_raise true (bulk_plan tells options) call (GoodModels (IsGivenModel models)) (IsOfModel (IsGivenModel models) call) (bulk_planned tells options call (IsGivenModel models)) setup
      (λ own. numbers_for setup options (is_verbose tells) (sized_ops own)) (plan_numbers tells options setup) (EndsShort tells made.ends result) made.ends 0 made.own (good tells before now models options call result made) made.mid now
      setup_is made.batches in
      let sizes : sized_ops made.own ≡ sized_with_ids models
      = sym (sizes_are (with_model_ids made.owns.ids models) made.own made.owns.are_ops)
      ∙ all_sized made.owns.ids models (ids_each before.store made.mid.store models made.owns.ids made.owns.draws) made.owns.twelve in
      let all : RaisesBy most_numbers made.mid now = subst (λ ops. RaisesBy (numbers_for setup options (is_verbose tells) ops) made.mid now) sizes batches in
      subst (λ pool. RaisesByWhereTold most_numbers pool now.store.pool) drew.pool all

  -- so does each call
  pub bulk_raises : (result : Result R Error) → MakesBulk tells before now models options call result → RaisesByBulk before now models options (is_verbose tells)
  bulk_raises (Ok output) made = made_raises (Ok output) made
  bulk_raises (Err error) makes = elim makes [
    | inl unmade ↦
        raises_more 0 most_numbers (omega arith) before.store.pool now.store.pool
        (moves_drew true call before now (drew_by before now unmade.rest (unmade_ids before now models options error unmade.prepares))).raises
    | inr made ↦ made_raises (Err error) made
  ]

  -- what it leaves beside
  made_left : (result : Result R Error) → MadeBulk tells before now models options call result → CallMoves true most_numbers call before now
  made_left result made = moves_raising true (0 + length made.own) most_numbers call before now (made_moves tells before now models options call result made) (made_raises result made)

  pub bulk_moves : (result : Result R Error) → MakesBulk tells before now models options call result → CallMoves true most_numbers call before now
  bulk_moves (Ok output) made = made_left (Ok output) made
  bulk_moves (Err error) makes = elim makes [
    | inl unmade ↦
        moves_more true 0 most_numbers call before now (omega arith)
        (moves_drew true call before now (drew_by before now unmade.rest (unmade_ids before now models options error unmade.prepares)))
    | inr made ↦ made_left (Err error) made
  ]
