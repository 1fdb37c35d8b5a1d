-- A bulk write keeps what stands between the operations of one client.
use Rattle.std.proofs.Common.{◌≡◌, ℕ, zero, suc, ◌+◌, true, List, [], ◌∷◌, length, take, refl, sym, ap, subst, ◌∙◌, inl, inr, arith}
use Rattle.std.specs.Prelude.{Option, None, Some, Result, Ok, Err, slice_get}
use Rattle.bson_lite.specs.declared.bson.ObjectId.{ObjectId}
use Rattle.bson_lite.specs.Fields.{id_key, value_of}
use Rattle.driver_error.specs.declared.error.Error.{Error}
use Rattle.bulk_outcomes.specs.BulkResults.{ResultSpec}
use Rattle.driver_options.specs.declared.models.WriteModel.{WriteModel}
use Rattle.driver_options.specs.declared.models.WriteModel.TheVariants.{DeleteMany, DeleteOne, InsertOne, ReplaceOne, UpdateMany, UpdateOne}
use Rattle.driver_options.specs.declared.write_options.BulkWriteOptions.{BulkWriteOptions}
use Rattle.driver_link.specs.declared.machine.PlacedWrite.{PlacedWrite}
use Rattle.driver_link.specs.LinkState.{server_run}
use Rattle.driver_link.specs.ServerRun.{ServerRun}
use Rattle.driver_link.proofs.Lists.{none_is_some, some_is_some}
use Rattle.driver_session.specs.Pool.{Pool}
use Rattle.driver_session.specs.StoreTells.{DrawnApart, DrawnApartIn, Draws, StoreTells}
use Rattle.driver_session.proofs.IdDraws.{draws_staying, draws_twice}
use Rattle.bulk_fronts.specs.BulkOps.{model_written}
use Rattle.driver_attempt.specs.Moment.{Moment}
use Rattle.driver_inputs.specs.BulkInputs.{with_model_id, with_model_ids}
use Rattle.driver_inputs.specs.Calls.{IsOwn}
use Rattle.driver_inputs.specs.ManyInputs.{AreTwelve}
use Rattle.many_actions.specs.ManyEntries.{MayWriteCall}
use Rattle.driver_actions.proofs.CallSends.{may_draws, pool_kept}
use Rattle.driver_actions.proofs.MovesBeside.{CallMoves, DrewIds, moves_drew, moves_twice}
use Rattle.driver_actions.proofs.OwnIds.{own_drawn}
use Rattle.many_actions.proofs.PlannedBatches.{Advances, IsNewFrom, batches_advance, batches_move}
use Rattle.bulk_actions.specs.BulkBatches.{bulk_plan}
use Rattle.bulk_actions.specs.BulkCalls.{EndsShort, MadeBulk, MakesBulk}
use Rattle.bulk_actions.specs.BulkIds.{DrawsModelId, DrawsModelIds, PreparesOps}
use Rattle.bulk_actions.specs.OwnModels.{IsOwnModel, KeepsBulk, KeepsBulkWhereTold}
use Rattle.bulk_actions.proofs.BulkBodies.{accepted_undotted}
use Rattle.bulk_actions.proofs.BulkPlanned.{EachModel, GoodModels, IsOfModel, bulk_planned}
use Rattle.bulk_actions.proofs.CursorsAsked.{TellsBehind}
use Rattle.bulk_actions.proofs.CursorsLeft.{batches_behind, behind_told}

-- a model is the caller's at an index, its inserted document with its id
pub record IsGivenModel (models : List WriteModel) (index : ℕ) (sent : WriteModel) : Type 0 where
  pub given : WriteModel
  pub stands : slice_get models index ≡ Some given
  pub id : ObjectId
  pub twelve : length id.bytes ≡ 12
  pub is : sent ≡ with_model_id id given

-- so is each that got one
given_at : (ids : List ObjectId) (models : List WriteModel) (at : ℕ) (sent : WriteModel) → AreTwelve ids → slice_get (with_model_ids ids models) at ≡ Some sent → IsGivenModel models at sent
given_at [] models at sent twelve is = absurd (none_is_some sent is)
given_at (id ∷ ids) [] at sent twelve is = absurd (none_is_some sent is)
given_at (id ∷ ids) (model ∷ models) zero sent twelve is = record { given = model; stands = refl; id = id; twelve = twelve.0; is = sym (some_is_some (with_model_id id model) sent is) }
given_at (id ∷ ids) (model ∷ models) (suc at) sent twelve is =
    let rest = given_at ids models at sent twelve.1 is in record { given = rest.given; stands = rest.stands; id = rest.id; twelve = rest.twelve; is = rest.is }

pub given_each : (ids : List ObjectId) (models : List WriteModel) → AreTwelve ids → EachModel (IsGivenModel models) 0 (with_model_ids ids models)
given_each ids models twelve = λ at sent is. let on : at ≡ 0 + at = omega arith in subst (λ n. IsGivenModel models n sent) on (given_at ids models at sent twelve is)

-- the write of a model as it is sent is the caller's own
pub own_written : (id : ObjectId) → length id.bytes ≡ 12 → (model : WriteModel) → IsOwn (model_written model) (model_written (with_model_id id model))
own_written id twelve (InsertOne model) = record { kind = refl; namespace = refl; document = record { id = id; twelve = twelve; is = refl } }
own_written id twelve (UpdateOne model) = record { kind = refl; namespace = refl; document = refl }
own_written id twelve (UpdateMany model) = record { kind = refl; namespace = refl; document = refl }
own_written id twelve (ReplaceOne model) = record { kind = refl; namespace = refl; document = refl }
own_written id twelve (DeleteOne model) = record { kind = refl; namespace = refl; document = refl }
own_written id twelve (DeleteMany model) = record { kind = refl; namespace = refl; document = refl }

pub own_model : (models : List WriteModel) (call : ℕ) (write : PlacedWrite) → IsOfModel (IsGivenModel models) call write → IsOwnModel models call write
own_model models call write of = record {
  model = of.given.given;
  of_call = of.of_call;
  given = of.given.stands;
  own = subst (IsOwn (model_written of.given.given)) (sym (of.is ∙ ap model_written of.given.is)) (own_written of.given.id of.given.twelve of.given.given);
}

-- object ids alone were drawn
pub record OnlyIds (store now : StoreTells) : Type 0 where
  pub draws : Draws store now
  pub pool : now.pool ≡ store.pool

same_ids : (store now : StoreTells) → now ≡ store → OnlyIds store now
same_ids store now same = record { draws = draws_staying store now same; pool = ap (λ s. s.pool) same }

model_drawn : (model : WriteModel) (store now : StoreTells) (id : ObjectId) → DrawsModelId model store now id → OnlyIds store now
model_drawn (InsertOne model) store now id draws =
    let here = own_drawn (value_of id_key model.document) store now id draws in
    record { draws = may_draws store now here; pool = pool_kept store now here }
model_drawn (UpdateOne model) store now id draws = same_ids store now draws
model_drawn (UpdateMany model) store now id draws = same_ids store now draws
model_drawn (ReplaceOne model) store now id draws = same_ids store now draws
model_drawn (DeleteOne model) store now id draws = same_ids store now draws
model_drawn (DeleteMany model) store now id draws = same_ids store now draws

models_drawn : (store now : StoreTells) (models : List WriteModel) (ids : List ObjectId) → DrawsModelIds store now models ids → OnlyIds store now
models_drawn store now [] [] draws = same_ids store now draws
models_drawn store now [] (id ∷ ids) draws = absurd draws
models_drawn store now (model ∷ models) [] draws = absurd draws
models_drawn store now (model ∷ models) (id ∷ ids) draws =
    let mid = draws.0 in
    let here = model_drawn model store mid id draws.1.0 in
    let rest = models_drawn mid now models ids draws.1.1 in
    record { draws = draws_twice store mid now here.draws rest.draws; pool = rest.pool ∙ here.pool }

-- so it is in a call in which nothing was asked
pub unmade_ids : (before now : Moment) (models : List WriteModel) (options : BulkWriteOptions) (error : Error) → PreparesOps before.store now.store models options (Err error) → OnlyIds before.store now.store
unmade_ids before now models options error prepares = elim prepares [
  | inl judged ↦ same_ids before.store now.store judged.0
  | inr short ↦ models_drawn before.store now.store (take short.1.1.count models) short.1.1.ids short.1.1.draws
]

pub drew_by : (before now : Moment) → now ≡ record before { store = now.store } → OnlyIds before.store now.store → DrewIds before now
drew_by before now rest only = record { draws = only.draws; pool = only.pool; rest = rest }

-- a call that was made
module _ {R : Type 0} (tells : ResultSpec R) (before now : Moment) (models : List WriteModel) (options : BulkWriteOptions) (call : ℕ) (result : Result R Error) (made : MadeBulk tells before now models options call result) where
  -- its models as they are sent
  abbrev pub good : GoodModels (IsGivenModel models) 0 made.own
  good = record {
    models = with_model_ids made.owns.ids models;
    are = made.owns.are_ops;
    undotted = accepted_undotted made.owns.ids models made.accepted.arguments;
    each = given_each made.owns.ids models made.owns.twelve;
  }

  -- before its batches object ids alone were drawn
  pub made_drew : DrewIds before made.mid
  made_drew = drew_by before made.mid made.rest (models_drawn before.store made.mid.store models made.owns.ids made.owns.draws)

  -- what it leaves
  pub made_moves : CallMoves true (0 + length made.own) call before now
  made_moves =
      moves_twice true 0 (length made.own) call before made.mid now (moves_drew true call before made.mid made_drew)
      (batches_move true (bulk_plan tells options) call (GoodModels (IsGivenModel models)) (IsOfModel (IsGivenModel models) call) (bulk_planned tells options call (IsGivenModel models)) (EndsShort tells made.ends result) made.ends
      0 made.own good made.mid now made.batches)

  -- nothing that waits is ahead behind it, where nothing was before
  pub made_behind : TellsBehind before.link → TellsBehind now.link
  made_behind here =
      batches_behind tells options call (IsGivenModel models) (EndsShort tells made.ends result) made.ends 0 made.own good made.mid now (subst (λ m. TellsBehind m.link) (sym made.rest) here) made.batches

  -- over a told pool and a told server, before which all stands, where the call is new
  module _ (pool pool_now : Pool) (run run_now : ServerRun) (pool_is : before.store.pool ≡ Some pool) (pool_now_is : now.store.pool ≡ Some pool_now) (run_is : server_run before.link ≡ Some run)
      (run_now_is : server_run now.link ≡ Some run_now) (may : MayWriteCall pool pool_now run call) where
    new_from : IsNewFrom run.server.trace call 0
    new_from = λ earlier at write has stands of_call. absurd (may.new earlier at write has stands of_call)

    apart_now : DrawnApart now.store
    apart_now = subst DrawnApartIn (sym pool_now_is) may.apart

    -- all went on
    pub made_advances : Advances (IsOfModel (IsGivenModel models) call) pool_now run run_now
    made_advances =
        batches_advance true (bulk_plan tells options) call (GoodModels (IsGivenModel models)) (IsOfModel (IsGivenModel models) call) (bulk_planned tells options call (IsGivenModel models))
        (EndsShort tells made.ends result) made.ends 0 made.own good made.mid now pool pool_now run run_now (made_drew.pool ∙ pool_is) pool_now_is (ap (λ moment. server_run moment.link) made.rest ∙ run_is) run_now_is
        may.between may.sound new_from apart_now made.batches

module _ {R : Type 0} (tells : ResultSpec R) (before now : Moment) (models : List WriteModel) (options : BulkWriteOptions) (call : ℕ) where
  -- one that was made keeps what stands
  made_keeps : (result : Result R Error) → MadeBulk tells before now models options call result → KeepsBulk before now models call
  made_keeps result made = of_told before.store.pool now.store.pool (server_run before.link) (server_run now.link) refl refl refl refl
    where
      of_told : (pool pool_now : Option Pool) (run run_now : Option ServerRun) → before.store.pool ≡ pool → now.store.pool ≡ pool_now → server_run before.link ≡ run → server_run now.link ≡ run_now
          → KeepsBulkWhereTold models pool pool_now run run_now call
      of_told (Some pool) (Some pool_now) (Some run) (Some run_now) pool_is pool_now_is run_is run_now_is = λ may.
          let advances = made_advances tells before now models options call result made pool pool_now run run_now pool_is pool_now_is run_is run_now_is may in record {
            between = advances.between;
            sound = advances.sound;
            which = λ send has. elim (advances.which send has) [
              | inl earlier ↦ inl earlier
              | inr own ↦ inr (λ at write stands. own_model models call write (own at write stands))
            ];
            cursors = λ none. behind_told now.link run_now run_now_is (made_behind tells before now models options call result made (run, (run_is, none)));
          }
      of_told None pool_now run run_now pool_is pool_now_is run_is run_now_is = tt
      of_told (Some pool) None run run_now pool_is pool_now_is run_is run_now_is = tt
      of_told (Some pool) (Some pool_now) None run_now pool_is pool_now_is run_is run_now_is = tt
      of_told (Some pool) (Some pool_now) (Some run) None pool_is pool_now_is run_is run_now_is = tt

  -- one that was not changed nothing that is told of pool and server
  unmade_keeps : DrewIds before now → KeepsBulk before now models call
  unmade_keeps drew =
      subst (λ p. KeepsBulkWhereTold models before.store.pool p (server_run before.link) (server_run now.link) call) (sym drew.pool)
      (subst (λ r. KeepsBulkWhereTold models before.store.pool before.store.pool (server_run before.link) r call) (sym (ap (λ moment. server_run moment.link) drew.rest))
      (of_told before.store.pool (server_run before.link)))
    where
      of_told : (pool : Option Pool) (run : Option ServerRun) → KeepsBulkWhereTold models pool pool run run call
      of_told None run = tt
      of_told (Some pool) None = tt
      of_told (Some pool) (Some run) = λ may. record { between = may.between; sound = may.sound; which = λ send has. inl has; cursors = λ none. none }

  -- so each keeps what stands
  pub bulk_keeps : (result : Result R Error) → MakesBulk tells before now models options call result → KeepsBulk before now models call
  bulk_keeps (Ok output) made = made_keeps (Ok output) made
  bulk_keeps (Err error) makes = elim makes [
    | inl unmade ↦ unmade_keeps (drew_by before now unmade.rest (unmade_ids before now models options error unmade.prepares))
    | inr made ↦ made_keeps (Err error) made
  ]

  -- and nothing that waits is ahead behind it, where nothing was before, whatever is told of pools
  pub bulk_behind : (result : Result R Error) → MakesBulk tells before now models options call result → TellsBehind before.link → TellsBehind now.link
  bulk_behind (Ok output) made here = made_behind tells before now models options call (Ok output) made here
  bulk_behind (Err error) makes here = elim makes [
    | inl unmade ↦ subst (λ m. TellsBehind m.link) (sym unmade.rest) here
    | inr made ↦ made_behind tells before now models options call (Err error) made here
  ]
