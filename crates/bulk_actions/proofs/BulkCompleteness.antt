-- A valid bulk write whose part of the schedule is gentle ends well.
use Rattle.std.proofs.Common.{◌≡◌, ℕ, zero, suc, ◌+◌, Bool, ◌||◌, List, [], ◌∷◌, drop, length, take, refl, sym, ap, subst, ◌∙◌, inl, inr, arith}
use Rattle.std.specs.Prelude.{pos, ◌≤ℤ◌, Option, None, Some, IfSome, Result, Ok, Err}
use Rattle.std.specs.List.{list_any}
use Rattle.bson_lite.specs.declared.bson.ObjectId.{ObjectId}
use Rattle.bson_lite.specs.declared.fault.EncodeFault.{EncodeFault}
use Rattle.driver_error.specs.declared.error.Error.{Error}
use Rattle.driver_error.specs.declared.kind.ErrorKind.TheVariants as kind
use Rattle.bulk_outcomes.specs.declared.status.ExecutionStatus.TheVariants as status
use Rattle.bulk_outcomes.specs.BulkResults.{MergesResults, ResultSpec}
use Rattle.driver_error.specs.Error.{ErrorKind, kind_of}
use Rattle.driver_options.specs.declared.models.WriteModel.{WriteModel}
use Rattle.driver_options.specs.declared.models.WriteModel.TheVariants.{DeleteMany, DeleteOne, InsertOne, ReplaceOne, UpdateMany, UpdateOne}
use Rattle.driver_options.specs.declared.write_options.BulkWriteOptions.{BulkWriteOptions}
use Rattle.driver_options.specs.Models.{is_multi}
use Rattle.driver_link.specs.LinkState.{server_run, setup_of}
use Rattle.driver_link.specs.ServerRun.{ServerRun}
use Rattle.driver_link.proofs.ToldSetups.{served_setup}
use Rattle.driver_session.specs.Pool.{Pool}
use Rattle.driver_session.specs.Session.{last_number}
use Rattle.driver_session.specs.StoreTells.{DrawnApartIn}
use Rattle.bulk_fronts.specs.declared.own_op.OwnOp.{OwnOp}
use Rattle.bulk_fronts.specs.BulkFronts.{sized_ops}
use Rattle.bulk_fronts.specs.BulkOps.{AreOps, has_multi}
use Rattle.bulk_ops.specs.BulkSpec.{is_verbose}
use Rattle.driver_attempt.specs.Moment.{Moment}
use Rattle.driver_exec.proofs.Moments.{before_refl}
use Rattle.driver_inputs.specs.BulkInputs.{BulkInputRefused, IsBulkAccepted, TellsBulkInput, with_model_id, with_model_ids}
use Rattle.driver_inputs.specs.ManyInputs.{AreTwelve}
use Rattle.many_actions.specs.ManyCompleteness.{IsGentleCallPart}
use Rattle.bulk_actions.specs.BulkCalls.{EndsShort, MadeBulk, MakesBulk}
use Rattle.bulk_actions.specs.BulkCompleteness.{BulkRepeats, CompletesBulk, IsGentleBulkPart, IsGentleBulkWhereTold, IsValidBulk, MayCompleteBulk, MayCompleteBulkWhereTold, ServesBulk, TakesModels}
use Rattle.bulk_actions.specs.BulkIds.{PreparesOps}
use Rattle.bulk_actions.specs.BulkNumbers.{bulk_numbers, numbers_for, sized_with_ids}
use Rattle.bulk_actions.proofs.BulkJudged.{zero_ids, zero_length, zero_twelve}
use Rattle.bulk_actions.proofs.BulkKept.{good, made_drew}
use Rattle.bulk_actions.proofs.BulkNumbers.{all_sized}
use Rattle.bulk_actions.proofs.BulkRunWell.{FitsFrom, run_memory, stands_first}
use Rattle.bulk_actions.proofs.BulkTold.{AreSent, own_sent}
use Rattle.bulk_actions.proofs.BulkWell.{KnownBulk}
use Rattle.bulk_actions.proofs.FewestBulk.{ids_each, sizes_are}
use Rattle.bulk_actions.proofs.OpsLeft.{ops_left}

-- ---- input that is accepted
-- it is refused with no kind of error
accepted_bulk : (models : List WriteModel) (options : BulkWriteOptions) (why : ErrorKind) → IsBulkAccepted models options → BulkInputRefused models options why → ⊥
accepted_bulk models options (kind.InvalidArgument message) accepted refused =
    let e : ◌≡◌ {A = Option (List ℕ)} None (Some message) = sym accepted.arguments ∙ refused in cc
accepted_bulk models options (kind.BsonSerialization fault) accepted refused =
    let e : ◌≡◌ {A = Option EncodeFault} None (Some fault)
    = sym (accepted.values (zero_ids models) (zero_length models) (zero_twelve models)) ∙ refused.1 (zero_ids models) (zero_length models) (zero_twelve models) in
    cc
accepted_bulk models options _ accepted refused = refused

-- so an error that tells of it tells of want of memory
accepted_memory : (models : List WriteModel) (options : BulkWriteOptions) (error : Error) → IsBulkAccepted models options → TellsBulkInput models options error → kind_of error ≡ kind.Memory
accepted_memory models options error accepted tells = elim tells [
  | inl memory ↦ memory.kind_is
  | inr input ↦ absurd (accepted_bulk models options input.why accepted input.refused)
]

-- ---- models as they are sent
-- an id makes no model one of all documents found
same_multi : (id : ObjectId) (model : WriteModel) → is_multi model ≡ is_multi (with_model_id id model)
same_multi id (InsertOne model) = refl
same_multi id (UpdateOne model) = refl
same_multi id (UpdateMany model) = refl
same_multi id (ReplaceOne model) = refl
same_multi id (DeleteOne model) = refl
same_multi id (DeleteMany model) = refl

sent_multi : (ids : List ObjectId) (models : List WriteModel) → length ids ≡ length models → list_any is_multi models ≡ list_any is_multi (with_model_ids ids models)
sent_multi [] [] same = refl
sent_multi [] (model ∷ models) same = absurd (omega (arith, same))
sent_multi (id ∷ ids) [] same = absurd (omega (arith, same))
sent_multi (id ∷ ids) (model ∷ models) same =
    ap (λ (b : Bool). b || list_any is_multi models) (same_multi id model)
    ∙ ap (λ (b : Bool). is_multi (with_model_id id model) || b) (sent_multi ids models (omega (arith, same)))

left_multi : (count : ℕ) (ids : List ObjectId) (models : List WriteModel) → length ids ≡ length models → list_any is_multi (drop count models) ≡ list_any is_multi (drop count (with_model_ids ids models))
left_multi zero ids models same = sent_multi ids models same
left_multi (suc count) [] [] same = refl
left_multi (suc count) [] (model ∷ models) same = absurd (omega (arith, same))
left_multi (suc count) (id ∷ ids) [] same = absurd (omega (arith, same))
left_multi (suc count) (id ∷ ids) (model ∷ models) same = left_multi count ids models (omega (arith, same))

ops_multi : (models : List WriteModel) (own : List OwnOp) → AreOps models own → list_any is_multi models ≡ has_multi own
ops_multi [] [] are = refl
ops_multi [] (op ∷ own) are = absurd are
ops_multi (model ∷ models) [] are = absurd are
ops_multi (model ∷ models) (op ∷ own) are =
    ap (λ (b : Bool). b || list_any is_multi models) (sym are.0.multi) ∙ ap (λ (b : Bool). op.multi || b) (ops_multi models own are.1)

-- a front of them has a front of the ids
front_ids : (count : ℕ) (ids : List ObjectId) (models : List WriteModel) → length ids ≡ length models → take count (with_model_ids ids models) ≡ with_model_ids (take count ids) (take count models)
front_ids zero ids models same = refl
front_ids (suc count) [] [] same = refl
front_ids (suc count) [] (model ∷ models) same = absurd (omega (arith, same))
front_ids (suc count) (id ∷ ids) [] same = absurd (omega (arith, same))
front_ids (suc count) (id ∷ ids) (model ∷ models) same = ap (λ rest. with_model_id id model ∷ rest) (front_ids count ids models (omega (arith, same)))

front_long : (count : ℕ) (ids : List ObjectId) (models : List WriteModel) → length ids ≡ length models → length (take count ids) ≡ length (take count models)
front_long zero ids models same = refl
front_long (suc count) [] [] same = refl
front_long (suc count) [] (model ∷ models) same = absurd (omega (arith, same))
front_long (suc count) (id ∷ ids) [] same = absurd (omega (arith, same))
front_long (suc count) (id ∷ ids) (model ∷ models) same = ap suc (front_long count ids models (omega (arith, same)))

front_twelve : (count : ℕ) (ids : List ObjectId) → AreTwelve ids → AreTwelve (take count ids)
front_twelve zero ids twelve = tt
front_twelve (suc count) [] twelve = tt
front_twelve (suc count) (id ∷ ids) twelve = (twelve.0, front_twelve count ids twelve.1)

-- ---- the call
module _ {R : Type 0} (tells : ResultSpec R) (laws : MergesResults tells) (before now : Moment) (models : List WriteModel) (options : BulkWriteOptions) (call : ℕ) where
  -- one that was made, over what is told
  module _ (error : Error) (made : MadeBulk tells before now models options call (Err error)) (most : ℕ) (valid : IsValidBulk most before.client.options (setup_of before.link) models options (is_verbose tells))
      (pool pool_now : Pool) (run last : ServerRun) (pool_is : before.store.pool ≡ Some pool) (pool_now_is : now.store.pool ≡ Some pool_now) (run_is : server_run before.link ≡ Some run)
      (last_is : server_run now.link ≡ Some last) (may : MayCompleteBulk most pool pool_now run call) (gentle : IsGentleBulkPart tells models call before.client.options (setup_of before.link) run last) where
    setup_is : setup_of before.link ≡ Some run.setup
    setup_is = served_setup before.link.making run run_is

    each_id : length made.owns.ids ≡ length models
    each_id = ids_each before.store made.mid.store models made.owns.ids made.owns.draws

    sizes : sized_ops made.own ≡ sized_with_ids models
    sizes = sym (sizes_are (with_model_ids made.owns.ids models) made.own made.owns.are_ops) ∙ all_sized made.owns.ids models each_id made.owns.twelve

    known : KnownBulk tells options models made.own before.client.options run.setup
    known = record {
      concerned = valid.concerned;
      command = valid.command;
      takes = subst (λ s. IfSome s (λ found. TakesModels found.description options (is_verbose tells) models)) setup_is valid.takes;
      namespaces = valid.namespaces;
      sizes = sizes;
      multis = λ k. left_multi k made.owns.ids models each_id
          ∙ ops_multi (drop k (with_model_ids made.owns.ids models)) (drop k made.own) (ops_left k (with_model_ids made.owns.ids models) made.own made.owns.are_ops);
    }

    part : IsGentleCallPart ServesBulk (BulkRepeats models before.client.options (Some run.setup)) run last
    part = subst (λ s. IsGentleCallPart ServesBulk (BulkRepeats models before.client.options s) run last) setup_is gentle.part

    fits : FitsFrom tells laws options call models made.own before.client.options run.setup known (with_model_ids made.owns.ids models) last.server.log
    fits = λ count entries are stand.
        let ids = made.owns.ids in
        gentle.sums count entries
        (own_sent (take count ids) (take count models) call 0 entries (front_long count ids models each_id) (front_twelve count ids made.owns.twelve)
        (subst (λ m. AreSent m call 0 entries) (front_ids count ids models each_id) are)) stand _ refl

    enough : pos (most + numbers_for (Some run.setup) options (is_verbose tells) (sized_ops made.own)) ≤ℤ last_number
    enough =
        subst (λ ops. pos (most + numbers_for (Some run.setup) options (is_verbose tells) ops) ≤ℤ last_number) (sym sizes)
        (subst (λ s. pos (most + bulk_numbers s models options (is_verbose tells)) ≤ℤ last_number) setup_is valid.numbers)

    told_memory : kind_of error ≡ kind.Memory
    told_memory = elim made.answers [
      | inl memory ↦ memory
      | inr answers ↦
          let drew = made_drew tells before now models options call (Err error) made in
          run_memory tells laws options call models made.own before.client.options run.setup known (with_model_ids made.owns.ids models) run last part fits (EndsShort tells made.ends (Err error)) made.ends 0 made.own
          (good tells before now models options call (Err error) made) refl refl made.mid now (ap (λ moment. moment.client.options) made.rest) (ap (λ moment. setup_of moment.link) made.rest ∙ setup_is) pool pool_now run
          (drew.pool ∙ pool_is) pool_now_is (ap (λ moment. server_run moment.link) made.rest ∙ run_is) last_is may.call_may.writes.between may.call_may.writes.sound
          (λ earlier at write has stands of_call. absurd (may.call_may.writes.new earlier at write has stands of_call)) may.cursors (subst DrawnApartIn (sym pool_now_is) may.call_may.writes.apart) most may.call_may.numbers enough
          (before_refl run) made.batches status.None
          (stands_first tells laws options call models made.own before.client.options run.setup known (with_model_ids made.owns.ids models) run.server.log) answers.standing answers.comes error answers.answers
    ]

  -- so it is, whatever is told
  made_memory : (error : Error) → MadeBulk tells before now models options call (Err error) → (most : ℕ) → IsValidBulk most before.client.options (setup_of before.link) models options (is_verbose tells)
      → (store store_now : Option Pool) (link link_now : Option ServerRun) → before.store.pool ≡ store → now.store.pool ≡ store_now → server_run before.link ≡ link → server_run now.link ≡ link_now
      → MayCompleteBulkWhereTold most store store_now link call → IsGentleBulkWhereTold tells models call before.client.options (setup_of before.link) link link_now → kind_of error ≡ kind.Memory
  made_memory error made most valid None store_now link link_now pool_is pool_now_is run_is last_is may gentle = absurd may
  made_memory error made most valid (Some pool) None link link_now pool_is pool_now_is run_is last_is may gentle = absurd may
  made_memory error made most valid (Some pool) (Some pool_now) None link_now pool_is pool_now_is run_is last_is may gentle = absurd may
  made_memory error made most valid (Some pool) (Some pool_now) (Some run) None pool_is pool_now_is run_is last_is may gentle = absurd gentle
  made_memory error made most valid (Some pool) (Some pool_now) (Some run) (Some last) pool_is pool_now_is run_is last_is may gentle =
      told_memory error made most valid pool pool_now run last pool_is pool_now_is run_is last_is may gentle

  -- nothing was asked or sent
  unmade_memory : (error : Error) → IsBulkAccepted models options → PreparesOps before.store now.store models options (Err error) → kind_of error ≡ kind.Memory
  unmade_memory error accepted prepares = elim prepares [ inl judged ↦ accepted_memory models options error accepted judged.1 | inr short ↦ short.1.0 ]

  -- a bulk write ends well where it is valid and its part is gentle
  pub bulk_complete : (result : Result R Error) → MakesBulk tells before now models options call result → CompletesBulk tells before now models options call result
  bulk_complete (Ok output) made most may valid gentle = tt
  bulk_complete (Err error) makes most may valid gentle = elim makes [
    | inl unmade ↦ unmade_memory error valid.accepted unmade.prepares
    | inr made ↦ made_memory error made most valid before.store.pool now.store.pool (server_run before.link) (server_run now.link) refl refl refl refl may gentle
  ]
