-- An insert of many documents: what it leaves, that it keeps what stands, and which of its documents stand in the log.
use Rattle.std.proofs.Common.{◌≡◌, ℕ, zero, suc, ◌+◌, ◌<◌, ◌≤◌, Bool, true, false, List, [], ◌∷◌, drop, length, take, refl, sym, ap, subst, ◌∙◌, inl, inr, arith}
use Rattle.std.specs.Prelude.{Option, None, Some, ◌⊎◌, Result, Ok, Err, slice_get}
use Rattle.std.specs.FinMap as finite
use Rattle.std.specs.Ordering.{nat_cmp}
use Rattle.bson_lite.specs.declared.bson.Bson.{Bson}
use Rattle.bson_lite.specs.declared.bson.ObjectId.{ObjectId}
use Rattle.bson_lite.specs.declared.document.Pair.{Pair}
use Rattle.bson_lite.specs.declared.namespace.Namespace.{Namespace}
use Rattle.bson_lite.specs.Fields.{id_key, value_of, with_id}
use Rattle.driver_error.specs.declared.error.Error.{Error}
use Rattle.driver_error.specs.declared.kind.ErrorKind.TheVariants as kind
use Rattle.server_answers.specs.declared.results.InsertManyResult.{InsertManyResult}
use Rattle.driver_error.specs.declared.write.InsertManyError.{InsertManyError}
use Rattle.driver_error.specs.Error.{ErrorKind, kind_of, labels_of}
use Rattle.driver_error.specs.LabelTexts.{LabelSet}
use Rattle.driver_options.specs.declared.write_options.InsertManyOptions.{InsertManyOptions}
use Rattle.driver_link.specs.declared.machine.Entry.{Entry}
use Rattle.driver_link.specs.declared.machine.PlacedWrite.{PlacedWrite}
use Rattle.driver_link.specs.LinkState.{server_run}
use Rattle.driver_link.specs.ServerRun.{ServerRun}
use Rattle.driver_link.proofs.Lists.{none_is_some, some_is_some}
use Rattle.driver_session.specs.Pool.{Pool}
use Rattle.driver_session.specs.StoreTells.{DrawnApart, DrawnApartIn, Draws, StoreTells}
use Rattle.driver_session.proofs.IdDraws.{draws_staying, draws_twice}
use Rattle.driver_ops.specs.declared.target.OperationTarget.{OperationTarget}
use Rattle.driver_ops.specs.Inserts.{insert_is_ordered}
use Rattle.driver_ops.specs.Targets.{namespace_of}
use Rattle.write_ops.specs.declared.own_document.OwnDocument.{OwnDocument}
use Rattle.write_ops.specs.InsertSpec.{AreOwn}
use Rattle.driver_attempt.specs.Moment.{Moment}
use Rattle.many_actions.specs.declared.gathered.Gathered.{Gathered}
use Rattle.many_actions.specs.Batches.{BatchEnd, MakesBatch, MakesBatches, goes_on, is_of_documents, tells_documents}
use Rattle.many_actions.specs.ManyAnswers.{AllOfDocuments, AnswersMany, EndsAlone, count_of, gathered, gathered_failures, nothing_gathered, with_kind, with_result}
use Rattle.many_actions.specs.ManyCalls.{MadeMany, MakesMany, RanShort}
use Rattle.many_actions.specs.ManyEntries.{AnswerStands, AnswerStandsWhereTold, HasListed, IsOwnInsert, KeepsCall, KeepsCallWhereTold, ListedStand, ListsAll, MayWriteCall}
use Rattle.driver_actions.specs.ManyIds.{DrawsOwnIds, MayDrawAllBy}
use Rattle.many_actions.proofs.BatchWrites.{EachIs, IsNewFrom, IsOfCall, own_length, own_rest, rest_is}
use Rattle.many_actions.proofs.BatchesListed.{AllInLog, batches_list, ok_there}
use Rattle.many_actions.proofs.BatchesMade.{Advances, batches_advance, batches_move, fixed_or_one}
use Rattle.driver_actions.proofs.CallMoves.{CallMoves, DrewIds, moves_drew, moves_more, moves_twice}
use Rattle.driver_actions.proofs.CallSends.{may_draws, pool_kept}
use Rattle.many_actions.proofs.ListedIds.{Ids, put_keeps, put_there}
use Rattle.driver_actions.proofs.OwnIds.{own_drawn}
use Rattle.driver_inputs.specs.Calls.{GetsId, IsOwn, given_insert}
use Rattle.driver_inputs.specs.ManyInputs.{AreTwelve, ManyInputRefused, TellsManyInput, with_ids}

-- a document is the caller's at an index, with its id
pub record IsGiven (documents : List (List (Pair Bson))) (index : ℕ) (sent : List (Pair Bson)) : Type 0 where
  pub given : List (Pair Bson)
  pub stands : slice_get documents index ≡ Some given
  pub gets : GetsId given sent

-- so is each that got one
given_at : (ids : List ObjectId) (documents : List (List (Pair Bson))) (at : ℕ) (sent : List (Pair Bson)) → AreTwelve ids → slice_get (with_ids ids documents) at ≡ Some sent → IsGiven documents at sent
given_at [] documents at sent twelve is = absurd (none_is_some sent is)
given_at (id ∷ ids) [] at sent twelve is = absurd (none_is_some sent is)
given_at (id ∷ ids) (document ∷ documents) zero sent twelve is =
    record { given = document; stands = refl; gets = record { id = id; twelve = twelve.0; is = sym (some_is_some (with_id id document) sent is) } }
given_at (id ∷ ids) (document ∷ documents) (suc at) sent twelve is =
    let rest = given_at ids documents at sent twelve.1 is in record { given = rest.given; stands = rest.stands; gets = rest.gets }

given_each : (ids : List ObjectId) (documents : List (List (Pair Bson))) → AreTwelve ids → EachIs (IsGiven documents) 0 (with_ids ids documents)
given_each ids documents twelve = λ at sent is. let on : at ≡ 0 + at = omega arith in subst (λ n. IsGiven documents n sent) on (given_at ids documents at sent twelve is)

-- a write of the call that inserts a given document is the caller's own
own_insert : (namespace : Namespace) (documents : List (List (Pair Bson))) (call : ℕ) (write : PlacedWrite) → IsOfCall (IsGiven documents) namespace call write → IsOwnInsert namespace documents call write
own_insert namespace documents call write is_of = record {
  document = is_of.given.given;
  of_call = is_of.of_call;
  given = is_of.given.stands;
  own = subst (IsOwn (given_insert namespace is_of.given.given)) (sym is_of.is) (record { kind = refl; namespace = refl; document = is_of.given.gets });
}

-- there is an id for each document that has its own
ids_length : (store now : StoreTells) (documents : List (List (Pair Bson))) (ids : List ObjectId) → DrawsOwnIds store now documents ids → length (with_ids ids documents) ≡ length documents
ids_length store now [] [] draws = refl
ids_length store now [] (id ∷ ids) draws = absurd draws
ids_length store now (document ∷ documents) [] draws = absurd draws
ids_length store now (document ∷ documents) (id ∷ ids) draws = ap suc (ids_length draws.0 now documents ids draws.1.1)

-- object ids alone were drawn
record OnlyIds (store now : StoreTells) : Type 0 where
  draws : Draws store now
  pool : now.pool ≡ store.pool

ids_drawn : (store now : StoreTells) (documents : List (List (Pair Bson))) (ids : List ObjectId) → DrawsOwnIds store now documents ids → OnlyIds store now
ids_drawn store now [] [] draws = record { draws = draws_staying store now draws; pool = ap (λ s. s.pool) draws }
ids_drawn store now [] (id ∷ ids) draws = absurd draws
ids_drawn store now (document ∷ documents) [] draws = absurd draws
ids_drawn store now (document ∷ documents) (id ∷ ids) draws =
    let mid = draws.0 in
    let here = own_drawn (value_of id_key document) store mid id draws.1.0 in
    let rest = ids_drawn mid now documents ids draws.1.1 in
    record { draws = draws_twice store mid now (may_draws store mid here) rest.draws; pool = rest.pool ∙ pool_kept store mid here }

-- so it is in a call in which nothing was asked
pub unmade_drew : (before now : Moment) (documents : List (List (Pair Bson))) (error : Error) → MayDrawAllBy before now documents error → DrewIds before now
unmade_drew before now documents error draws = elim draws [
  | inl same ↦ record {
    draws = draws_staying before.store now.store (ap (λ moment. moment.store) same);
    pool = ap (λ moment. moment.store.pool) same;
    rest = subst (λ moment. moment ≡ record before { store = moment.store }) (sym same) refl;
  }
  | inr memory ↦
      let front = memory.1 in
      let drew = ids_drawn before.store now.store (take front.count documents) front.ids front.draws in
      record { draws = drew.draws; pool = drew.pool; rest = front.rest }
]

-- a call that was made
module _ (before now : Moment) (target : OperationTarget) (documents : List (List (Pair Bson))) (options : InsertManyOptions) (call : ℕ) (result : Result InsertManyResult Error)
    (made : MadeMany before now target documents options call result) where
  -- its documents as they are sent
  abbrev pub sent : List (List (Pair Bson))
  sent = with_ids made.owns.ids documents

  pub sent_each : EachIs (IsGiven documents) 0 sent
  sent_each = given_each made.owns.ids documents made.owns.twelve

  -- as many as were given
  pub as_many : length made.own ≡ length documents
  as_many = sym (own_length sent made.own made.owns.are_own) ∙ ids_length before.store made.mid.store documents made.owns.ids made.owns.draws

  -- before its batches object ids alone were drawn
  pub made_drew : DrewIds before made.mid
  made_drew = let drew = ids_drawn before.store made.mid.store documents made.owns.ids made.owns.draws in record { draws = drew.draws; pool = drew.pool; rest = made.rest }

  -- what it leaves
  pub made_moves : CallMoves (length documents) call before now
  made_moves =
      let batches = batches_move target options call (IsGiven documents) (RanShort result) made.ends 0 sent made.own made.owns.are_own sent_each made.mid now made.batches in
      let many : 0 + length made.own ≤ length documents = (let same = as_many in omega (arith, same)) in
      moves_more (0 + length made.own) (length documents) call before now many
      (moves_twice 0 (length made.own) call before made.mid now (moves_drew call before made.mid made_drew) batches)

  -- over a told pool and a told server, before which all stands, where the call is new
  module _ (pool pool_now : Pool) (run run_now : ServerRun) (pool_is : before.store.pool ≡ Some pool) (pool_now_is : now.store.pool ≡ Some pool_now) (run_is : server_run before.link ≡ Some run)
      (run_now_is : server_run now.link ≡ Some run_now) (may : MayWriteCall pool pool_now run call) where
    -- what is told when its batches begin
    pool_mid : made.mid.store.pool ≡ Some pool
    pool_mid = made_drew.pool ∙ pool_is

    run_mid : server_run made.mid.link ≡ Some run
    run_mid = ap (λ moment. server_run moment.link) made.rest ∙ run_is

    -- no place of it was sent
    new_from : IsNewFrom run.server.trace call 0
    new_from = λ earlier at write has stands of_call. absurd (may.new earlier at write has stands of_call)

    -- the ids that were drawn are apart
    apart_now : DrawnApart now.store
    apart_now = subst DrawnApartIn (sym pool_now_is) may.apart

    -- all went on
    pub made_advances : Advances (IsOfCall (IsGiven documents) (namespace_of target) call) pool_now run run_now
    made_advances = batches_advance target options call (IsGiven documents) (RanShort result) made.ends 0 sent made.own made.owns.are_own sent_each made.mid now pool pool_now run run_now
        pool_mid pool_now_is run_mid run_now_is may.between may.sound new_from apart_now made.batches

    -- what its batches told stands in the log
    pub made_lists : AllInLog (IsGiven documents) (namespace_of target) call run_now.server.log (gathered nothing_gathered made.ends).inserted_ids
    made_lists = batches_list target options call (IsGiven documents) (RanShort result) made.ends nothing_gathered 0 sent made.own made.owns.are_own sent_each made.mid now pool pool_now run run_now
        pool_mid pool_now_is run_mid run_now_is may.between may.sound new_from apart_now made.batches (λ index id found. absurd (none_is_some id (sym (finite.get-empty nat_cmp index) ∙ found)))

-- the documents that are told are the caller's
pub listed_given : (namespace : Namespace) (documents : List (List (Pair Bson))) (call : ℕ) (log : List Entry) (ids : Ids) → AllInLog (IsGiven documents) namespace call log ids → HasListed namespace documents call log ids
listed_given namespace documents call log ids all = λ index id found.
    let stands = all index id found in record {
      document = stands.given.given;
      given = stands.given.stands;
      entry = stands.entry;
      has = stands.has;
      placed = stands.placed;
      own = subst (IsOwn (given_insert namespace stands.given.given)) (sym stands.written) (record { kind = refl; namespace = refl; document = stands.given.gets });
      id_is = ap (λ w. value_of id_key w.document) stands.written ∙ stands.id_is;
    }

-- a failure that was told stays told
kind_failed : (so_far : Gathered) (from count : ℕ) (labels : LabelSet) (found : ErrorKind) → so_far.failed ≡ true → (with_kind so_far from count labels found).failed ≡ true
kind_failed so_far from count labels (kind.InsertMany failures) failed = refl
kind_failed so_far from count labels _ failed = failed

result_failed : (so_far : Gathered) (from count : ℕ) (result : Result InsertManyResult Error) → so_far.failed ≡ true → (with_result so_far from count result).failed ≡ true
result_failed so_far from count (Ok output) failed = failed
result_failed so_far from count (Err error) failed = kind_failed so_far from count (labels_of error) (kind_of error) failed

failed_stays : (ends : List BatchEnd) (so_far : Gathered) → so_far.failed ≡ true → (gathered so_far ends).failed ≡ true
failed_stays [] so_far failed = failed
failed_stays (end ∷ ends) so_far failed =
    failed_stays ends (with_result so_far end.first (count_of end.statements) end.result) (result_failed so_far end.first (count_of end.statements) end.result failed)

-- an error that tells of documents is such a failure
told_failed : (so_far : Gathered) (from count : ℕ) (labels : LabelSet) (found : ErrorKind) → tells_documents found ≡ true → (with_kind so_far from count labels found).failed ≡ true
told_failed so_far from count labels (kind.InsertMany failures) told = refl
told_failed so_far from count labels _ told = absurd (let e : false ≡ true = told in cc)

-- so where none was told each end was Ok
pub end_is_ok : (so_far : Gathered) (from count : ℕ) (ends : List BatchEnd) (result : Result InsertManyResult Error) → is_of_documents result ≡ true → (gathered (with_result so_far from count result) ends).failed ≡ false
    → (output : InsertManyResult) × (result ≡ Ok output)
end_is_ok so_far from count ends (Ok output) of_documents unfailed = (output, refl)
end_is_ok so_far from count ends (Err error) of_documents unfailed =
    let failed = failed_stays ends (with_result so_far from count (Err error)) (told_failed so_far from count (labels_of error) (kind_of error) of_documents) in
    absurd (let e : ◌≡◌ {A = Bool} true false = sym failed ∙ unfailed in cc)

-- an index that has an id has one in the end
kind_keeps : (so_far : Gathered) (from count : ℕ) (labels : LabelSet) (found : ErrorKind) (q : ℕ) (id : Bson) → finite.get so_far.inserted_ids q ≡ Some id
    → (has : Bson) × (finite.get (with_kind so_far from count labels found).inserted_ids q ≡ Some has)
kind_keeps so_far from count labels (kind.InsertMany failures) q id is = put_keeps from count failures.inserted_ids so_far.inserted_ids q id is
kind_keeps so_far from count labels _ q id is = (id, is)

result_keeps : (so_far : Gathered) (from count : ℕ) (result : Result InsertManyResult Error) (q : ℕ) (id : Bson) → finite.get so_far.inserted_ids q ≡ Some id
    → (has : Bson) × (finite.get (with_result so_far from count result).inserted_ids q ≡ Some has)
result_keeps so_far from count (Ok output) q id is = put_keeps from count output.inserted_ids so_far.inserted_ids q id is
result_keeps so_far from count (Err error) q id is = kind_keeps so_far from count (labels_of error) (kind_of error) q id is

gathered_keeps : (ends : List BatchEnd) (so_far : Gathered) (q : ℕ) (id : Bson) → finite.get so_far.inserted_ids q ≡ Some id → (has : Bson) × (finite.get (gathered so_far ends).inserted_ids q ≡ Some has)
gathered_keeps [] so_far q id is = (id, is)
gathered_keeps (end ∷ ends) so_far q id is =
    let kept = result_keeps so_far end.first (count_of end.statements) end.result q id is in
    gathered_keeps ends (with_result so_far end.first (count_of end.statements) end.result) q kept.0 kept.1

-- what stands in a list stands in its front, or in the rest so much earlier
front_or_rest : {A : Type 0} (count : ℕ) (xs : List A) (position : ℕ) (x : A) → slice_get xs position ≡ Some x
    → (position < count) ⊎ ((later : ℕ) × ((position ≡ count + later) × (slice_get (drop count xs) later ≡ Some x)))
front_or_rest zero xs position x is = let on : position ≡ 0 + position = omega arith in inr (position, (on, is))
front_or_rest (suc count) [] position x is = absurd (none_is_some x is)
front_or_rest (suc count) (y ∷ xs) zero x is = inl (omega arith)
front_or_rest (suc count) (y ∷ xs) (suc position) x is = elim (front_or_rest count xs position x is) [
  | inl below ↦ inl (omega (arith, below))
  | inr rest ↦ let on : suc position ≡ suc count + rest.0 = (let here = rest.1.0 in omega (arith, here)) in inr (rest.0, (on, rest.1.1))
]

-- where each end was Ok and no document is left each has its id
module _ (target : OperationTarget) (options : InsertManyOptions) (call : ℕ) (G : ℕ → List (Pair Bson) → Type 0) (short : Type 0) (ample : short → ⊥) where
  -- the documents of one batch
  batch_covers : (so_far : Gathered) (index : ℕ) (documents : List (List (Pair Bson))) (own : List OwnDocument) (are : AreOwn documents own) (each : EachIs G index documents) (before now : Moment) (end : BatchEnd)
      → MakesBatch target options call index own before now end → (output : InsertManyResult) → end.result ≡ Ok output → (statements : ℕ) → end.statements ≡ Some statements
      → (position : ℕ) (document : OwnDocument) → position < statements → slice_get own position ≡ Some document
      → (has : Bson) × (finite.get (with_result so_far end.first (count_of end.statements) end.result).inserted_ids (index + position) ≡ Some has)
  batch_covers so_far index documents own are each before now end made output is statements told position document below at =
      let fixed : fixed_or_one end.statements ≡ statements = ap fixed_or_one told in
      let counted : count_of end.statements ≡ statements = ap count_of told in
      let there = ok_there target options call G index documents own are each before now end made output is position document (subst (λ n. position < n) (sym fixed) below) at in
      let put = put_there end.first (count_of end.statements) output.inserted_ids so_far.inserted_ids position there.0 (subst (λ n. position < n) (sym counted) below) there.1 in (
        put.0,
        ap (λ r. finite.get (with_result so_far end.first (count_of end.statements) r).inserted_ids (index + position)) is
            ∙ ap (λ n. finite.get (with_result so_far end.first (count_of end.statements) (Ok output)).inserted_ids (n + position)) (sym made.begins) ∙ put.1,
      )

  batches_cover : (ends : List BatchEnd) (so_far : Gathered) (index : ℕ) (documents : List (List (Pair Bson))) (own : List OwnDocument) → AreOwn documents own → EachIs G index documents → (before now : Moment)
      → MakesBatches short target options call index own ends before now → AllOfDocuments ends → (gathered so_far ends).failed ≡ false
      → (position : ℕ) (document : OwnDocument) → slice_get own position ≡ Some document → (has : Bson) × (finite.get (gathered so_far ends).inserted_ids (index + position) ≡ Some has)
  batches_cover [] so_far index documents own are each before now made of_documents unfailed position document at = elim made.1 [
    | inl none ↦ absurd (none_is_some document (ap (λ xs. slice_get xs position) (sym none) ∙ at))
    | inr ran_short ↦ absurd (ample ran_short)
  ]
  batches_cover (end ∷ ends) so_far index documents own are each before now made of_documents unfailed position document at =
      let mid = made.0 in
      let ok = end_is_ok so_far end.first (count_of end.statements) ends end.result of_documents.0 unfailed in
      let so_far_on = with_result so_far end.first (count_of end.statements) end.result in
      elim made.1.1 [
        | inl on ↦ elim (front_or_rest on.statements own position document at) [
          | inl below ↦
              let here = batch_covers so_far index documents own are each before mid end made.1.0 ok.0 ok.1 on.statements on.told position document below at in
              gathered_keeps ends so_far_on (index + position) here.0 here.1
          | inr rest ↦
              let has = batches_cover ends so_far_on (index + on.statements) (drop on.statements documents) (drop on.statements own) (own_rest on.statements documents own are)
              (rest_is G index on.statements documents each) mid now on.rest of_documents.1 unfailed rest.0 document rest.1.1 in
              let index_is : index + position ≡ index + on.statements + rest.0 = (let here = rest.1.0 in omega (arith, here)) in
              (has.0, ap (finite.get (gathered so_far_on ends).inserted_ids) index_is ∙ has.1)
        ]
        | inr stops ↦
            let over : ◌≡◌ {A = Bool} true false = ap (goes_on (insert_is_ordered options)) (sym ok.1) ∙ stops.over in
            absurd cc
      ]

-- what stands in one list has a counterpart in another of the same length
at_both : {A B : Type 0} (xs : List A) (ys : List B) (position : ℕ) (x : A) → length ys ≡ length xs → slice_get xs position ≡ Some x → (y : B) × (slice_get ys position ≡ Some y)
at_both [] ys position x same is = absurd (none_is_some x is)
at_both (x ∷ xs) [] position found same is = absurd (omega (arith, same))
at_both (x ∷ xs) (y ∷ ys) zero found same is = (y, refl)
at_both (x ∷ xs) (y ∷ ys) (suc position) found same is = at_both xs ys position found (omega (arith, same)) is

-- an error that was answered alone tells of no documents
alone_other : (ends : List BatchEnd) (error : Error) → EndsAlone ends error → tells_documents (kind_of error) ≡ false
alone_other [] error alone = absurd alone
alone_other (end ∷ []) error alone = ap is_of_documents (sym alone.0) ∙ alone.1
alone_other (end ∷ (next ∷ ends)) error alone = alone_other (next ∷ ends) error alone

-- an error of the call that tells of its documents tells what was gathered
pub failures_answered : (error : Error) (failures : InsertManyError) (ends : List BatchEnd) → kind_of error ≡ kind.InsertMany failures → AnswersMany ends (Err error)
    → failures ≡ gathered_failures (gathered nothing_gathered ends)
failures_answered error failures ends is answers = elim answers [
  | inl memory ↦ absurd (let e : ◌≡◌ {A = ErrorKind} (kind.InsertMany failures) kind.Memory = sym is ∙ memory in cc)
  | inr other ↦ elim other [
    | inl alone ↦ absurd (let e : ◌≡◌ {A = Bool} true false = sym (ap tells_documents is) ∙ alone_other ends error alone in cc)
    | inr told ↦ elim told.1.1 [
      | inl tells ↦
          let same : ◌≡◌ {A = ErrorKind} (kind.InsertMany failures) (kind.InsertMany (gathered_failures (gathered nothing_gathered ends))) = sym is ∙ tells.kind_is in
          cc
      | inr memory ↦ absurd (let e : ◌≡◌ {A = ErrorKind} (kind.InsertMany failures) kind.Memory = sym is ∙ memory.kind_is in cc)
    ]
  ]
]

-- an error of the input or of memory is of no documents
input_other : (namespace : Namespace) (documents : List (List (Pair Bson))) (options : InsertManyOptions) (error : Error) (failures : InsertManyError) → kind_of error ≡ kind.InsertMany failures
    → TellsManyInput namespace documents options error → ⊥
input_other namespace documents options error failures is tells = elim tells [
  | inl memory ↦ let e : ◌≡◌ {A = ErrorKind} (kind.InsertMany failures) kind.Memory = sym is ∙ memory.kind_is in cc
  | inr input ↦ subst (ManyInputRefused namespace documents options) (sym input.is.kind_is ∙ is) input.refused
]

module _ (before now : Moment) (target : OperationTarget) (documents : List (List (Pair Bson))) (options : InsertManyOptions) (call : ℕ) where
  -- each call leaves this
  pub many_moves : (result : Result InsertManyResult Error) → MakesMany before now target documents options call result → CallMoves (length documents) call before now
  many_moves (Ok output) made = made_moves before now target documents options call (Ok output) made
  many_moves (Err error) makes = elim makes [
    | inl unmade ↦ moves_more 0 (length documents) call before now (omega arith) (moves_drew call before now (unmade_drew before now documents error unmade.draws))
    | inr made ↦ made_moves before now target documents options call (Err error) made
  ]

  -- one that was made keeps what stands
  made_keeps : (result : Result InsertManyResult Error) → MadeMany before now target documents options call result → KeepsCall before now (namespace_of target) documents call
  made_keeps result made = of_told before.store.pool now.store.pool (server_run before.link) (server_run now.link) refl refl refl refl
    where
      of_told : (pool pool_now : Option Pool) (run run_now : Option ServerRun) → before.store.pool ≡ pool → now.store.pool ≡ pool_now → server_run before.link ≡ run → server_run now.link ≡ run_now
          → KeepsCallWhereTold (namespace_of target) documents pool pool_now run run_now call
      of_told (Some pool) (Some pool_now) (Some run) (Some run_now) pool_is pool_now_is run_is run_now_is = λ may.
          let advances = made_advances before now target documents options call result made pool pool_now run run_now pool_is pool_now_is run_is run_now_is may in record {
            between = advances.between;
            sound = advances.sound;
            which = λ send has. elim (advances.which send has) [
              | inl earlier ↦ inl earlier
              | inr own ↦ inr (λ at write stands. own_insert (namespace_of target) documents call write (own at write stands))
            ];
          }
      of_told None pool_now run run_now pool_is pool_now_is run_is run_now_is = tt
      of_told (Some pool) None run run_now pool_is pool_now_is run_is run_now_is = tt
      of_told (Some pool) (Some pool_now) None run_now pool_is pool_now_is run_is run_now_is = tt
      of_told (Some pool) (Some pool_now) (Some run) None pool_is pool_now_is run_is run_now_is = tt

  -- one that was not changed nothing that is told of pool and server
  unmade_keeps : DrewIds before now → KeepsCall before now (namespace_of target) documents call
  unmade_keeps drew =
      subst (λ p. KeepsCallWhereTold (namespace_of target) documents before.store.pool p (server_run before.link) (server_run now.link) call) (sym drew.pool)
      (subst (λ r. KeepsCallWhereTold (namespace_of target) documents before.store.pool before.store.pool (server_run before.link) r call) (sym (ap (λ moment. server_run moment.link) drew.rest))
      (of_told before.store.pool (server_run before.link)))
    where
      of_told : (pool : Option Pool) (run : Option ServerRun) → KeepsCallWhereTold (namespace_of target) documents pool pool run run call
      of_told None run = tt
      of_told (Some pool) None = tt
      of_told (Some pool) (Some run) = λ may. record { between = may.between; sound = may.sound; which = λ send has. inl has }

  -- so each keeps what stands
  pub many_keeps : (result : Result InsertManyResult Error) → MakesMany before now target documents options call result → KeepsCall before now (namespace_of target) documents call
  many_keeps (Ok output) made = made_keeps (Ok output) made
  many_keeps (Err error) makes = elim makes [
    | inl unmade ↦ unmade_keeps (unmade_drew before now documents error unmade.draws)
    | inr made ↦ made_keeps (Err error) made
  ]

  -- an Ok lists each document
  ok_lists_all : (output : InsertManyResult) → MadeMany before now target documents options call (Ok output) → ListsAll documents output.inserted_ids
  ok_lists_all output made = λ index document at.
      let own = at_both documents made.own index document (as_many before now target documents options call (Ok output) made) at in
      let has = batches_cover target options call (IsGiven documents) (RanShort {A = InsertManyResult} (Ok output)) (λ none. none) made.ends nothing_gathered 0 (sent before now target documents options call (Ok output) made)
      made.own made.owns.are_own (sent_each before now target documents options call (Ok output) made) made.mid now made.batches made.answers.0 made.answers.1.0 index own.0 own.1 in
      let on : index ≡ 0 + index = omega arith in
      (has.0, ap (λ (o : InsertManyResult). finite.get o.inserted_ids index) made.answers.1.1 ∙ ap (finite.get (gathered nothing_gathered made.ends).inserted_ids) on ∙ has.1)

  -- the ids of an error of documents are those that were gathered
  failures_gathered : (error : Error) (failures : InsertManyError) (ends : List BatchEnd) → kind_of error ≡ kind.InsertMany failures → AnswersMany ends (Err error)
      → failures.inserted_ids ≡ (gathered nothing_gathered ends).inserted_ids
  failures_gathered error failures ends is answers = ap (λ (f : InsertManyError). f.inserted_ids) (failures_answered error failures ends is answers)

  -- what the answer of a call that was made says stands in the log
  pub made_stands : (result : Result InsertManyResult Error) → MadeMany before now target documents options call result → (pool pool_now : Pool) (run run_now : ServerRun)
      → before.store.pool ≡ Some pool → now.store.pool ≡ Some pool_now → server_run before.link ≡ Some run → server_run now.link ≡ Some run_now → MayWriteCall pool pool_now run call
      → AnswerStands (namespace_of target) documents call run_now.server.log result
  made_stands (Ok output) made pool pool_now run run_now pool_is pool_now_is run_is run_now_is may =
      let lists = made_lists before now target documents options call (Ok output) made pool pool_now run run_now pool_is pool_now_is run_is run_now_is may in
      let ids_are : (gathered nothing_gathered made.ends).inserted_ids ≡ output.inserted_ids = ap (λ (o : InsertManyResult). o.inserted_ids) (sym made.answers.1.1) in (
        ok_lists_all output made,
        listed_given (namespace_of target) documents call run_now.server.log output.inserted_ids
            (subst (AllInLog (IsGiven documents) (namespace_of target) call run_now.server.log) ids_are lists),
      )
  made_stands (Err error) made pool pool_now run run_now pool_is pool_now_is run_is run_now_is may = λ failures is.
      let lists = made_lists before now target documents options call (Err error) made pool pool_now run run_now pool_is pool_now_is run_is run_now_is may in
      listed_given (namespace_of target) documents call run_now.server.log failures.inserted_ids
      (subst (AllInLog (IsGiven documents) (namespace_of target) call run_now.server.log) (sym (failures_gathered error failures made.ends is made.answers)) lists)

  -- so it does of each call
  stands_told : (result : Result InsertManyResult Error) → ((pool pool_now : Pool) (run run_now : ServerRun) → before.store.pool ≡ Some pool → now.store.pool ≡ Some pool_now → server_run before.link ≡ Some run
      → server_run now.link ≡ Some run_now → MayWriteCall pool pool_now run call → AnswerStands (namespace_of target) documents call run_now.server.log result)
      → ListedStand before now (namespace_of target) documents call result
  stands_told result stands = of_told before.store.pool now.store.pool (server_run before.link) (server_run now.link) refl refl refl refl
    where
      of_told : (pool pool_now : Option Pool) (run run_now : Option ServerRun) → before.store.pool ≡ pool → now.store.pool ≡ pool_now → server_run before.link ≡ run → server_run now.link ≡ run_now
          → AnswerStandsWhereTold (namespace_of target) documents call pool pool_now run run_now result
      of_told (Some pool) (Some pool_now) (Some run) (Some run_now) pool_is pool_now_is run_is run_now_is = λ may. stands pool pool_now run run_now pool_is pool_now_is run_is run_now_is may
      of_told None pool_now run run_now pool_is pool_now_is run_is run_now_is = tt
      of_told (Some pool) None run run_now pool_is pool_now_is run_is run_now_is = tt
      of_told (Some pool) (Some pool_now) None run_now pool_is pool_now_is run_is run_now_is = tt
      of_told (Some pool) (Some pool_now) (Some run) None pool_is pool_now_is run_is run_now_is = tt

  pub many_listed : (result : Result InsertManyResult Error) → MakesMany before now target documents options call result → ListedStand before now (namespace_of target) documents call result
  many_listed (Ok output) made = stands_told (Ok output) (made_stands (Ok output) made)
  many_listed (Err error) makes = elim makes [
    | inl unmade ↦ stands_told (Err error) (λ pool pool_now run run_now pool_is pool_now_is run_is run_now_is may failures is.
        absurd (input_other (namespace_of target) documents options error failures is unmade.why))
    | inr made ↦ stands_told (Err error) (made_stands (Err error) made)
  ]
