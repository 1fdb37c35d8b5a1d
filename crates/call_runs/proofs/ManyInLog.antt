-- What an Ok of an insert of many documents says of the log: its writes are the caller's own, each is done, and the log spells its
-- answer.
use Rattle.std.proofs.Common.{◌≡◌, ℕ, zero, suc, ◌+◌, Bool, true, false, List, [], ◌∷◌, refl, sym, ap, subst, ◌∙◌, arith}
use Rattle.std.specs.Prelude.{Option, None, Some, IsSome, slice_get}
use Rattle.std.specs.FinMap as finite
use Rattle.std.specs.Cmp.{nat_cmp_total}
use Rattle.std.specs.Option.{option_and_then, option_map}
use Rattle.std.specs.Ordering.{nat_cmp}
use Rattle.bson_lite.specs.declared.bson.Bson.{Bson}
use Rattle.bson_lite.specs.declared.document.Pair.{Pair}
use Rattle.bson_lite.specs.declared.namespace.Namespace.{Namespace}
use Rattle.server_answers.specs.declared.results.InsertManyResult.{InsertManyResult}
use Rattle.driver_options.specs.declared.write_options.InsertManyOptions.{InsertManyOptions}
use Rattle.driver_link.specs.declared.machine.Entry.{Entry}
use Rattle.driver_link.specs.declared.machine.PlacedWrite.{PlacedWrite}
use Rattle.driver_link.specs.Once.{Once}
use Rattle.driver_link.proofs.Lists.{none_is_some}
use Rattle.write_ops.specs.InsertSpec.{id_beside}
use Rattle.many_actions.specs.ManyEntries.{HasListed, ListsAll}
use Rattle.many_actions.proofs.BatchWrites.{IsOfCall, place_in}
use Rattle.many_actions.proofs.ListedIds.{Ids, get_here, get_other}
use Rattle.many_actions.proofs.ManyMade.{IsGiven}
use Rattle.call_runs.proofs.LogEntries.{entry_found, stands_has}
use Rattle.driver_inputs.specs.declared.call.Answer.TheVariants as answer
use Rattle.driver_inputs.specs.declared.call.Call.{Call}
use Rattle.driver_inputs.specs.declared.call.Call.TheVariants.{InsertMany}
use Rattle.driver_inputs.specs.Calls.{Done, HasPlace, IsOwn, OwnAt, call_result, entry_at, entry_id, given_insert, ids_in_log, put_id, result_of, write_at, write_in}

-- what is found beside an id at another index
beside_other : (at : ℕ) (put : Option Bson) (ids : Ids) (q : ℕ) → (q ≡ at → ⊥) → finite.get (id_beside at put ids) q ≡ finite.get ids q
beside_other at None ids q differs = refl
beside_other at (Some id) ids q differs = get_other ids at q id differs

-- the ids at the indexes of documents, the first at an index, from others
abbrev picked : Ids → ℕ → List (List (Pair Bson)) → Ids
picked ids index [] = finite.empty
picked ids index (document ∷ documents) = id_beside index (finite.get ids index) (picked ids (index + 1) documents)

-- an id is among these, where the documents have it
picked_there : (ids : Ids) (index : ℕ) (documents : List (List (Pair Bson))) (position : ℕ) (document : List (Pair Bson)) (id : Bson) → slice_get documents position ≡ Some document
    → finite.get ids (index + position) ≡ Some id → finite.get (picked ids index documents) (index + position) ≡ Some id
picked_there ids index [] position document id at has = absurd (none_is_some document at)
picked_there ids index (other ∷ documents) zero document id at has =
    let on : index + 0 ≡ index = omega arith in
    let here : finite.get ids index ≡ Some id = ap (finite.get ids) (sym on) ∙ has in
    let rest = picked ids (index + 1) documents in
    ap (λ put. finite.get (id_beside index put rest) (index + 0)) here ∙ ap (finite.get (finite.insert rest index id)) on ∙ get_here rest index id
picked_there ids index (other ∷ documents) (suc position) document id at has =
    let on : index + suc position ≡ index + 1 + position = omega arith in
    let later : index + suc position ≡ index → ⊥ = λ same. omega (arith, same) in
    beside_other index (finite.get ids index) (picked ids (index + 1) documents) (index + suc position) later
    ∙ ap (finite.get (picked ids (index + 1) documents)) on
    ∙ picked_there ids (index + 1) documents position document id at (ap (finite.get ids) (sym on) ∙ has)

-- and no other is
picked_none : (ids : Ids) (index : ℕ) (documents : List (List (Pair Bson))) (q : ℕ) → ((position : ℕ) (document : List (Pair Bson)) → slice_get documents position ≡ Some document → q ≡ index + position → ⊥)
    → finite.get (picked ids index documents) q ≡ None
picked_none ids index [] q none = finite.get-empty nat_cmp q
picked_none ids index (document ∷ documents) q none =
    let here : q ≡ index → ⊥ = λ same. none 0 document refl (let on : index ≡ index + 0 = omega arith in same ∙ on) in
    beside_other index (finite.get ids index) (picked ids (index + 1) documents) q here
    ∙ picked_none ids (index + 1) documents q
    (λ position found at same. none (suc position) found at (let on : index + 1 + position ≡ index + suc position = omega arith in same ∙ on))

-- an insert of many documents in a list of calls
module _ (calls : List Call) (call : ℕ) (namespace : Namespace) (documents : List (List (Pair Bson))) (options : InsertManyOptions) (at : slice_get calls call ≡ Some (InsertMany namespace documents options)) where
  -- its write at an index
  write_many_is : (index : ℕ) → write_at calls (place_in call index) ≡ option_map (given_insert namespace) (slice_get documents index)
  unfolding write_at
  write_many_is index = ap (λ made. option_and_then (λ m. write_in m index) made) at

  -- a write of it is the caller's own
  pub many_own : (write : PlacedWrite) → IsOfCall (IsGiven documents) namespace call write → OwnAt (write_at calls write.place) write.written
  many_own write own =
      let place_is : write.place ≡ place_in call write.place.index = ap (λ c. place_in c write.place.index) own.of_call in
      subst (λ p. OwnAt (write_at calls p) write.written) (sym place_is)
      (subst (λ given. OwnAt given write.written) (sym (write_many_is write.place.index))
      (subst (λ found. OwnAt (option_map (given_insert namespace) found) write.written) (sym own.given.stands)
      (subst (IsOwn (given_insert namespace own.given.given)) (sym own.is) (record { kind = refl; namespace = refl; document = own.given.gets }))))

  -- its answer, which a log tells
  module _ (log : List Entry) (output : InsertManyResult) (all : ListsAll documents output.inserted_ids) (listed : HasListed namespace documents call log output.inserted_ids) where
    -- each of its writes is done
    by_found : (index : ℕ) (found : Option (List (Pair Bson))) → slice_get documents index ≡ found → IsSome (option_map (given_insert namespace) found) → HasPlace (place_in call index) log
    by_found index None is there = absurd (let e : ◌≡◌ {A = Bool} false true = there in cc)
    by_found index (Some document) is there =
        let id = all index document is in
        let has = listed index id.0 id.1 in
        stands_has (place_in call index) log has.entry has.has has.placed

    pub many_done : Done calls call log
    many_done = λ index there. by_found index (slice_get documents index) refl (subst (λ w. IsSome w) (write_many_is index) there)

    -- what the log tells of the document at an index
    record ToldAt (index : ℕ) : Type 0 where
      id : Bson
      found : finite.get output.inserted_ids index ≡ Some id
      told : option_and_then entry_id (entry_at (place_in call index) log) ≡ Some id

    told_at : Once log → (index : ℕ) (document : List (Pair Bson)) → slice_get documents index ≡ Some document → ToldAt index
    told_at once index document is =
        let id = all index document is in
        let has = listed index id.0 id.1 in
        record {
          id = id.0;
          found = id.1;
          told = ap (option_and_then entry_id) (entry_found (place_in call index) log has.entry once has.has has.placed) ∙ has.id_is;
        }

    -- so it tells the ids at the indexes of the documents
    ids_spelled : (index : ℕ) (rest : List (List (Pair Bson))) → ((position : ℕ) (document : List (Pair Bson)) → slice_get rest position ≡ Some document → ToldAt (index + position))
        → ids_in_log call index rest log ≡ Some (picked output.inserted_ids index rest)
    ids_spelled index [] tells = refl
    ids_spelled index (document ∷ rest) tells =
        let on : index + 0 ≡ index = omega arith in
        let here : ToldAt index = subst (λ n. ToldAt n) on (tells 0 document refl) in
        let later = ids_spelled (index + 1) rest
        (λ position found is. subst (λ n. ToldAt n) (let next : index + suc position ≡ index + 1 + position = omega arith in next) (tells (suc position) found is)) in
        ap (λ i. put_id index i (ids_in_log call (index + 1) rest log)) here.told ∙ ap (put_id index (Some here.id)) later
        ∙ ap (λ i. Some (id_beside index i (picked output.inserted_ids (index + 1) rest))) (sym here.found)

    -- which are those of the answer
    same_at : (q : ℕ) (found : Option (List (Pair Bson))) → slice_get documents q ≡ found → finite.get (picked output.inserted_ids 0 documents) q ≡ finite.get output.inserted_ids q
    same_at q (Some document) is =
        let id = all q document is in
        let on : q ≡ 0 + q = omega arith in
        ap (finite.get (picked output.inserted_ids 0 documents)) on
        ∙ picked_there output.inserted_ids 0 documents q document id.0 is (ap (finite.get output.inserted_ids) (sym on) ∙ id.1) ∙ sym id.1
    same_at q None is = picked_none output.inserted_ids 0 documents q none_at ∙ sym (not_listed (finite.get output.inserted_ids q) refl)
      where
        none_at : (position : ℕ) (document : List (Pair Bson)) → slice_get documents position ≡ Some document → q ≡ 0 + position → ⊥
        none_at position document there same =
            let on : position ≡ q = omega (arith, same) in none_is_some document (sym is ∙ ap (slice_get documents) (sym on) ∙ there)

        not_listed : (id : Option Bson) → finite.get output.inserted_ids q ≡ id → finite.get output.inserted_ids q ≡ None
        not_listed None found = found
        not_listed (Some id) found = let has = listed q id found in absurd (none_is_some has.document (sym is ∙ has.given))

    picked_are : picked output.inserted_ids 0 documents ≡ output.inserted_ids
    picked_are = finite.same_map nat_cmp_total finite.nat_cmp-IsAntisymmetric _ _ (λ q. same_at q (slice_get documents q) refl)

    -- so the log spells the answer
    pub many_result : Once log → call_result calls call log ≡ Some (answer.Many output)
    unfolding call_result
    many_result once =
        let tells = ids_spelled 0 documents (λ position document is. subst (λ n. ToldAt n) (let on : position ≡ 0 + position = omega arith in on) (told_at once position document is)) in
        ap (λ made. option_and_then (λ m. result_of m call log) made) at
        ∙ ap (option_map (λ (ids : Ids). answer.Many (record { inserted_ids = ids }))) (tells ∙ ap (λ ids. Some ids) picked_are)
