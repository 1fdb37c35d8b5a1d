-- The sends of an insert that was answered Ok are the runs of the fewest batches that the server's limits allow.
use Rattle.std.proofs.Common.{◌≡◌, ℕ, zero, suc, ◌+◌, ◌≤◌, false, List, [], ◌∷◌, ◌++◌, length, map, take, refl, sym, ap, subst, ◌∙◌, append_assoc, inl, inr, arith}
use Rattle.std.specs.Prelude.{false, Option, None, Some, Result, Ok, Err}
use Rattle.std.proofs.lemmas.List.{append-nil, length-take-le}
use Rattle.bson_lite.specs.declared.bson.Bson.{Bson}
use Rattle.bson_lite.specs.declared.document.Pair.{Pair}
use Rattle.bson_lite.specs.declared.namespace.Namespace.{Namespace}
use Rattle.driver_error.specs.declared.error.Error.{Error}
use Rattle.server_answers.specs.declared.results.InsertManyResult.{InsertManyResult}
use Rattle.driver_options.specs.declared.write_options.InsertManyOptions.{InsertManyOptions}
use Rattle.driver_batches.specs.Batches.{IsGreedyCut}
use Rattle.driver_batches.specs.Sizes.{Fits}
use Rattle.driver_batches.proofs.Greedy.{greedy_law}
use Rattle.driver_batches.proofs.Keeping.{sizes_keep}
use Rattle.driver_link.specs.declared.machine.Place.{Place}
use Rattle.driver_link.specs.declared.machine.Send.{Send}
use Rattle.driver_link.specs.declared.machine.Setup.{Setup}
use Rattle.driver_link.specs.LinkState.{server_run}
use Rattle.driver_link.specs.ServerRun.{ServerRun}
use Rattle.driver_ops.specs.declared.target.OperationTarget.{OperationTarget}
use Rattle.driver_ops.specs.Inserts.{insert_writes}
use Rattle.driver_ops.specs.Targets.{namespace_of}
use Rattle.write_ops.specs.declared.own_document.OwnDocument.{OwnDocument}
use Rattle.write_ops.specs.InsertFronts.{TakesFront, insert_limits, sizes_of}
use Rattle.write_ops.specs.InsertSpec.{AreOwn, statements_fixed}
use Rattle.driver_attempt.specs.Moment.{Moment}
use Rattle.many_actions.specs.Batches.{insert_plan, places_from}
use Rattle.many_actions.specs.FewestBatches.{AreSendsOf, GoesOut, IsFewestCut, IsFewestCutWhereTold, OkIsFewestCut, sent_sizes}
use Rattle.driver_actions.specs.CallParts.{KeepsMakingWhereTold}
use Rattle.many_actions.specs.ManyAnswers.{nothing_gathered}
use Rattle.many_actions.specs.ManyCalls.{MadeMany, MakesMany, RanShort}
use Rattle.many_actions.proofs.BatchSizes.{ids_each, rest_sizes, sizes_are, sizes_length, takes_longest}
use Rattle.many_actions.proofs.BatchPlaces.{places_length}
use Rattle.many_actions.proofs.BatchWrites.{IsOfCall, batch_writes, own_length}
use Rattle.many_actions.proofs.BatchesMade.{GoodDocuments, insert_planned}
use Rattle.driver_actions.proofs.CallMoves.{copies, sends_gain}
use Rattle.many_actions.proofs.GatheredEnds.{all_ok}
use Rattle.many_actions.proofs.ManyMade.{IsGiven, made_moves, sent, sent_each}
use Rattle.many_actions.proofs.PlannedCuts.{PlanCuts, RunsWent, batches_cut}

-- the places at the front of a call's are so many
pub places_front : (call index count all : ℕ) → count ≤ all → take count (places_from call index all) ≡ places_from call index count
places_front call index zero all within = refl
places_front call index (suc count) zero within = absurd (omega (arith, within))
places_front call index (suc count) (suc all) within = ap (λ rest. record { call = call; index = index } ∷ rest) (places_front call (index + 1) count all (omega (arith, within)))

-- the places of an insert's writes are those that it was given
insert_places : (namespace : Namespace) (documents : List (List (Pair Bson))) (places : List Place) → length documents ≡ length places → map (λ write. write.place) (insert_writes namespace documents places) ≡ places
insert_places namespace [] [] same = refl
insert_places namespace [] (place ∷ places) same = absurd (omega (arith, same))
insert_places namespace (document ∷ documents) [] same = absurd (omega (arith, same))
insert_places namespace (document ∷ documents) (place ∷ places) same = ap (λ rest. place ∷ rest) (insert_places namespace documents places (omega (arith, same)))

-- the places of a batch's writes are those of its documents
pub batch_places : (target : OperationTarget) (options : InsertManyOptions) (call index : ℕ) (documents : List (List (Pair Bson))) (own : List OwnDocument) (are : AreOwn documents own) (count : ℕ)
    → count ≤ length own → map (λ write. write.place) (batch_writes target options call index documents own are count) ≡ places_from call index count
batch_places target options call index documents own are count within =
    let documents_long : length (take count documents) ≡ count = length-take-le count documents (subst (λ n. count ≤ n) (sym (own_length documents own are)) within) in
    let places_long : length (take count (places_from call index (length own))) ≡ count
    = length-take-le count (places_from call index (length own)) (subst (λ n. count ≤ n) (sym (places_length call index (length own))) within) in
    insert_places (namespace_of target) (take count documents) (take count (places_from call index (length own))) (documents_long ∙ sym places_long)
    ∙ places_front call index count (length own) within

-- one send or two of the same
pub once_or_twice : (send : Send) (later : List Send) (earlier : ℕ) → earlier ≤ 1 → GoesOut send later (copies (suc earlier) send ++ later)
once_or_twice send later zero within = inl refl
once_or_twice send later (suc zero) within = inr refl
once_or_twice send later (suc (suc earlier)) within = absurd (omega (arith, within))

-- the sends of runs beside which there were no others
sent_runs : {S : Type 0} (call index : ℕ) (runs : List (List S)) (told now : ServerRun) → RunsWent false call index runs told now
    → (sends : List Send) × ((now.server.trace ≡ told.server.trace ++ sends) × AreSendsOf call index runs sends)
sent_runs call index [] told now went =
    let same : now ≡ told = went in
    ([], (ap (λ (r : ServerRun). r.server.trace) same ∙ sym (append-nil told.server.trace), refl))
sent_runs call index (run ∷ runs) told now went =
    let mid = went.0 in
    let send = went.1.0 in
    let earlier = went.1.1.0 in
    let rest = sent_runs call (index + length run) runs mid now went.1.1.1.1.1.1 in
    let copied = copies (suc earlier) send in (
      copied ++ rest.0,
      (
        rest.1.0 ∙ ap (λ (t : List Send). t ++ rest.0) (sends_gain told send (suc earlier) mid went.1.1.1.1.0) ∙ append_assoc told.server.trace copied rest.0,
        (send, (rest.0, (went.1.1.1.1.1.0, (once_or_twice send rest.0 earlier went.1.1.1.0, rest.1.1)))),
      ),
    )

-- the inserts of a call cut its documents by their sizes
insert_cuts : (target : OperationTarget) (options : InsertManyOptions) (call : ℕ) (G : ℕ → List (Pair Bson) → Type 0) (setup : Setup)
    → PlanCuts (insert_planned target options call G) setup sizes_of (Fits (insert_limits (namespace_of target) options setup.description))
insert_cuts target options call G setup = record {
  none = refl;
  rest = rest_sizes;
  long = sizes_length;
  longest = λ index own description statements described takes.
      takes_longest (insert_limits (namespace_of target) options setup.description) own statements
      (subst (λ d. TakesFront (insert_limits (namespace_of target) options d) own (statements_fixed own None) statements) described takes);
  places = λ index own good count within. batch_places target options call index good.documents own good.are count within;
  on = λ output. refl;
}

-- an insert that is answered Ok
module _ (before now : Moment) (target : OperationTarget) (documents : List (List (Pair Bson))) (options : InsertManyOptions) (call : ℕ) (output : InsertManyResult)
    (made : MadeMany before now target documents options call (Ok output)) where
  -- over a told server
  made_fewest : (run run_now : ServerRun) → server_run before.link ≡ Some run → server_run now.link ≡ Some run_now → IsFewestCut (namespace_of target) documents options call run run_now
  made_fewest run run_now run_is run_now_is =
      let mid_is : server_run made.mid.link ≡ Some run = ap (λ moment. server_run moment.link) made.rest ∙ run_is in
      let good : GoodDocuments (IsGiven documents) 0 made.own
      = record { documents = sent before now target documents options call (Ok output) made; are = made.owns.are_own; each = sent_each before now target documents options call (Ok output) made } in
      let cut = batches_cut false (insert_plan target options) call (GoodDocuments (IsGiven documents)) (IsOfCall (IsGiven documents) (namespace_of target) call)
      (insert_planned target options call (IsGiven documents)) run.setup sizes_of (Fits (insert_limits (namespace_of target) options run.setup.description))
      (insert_cuts target options call (IsGiven documents) run.setup) (RanShort {A = InsertManyResult} (Ok output)) (λ none. none) made.ends 0 made.own good
      made.mid now run run_now mid_is run_now_is refl made.batches (all_ok nothing_gathered made.ends made.answers.0 made.answers.1.0) in
      let went = sent_runs call 0 cut.runs run run_now cut.went in
      let sizes : sent_sizes made.owns.ids documents ≡ sizes_of made.own = sizes_are (sent before now target documents options call (Ok output) made) made.own made.owns.are_own in
      record {
        ids = made.owns.ids;
        twelve = made.owns.twelve;
        each = ids_each before.store made.mid.store documents made.owns.ids made.owns.draws;
        runs = cut.runs;
        fewest =
            greedy_law (Fits (insert_limits (namespace_of target) options run.setup.description)) (sizes_keep (insert_limits (namespace_of target) options run.setup.description)) (sent_sizes made.owns.ids documents) cut.runs
            (subst (λ s. IsGreedyCut (Fits (insert_limits (namespace_of target) options run.setup.description)) s cut.runs) (sym sizes) cut.greedy);
        sends = went.0;
        gained = went.1.0;
        are = went.1.1;
      }

  -- the same where the server is told, or not
  ok_fewest : IsFewestCutWhereTold (namespace_of target) documents options call (server_run before.link) (server_run now.link)
  ok_fewest = of_told (server_run before.link) (server_run now.link) refl refl
      (made_moves before now target documents options call (Ok output) made).making
    where
      of_told : (link link_now : Option ServerRun) → server_run before.link ≡ link → server_run now.link ≡ link_now → KeepsMakingWhereTold link link_now
          → IsFewestCutWhereTold (namespace_of target) documents options call link link_now
      of_told None link_now is now_is making = tt
      of_told (Some run) None is now_is making = absurd making
      of_told (Some run) (Some run_now) is now_is making = made_fewest run run_now is now_is

-- so each that is answered Ok was cut into the fewest batches
pub many_fewest : (before now : Moment) (target : OperationTarget) (documents : List (List (Pair Bson))) (options : InsertManyOptions) (call : ℕ) (result : Result InsertManyResult Error)
    → MakesMany before now target documents options call result → OkIsFewestCut before now (namespace_of target) documents options call result
many_fewest before now target documents options call (Ok output) made = ok_fewest before now target documents options call output made
many_fewest before now target documents options call (Err error) makes = tt
