-- The sends of writes of a bulk write that was answered Ok are the runs of the fewest batches that the server's limits allow.
use Rattle.std.proofs.Common.{◌≡◌, ℕ, zero, suc, ◌+◌, ◌≤◌, Bool, true, false, List, [], ◌∷◌, ◌++◌, drop, length, map, take, refl, sym, ap, subst, ◌∙◌, append_assoc, arith}
use Rattle.std.proofs.lemmas.List.{append-nil, length-take-le}
use Rattle.std.specs.Prelude.{⊤, Option, None, Some, Result, Ok, Err, if◌then◌else◌}
use Rattle.bson_lite.specs.declared.bson.ObjectId.{ObjectId}
use Rattle.driver_error.specs.declared.error.Error.{Error}
use Rattle.bulk_outcomes.specs.declared.status.ExecutionStatus.{ExecutionStatus}
use Rattle.bulk_outcomes.specs.declared.status.ExecutionStatus.TheVariants as status
use Rattle.bulk_outcomes.specs.BulkResults.{ResultSpec}
use Rattle.driver_error.specs.Error.{kind_of}
use Rattle.bulk_outcomes.specs.Status.{FailsWith, is_memory}
use Rattle.driver_options.specs.declared.models.WriteModel.{WriteModel}
use Rattle.driver_options.specs.declared.options.Description.{Description}
use Rattle.driver_options.specs.declared.write_options.BulkWriteOptions.{BulkWriteOptions}
use Rattle.driver_batches.specs.Batches.{IsGreedyCut}
use Rattle.driver_batches.specs.Fronts.{IsLongestFront}
use Rattle.driver_batches.proofs.Greedy.{greedy_law}
use Rattle.driver_link.specs.declared.machine.Place.{Place}
use Rattle.driver_link.specs.declared.machine.Send.{Send}
use Rattle.driver_link.specs.declared.machine.SendBody.{SendBody}
use Rattle.driver_link.specs.declared.machine.SendBody.TheVariants.{Kill, More, Write}
use Rattle.driver_link.specs.declared.machine.Setup.{Setup}
use Rattle.driver_link.specs.Cases.{body_writes}
use Rattle.driver_link.specs.Exchange.{next_step}
use Rattle.driver_link.specs.LinkState.{server_run}
use Rattle.driver_link.specs.ServerRun.{ServerRun, run_after}
use Rattle.driver_link.specs.Settled.{IsOfCursor}
use Rattle.driver_link.proofs.Replays.{exchanged_trace}
use Rattle.driver_session.specs.StoreTells.{StoreTells}
use Rattle.bulk_fronts.specs.declared.own_op.OwnOp.{OwnOp}
use Rattle.bulk_fronts.specs.declared.own_op.SizedOp.{SizedOp}
use Rattle.bulk_fronts.specs.BulkFronts.{FitsOps, TakesBulk, bulk_limits, sized_ops}
use Rattle.bulk_fronts.specs.BulkOps.{AreOps, model_writes}
use Rattle.bulk_ops.specs.BulkSpec.{is_verbose}
use Rattle.bulk_fronts.proofs.BulkFronts.{length_sized}
use Rattle.bulk_ops.proofs.DistinctSums.{ops_keep_fit}
use Rattle.driver_attempt.specs.Moment.{Moment}
use Rattle.driver_exec.specs.Resending.{PassesAside, SendsWhereTold}
use Rattle.driver_inputs.specs.BulkInputs.{with_model_ids}
use Rattle.many_actions.specs.BatchPlans.{AllDone, PlannedEnd, places_from}
use Rattle.driver_actions.specs.CallParts.{KeepsMakingWhereTold}
use Rattle.many_actions.specs.FewestBatches.{AreSendsOf, GoesOut, places_of}
use Rattle.many_actions.proofs.BatchPlaces.{places_length}
use Rattle.driver_actions.proofs.CallMoves.{copies}
use Rattle.many_actions.proofs.FewestCuts.{once_or_twice, places_front}
use Rattle.many_actions.proofs.PlannedCuts.{PlanCuts, RunsWent, batches_cut}
use Rattle.bulk_actions.specs.BulkBatches.{ComesTo, StandsBehind, Takes, bulk_plan}
use Rattle.bulk_actions.specs.BulkCalls.{AnswersStanding, EndsShort, MadeBulk, MakesBulk}
use Rattle.bulk_actions.specs.BulkIds.{DrawsModelIds}
use Rattle.bulk_actions.specs.FewestBulk.{IsFewestBulkCut, IsFewestBulkWhereTold, OkIsFewestBulk, is_of_writes, own_sends, sent_models, sized_model}
use Rattle.bulk_actions.proofs.BulkKept.{IsGivenModel, good, made_moves}
use Rattle.bulk_actions.proofs.BulkPlanned.{GoodModels, IsOfModel, bulk_planned}

-- ---- the sends of writes among others
keep_append : (b : Bool) (send : Send) (xs ys : List Send) → (if b then send ∷ (xs ++ ys) else (xs ++ ys)) ≡ (if b then send ∷ xs else xs) ++ ys
keep_append true send xs ys = refl
keep_append false send xs ys = refl

own_append : (xs ys : List Send) → own_sends (xs ++ ys) ≡ own_sends xs ++ own_sends ys
own_append [] ys = refl
own_append (send ∷ xs) ys =
    ap (λ (rest : List Send). if is_of_writes send.body then send ∷ rest else rest) (own_append xs ys) ∙ keep_append (is_of_writes send.body) send (own_sends xs) (own_sends ys)

-- a send of writes is one, and any other is none
own_one : (send : Send) (rest : List Send) → is_of_writes send.body ≡ true → own_sends (send ∷ rest) ≡ send ∷ own_sends rest
own_one send rest is = ap (λ (b : Bool). if b then send ∷ own_sends rest else own_sends rest) is

own_none : (send : Send) (rest : List Send) → is_of_writes send.body ≡ false → own_sends (send ∷ rest) ≡ own_sends rest
own_none send rest is = ap (λ (b : Bool). if b then send ∷ own_sends rest else own_sends rest) is

of_cursor : (body : SendBody) → IsOfCursor body → is_of_writes body ≡ false
of_cursor (More cursor) is = refl
of_cursor (Kill cursor) is = refl
of_cursor _ is = absurd is

-- a told trace gained sends, of which these are of writes
record Gained (told now : ServerRun) (own : List Send) : Type 0 where
  sends : List Send
  trace : now.server.trace ≡ told.server.trace ++ sends
  own_are : own_sends sends ≡ own

-- one exchange
after_one : (mid : ServerRun) (send : Send) → (run_after mid send).server.trace ≡ mid.server.trace ++ send ∷ []
after_one mid send = exchanged_trace mid.server send (next_step mid.schedule mid.server)

-- commands of cursors are none of them
aside_gain : (told now : ServerRun) (sends : List Send) → PassesAside told now sends → (now.server.trace ≡ told.server.trace ++ sends) × (own_sends sends ≡ [])
aside_gain told now [] keeps = (ap (λ s. s.trace) keeps.server ∙ sym (append-nil told.server.trace), refl)
aside_gain told now (send ∷ sends) passes =
    let mid = passes.0 in
    let rest = aside_gain (run_after mid send) now sends passes.1.2 in (
      rest.0
          ∙ ap (λ (t : List Send). t ++ sends) (after_one mid send ∙ ap (λ s. s.trace ++ send ∷ []) passes.1.0.server)
          ∙ append_assoc told.server.trace (send ∷ []) sends,
      own_none send sends (of_cursor send.body passes.1.1.cursor) ∙ rest.1,
    )

-- the same send so many times, with commands of cursors beside it
sends_gained : (told : ServerRun) (send : Send) (count : ℕ) (now : ServerRun) → is_of_writes send.body ≡ true → SendsWhereTold true told now send count → Gained told now (copies count send)
sends_gained told send zero now writes leaves =
    let gain = aside_gain told now leaves.sends leaves.passes in
    record { sends = leaves.sends; trace = gain.0; own_are = gain.1 }
sends_gained told send (suc count) now writes sent =
    let mid = sent.0 in
    let earlier = sends_gained told send count mid writes sent.1.0 in
    let behind = aside_gain (run_after mid send) now sent.1.1.sends sent.1.1.passes in
    let later = sent.1.1.sends in
    record {
      sends = earlier.sends ++ send ∷ later;
      trace =
          behind.0
          ∙ ap (λ (t : List Send). t ++ later) (after_one mid send ∙ ap (λ (t : List Send). t ++ send ∷ []) earlier.trace)
          ∙ append_assoc (told.server.trace ++ earlier.sends) (send ∷ []) later
          ∙ append_assoc told.server.trace earlier.sends (send ∷ later);
      own_are =
          own_append earlier.sends (send ∷ later)
          ∙ ap (λ (t : List Send). t ++ own_sends (send ∷ later)) earlier.own_are
          ∙ ap (λ (t : List Send). copies count send ++ t) (own_one send later writes ∙ ap (λ (t : List Send). send ∷ t) behind.1);
    }

-- a send with a place is of writes
placed_writes : (call index count : ℕ) (body : SendBody) → map (λ write. write.place) (body_writes body) ≡ places_from call index (suc count) → is_of_writes body ≡ true
placed_writes call index count (Write command ordered writes) is = refl
placed_writes call index count _ is = absurd (let long : 0 ≡ suc count = ap length is ∙ places_length call index (suc count) in omega (arith, long))

run_writes : {S : Type 0} (call index : ℕ) (run : List S) (send : Send) → (run ≡ [] → ⊥) → places_of send ≡ places_from call index (length run) → is_of_writes send.body ≡ true
run_writes call index [] send some is = absurd (some refl)
run_writes call index (one ∷ run) send some is = placed_writes call index (length run) send.body is

-- the sends of runs, of which none is empty
record RunsSent {S : Type 0} (call index : ℕ) (runs : List (List S)) (told now : ServerRun) : Type 0 where
  sends : List Send
  trace : now.server.trace ≡ told.server.trace ++ sends
  are : AreSendsOf call index runs (own_sends sends)

runs_sent : {S : Type 0} (Keeps : List S → Type 0) (call index : ℕ) (list : List S) (runs : List (List S)) (told now : ServerRun) → IsGreedyCut Keeps list runs → RunsWent true call index runs told now
    → RunsSent call index runs told now
runs_sent Keeps call index list [] told now cut went =
    let same : now ≡ told = went in
    record { sends = []; trace = ap (λ (r : ServerRun). r.server.trace) same ∙ sym (append-nil told.server.trace); are = refl }
runs_sent Keeps call index list (run ∷ runs) told now cut went =
    let mid = went.0 in
    let send = went.1.0 in
    let earlier = went.1.1.0 in
    let placed = went.1.1.1.1.1.0 in
    let here = sends_gained told send (suc earlier) mid (run_writes call index run send cut.1.some placed) went.1.1.1.1.0 in
    let rest = runs_sent Keeps call (index + length run) cut.0 runs mid now cut.2 went.1.1.1.1.1.1 in
    let own_is : own_sends (here.sends ++ rest.sends) ≡ copies (suc earlier) send ++ own_sends rest.sends
    = own_append here.sends rest.sends ∙ ap (λ (t : List Send). t ++ own_sends rest.sends) here.own_are in
    record {
      sends = here.sends ++ rest.sends;
      trace = rest.trace ∙ ap (λ (t : List Send). t ++ rest.sends) here.trace ∙ append_assoc told.server.trace here.sends rest.sends;
      are = (
        send,
        (
          own_sends rest.sends,
          (placed, (subst (GoesOut send (own_sends rest.sends)) (sym own_is) (once_or_twice send (own_sends rest.sends) earlier went.1.1.1.0), rest.are)),
        ),
      );
    }

-- ---- the cut of ops
-- ops of models count for what the models do
pub sizes_are : (models : List WriteModel) (own : List OwnOp) → AreOps models own → map sized_model models ≡ sized_ops own
sizes_are [] [] are = refl
sizes_are [] (op ∷ own) are = absurd are
sizes_are (model ∷ models) [] are = absurd are
sizes_are (model ∷ models) (op ∷ own) are = λ i. record { namespace = sym are.0.namespace i; size = length (sym are.0.spelled.is i) } ∷ sizes_are models own are.1 i

-- those that are left
pub sizes_left : (count : ℕ) (own : List OwnOp) → sized_ops (drop count own) ≡ drop count (sized_ops own)
sizes_left zero own = refl
sizes_left (suc count) [] = refl
sizes_left (suc count) (op ∷ own) = sizes_left count own

-- there are as many models as ops
pub as_many : (models : List WriteModel) (own : List OwnOp) → AreOps models own → length models ≡ length own
as_many [] [] are = refl
as_many [] (op ∷ own) are = absurd are
as_many (model ∷ models) [] are = absurd are
as_many (model ∷ models) (op ∷ own) are = ap suc (as_many models own are.1)

-- the places of models' writes are those that they were given
model_places : (models : List WriteModel) (places : List Place) → length models ≡ length places → map (λ write. write.place) (model_writes models places) ≡ places
model_places [] [] same = refl
model_places [] (place ∷ places) same = absurd (omega (arith, same))
model_places (model ∷ models) [] same = absurd (omega (arith, same))
model_places (model ∷ models) (place ∷ places) same = ap (λ rest. place ∷ rest) (model_places models places (omega (arith, same)))

module _ {R : Type 0} (tells : ResultSpec R) (options : BulkWriteOptions) (call : ℕ) (G : ℕ → WriteModel → Type 0) (setup : Setup) where
  -- the limits of the setup's connections
  abbrev Within : List SizedOp → Type 0
  Within = FitsOps (bulk_limits options (is_verbose tells) setup.description)

  cut_places : (index : ℕ) (own : List OwnOp) (good : GoodModels G index own) (count : ℕ) → count ≤ length own
      → map (λ write. write.place) (model_writes (take count good.models) (take count (places_from call index (length own)))) ≡ places_from call index count
  cut_places index own good count within =
      let models_long : length (take count good.models) ≡ count = length-take-le count good.models (subst (λ n. count ≤ n) (sym (as_many good.models own good.are)) within) in
      let places_long : length (take count (places_from call index (length own))) ≡ count
      = length-take-le count (places_from call index (length own)) (subst (λ n. count ≤ n) (sym (places_length call index (length own))) within) in
      model_places (take count good.models) (take count (places_from call index (length own))) (models_long ∙ sym places_long) ∙ places_front call index count (length own) within

  cut_longest : (own : List OwnOp) (description : Description) (statements : ℕ) → description ≡ setup.description → TakesBulk options (is_verbose tells) own None description statements
      → IsLongestFront Within (sized_ops own) statements
  cut_longest own description statements described takes =
      subst (λ d. IsLongestFront (FitsOps (bulk_limits options (is_verbose tells) d)) (sized_ops own) statements) described takes.front.0

  -- the bulk writes of a call cut its ops by their sizes
  bulk_cuts : PlanCuts (bulk_planned tells options call G) setup sized_ops Within
  bulk_cuts = record {
    none = refl;
    rest = sizes_left;
    long = length_sized;
    longest = λ index own description statements described takes. cut_longest own description statements described takes;
    places = λ index own good count within. cut_places index own good count within;
    on = λ output. refl;
  }

-- ---- where a call is answered Ok each batch was
-- an error stands
abbrev IsFailed : {R : Type 0} → ExecutionStatus R → Type 0
IsFailed (status.Error error) = ⊤
IsFailed _ = ⊥

abbrev OkIsFailed : {R : Type 0} → Result (ExecutionStatus R) Error → Type 0
OkIsFailed (Ok now) = IsFailed now
OkIsFailed (Err refused) = ⊤

module _ {R : Type 0} (tells : ResultSpec R) where
  -- behind a failure one does
  fails_after : (before : ExecutionStatus R) (memory : Bool) (error : Error) (now : ExecutionStatus R) → FailsWith tells before memory error (Ok now) → IsFailed now
  fails_after before true error now is = subst (λ (r : Result (ExecutionStatus R) Error). OkIsFailed r) (sym is) tt
  fails_after status.None false error now is = subst (λ (r : Result (ExecutionStatus R) Error). OkIsFailed r) (sym is) tt
  fails_after (status.Success before) false error (status.Error now) fails = tt
  fails_after (status.Success before) false error (status.Success now) never = absurd never
  fails_after (status.Success before) false error status.None never = absurd never
  fails_after (status.Error standing) false error (status.Error now) fails = tt
  fails_after (status.Error standing) false error (status.Success now) never = absurd never
  fails_after (status.Error standing) false error status.None never = absurd never

  -- and it stays
  stays_failed : (standing : Error) (came : Result R Error) (now : ExecutionStatus R) → Takes tells (status.Error standing) came (Ok now) → IsFailed now
  stays_failed standing (Ok found) (status.Error now) takes = tt
  stays_failed standing (Ok found) (status.Success now) never = absurd never
  stays_failed standing (Ok found) status.None never = absurd never
  stays_failed standing (Err error) now takes = fails_after (status.Error standing) (is_memory (kind_of error)) error now takes

  -- so nothing else stands in the end
  step_never : (standing : Error) (came : Result R Error) (output : R) (ends : List (PlannedEnd R)) (Rest : ExecutionStatus R → Type 0) → ((now : ExecutionStatus R) → IsFailed now → Rest now → ⊥)
      → (now : Result (ExecutionStatus R) Error) → Takes tells (status.Error standing) came now → StandsBehind Rest ends now (Ok (status.Success output)) → ⊥
  step_never standing came output ends Rest never (Ok now) takes behind = never now (stays_failed standing came now takes) behind
  step_never standing came output ends Rest never (Err error) takes behind = let e : ◌≡◌ {A = Result (ExecutionStatus R) Error} (Ok (status.Success output)) (Err error) = behind.1 in cc

  never_ok : (ends : List (PlannedEnd R)) (before : ExecutionStatus R) (output : R) → IsFailed before → ComesTo tells before ends (Ok (status.Success output)) → ⊥
  never_ok ends (status.Success found) output failed comes = failed
  never_ok ends status.None output failed comes = failed
  never_ok [] (status.Error standing) output failed comes = let e : ◌≡◌ {A = Result (ExecutionStatus R) Error} (Ok (status.Success output)) (Ok (status.Error standing)) = comes in cc
  never_ok (end ∷ ends) (status.Error standing) output failed comes =
      step_never standing end.result output ends (λ after. ComesTo tells after ends (Ok (status.Success output))) (λ now fails on. never_ok ends now output fails on) comes.0 comes.1.0 comes.1.1

  -- a batch behind which no failure stands was Ok
  was_ok : (before : ExecutionStatus R) (came : Result R Error) (now : ExecutionStatus R) → Takes tells before came (Ok now) → (IsFailed now → ⊥) → (found : R) × (came ≡ Ok found)
  was_ok before (Ok found) now takes sound = (found, refl)
  was_ok before (Err error) now takes sound = absurd (sound (fails_after before (is_memory (kind_of error)) error now takes))

  step_done : (before : ExecutionStatus R) (end : PlannedEnd R) (ends : List (PlannedEnd R)) (output : R) (Rest : ExecutionStatus R → Type 0) → ((now : ExecutionStatus R) → IsFailed now → Rest now → ⊥)
      → ((now : ExecutionStatus R) → Rest now → AllDone ends) → (now : Result (ExecutionStatus R) Error) → Takes tells before end.result now → StandsBehind Rest ends now (Ok (status.Success output)) → AllDone (end ∷ ends)
  step_done before end ends output Rest never rest (Ok now) takes behind = (was_ok before end.result now takes (λ failed. never now failed behind), rest now behind)
  step_done before end ends output Rest never rest (Err error) takes behind = absurd (let e : ◌≡◌ {A = Result (ExecutionStatus R) Error} (Ok (status.Success output)) (Err error) = behind.1 in cc)

  all_done : (ends : List (PlannedEnd R)) (before : ExecutionStatus R) (output : R) → ComesTo tells before ends (Ok (status.Success output)) → AllDone ends
  all_done [] before output comes = tt
  all_done (end ∷ ends) before output comes =
      step_done before end ends output (λ after. ComesTo tells after ends (Ok (status.Success output))) (λ now fails on. never_ok ends now output fails on) (λ now on. all_done ends now output on) comes.0 comes.1.0 comes.1.1

  -- so it is behind an answer that is Ok
  pub ok_done : (ends : List (PlannedEnd R)) (standing : Result (ExecutionStatus R) Error) (output : R) → ComesTo tells status.None ends standing → AnswersStanding standing (Ok output) → AllDone ends
  ok_done ends (Ok (status.Success found)) output comes answers = all_done ends status.None found comes
  ok_done ends (Ok (status.Error error)) output comes answers = absurd (let e : ◌≡◌ {A = Result R Error} (Ok output) (Err error) = answers in cc)
  ok_done ends (Ok status.None) output comes answers = absurd answers
  ok_done ends (Err refused) output comes answers = absurd (let e : ◌≡◌ {A = Result R Error} (Ok output) (Err refused) = answers in cc)

-- there is an id for each model
pub ids_each : (store now : StoreTells) (models : List WriteModel) (ids : List ObjectId) → DrawsModelIds store now models ids → length ids ≡ length models
ids_each store now [] [] draws = refl
ids_each store now [] (id ∷ ids) draws = absurd draws
ids_each store now (model ∷ models) [] draws = absurd draws
ids_each store now (model ∷ models) (id ∷ ids) draws = ap suc (ids_each draws.0 now models ids draws.1.1)

-- ---- a bulk write that is answered Ok
module _ {R : Type 0} (tells : ResultSpec R) (before now : Moment) (models : List WriteModel) (options : BulkWriteOptions) (call : ℕ) (output : R) (made : MadeBulk tells before now models options call (Ok output)) where
  -- over a told server
  made_fewest : (run run_now : ServerRun) → server_run before.link ≡ Some run → server_run now.link ≡ Some run_now → IsFewestBulkCut models options (is_verbose tells) call run run_now
  made_fewest run run_now run_is run_now_is =
      let mid_is : server_run made.mid.link ≡ Some run = ap (λ moment. server_run moment.link) made.rest ∙ run_is in
      let fits : List SizedOp → Type 0 = FitsOps (bulk_limits options (is_verbose tells) run.setup.description) in
      let cut = batches_cut true (bulk_plan tells options) call (GoodModels (IsGivenModel models)) (IsOfModel (IsGivenModel models) call) (bulk_planned tells options call (IsGivenModel models)) run.setup sized_ops
      (FitsOps (bulk_limits options (is_verbose tells) run.setup.description)) (bulk_cuts tells options call (IsGivenModel models) run.setup) (EndsShort tells made.ends (Ok output)) (λ never. never) made.ends 0 made.own
      (good tells before now models options call (Ok output) made) made.mid now run run_now mid_is run_now_is refl made.batches (ok_done tells made.ends made.answers.standing output made.answers.comes made.answers.answers) in
      let went = runs_sent (FitsOps (bulk_limits options (is_verbose tells) run.setup.description)) call 0 (sized_ops made.own) cut.runs run run_now cut.greedy cut.went in
      let sizes : sent_models made.owns.ids models ≡ sized_ops made.own = sizes_are (with_model_ids made.owns.ids models) made.own made.owns.are_ops in
      record {
        ids = made.owns.ids;
        twelve = made.owns.twelve;
        each = ids_each before.store made.mid.store models made.owns.ids made.owns.draws;
        runs = cut.runs;
        fewest =
            greedy_law (FitsOps (bulk_limits options (is_verbose tells) run.setup.description)) (ops_keep_fit (bulk_limits options (is_verbose tells) run.setup.description)) (sent_models made.owns.ids models) cut.runs
            (subst (λ s. IsGreedyCut (FitsOps (bulk_limits options (is_verbose tells) run.setup.description)) s cut.runs) (sym sizes) cut.greedy);
        sends = went.sends;
        gained = went.trace;
        are = went.are;
      }

  -- the same where the server is told, or not
  ok_fewest : IsFewestBulkWhereTold models options (is_verbose tells) call (server_run before.link) (server_run now.link)
  ok_fewest = of_told (server_run before.link) (server_run now.link) refl refl (made_moves tells before now models options call (Ok output) made).making
    where
      of_told : (link link_now : Option ServerRun) → server_run before.link ≡ link → server_run now.link ≡ link_now → KeepsMakingWhereTold link link_now
          → IsFewestBulkWhereTold models options (is_verbose tells) call link link_now
      of_told None link_now is now_is making = tt
      of_told (Some run) None is now_is making = absurd making
      of_told (Some run) (Some run_now) is now_is making = made_fewest run run_now is now_is

-- so each that is answered Ok was cut into the fewest batches
pub bulk_fewest : {R : Type 0} (tells : ResultSpec R) (before now : Moment) (models : List WriteModel) (options : BulkWriteOptions) (call : ℕ) (result : Result R Error)
    → MakesBulk tells before now models options call result → OkIsFewestBulk before now models options (is_verbose tells) call result
bulk_fewest tells before now models options call (Ok output) made = ok_fewest tells before now models options call output made
bulk_fewest tells before now models options call (Err error) makes = tt
