-- The failures that the batches of an insert tell are those that replies of the server spell.
use Rattle.std.proofs.Common.{◌≡◌, ℕ, zero, suc, ◌+◌, ◌<◌, ◌≤◌, false, refl, List, [], ◌∷◌, ◌++◌, drop, length, length-append, sym, ap, subst, ◌∙◌, inl, inr, append_assoc, arith}
use Rattle.std.specs.Prelude.{Some, Err}
use Rattle.std.specs.Option.{option_map}
use Rattle.bson_lite.specs.declared.bson.Bson.{Bson}
use Rattle.bson_lite.specs.declared.document.Pair.{Pair}
use Rattle.driver_error.specs.declared.error.Error.{Error}
use Rattle.driver_error.specs.declared.kind.ErrorKind.TheVariants as kind
use Rattle.driver_error.specs.declared.write.InsertManyError.{InsertManyError}
use Rattle.driver_error.specs.Error.{kind_of}
use Rattle.driver_options.specs.declared.write_options.InsertManyOptions.{InsertManyOptions}
use Rattle.driver_link.specs.declared.machine.Schedule.{Schedule}
use Rattle.driver_link.specs.declared.machine.Send.{Send}
use Rattle.driver_link.specs.Apart.{AllApart}
use Rattle.driver_link.specs.Counting.{KeepsServer}
use Rattle.driver_link.specs.Exchange.{empty_server, next_step, replayed}
use Rattle.driver_link.specs.LinkState.{server_run}
use Rattle.driver_link.specs.ServerRun.{ServerRun, run_after}
use Rattle.driver_link.specs.Settled.{Has}
use Rattle.driver_link.proofs.Replays.{exchanged_trace}
use Rattle.driver_session.specs.Pool.{Pool}
use Rattle.driver_session.specs.StoreTells.{DrawnApart, DrawnApartIn}
use Rattle.driver_ops.specs.declared.target.OperationTarget.{OperationTarget}
use Rattle.driver_ops.specs.Operations.{send_of}
use Rattle.driver_ops.specs.Served.{statements_in}
use Rattle.write_ops.specs.declared.own_document.OwnDocument.{OwnDocument}
use Rattle.statement_ops.specs.StatementLaw.{planned_concern}
use Rattle.write_ops.specs.InsertLaw.{concern_told}
use Rattle.write_ops.specs.InsertSpec.{AreOwn, insert_spec}
use Rattle.driver_attempt.specs.Moment.{Moment}
use Rattle.driver_exec.specs.BetweenCalls.{Between, Sound}
use Rattle.driver_exec.specs.Resending.{GivesPages, SendsWhereTold}
use Rattle.driver_exec.proofs.Moves.{keeps_fold, keeps_making}
use Rattle.driver_exec.proofs.PassesBy.{keeps_server_twice}
use Rattle.many_actions.specs.Batches.{BatchEnd, MakesBatch, MakesBatches, places_from}
use Rattle.driver_actions.specs.CallParts.{IsReplayedWhereTold, KeepsMakingWhereTold}
use Rattle.many_actions.specs.ManyTold.{IsSpelled}
use Rattle.many_actions.proofs.BatchWrites.{EachIs, IsNewFrom, batch_body, own_rest, rest_is}
use Rattle.many_actions.proofs.BatchesListed.{built_failure, told_failures}
use Rattle.many_actions.proofs.BatchesMade.{batch_advances, batch_moves, batches_move, fixed_or_one, mid_told, new_behind, next_new}
use Rattle.driver_actions.proofs.CallMoves.{GainsOwn, copies, sends_gain}
use Rattle.many_actions.proofs.FewestCuts.{batch_places}

-- a run whose server is what its sends made of it
abbrev IsFolded : ServerRun → Type 0
IsFolded run = run.server ≡ replayed run.schedule empty_server run.server.trace

-- what is spelled stays so after further sends
spelled_longer : (call : ℕ) (start run last : ServerRun) (end : BatchEnd) (failures : InsertManyError) (more : List Send) → last.server.trace ≡ run.server.trace ++ more → last.schedule ≡ run.schedule
    → IsSpelled call start run end failures → IsSpelled call start last end failures
spelled_longer call start run last end failures more gained same spelled = record {
  server = spelled.server;
  send = spelled.send;
  later = spelled.later ++ more;
  sent = gained ∙ ap (λ t. t ++ more) spelled.sent ∙ append_assoc spelled.server.trace (spelled.send ∷ spelled.later) more;
  since = spelled.since;
  folds = λ begun. subst (λ s. spelled.server ≡ replayed s empty_server spelled.server.trace) (sym same) (spelled.folds begun);
  count = spelled.count;
  fixed = spelled.fixed;
  some = spelled.some;
  placed = spelled.placed;
  done = spelled.done;
  told = subst (λ s. statements_in spelled.server spelled.send (next_step s spelled.server) ≡ Some spelled.done) (sym same) spelled.told;
  errors = spelled.errors;
  concern = subst (λ s. failures.write_concern_error ≡ option_map concern_told (planned_concern (next_step s spelled.server).item)) (sym same) spelled.concern;
}

-- calls that were only counted before sends
sends_behind : (told mid now : ServerRun) (send : Send) (count : ℕ) → KeepsServer told mid → SendsWhereTold false mid now send count → SendsWhereTold false told now send count
sends_behind told mid now send zero keeps sends = keeps_server_twice told mid now keeps sends
sends_behind told mid now send (suc count) keeps sends = (sends.0, (sends_behind told mid sends.0 send count keeps sends.1.0, sends.1.1))

-- what one batch tells
module _ (target : OperationTarget) (options : InsertManyOptions) (call : ℕ) (G : ℕ → List (Pair Bson) → Type 0) where
  module _ (index : ℕ) (documents : List (List (Pair Bson))) (own : List OwnDocument) (are : AreOwn documents own) (each : EachIs G index documents) (before now : Moment) (end : BatchEnd)
      (made : MakesBatch target options call index own before now end) (pool pool_now : Pool) (run run_now : ServerRun) (pool_is : before.store.pool ≡ Some pool) (pool_now_is : now.store.pool ≡ Some pool_now)
      (run_is : server_run before.link ≡ Some run) (run_now_is : server_run now.link ≡ Some run_now) (between : Between pool run.server.trace) (sound : Sound run.server) (new : IsNewFrom run.server.trace call index)
      (apart : AllApart pool_now.drawn) where
    batch_spelled : (start : ServerRun) → (IsFolded start → IsFolded run) → length start.server.trace ≤ length run.server.trace → (error : Error) (failures : InsertManyError) → end.result ≡ Err error → kind_of error ≡ kind.InsertMany failures
        → IsSpelled call start run_now end failures
    batch_spelled start folds since error failures is kind_is =
        let count = fixed_or_one end.statements in
        let read = told_failures target options call G index documents own are each before now end made pool pool_now run run_now pool_is pool_now_is run_is run_now_is between sound new apart error is failures kind_is in
        let told = read.0 in
        let mid = told.among.mid in
        let send = send_of told.context (batch_body target options call index documents own are count) in
        let before_it = sends_gain run send told.earlier mid told.among.sent in
        let kept = subst (λ pages. GivesPages (insert_spec target index own options) count send.session told.bytes (run_after mid send) told.among.behind pages) (told.alone refl) told.among.gives in
        let rest = sends_behind (run_after mid send) told.among.behind run_now send told.later kept told.among.rest in
        let gained = sends_gain (run_after mid send) send told.later run_now rest in
        let trace : (run_after mid send).server.trace ≡ mid.server.trace ++ send ∷ [] = exchanged_trace mid.server send (next_step mid.schedule mid.server) in
        let same : run_now.schedule ≡ mid.schedule = (keeps_making (run_after mid send) send told.later run_now rest).1 in
        let begun : mid.schedule ≡ run.schedule = (keeps_making run send told.earlier mid told.among.sent).1 in
        let built = built_failure target options call G index documents own are each before now end made error failures is kind_is in
        let counted : built.statements ≡ count = ap fixed_or_one (sym built.is) in
        let within : count ≤ length own = subst (λ n. n ≤ length own) counted built.commanded.within in
        record {
          server = mid.server;
          send = send;
          later = copies told.later send;
          sent = gained ∙ ap (λ t. t ++ copies told.later send) trace ∙ append_assoc mid.server.trace (send ∷ []) (copies told.later send);
          since = omega (arith, since, ap (λ (t : List Send). length t) before_it, length-append run.server.trace (copies told.earlier send));
          folds = λ at_start. subst (λ s. mid.server ≡ replayed s empty_server mid.server.trace) (sym (same ∙ begun)) (keeps_fold run send told.earlier mid told.among.sent (folds at_start));
          count = count;
          fixed = built.is ∙ ap (λ n. Some n) counted;
          some = subst (λ n. 0 < n) counted built.commanded.some;
          placed = batch_places target options call index documents own are count within ∙ ap (λ n. places_from call n count) (sym made.begins);
          done = told.done;
          told = subst (λ s. statements_in mid.server send (next_step s mid.server) ≡ Some told.done) (sym same) told.told;
          errors = ap (λ (f : InsertManyError). f.write_errors) read.1;
          concern = ap (λ (f : InsertManyError). f.write_concern_error) read.1
              ∙ ap (λ (s : Schedule). option_map concern_told (planned_concern (next_step s mid.server).item)) (sym same);
        }

  -- the failures of each of the batches that follow one another from an index on are spelled so
  pub batches_spelled : (short : Type 0) (ends : List BatchEnd) (index : ℕ) (documents : List (List (Pair Bson))) (own : List OwnDocument) → AreOwn documents own → EachIs G index documents → (before now : Moment)
      → (pool pool_now : Pool) (start run run_now : ServerRun) → before.store.pool ≡ Some pool → now.store.pool ≡ Some pool_now → server_run before.link ≡ Some run → server_run now.link ≡ Some run_now
      → Between pool run.server.trace → Sound run.server → IsNewFrom run.server.trace call index → DrawnApart now.store → (IsFolded start → IsFolded run)
      → length start.server.trace ≤ length run.server.trace → MakesBatches short target options call index own ends before now
      → (end : BatchEnd) (error : Error) (failures : InsertManyError) → Has ends end → end.result ≡ Err error → kind_of error ≡ kind.InsertMany failures → IsSpelled call start run_now end failures
  batches_spelled short [] index documents own are each before now pool pool_now start run run_now pool_is pool_now_is run_is run_now_is between sound new apart folds since made found error failures has is kind_is = absurd has
  batches_spelled short (end ∷ ends) index documents own are each before now pool pool_now start run run_now pool_is pool_now_is run_is run_now_is between sound new apart folds since made found error failures has is kind_is =
      let mid = made.0 in
      let batch = made.1.0 in
      elim made.1.1 [
        | inl on ↦
            let own_on = own_rest on.statements documents own are in
            let each_on = rest_is G index on.statements documents each in
            let later = batches_move target options call G short ends (index + on.statements) (drop on.statements documents) (drop on.statements own) own_on each_on mid now on.rest in
            let moves = batch_moves target options call G index documents own are each before mid end batch in
            let told = mid_told 1 (length (drop on.statements own)) call before mid now moves later pool run pool_is run_is apart in
            let one = batch_advances target options call G index documents own are each before mid end batch pool told.pool run told.run pool_is told.pool_is run_is told.run_is between sound new told.apart in
            let new_on = next_new target options call G index told.run.server.trace end.statements on.statements on.told
            (new_behind target options call G index documents own are each before mid end batch pool told.pool run told.run pool_is told.pool_is run_is told.run_is between sound new told.apart) in
            let folds_on : IsFolded run → IsFolded told.run
            = subst (λ r. IsFolded run → IsReplayedWhereTold r) told.run_is (subst (λ r. IsReplayedWhereTold r → IsReplayedWhereTold (server_run mid.link)) run_is moves.replayed) in
            let first_gains : GainsOwn call (Some run) (Some told.run)
            = subst (λ r. GainsOwn call r (Some told.run)) run_is (subst (λ r. GainsOwn call (server_run before.link) r) told.run_is moves.gains) in
            let since_on : length start.server.trace ≤ length told.run.server.trace
            = omega (arith, since, ap (λ (t : List Send). length t) first_gains.trace, length-append run.server.trace first_gains.sends) in
            elim has [
              | inl here ↦
                  let gains : GainsOwn call (Some told.run) (Some run_now)
                  = subst (λ r. GainsOwn call r (Some run_now)) told.run_is (subst (λ r. GainsOwn call (server_run mid.link) r) run_now_is later.gains) in
                  let making : KeepsMakingWhereTold (Some told.run) (Some run_now)
                  = subst (λ r. KeepsMakingWhereTold r (Some run_now)) told.run_is (subst (λ r. KeepsMakingWhereTold (server_run mid.link) r) run_now_is later.making) in
                  let spelled = batch_spelled index documents own are each before mid end batch pool told.pool run told.run pool_is told.pool_is run_is told.run_is between sound new told.apart start folds since error failures
                  (ap (λ (e : BatchEnd). e.result) here ∙ is) kind_is in
                  subst (λ (e : BatchEnd). IsSpelled call start run_now e failures) here
                  (spelled_longer call start told.run run_now end failures gains.sends gains.trace making.1 spelled)
              | inr rest ↦
                  batches_spelled short ends (index + on.statements) (drop on.statements documents) (drop on.statements own) own_on each_on mid now told.pool pool_now start told.run run_now told.pool_is pool_now_is
                  told.run_is run_now_is one.between one.sound new_on apart (λ at_start. folds_on (folds at_start)) since_on on.rest found error failures rest is kind_is
            ]
        | inr stops ↦
            let pool_mid : mid.store.pool ≡ Some pool_now = ap (λ m. m.store.pool) (sym stops.same) ∙ pool_now_is in
            let run_mid : server_run mid.link ≡ Some run_now = ap (λ m. server_run m.link) (sym stops.same) ∙ run_now_is in
            elim has [
              | inl here ↦
                  let spelled = batch_spelled index documents own are each before mid end batch pool pool_now run run_now pool_is pool_mid run_is run_mid between sound new (subst DrawnApartIn pool_now_is apart) start
                  folds since error failures (ap (λ (e : BatchEnd). e.result) here ∙ is) kind_is in
                  subst (λ (e : BatchEnd). IsSpelled call start run_now e failures) here spelled
              | inr rest ↦ absurd (subst (λ (more : List BatchEnd). Has more found) stops.none rest)
            ]
      ]
