-- What the batches of an insert of many documents told is so: it stands in the log, or a reply spells it, and an error lists it.
use Rattle.std.proofs.Common.{◌≡◌, ℕ, List, refl, sym, ap, subst, ◌∙◌, arith}
use Rattle.std.specs.Prelude.{Option, None, Some, Result, Err}
use Rattle.bson_lite.specs.declared.bson.Bson.{Bson}
use Rattle.bson_lite.specs.declared.document.Pair.{Pair}
use Rattle.driver_error.specs.declared.error.Error.{Error}
use Rattle.driver_error.specs.declared.kind.ErrorKind.TheVariants as kind
use Rattle.server_answers.specs.declared.results.InsertManyResult.{InsertManyResult}
use Rattle.driver_error.specs.declared.write.IndexedWriteError.{IndexedWriteError}
use Rattle.driver_error.specs.declared.write.InsertManyError.{InsertManyError}
use Rattle.driver_error.specs.Error.{kind_of}
use Rattle.driver_options.specs.declared.write_options.InsertManyOptions.{InsertManyOptions}
use Rattle.driver_link.specs.LinkState.{server_run}
use Rattle.driver_link.specs.ServerRun.{ServerRun}
use Rattle.driver_session.specs.Pool.{Pool}
use Rattle.driver_session.specs.StoreTells.{DrawnApartIn}
use Rattle.driver_ops.specs.declared.target.OperationTarget.{OperationTarget}
use Rattle.driver_ops.specs.Targets.{namespace_of}
use Rattle.write_ops.specs.InsertAnswers.{errors_there}
use Rattle.driver_attempt.specs.Moment.{Moment}
use Rattle.many_actions.specs.BatchTells.{all_errors}
use Rattle.many_actions.specs.Batches.{BatchEnd}
use Rattle.many_actions.specs.ManyAnswers.{AnswersMany, gathered, nothing_gathered}
use Rattle.many_actions.specs.ManyCalls.{MadeMany, RanShort}
use Rattle.many_actions.specs.ManyEntries.{MayWriteCall}
use Rattle.many_actions.specs.ManyTold.{IsToldTruly, IsToldWhereTold, TellsTruly}
use Rattle.many_actions.proofs.BatchesSpelled.{batches_spelled}
use Rattle.many_actions.proofs.GatheredEnds.{errors_gathered}
use Rattle.many_actions.proofs.ManyMade.{IsGiven, failures_answered, listed_given, made_drew, made_lists, sent, sent_each}

-- an error of the call lists the write errors of all ends
errors_listed : (error : Error) (failures : InsertManyError) (ends : List BatchEnd) → kind_of error ≡ kind.InsertMany failures → AnswersMany ends (Err error)
    → failures.write_errors ≡ errors_there (all_errors ends)
errors_listed error failures ends is answers =
    ap (λ (f : InsertManyError). f.write_errors) (failures_answered error failures ends is answers)
    ∙ ap (λ (errors : List IndexedWriteError). errors_there errors) (errors_gathered ends)

module _ (before now : Moment) (target : OperationTarget) (documents : List (List (Pair Bson))) (options : InsertManyOptions) (call : ℕ) (result : Result InsertManyResult Error)
    (made : MadeMany before now target documents options call result) where
  -- what the batches of a call that was made told is so
  told_truly : (pool pool_now : Pool) (run run_now : ServerRun) → before.store.pool ≡ Some pool → now.store.pool ≡ Some pool_now → server_run before.link ≡ Some run → server_run now.link ≡ Some run_now
      → MayWriteCall pool pool_now run call → IsToldTruly (namespace_of target) documents call run run_now made.ends result
  told_truly pool pool_now run run_now pool_is pool_now_is run_is run_now_is may =
      let drew = made_drew before now target documents options call result made in record {
        stand = listed_given (namespace_of target) documents call run_now.server.log (gathered nothing_gathered made.ends).inserted_ids
            (made_lists before now target documents options call result made pool pool_now run run_now pool_is pool_now_is run_is run_now_is may);
        spelled = batches_spelled target options call (IsGiven documents) (RanShort result) made.ends 0 (sent before now target documents options call result made) made.own made.owns.are_own
            (sent_each before now target documents options call result made) made.mid now pool pool_now run run run_now (drew.pool ∙ pool_is) pool_now_is
            (ap (λ moment. server_run moment.link) made.rest ∙ run_is) run_now_is may.between may.sound (λ earlier at write has stands of_call. absurd (may.new earlier at write has stands of_call))
            (subst DrawnApartIn (sym pool_now_is) may.apart) (λ folds. folds) (omega arith) made.batches;
        listed = λ error failures is kind_is. errors_listed error failures made.ends kind_is (subst (AnswersMany made.ends) is made.answers);
      }

  -- so it is where pool and server are told
  tells_told : (pool pool_now : Option Pool) (run run_now : Option ServerRun) → before.store.pool ≡ pool → now.store.pool ≡ pool_now → server_run before.link ≡ run → server_run now.link ≡ run_now
      → IsToldWhereTold (namespace_of target) documents call pool pool_now run run_now made.ends result
  tells_told (Some pool) (Some pool_now) (Some run) (Some run_now) pool_is pool_now_is run_is run_now_is = λ may. told_truly pool pool_now run run_now pool_is pool_now_is run_is run_now_is may
  tells_told None pool_now run run_now pool_is pool_now_is run_is run_now_is = tt
  tells_told (Some pool) None run run_now pool_is pool_now_is run_is run_now_is = tt
  tells_told (Some pool) (Some pool_now) None run_now pool_is pool_now_is run_is run_now_is = tt
  tells_told (Some pool) (Some pool_now) (Some run) None pool_is pool_now_is run_is run_now_is = tt

-- however a call was made
pub many_truly : (before now : Moment) (target : OperationTarget) (documents : List (List (Pair Bson))) (options : InsertManyOptions) (call : ℕ) (result : Result InsertManyResult Error)
    → TellsTruly before now target documents options call result
many_truly before now target documents options call result made =
    tells_told before now target documents options call result made before.store.pool now.store.pool (server_run before.link) (server_run now.link) refl refl refl refl
