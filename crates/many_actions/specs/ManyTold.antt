-- What the batches of an insert of many documents told is so, however the call ended: the documents that they list stand in the
-- log, the failures are those that replies of the server spell, and an error of the call lists all of them.
use Rattle.std.specs.Prelude.{◌≡◌, ℕ, ◌<◌, ◌≤◌, List, ◌∷◌, ◌++◌, length, Option, Some, Result, Err}
use Rattle.std.specs.Option.{option_map}
use Rattle.bson_lite.specs.declared.bson.Bson.{Bson}
use Rattle.bson_lite.specs.declared.document.Pair.{Pair}
use Rattle.bson_lite.specs.declared.namespace.Namespace.{Namespace}
use Rattle.driver_error.specs.declared.error.Error.{Error}
use Rattle.driver_error.specs.declared.kind.ErrorKind.TheVariants as kind
use Rattle.server_answers.specs.declared.results.InsertManyResult.{InsertManyResult}
use Rattle.driver_error.specs.declared.write.InsertManyError.{InsertManyError}
use Rattle.driver_error.specs.Error.{kind_of}
use Rattle.driver_options.specs.declared.write_options.InsertManyOptions.{InsertManyOptions}
use Rattle.driver_link.specs.declared.machine.Send.{Send}
use Rattle.driver_link.specs.declared.machine.Server.{Server}
use Rattle.driver_link.specs.declared.machine.Statement.{Statement}
use Rattle.driver_link.specs.Exchange.{empty_server, next_step, replayed}
use Rattle.driver_link.specs.LinkState.{server_run}
use Rattle.driver_link.specs.ServerRun.{ServerRun}
use Rattle.driver_link.specs.Settled.{Has}
use Rattle.driver_session.specs.Pool.{Pool}
use Rattle.driver_ops.specs.declared.target.OperationTarget.{OperationTarget}
use Rattle.driver_ops.specs.Served.{statements_in}
use Rattle.driver_ops.specs.Targets.{namespace_of}
use Rattle.write_ops.specs.InsertAnswers.{errors_there}
use Rattle.statement_ops.specs.StatementLaw.{planned_concern}
use Rattle.write_ops.specs.InsertLaw.{concern_told, errors_told}
use Rattle.driver_attempt.specs.Moment.{Moment}
use Rattle.many_actions.specs.BatchTells.{all_errors}
use Rattle.many_actions.specs.Batches.{BatchEnd, places_from}
use Rattle.many_actions.specs.FewestBatches.{places_of}
use Rattle.many_actions.specs.ManyAnswers.{gathered, nothing_gathered}
use Rattle.many_actions.specs.ManyCalls.{MadeMany}
use Rattle.many_actions.specs.ManyEntries.{HasListed, MayWriteCall}

-- a batch's failures are those that a reply of a told server spells: the reply to a send of this call, whose writes have the places
-- of the batch's documents, by the step of the schedule that the send met. The server is what the sends before made of it, where it
-- was so before the call. Each write error is that of the statement at its position which failed, and none is left out
pub record IsSpelled (call : ℕ) (run run_now : ServerRun) (end : BatchEnd) (failures : InsertManyError) : Type 0 where
  pub server : Server
  pub send : Send
  pub later : List Send
  pub sent : run_now.server.trace ≡ server.trace ++ send ∷ later
  pub since : length run.server.trace ≤ length server.trace
  pub folds : run.server ≡ replayed run.schedule empty_server run.server.trace → server ≡ replayed run_now.schedule empty_server server.trace
  pub count : ℕ
  pub fixed : end.statements ≡ Some count
  pub some : 0 < count
  pub placed : places_of send ≡ places_from call end.first count
  pub done : List Statement
  pub told : statements_in server send (next_step run_now.schedule server) ≡ Some done
  pub errors : failures.write_errors ≡ errors_there (errors_told 0 done)
  pub concern : failures.write_concern_error ≡ option_map concern_told (planned_concern (next_step run_now.schedule server).item)

-- what the ends of a call's batches tell is so: each id stands in the log, the failures are spelled by replies, and an error of the
-- call of the same kind lists the write errors of all ends, in order and under the indexes of the caller's list
pub record IsToldTruly (namespace : Namespace) (documents : List (List (Pair Bson))) (call : ℕ) (run run_now : ServerRun) (ends : List BatchEnd) (result : Result InsertManyResult Error) : Type 0 where
  pub stand : HasListed namespace documents call run_now.server.log (gathered nothing_gathered ends).inserted_ids
  pub spelled : (end : BatchEnd) (error : Error) (failures : InsertManyError) → Has ends end → end.result ≡ Err error → kind_of error ≡ kind.InsertMany failures
      → IsSpelled call run run_now end failures
  pub listed : (error : Error) (failures : InsertManyError) → result ≡ Err error → kind_of error ≡ kind.InsertMany failures → failures.write_errors ≡ errors_there (all_errors ends)

-- so it is after a call that was made, where pool and server are told and the call may be made
abbrev pub IsToldWhereTold : Namespace → List (List (Pair Bson)) → ℕ → Option Pool → Option Pool → Option ServerRun → Option ServerRun → List BatchEnd → Result InsertManyResult Error → Type 0
IsToldWhereTold namespace documents call (Some pool) (Some pool_now) (Some run) (Some run_now) ends result =
    MayWriteCall pool pool_now run call → IsToldTruly namespace documents call run run_now ends result
IsToldWhereTold namespace documents call pool pool_now run run_now ends result = Unit {0}

-- the same of two moments, however the call was made between them
abbrev pub TellsTruly : Moment → Moment → OperationTarget → List (List (Pair Bson)) → InsertManyOptions → ℕ → Result InsertManyResult Error → Type 0
TellsTruly before now target documents options call result =
    (made : MadeMany before now target documents options call result)
    → IsToldWhereTold (namespace_of target) documents call before.store.pool now.store.pool (server_run before.link) (server_run now.link) made.ends result
