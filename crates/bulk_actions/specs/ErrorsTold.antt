-- What an error of a bulk write lists as write errors is so: each is that of a statement that failed, as the reply of the server to a
-- send of the call spells it, under the index of its write; and those of all batches are listed.
use Rattle.std.specs.Prelude.{◌≡◌, ℕ, ◌≤◌, ℤ, List, ◌∷◌, ◌++◌, length, Option, None, Some, Result, Ok, Err, slice_get}
use Rattle.std.specs.FinMap as finite
use Rattle.std.specs.Ordering.{nat_cmp}
use Rattle.driver_error.specs.declared.error.Error.{Error}
use Rattle.driver_error.specs.declared.kind.ErrorKind.TheVariants as kind
use Rattle.driver_error.specs.declared.write.BulkWriteError.{BulkWriteError}
use Rattle.driver_error.specs.declared.write.WriteError.{WriteError}
use Rattle.driver_error.specs.BulkErrors.{failures_in}
use Rattle.bulk_outcomes.specs.BulkResults.{ResultSpec}
use Rattle.driver_error.specs.Error.{kind_of}
use Rattle.driver_options.specs.declared.models.WriteModel.{WriteModel}
use Rattle.driver_options.specs.declared.write_options.BulkWriteOptions.{BulkWriteOptions}
use Rattle.wire_keys.specs.declared.keys.TheConstants.{SCHEDULED}
use Rattle.driver_link.specs.declared.machine.PlacedWrite.{PlacedWrite}
use Rattle.driver_link.specs.declared.machine.Send.{Send}
use Rattle.driver_link.specs.declared.machine.Server.{Server}
use Rattle.driver_link.specs.declared.machine.Statement.{Statement}
use Rattle.driver_link.specs.declared.machine.Statement.TheVariants.{Failed}
use Rattle.driver_link.specs.Cases.{writes_of}
use Rattle.driver_link.specs.Exchange.{empty_server, next_step, replayed}
use Rattle.driver_link.specs.LinkState.{server_run}
use Rattle.driver_link.specs.ServerRun.{ServerRun}
use Rattle.driver_link.specs.Settled.{Has}
use Rattle.driver_session.specs.Pool.{Pool}
use Rattle.driver_ops.specs.Served.{statements_in}
use Rattle.driver_attempt.specs.Moment.{Moment}
use Rattle.many_actions.specs.BatchPlans.{PlannedEnd}
use Rattle.many_actions.specs.ManyEntries.{MayWriteCall}
use Rattle.bulk_actions.specs.BulkCalls.{MadeBulk}

-- a write error at an index is what a reply of a told server spells: the reply to a send of this call, by the step of the schedule that
-- the send met, for a statement that failed, whose write has the place of the index. The server is what the sends before made of it,
-- where it was so before the call
pub record IsErrorSpelled (call : ℕ) (run run_now : ServerRun) (index : ℕ) (error : WriteError) : Type 0 where
  pub server : Server
  pub send : Send
  pub later : List Send
  pub sent : run_now.server.trace ≡ server.trace ++ send ∷ later
  pub since : length run.server.trace ≤ length server.trace
  pub folds : run.server ≡ replayed run.schedule empty_server run.server.trace → server ≡ replayed run_now.schedule empty_server server.trace
  pub done : List Statement
  pub told : statements_in server send (next_step run_now.schedule server) ≡ Some done
  pub at : ℕ
  pub write : PlacedWrite
  pub code : ℤ
  pub in_writes : slice_get (writes_of send) at ≡ Some write
  pub in_done : slice_get done at ≡ Some (Failed code)
  pub place : write.place ≡ record { call = call; index = index }
  pub is : error ≡ record { code = code; code_name = None; message = SCHEDULED.now; details = None }

-- the write errors of failures, if there are some
abbrev pub write_errors_in : Option BulkWriteError → finite.FinMap nat_cmp WriteError
write_errors_in None = finite.empty
write_errors_in (Some failures) = failures.write_errors

-- those that a batch ended with
abbrev pub write_errors_of : {R : Type 0} → Result R Error → finite.FinMap nat_cmp WriteError
write_errors_of (Ok output) = finite.empty
write_errors_of (Err error) = write_errors_in (failures_in (kind_of error))

-- each write error that is listed is spelled so, and all that the batches ended with are listed
pub record TellsErrors {R : Type 0} (call : ℕ) (run run_now : ServerRun) (ends : List (PlannedEnd R)) (listed : finite.FinMap nat_cmp WriteError) : Type 0 where
  pub spelled : (index : ℕ) (error : WriteError) → finite.get listed index ≡ Some error → IsErrorSpelled call run run_now index error
  pub all : (end : PlannedEnd R) (index : ℕ) (error : WriteError) → Has ends end → finite.get (write_errors_of end.result) index ≡ Some error → finite.get listed index ≡ Some error

-- so it is where pool and server are told and the call may be made
abbrev pub TellsErrorsWhereTold : {R : Type 0} → ℕ → Option Pool → Option Pool → Option ServerRun → Option ServerRun → List (PlannedEnd R) → finite.FinMap nat_cmp WriteError → Type 0
TellsErrorsWhereTold call (Some pool) (Some pool_now) (Some run) (Some run_now) ends listed = MayWriteCall pool pool_now run call → TellsErrors call run run_now ends listed
TellsErrorsWhereTold call pool pool_now run run_now ends listed = Unit {0}

-- however a call was made that is answered with an error of the bulk write
abbrev pub ErrTellsTruly : {R : Type 0} → ResultSpec R → Moment → Moment → List WriteModel → BulkWriteOptions → ℕ → Result R Error → Type 0
ErrTellsTruly tells before now models options call (Ok output) = Unit {0}
ErrTellsTruly tells before now models options call (Err error) =
    (made : MadeBulk tells before now models options call (Err error)) (failures : BulkWriteError) → kind_of error ≡ kind.BulkWrite failures
    → TellsErrorsWhereTold call before.store.pool now.store.pool (server_run before.link) (server_run now.link) made.ends failures.write_errors
