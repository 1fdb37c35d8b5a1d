-- What a bulk write does to what stands between the operations of one client: all that it sends is of the caller's models.
use Rattle.std.specs.Prelude.{◌≡◌, ℕ, List, Option, Some, ◌⊎◌, slice_get}
use Rattle.driver_options.specs.declared.models.WriteModel.{WriteModel}
use Rattle.driver_link.specs.declared.machine.PlacedWrite.{PlacedWrite}
use Rattle.driver_link.specs.declared.machine.Send.{Send}
use Rattle.driver_link.specs.Cases.{writes_of}
use Rattle.driver_link.specs.LinkState.{server_run}
use Rattle.driver_link.specs.ServerRun.{ServerRun}
use Rattle.driver_link.specs.Settled.{Has}
use Rattle.driver_session.specs.Pool.{Pool}
use Rattle.bulk_fronts.specs.BulkOps.{model_written}
use Rattle.driver_attempt.specs.Moment.{Moment}
use Rattle.driver_exec.specs.BetweenCalls.{Between, Sound}
use Rattle.driver_inputs.specs.Calls.{IsOwn}
use Rattle.many_actions.specs.ManyEntries.{MayWriteCall}
use Rattle.bulk_actions.specs.BulkCompleteness.{NoneAhead}

-- a write is that of the caller's model at its index in this call, to the last field; an inserted document gets an id where it has none
pub record IsOwnModel (models : List WriteModel) (call : ℕ) (write : PlacedWrite) : Type 0 where
  pub model : WriteModel
  pub of_call : write.place.call ≡ call
  pub given : slice_get models write.place.index ≡ Some model
  pub own : IsOwn (model_written model) write.written

-- all writes of a send are so
abbrev pub AreOwnModels : List WriteModel → ℕ → Send → Type 0
AreOwnModels models call send = (at : ℕ) (write : PlacedWrite) → slice_get (writes_of send) at ≡ Some write → IsOwnModel models call write

-- what stands after the call: the same, and each send of the trace was there before or has the writes of the caller's models alone; the
-- commands of a cursor have none; and no send that waits is of a cursor that is yet to be opened, where none was before
pub record HasWrittenBulk (models : List WriteModel) (pool_now : Pool) (run run_now : ServerRun) (call : ℕ) : Type 0 where
  pub between : Between pool_now run_now.server.trace
  pub sound : Sound run_now.server
  pub which : (send : Send) → Has run_now.server.trace send → Has run.server.trace send ⊎ AreOwnModels models call send
  pub cursors : NoneAhead run.server → NoneAhead run_now.server

-- what stands before the call stands after it, where pool and server are told
abbrev pub KeepsBulkWhereTold : List WriteModel → Option Pool → Option Pool → Option ServerRun → Option ServerRun → ℕ → Type 0
KeepsBulkWhereTold models (Some pool) (Some pool_now) (Some run) (Some run_now) call =
    MayWriteCall pool pool_now run call → HasWrittenBulk models pool_now run run_now call
KeepsBulkWhereTold models pool pool_now run run_now call = Unit {0}

-- the same of two moments
abbrev pub KeepsBulk : Moment → Moment → List WriteModel → ℕ → Type 0
KeepsBulk before now models call = KeepsBulkWhereTold models before.store.pool now.store.pool (server_run before.link) (server_run now.link) call
