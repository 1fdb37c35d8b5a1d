-- What a bulk write that was answered Ok tells is what the log spells: each of the caller's models has its entry there, and these entries
-- tell the answer.
use Rattle.std.specs.Prelude.{◌≡◌, ℕ, ◌+◌, List, [], ◌∷◌, Option, Some, Result, Ok, Err}
use Rattle.driver_error.specs.declared.error.Error.{Error}
use Rattle.bulk_outcomes.specs.BulkResults.{ResultSpec}
use Rattle.driver_options.specs.declared.models.WriteModel.{WriteModel}
use Rattle.driver_link.specs.declared.machine.Entry.{Entry}
use Rattle.driver_link.specs.LinkState.{server_run}
use Rattle.driver_link.specs.ServerRun.{ServerRun}
use Rattle.driver_link.specs.Settled.{Has}
use Rattle.driver_session.specs.Pool.{Pool}
use Rattle.bulk_ops.specs.BulkEntries.{TellsBulk}
use Rattle.bulk_fronts.specs.BulkOps.{model_written}
use Rattle.driver_attempt.specs.Moment.{Moment}
use Rattle.driver_inputs.specs.Calls.{IsOwn}
use Rattle.many_actions.specs.ManyEntries.{MayWriteCall}

-- an entry is that of the caller's model at an index of a call
pub record IsEntryOf (model : WriteModel) (call index : ℕ) (entry : Entry) : Type 0 where
  pub place : entry.place ≡ record { call = call; index = index }
  pub own : IsOwn (model_written model) entry.written

-- the entries of models, in their order, the first at an index of a call
abbrev pub AreEntriesOf : List WriteModel → ℕ → ℕ → List Entry → Type 0
AreEntriesOf [] call index [] = Unit {0}
AreEntriesOf [] call index (entry ∷ entries) = ⊥
AreEntriesOf (model ∷ models) call index [] = ⊥
AreEntriesOf (model ∷ models) call index (entry ∷ entries) = IsEntryOf model call index entry × AreEntriesOf models call (index + 1) entries

-- a log has the entry of each model, and these tell the output
pub record HasToldAll {R : Type 0} (tells : ResultSpec R) (models : List WriteModel) (call : ℕ) (log : List Entry) (output : R) : Type 0 where
  pub entries : List Entry
  pub are : AreEntriesOf models call 0 entries
  pub stand : (entry : Entry) → Has entries entry → Has log entry
  pub told : TellsBulk tells 0 entries output

-- so it is in the log that is told after the call, where it may be made
abbrev pub ToldWhereTold : {R : Type 0} → ResultSpec R → List WriteModel → ℕ → R → Option Pool → Option Pool → Option ServerRun → Option ServerRun → Type 0
ToldWhereTold tells models call output (Some pool) (Some pool_now) (Some run) (Some run_now) =
    MayWriteCall pool pool_now run call → HasToldAll tells models call run_now.server.log output
ToldWhereTold tells models call output pool pool_now run run_now = Unit {0}

-- where the call is answered Ok
abbrev pub OkIsLogged : {R : Type 0} → ResultSpec R → Moment → Moment → List WriteModel → ℕ → Result R Error → Type 0
OkIsLogged tells before now models call (Ok output) =
    ToldWhereTold tells models call output before.store.pool now.store.pool (server_run before.link) (server_run now.link)
OkIsLogged tells before now models call (Err error) = Unit {0}
