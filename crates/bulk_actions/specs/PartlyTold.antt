-- What an error of a bulk write tells of what succeeded is what the log spells: entries of some of the caller's models stand there, and
-- these entries tell the error's partial result.
use Rattle.std.specs.Prelude.{◌≡◌, ℕ, List, Option, None, Some, IfSome, Result, Ok, Err, slice_get}
use Rattle.driver_error.specs.declared.error.Error.{Error}
use Rattle.server_answers.specs.declared.results.PartialBulkWriteResult.{PartialBulkWriteResult}
use Rattle.driver_error.specs.declared.write.BulkWriteError.{BulkWriteError}
use Rattle.driver_error.specs.BulkErrors.{failures_in}
use Rattle.driver_error.specs.Error.{kind_of}
use Rattle.driver_options.specs.declared.models.WriteModel.{WriteModel}
use Rattle.driver_link.specs.declared.machine.Entry.{Entry}
use Rattle.driver_link.specs.LinkState.{server_run}
use Rattle.driver_link.specs.ServerRun.{ServerRun}
use Rattle.driver_link.specs.Settled.{Has}
use Rattle.driver_session.specs.Pool.{Pool}
use Rattle.bulk_ops.specs.PartialEntries.{IndexedEntry, IndexesRise, TellsSome}
use Rattle.driver_attempt.specs.Moment.{Moment}
use Rattle.many_actions.specs.ManyEntries.{MayWriteCall}
use Rattle.bulk_actions.specs.BulkTold.{IsEntryOf}

-- a log has an entry, which is that of the caller's model at its index of a call
pub record IsInLog (models : List WriteModel) (call : ℕ) (log : List Entry) (one : IndexedEntry) : Type 0 where
  pub model : WriteModel
  pub given : slice_get models one.index ≡ Some model
  pub of_model : IsEntryOf model call one.index one.entry
  pub has : Has log one.entry

-- a log has entries of some of the models, each at its own index, the indexes rise, and these entries tell a partial result
pub record HasToldSome (models : List WriteModel) (call : ℕ) (log : List Entry) (found : PartialBulkWriteResult) : Type 0 where
  pub indexed : List IndexedEntry
  pub rise : IndexesRise 0 indexed
  pub stand : (one : IndexedEntry) → Has indexed one → IsInLog models call log one
  pub told : TellsSome indexed found

-- so it is in the log that is told after the call, where it may be made
abbrev pub PartialWhereTold : List WriteModel → ℕ → PartialBulkWriteResult → Option Pool → Option Pool → Option ServerRun → Option ServerRun → Type 0
PartialWhereTold models call found (Some pool) (Some pool_now) (Some run) (Some run_now) =
    MayWriteCall pool pool_now run call → HasToldSome models call run_now.server.log found
PartialWhereTold models call found pool pool_now run run_now = Unit {0}

-- where there are failures, with a partial result
abbrev pub FailuresAreLogged : Moment → Moment → List WriteModel → ℕ → Option BulkWriteError → Type 0
FailuresAreLogged before now models call None = Unit {0}
FailuresAreLogged before now models call (Some failures) =
    IfSome failures.partial_result (λ found. PartialWhereTold models call found before.store.pool now.store.pool (server_run before.link) (server_run now.link))

-- where the call is answered with an error of the bulk write
abbrev pub ErrIsLogged : {R : Type 0} → Moment → Moment → List WriteModel → ℕ → Result R Error → Type 0
ErrIsLogged before now models call (Ok output) = Unit {0}
ErrIsLogged before now models call (Err error) = FailuresAreLogged before now models call (failures_in (kind_of error))
