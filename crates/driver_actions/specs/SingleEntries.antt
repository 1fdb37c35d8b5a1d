-- What a single write does to what stands between the operations of one client, and the entry of one that was done.
use Rattle.std.specs.Prelude.{◌≡◌, ℕ, List, Option, Some, ◌⊎◌, Result, Ok, Err, slice_get}
use Rattle.driver_error.specs.declared.error.Error.{Error}
use Rattle.driver_link.specs.declared.machine.Entry.{Entry}
use Rattle.driver_link.specs.declared.machine.Place.{Place}
use Rattle.driver_link.specs.declared.machine.PlacedWrite.{PlacedWrite}
use Rattle.driver_link.specs.declared.machine.Send.{Send}
use Rattle.driver_link.specs.declared.machine.Written.{Written}
use Rattle.driver_link.specs.Apart.{AllApart}
use Rattle.driver_link.specs.Cases.{writes_of}
use Rattle.driver_link.specs.LinkState.{server_run}
use Rattle.driver_link.specs.ServerRun.{ServerRun}
use Rattle.driver_link.specs.Settled.{Has}
use Rattle.driver_session.specs.Pool.{Pool}
use Rattle.driver_attempt.specs.Moment.{Moment}
use Rattle.driver_exec.specs.BetweenCalls.{Between, Sound}
use Rattle.driver_inputs.specs.declared.call.SingleAnswer.{SingleAnswer}
use Rattle.driver_inputs.specs.Calls.{IsOwn, answer_by}

-- a place stands in no send of a trace
abbrev pub IsNewPlace : List Send → Place → Type 0
IsNewPlace trace place =
    (earlier : Send) (at : ℕ) (write : PlacedWrite) → Has trace earlier → slice_get (writes_of earlier) at ≡ Some write → write.place ≡ place → ⊥

-- a single write in this place may be made: nothing is lent, the sends so far are sound, the place is new, and the ids that are
-- drawn by its end are apart
pub record MayWrite (pool pool_now : Pool) (run : ServerRun) (place : Place) : Type 0 where
  pub between : Between pool run.server.trace
  pub sound : Sound run.server
  pub new : IsNewPlace run.server.trace place
  pub apart : AllApart pool_now.drawn

-- all writes of a send are in one place
abbrev pub IsAllAt : Place → Send → Type 0
IsAllAt place send = (at : ℕ) (write : PlacedWrite) → slice_get (writes_of send) at ≡ Some write → write.place ≡ place

-- what stands after the write: the same, and each send of the trace was there before or has writes in this place alone
pub record HasWritten (pool_now : Pool) (run run_now : ServerRun) (place : Place) : Type 0 where
  pub between : Between pool_now run_now.server.trace
  pub sound : Sound run_now.server
  pub which : (send : Send) → Has run_now.server.trace send → Has run.server.trace send ⊎ IsAllAt place send

-- what stands before the write stands after it, where pool and server are told
abbrev pub KeepsSingleWhereTold : Option Pool → Option Pool → Option ServerRun → Option ServerRun → Place → Type 0
KeepsSingleWhereTold (Some pool) (Some pool_now) (Some run) (Some run_now) place = MayWrite pool pool_now run place → HasWritten pool_now run run_now place
KeepsSingleWhereTold pool pool_now run run_now place = Unit {0}

-- the same of two moments
abbrev pub KeepsSingle : Moment → Moment → Place → Type 0
KeepsSingle before now place = KeepsSingleWhereTold before.store.pool now.store.pool (server_run before.link) (server_run now.link) place

-- a log has the entry of the caller's own write in its place, and that tells the answer
pub record HasOwnEntry (given : Written) (place : Place) (log : List Entry) (answer : SingleAnswer) : Type 0 where
  pub entry : Entry
  pub has : Has log entry
  pub placed : entry.place ≡ place
  pub own : IsOwn given entry.written
  pub tells : answer_by given.kind entry ≡ Some answer

-- so it is in the log that is told after the write
abbrev pub HasOwnEntryWhereTold : Written → SingleAnswer → Option Pool → Option Pool → Option ServerRun → Option ServerRun → Place → Type 0
HasOwnEntryWhereTold given answer (Some pool) (Some pool_now) (Some run) (Some run_now) place =
    MayWrite pool pool_now run place → HasOwnEntry given place run_now.server.log answer
HasOwnEntryWhereTold given answer pool pool_now run run_now place = Unit {0}

-- where the write was done its entry stands
abbrev pub OkHasEntry : Moment → Moment → Written → Place → Result SingleAnswer Error → Type 0
OkHasEntry before now given place (Ok answer) = HasOwnEntryWhereTold given answer before.store.pool now.store.pool (server_run before.link) (server_run now.link) place
OkHasEntry before now given place (Err error) = Unit {0}
