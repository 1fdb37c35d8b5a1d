-- What an operation outside transactions does to what stands between the operations of one client: whatever is lost, late or
-- answered, it keeps it, and where it was done the entries of its writes stand and tell its output.
use Rattle.std.specs.Prelude.{◌≡◌, ℕ, ℤ, Bool, true, false, List, Option, Some, ◌⊎◌, Result, Ok, Err}
use Rattle.driver_error.specs.declared.error.Error.{Error}
use Rattle.driver_link.specs.declared.machine.Entry.{Entry}
use Rattle.driver_link.specs.declared.machine.Send.{Send}
use Rattle.driver_link.specs.declared.machine.SendBody.{SendBody}
use Rattle.driver_link.specs.Apart.{AllApart}
use Rattle.driver_link.specs.Cases.{body_writes}
use Rattle.driver_link.specs.LinkState.{server_run}
use Rattle.driver_link.specs.ServerRun.{ServerRun}
use Rattle.driver_link.specs.Settled.{Has, IsAside}
use Rattle.driver_session.specs.Pool.{Pool}
use Rattle.driver_ops.specs.Operations.{OperationSpec}
use Rattle.driver_ops.specs.Served.{AreEntries}
use Rattle.driver_attempt.specs.Moment.{Moment}
use Rattle.driver_exec.specs.BetweenCalls.{Between, MaySendPlaces, Sound}

-- what stands before an operation that asks for this: nothing is lent, the sends so far are sound, its places may be sent, and
-- the ids that are drawn by its end are apart
pub record StandsBefore (pool pool_now : Pool) (run : ServerRun) (body : SendBody) : Type 0 where
  pub between : Between pool run.server.trace
  pub sound : Sound run.server
  pub may_send : MaySendPlaces run.server.trace body
  pub apart : AllApart pool_now.drawn

-- a command of a cursor may be among the sends, where the answer may have further pages
abbrev pub MayPass : Bool → Send → Type 0
MayPass true send = IsAside send
MayPass false send = ⊥

-- what stands after it: the same, and each send of the trace was there before, is one of this, or is of a cursor, where there may be such
pub record StandsAfter (paged : Bool) (pool_now : Pool) (run run_now : ServerRun) (body : SendBody) : Type 0 where
  pub between : Between pool_now run_now.server.trace
  pub sound : Sound run_now.server
  pub which : (send : Send) → Has run_now.server.trace send → Has run.server.trace send ⊎ ((send.body ≡ body) ⊎ MayPass paged send)

-- what stands before the operation stands after it, where pool and server are told
abbrev pub KeepsWhereTold : Bool → Option Pool → Option Pool → Option ServerRun → Option ServerRun → SendBody → Type 0
KeepsWhereTold paged (Some pool) (Some pool_now) (Some run) (Some run_now) body = StandsBefore pool pool_now run body → StandsAfter paged pool_now run run_now body
KeepsWhereTold paged pool pool_now run run_now body = Unit {0}

-- the same of two moments
abbrev pub KeepsInvariant : Bool → Moment → Moment → SendBody → Type 0
KeepsInvariant paged before now body = KeepsWhereTold paged before.store.pool now.store.pool (server_run before.link) (server_run now.link) body

-- each write of what was asked for has its entry in a log, under one session and one number where there are such, and these
-- entries tell the output
pub record HasEntries {A : Type 0} (spec : OperationSpec A) (body : SendBody) (log : List Entry) (output : A) : Type 0 where
  pub session : Option (List ℕ)
  pub number : Option ℤ
  pub entries : List Entry
  pub are : AreEntries session number (body_writes body) entries
  pub stand : (entry : Entry) → Has entries entry → Has log entry
  pub told : spec.output entries output

-- so it is in the log that is told after an operation before which all stood
abbrev pub AreWritten : {A : Type 0} → OperationSpec A → SendBody → A → Option Pool → Option Pool → Option ServerRun → Option ServerRun → Type 0
AreWritten spec body output (Some pool) (Some pool_now) (Some run) (Some run_now) =
    StandsBefore pool pool_now run body → HasEntries spec body run_now.server.log output
AreWritten spec body output pool pool_now run run_now = Unit {0}

-- where an operation was done its entries stand
abbrev pub OkHasEntries : {A : Type 0} → OperationSpec A → SendBody → Moment → Moment → Result A Error → Type 0
OkHasEntries spec body before now (Ok output) = AreWritten spec body output before.store.pool now.store.pool (server_run before.link) (server_run now.link)
OkHasEntries spec body before now (Err error) = Unit {0}
