-- What an interrupted and a refused send make of the model server's state.
use Rattle.std.specs.Prelude.{ℕ, ◌==◌, ◌||◌, ℤ, Bool, List, [], ◌++◌, Option, Some, if◌then◌else◌}
use Rattle.std.specs.FinMap as finite
use Rattle.driver_link.specs.declared.machine.Entry.{Entry}
use Rattle.driver_link.specs.declared.machine.KnownSession.{KnownSession}
use Rattle.driver_link.specs.declared.machine.Send.{Send}
use Rattle.driver_link.specs.declared.machine.SendBody.{SendBody}
use Rattle.driver_link.specs.declared.machine.Server.{Server}
use Rattle.driver_link.specs.declared.machine.ServerTransaction.TheVariants as transaction
use Rattle.driver_link.specs.declared.machine.Statement.{Statement}
use Rattle.driver_link.specs.Cases.{Case, outside, gathers, commits, aborts, of_cursor, nothing, case_of, known_of, known_under, results_of, body_writes, is_in_transaction, writes_of}
use Rattle.driver_link.specs.Honesty.{has_transient}
use Rattle.driver_link.specs.Serving.{session_after, log_gains, sessions_as, has_entries}
use Rattle.driver_link.specs.Statements.{Results, no_results, front_to_run, usual_statements, has_run, entries_of}

-- the case as an interruption leaves it: a commit goes through where it comes after it, an abort and a
-- command of a cursor never do
abbrev pub interrupted_case : ℕ → Case → Case
interrupted_case most (commits entries) = if most == 0 then nothing else commits entries
interrupted_case most aborts = nothing
interrupted_case most of_cursor = nothing
interrupted_case most other = other

-- the statements of an interrupted send: the first without a kept result, so many as it says
abbrev pub interrupted_done : ℕ → Case → Results → SendBody → List Statement
interrupted_done most outside kept body = usual_statements kept (front_to_run kept 0 most (body_writes body))
interrupted_done most (gathers entries) kept body = usual_statements no_results (front_to_run no_results 0 most (body_writes body))
interrupted_done most other kept body = []

-- a transaction whose writes were interrupted is aborted
abbrev pub session_interrupted : Case → List Statement → List Entry → KnownSession → KnownSession
session_interrupted (gathers entries) done ran known = record known { ran = known.ran || has_run done; transaction = transaction.Aborted }
session_interrupted case done ran known = session_after case done ran known

-- an interrupted send in its case; cursors stay
unfoldable pub interrupted_in : Case → List Statement → Server → Send → Server
interrupted_in case done server send =
    let ran = entries_of send.session send.number (writes_of send) done in
    record server {
      sessions = sessions_as send.session send.number case (session_interrupted case done ran) server send;
      log = server.log ++ log_gains case ran;
    }

-- the statements that run before an interruption
abbrev pub done_before : ℕ → Server → Send → List Statement
done_before most server send = interrupted_done most (interrupted_case most (case_of server send)) (results_of (known_of server send)) send.body

-- the server once so many statements have run, but for what is then answered
unfoldable pub interruption : ℕ → Server → Send → Server
interruption most server send = interrupted_in (interrupted_case most (case_of server send)) (done_before most server send) server send

-- whether a statement ran before an interruption: a commit that goes through runs those of its transaction
abbrev pub runs_in : Case → List Statement → Bool
runs_in (commits entries) done = has_entries entries
runs_in other done = has_run done

-- the same of a send that is interrupted after so many statements
abbrev pub runs_before : ℕ → Server → Send → Bool
runs_before most server send = runs_in (interrupted_case most (case_of server send)) (done_before most server send)

-- a session whose transaction is aborted
abbrev pub aborted : KnownSession → KnownSession
aborted known = record known { transaction = transaction.Aborted }

-- the server once a send was answered that its transaction is transient: the number is taken, and the
-- transaction is aborted
unfoldable pub transient_as : Option (List ℕ) → Option ℤ → Server → Send → Server
transient_as (Some id) (Some number) server send =
    if is_in_transaction send then record server { sessions = finite.insert server.sessions id (aborted (known_under id number server send)) } else server
transient_as session number server send = server

-- the server once an error with these labels was answered
unfoldable pub told_of_error : List (List ℕ) → Server → Send → Server
told_of_error labels server send = if has_transient labels then transient_as send.session send.number server send else server
