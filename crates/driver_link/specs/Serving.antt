-- What serving a send makes of the model server's state, by its case (Cases).
use Rattle.std.specs.Prelude.{ℕ, ◌||◌, ℤ, Bool, true, false, List, [], ◌∷◌, ◌++◌, Option, None, Some, if◌then◌else◌}
use Rattle.std.specs.Ordering.{nat_cmp}
use Rattle.std.specs.Cmp.Lexicographic.{slice_cmp}
use Rattle.std.specs.FinMap as finite
use Rattle.driver_link.specs.declared.machine.Entry.{Entry}
use Rattle.driver_link.specs.declared.machine.Failing.{Failing}
use Rattle.driver_link.specs.declared.machine.KnownSession.{KnownSession}
use Rattle.driver_link.specs.declared.machine.Planned.{Planned}
use Rattle.driver_link.specs.declared.machine.PlannedConcern.{PlannedConcern}
use Rattle.driver_link.specs.declared.machine.Send.{Send}
use Rattle.driver_link.specs.declared.machine.SendBody.{SendBody}
use Rattle.driver_link.specs.declared.machine.Server.{Server}
use Rattle.driver_link.specs.declared.machine.ServerTransaction.{ServerTransaction}
use Rattle.driver_link.specs.declared.machine.ServerTransaction.TheVariants as transaction
use Rattle.driver_link.specs.declared.machine.Statement.{Statement}
use Rattle.driver_link.specs.Cases.{Case, too_old, outside, gathers, commits, aborts, of_cursor, denied, case_of, known_of, known_under, results_of, body_writes, is_ordered, writes_of}
use Rattle.driver_link.specs.Cursors.{Reply, cursors_with, without_cursor}
use Rattle.driver_link.specs.Sessions.{denied_transaction}
use Rattle.driver_link.specs.Statements.{Results, no_results, statements, before_failing, has_run, has_failed, entries_of, kept_with}

-- how a send is served: what its statements count and which fail, a write concern error, and how many
-- results the first page holds
pub record Plan : Type 0 where
  pub results : List Planned
  pub fail : List Failing
  pub concern : Option PlannedConcern
  pub page : Option ℕ

-- as usual
abbrev pub usual : Plan
usual = record { results = []; fail = []; concern = None; page = None }

-- the statements of a case: only writes that are not denied have some, and none is kept in a transaction
abbrev pub done_in : Case → Plan → Results → SendBody → List Statement
done_in outside plan kept body = statements plan.results plan.fail (is_ordered body) kept 0 (body_writes body)
done_in (gathers entries) plan kept body = statements plan.results plan.fail (is_ordered body) no_results 0 (body_writes body)
done_in other plan kept body = []

-- a transaction that has gathered entries, unless a statement failed
abbrev pub gathered : Bool → List Entry → ServerTransaction
gathered failed entries = if failed then transaction.Aborted else transaction.Running entries

-- there are entries
abbrev pub has_entries : List Entry → Bool
has_entries [] = false
has_entries (entry ∷ entries) = true

-- what is known of a session once a send of a case was served, with what its statements came to and the
-- entries of those that ran
abbrev pub session_after : Case → List Statement → List Entry → KnownSession → KnownSession
session_after outside done ran known = record known { kept = kept_with known.kept 0 done; ran = known.ran || has_run done }
session_after (gathers entries) done ran known =
    record known { ran = known.ran || has_run (before_failing done); transaction = gathered (has_failed done) (entries ++ ran) }
session_after (commits entries) done ran known = record known { ran = known.ran || has_entries entries; transaction = transaction.Committed }
session_after aborts done ran known = record known { transaction = transaction.Aborted }
session_after denied done ran known = record known { transaction = denied_transaction known.transaction }
session_after other done ran known = known

-- what the log gains
abbrev pub log_gains : Case → List Entry → List Entry
log_gains outside ran = ran
log_gains (commits entries) ran = entries
log_gains other ran = []

-- the cursors once a send of a case was served
abbrev pub cursors_after : Case → Option ℕ → List Statement → Send → Server → List (Option (List Reply))
cursors_after outside page done send server = cursors_with page done send.body server.cursors
cursors_after (gathers entries) page done send server = cursors_with page done send.body server.cursors
cursors_after of_cursor page done send server = without_cursor send.body server.cursors
cursors_after other page done send server = server.cursors

-- sessions by their ids
abbrev pub Sessions : Type 0
Sessions = finite.FinMap {K = List ℕ} (slice_cmp nat_cmp) KnownSession

-- the sessions with that of a send changed; one that is too old, or has no number, changes none
abbrev pub sessions_as : Option (List ℕ) → Option ℤ → Case → (KnownSession → KnownSession) → Server → Send → Sessions
sessions_as session number too_old change server send = server.sessions
sessions_as (Some id) (Some number) case change server send = finite.insert server.sessions id (change (known_under id number server send))
sessions_as session number case change server send = server.sessions

-- a send in its case, with what its statements came to
unfoldable pub served_in : Case → List Statement → Option ℕ → Server → Send → Server
served_in case done page server send =
    let ran = entries_of send.session send.number (writes_of send) done in
    record server {
      sessions = sessions_as send.session send.number case (session_after case done ran) server send;
      log = server.log ++ log_gains case ran;
      cursors = cursors_after case page done send server;
    }

-- the server after a send was served by a plan
unfoldable pub served : Plan → Server → Send → Server
served plan server send =
    let case = case_of server send in
    served_in case (done_in case plan (results_of (known_of server send)) send.body) plan.page server send
