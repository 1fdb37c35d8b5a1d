-- What a server was before a change, by what was noted before it and what it took the place of.
use Rattle.std.specs.Prelude.{ℕ, List, [], ◌∷◌, Option, None, Some, slice_set, take, unwrap_or}
use Rattle.std.specs.FinMap as finite
use Rattle.driver_link.specs.Cursors.{Reply, place_of}
use Rattle.driver_link.specs.Serving.{Sessions}
use Rattle.driver_link.specs.declared.machine.KnownSession.{KnownSession}
use Rattle.driver_link.specs.declared.machine.Server.{Server}
use Rattle.driver_link.specs.declared.machine.ServerTransaction.{ServerTransaction}
use Rattle.driver_link.specs.declared.machine.ServerTransaction.TheVariants as transaction
use Rattle.model_effects.specs.declared.change.CursorChange.{CursorChange}
use Rattle.model_effects.specs.declared.change.CursorChange.TheVariants as cursor
use Rattle.model_effects.specs.declared.change.Displaced.{Displaced}
use Rattle.model_server.specs.declared.delivery.Late.{Late}
use Rattle.model_server.specs.declared.undoing.Past.{Past}
use Rattle.model_server.specs.declared.undoing.PastSessions.{PastSessions}
use Rattle.model_server.specs.declared.undoing.PastSessions.TheVariants as sessions
use Rattle.model_server.specs.declared.undoing.PastStep.{PastStep}
use Rattle.model_server.specs.declared.undoing.PastTransaction.{PastTransaction}
use Rattle.model_server.specs.declared.undoing.PastTransaction.TheVariants as past

-- a transaction that runs, with its first entries alone
abbrev pub lessened : ℕ → ServerTransaction → ServerTransaction
lessened had (transaction.Running entries) = transaction.Running (take had entries)
lessened had other = other

-- a transaction before a step, from what it is after it
abbrev pub transaction_before : PastTransaction → ServerTransaction → ServerTransaction
transaction_before past.Same now = now
transaction_before (past.Running had) now = lessened had now
transaction_before (past.Was was) now = was

-- what was known of a session before a step
abbrev pub known_before : PastStep → KnownSession → KnownSession
known_before past now = record now {
  kept = unwrap_or past.kept now.kept;
  ran = past.ran;
  transaction = transaction_before past.transaction now.transaction;
}

-- sessions with what is known of one changed, where it is known
abbrev pub rewritten_at : List ℕ → (KnownSession → KnownSession) → Sessions → Option KnownSession → Sessions
rewritten_at id change sessions None = sessions
rewritten_at id change sessions (Some known) = finite.insert sessions id (change known)

-- the same by the session's id
abbrev pub rewritten : List ℕ → (KnownSession → KnownSession) → Sessions → Sessions
rewritten id change sessions = rewritten_at id change sessions (finite.get sessions id)

-- sessions before one began, or began anew
abbrev pub unbegun : List ℕ → Option KnownSession → Sessions → Sessions
unbegun id None now = finite.remove now id
unbegun id (Some known) now = rewritten id (λ _. known) now

-- sessions before an effect
abbrev pub sessions_before : PastSessions → Option KnownSession → Sessions → Sessions
sessions_before sessions.Same stood now = now
sessions_before (sessions.Began id) stood now = unbegun id stood now
sessions_before (sessions.WentOn id step) stood now = rewritten id (known_before step) now

-- the place of a cursor that a change closes
abbrev pub closed_place : CursorChange → Option ℕ
closed_place (cursor.Closes number) = place_of number
closed_place other = None

-- cursors with a closed one open again
abbrev pub reopened : Option ℕ → Option (List Reply) → List (Option (List Reply)) → List (Option (List Reply))
reopened (Some at) (Some left) now = slice_set now at (Some left)
reopened closes left now = now

-- cursors before a change
abbrev pub cursors_before : ℕ → Option ℕ → Option (List Reply) → List (Option (List Reply)) → List (Option (List Reply))
cursors_before had closes left now = take had (reopened closes left now)

-- the server before a change
abbrev pub server_before : Past → Displaced → Server → Server
server_before past displaced now = record now {
  sessions = sessions_before past.sessions displaced.session now.sessions;
  log = take past.entries now.log;
  cursors = cursors_before past.cursors past.closes displaced.left now.cursors;
}

-- the server before a waiting send was served
abbrev pub late_before : Late → Server → Server
late_before late now =
    record (server_before late.past late.displaced now) { waiting = slice_set now.waiting late.at (Some late.send) }

-- the same where one may have waited
abbrev pub found_before : Option Late → Server → Server
found_before None now = now
found_before (Some late) now = late_before late now

-- the server before each of a list was served in turn
unfoldable pub each_before : List Late → Server → Server
each_before [] now = now
each_before (late ∷ lates) now = late_before late (each_before lates now)
