-- What a change of this crate makes of a server's state.
use Rattle.std.specs.Prelude.{ℕ, ◌||◌, Bool, true, false, List, [], ◌∷◌, ◌++◌, Option, Some}
use Rattle.std.specs.FinMap as finite
use Rattle.bson_lite.specs.Indexed.{insert_each}
use Rattle.driver_link.specs.Cursors.{Reply, closed}
use Rattle.driver_link.specs.Gathered.{entries_in}
use Rattle.driver_link.specs.Interrupting.{aborted}
use Rattle.driver_link.specs.Serving.{has_entries}
use Rattle.driver_link.specs.Sessions.{taken, denied_transaction}
use Rattle.driver_link.specs.declared.machine.Entry.{Entry}
use Rattle.driver_link.specs.declared.machine.KnownSession.{KnownSession}
use Rattle.driver_link.specs.declared.machine.Server.{Server}
use Rattle.driver_link.specs.declared.machine.ServerTransaction.TheVariants as transaction
use Rattle.model_effects.specs.declared.change.CursorChange.{CursorChange}
use Rattle.model_effects.specs.declared.change.CursorChange.TheVariants as cursor
use Rattle.model_effects.specs.declared.change.Effect.{Effect}
use Rattle.model_effects.specs.declared.change.Effect.TheVariants as effect
use Rattle.model_effects.specs.declared.change.SessionStep.{SessionStep}
use Rattle.model_effects.specs.declared.change.SessionStep.TheVariants as step

-- what is known of a session after a step
abbrev pub stepped : SessionStep → KnownSession → KnownSession
stepped step.Stays known = known
stepped (step.Keeps entries results ran) known = record known { kept = insert_each known.kept results; ran = known.ran || ran }
stepped (step.Gathers entries ran) known = record known { ran = known.ran || ran; transaction = transaction.Running (entries_in known.transaction ++ entries) }
stepped (step.Fails ran) known = record known { ran = known.ran || ran; transaction = transaction.Aborted }
stepped step.Ends known = record known { transaction = transaction.Aborted }
stepped step.Commits known = record known { ran = known.ran || has_entries (entries_in known.transaction); transaction = transaction.Committed }
stepped step.Denied known = record known { transaction = denied_transaction known.transaction }

-- the log after a step of a session
abbrev pub logged_by : SessionStep → KnownSession → List Entry → List Entry
logged_by (step.Keeps entries results ran) known log = log ++ entries
logged_by step.Commits known log = log ++ entries_in known.transaction
logged_by other known log = log

-- a session whose transaction was called transient is aborted
abbrev pub ended : Bool → KnownSession → KnownSession
ended true known = aborted known
ended false known = known

-- a session's step put into a server
abbrev pub step_in : List ℕ → SessionStep → Bool → KnownSession → Server → Server
step_in id step transient known server = record server {
  sessions = finite.insert server.sessions id (ended transient (stepped step known));
  log = logged_by step known server.log;
}

-- an effect put into a server
unfoldable pub effect_in : Effect → Server → Server
effect_in effect.Nothing server = server
effect_in (effect.Logged entries) server = record server { log = server.log ++ entries }
effect_in (effect.Taken id number in_transaction start step transient) server =
    step_in id step transient (taken number in_transaction start (finite.get server.sessions id)) server

-- the cursors after a change
abbrev pub cursors_put : CursorChange → List (Option (List Reply)) → List (Option (List Reply))
cursors_put cursor.Nothing cursors = cursors
cursors_put (cursor.Opens left) cursors = cursors ++ Some left ∷ []
cursors_put (cursor.Closes number) cursors = closed number cursors

-- the server after both
unfoldable pub changed : Effect → CursorChange → Server → Server
changed effect change server = record (effect_in effect server) { cursors = cursors_put change server.cursors }
