-- What a change of a server takes the place of.
use Rattle.std.specs.Prelude.{ℤ, List, Option, None, Some, int_lt, if◌then◌else◌}
use Rattle.std.specs.FinMap as finite
use Rattle.driver_link.specs.Cursors.{Reply, results_left}
use Rattle.driver_link.specs.Serving.{Sessions}
use Rattle.driver_link.specs.declared.machine.KnownSession.{KnownSession}
use Rattle.driver_link.specs.declared.machine.Server.{Server}
use Rattle.model_effects.specs.declared.change.CursorChange.{CursorChange}
use Rattle.model_effects.specs.declared.change.CursorChange.TheVariants as cursor
use Rattle.model_effects.specs.declared.change.Displaced.{Displaced}
use Rattle.model_effects.specs.declared.change.Effect.{Effect}
use Rattle.model_effects.specs.declared.change.Effect.TheVariants as effect

-- what is known of a session that begins anew with a greater number
unfoldable pub outdated : ℤ → Option KnownSession → Option KnownSession
outdated number None = None
outdated number (Some known) = if int_lt known.greatest number then Some known else None

-- what an effect takes the place of
abbrev pub session_displaced : Effect → Sessions → Option KnownSession
session_displaced (effect.Taken id number in_transaction start step transient) sessions = outdated number (finite.get sessions id)
session_displaced other sessions = None

-- what was left of a cursor that is closed
abbrev pub left_displaced : CursorChange → List (Option (List Reply)) → Option (List Reply)
left_displaced (cursor.Closes number) cursors = results_left number cursors
left_displaced other cursors = None

-- both
abbrev pub displaced_by : Effect → CursorChange → Server → Displaced
displaced_by effect change server =
    record { session = session_displaced effect server.sessions; left = left_displaced change server.cursors }
