-- Transactions that an answer calls transient, once their send was interrupted.
use Rattle.std.specs.Prelude.{Bool, true, false}
use Rattle.driver_link.specs.Cases.{Case, gathers, commits}
use Rattle.driver_link.specs.Interrupting.{transient_as}
use Rattle.driver_link.specs.declared.machine.Send.{Send}
use Rattle.driver_link.specs.declared.machine.Server.{Server}

-- whether a transaction can be called transient once its send was interrupted in a case, by whether it could
-- be before: one that gathers is aborted, and one that commits is committed
abbrev pub still_transient : Case → Bool → Bool
still_transient (gathers entries) before = true
still_transient (commits entries) before = false
still_transient other before = before

-- the server once the answer called the send's transaction transient, or did not
abbrev pub called : Bool → Server → Send → Server
called true server send = transient_as send.session send.number server send
called false server send = server
