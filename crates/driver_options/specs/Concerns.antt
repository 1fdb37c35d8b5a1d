-- Write concerns: whether a server answers what became of the write, and whether one could meet them.
use Rattle.std.specs.Prelude.{◌==◌, nat_le, Bool, true, false, ◌&&◌, ◌||◌, not, Option, None, Some}
use Rattle.driver_options.specs.declared.concerns.Acknowledgment.{Acknowledgment}
use Rattle.driver_options.specs.declared.concerns.Acknowledgment.TheVariants.{Nodes}
use Rattle.driver_options.specs.declared.concerns.WriteConcern.{WriteConcern}

-- a write that names no server to acknowledge it is answered nothing
abbrev pub asks_nobody : Option Acknowledgment → Bool
asks_nobody (Some (Nodes nodes)) = nodes == 0
asks_nobody other = false

-- the server answers what became of the write
abbrev pub is_acknowledged : WriteConcern → Bool
is_acknowledged concern = not (asks_nobody concern.w)

-- a command can name the number of servers
abbrev pub may_name : Option Acknowledgment → Bool
may_name (Some (Nodes nodes)) = nat_le nodes 2147483647
may_name other = true

-- the journal is waited for
abbrev pub waits_for_journal : Option Bool → Bool
waits_for_journal (Some waits) = waits
waits_for_journal None = false

-- a server could meet it
abbrev pub is_valid : WriteConcern → Bool
is_valid concern = may_name concern.w && (is_acknowledged concern || not (waits_for_journal concern.journal))

-- a concern, else another
abbrev pub else_concern : Option WriteConcern → Option WriteConcern → Option WriteConcern
else_concern (Some concern) other = Some concern
else_concern None other = other
