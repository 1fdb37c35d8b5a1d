-- What a send that met its item puts into a server, and what it is answered.
use Rattle.std.specs.Prelude.{ℕ, List, [], ◌∷◌, ◌++◌, Option, None, Some}
use Rattle.bson_lite.specs.Spelling.{Spells}
use Rattle.driver_error.specs.declared.kind.IoKind.TheVariants.{ConnectionReset}
use Rattle.link_faults.specs.declared.fault.Answered.{Answered}
use Rattle.link_faults.specs.declared.fault.Answered.TheVariants as answer
use Rattle.link_faults.specs.declared.fault.LinkCall.TheVariants.{Exchange}
use Rattle.link_faults.specs.declared.fault.LinkFault.TheVariants.{Io}
use Rattle.driver_link.specs.declared.machine.Server.{Server}
use Rattle.driver_link.specs.Cursors.{Reply}
use Rattle.model_effects.specs.Changes.{changed}
use Rattle.model_server.specs.declared.meeting.Meeting.{Meeting}
use Rattle.model_server.specs.declared.meeting.Meeting.TheVariants.{Comes, Waits}

-- a meeting put into a server that has the send in its trace
unfoldable pub met_by : Meeting → Server → Server
met_by (Comes answered effect change) server = changed effect change server
met_by (Waits late) server = record server { waiting = server.waiting ++ Some late ∷ [] }

-- the reply of a meeting, or none where the connection is reset
abbrev pub reply_of : Meeting → Option Reply
reply_of (Comes answered effect change) = answered
reply_of (Waits late) = None

-- bytes spell a reply, and there are none where there is no reply
abbrev pub IsSpelled : Option Reply → Option (List ℕ) → Type 0
IsSpelled None None = Unit {0}
IsSpelled None (Some bytes) = ⊥
IsSpelled (Some document) None = ⊥
IsSpelled (Some document) (Some bytes) = Spells document bytes

-- how an exchange is noted: by the bytes of its reply, else as the reset of its connection
abbrev pub note_of : Option (List ℕ) → Answered
note_of (Some bytes) = answer.Reply bytes
note_of None = answer.Fault Exchange (Io ConnectionReset) []
