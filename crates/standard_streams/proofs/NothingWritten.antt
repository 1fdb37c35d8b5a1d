-- A writer that took nothing holds what it held.
use Rattle.std.proofs.Common.{ℕ, List, [], Option, None, Some, append-nil, ◌∙◌}
use Rattle.std.specs.Io.KnownBytes.{Appends, Keeps}

-- an empty piece more is none
pub nothing_written : (old new : Option (List ℕ)) → Appends old new [] → Keeps old new
nothing_written None new appends = appends
nothing_written (Some held) None appends = appends
nothing_written (Some held) (Some now) appends = appends ∙ append-nil held
