-- The cases of this crate as those of the machine's definitions.
use Rattle.std.specs.Prelude.{Bool, true, false, List}
use Rattle.driver_link.specs.Cases.{Case, too_old, outside, gathers, commits, aborts, of_cursor, nothing, denied}
use Rattle.driver_link.specs.declared.machine.Entry.{Entry}
use Rattle.model_effects.specs.declared.cases.Case.{Case as Met}
use Rattle.model_effects.specs.declared.cases.Case.TheVariants as met

-- a case with the entries that the transaction has gathered
abbrev pub seen : Met → List Entry → Case
seen met.TooOld entries = too_old
seen met.Outside entries = outside
seen met.Gathers entries = gathers entries
seen met.Commits entries = commits entries
seen met.Aborts entries = aborts
seen met.OfCursor entries = of_cursor
seen met.Nothing entries = nothing
seen met.Denied entries = denied

-- the number is below the greatest of its session
abbrev pub is_too_old : Met → Bool
is_too_old met.TooOld = true
is_too_old other = false

-- statements run outside transactions
abbrev pub is_outside : Met → Bool
is_outside met.Outside = true
is_outside other = false
