-- The places of a trace are of calls before a number.
use Rattle.std.specs.Prelude.{◌≡◌, ℕ, ◌<◌, List, Some, slice_get}
use Rattle.driver_link.specs.declared.machine.PlacedWrite.{PlacedWrite}
use Rattle.driver_link.specs.declared.machine.Send.{Send}
use Rattle.driver_link.specs.Cases.{writes_of}
use Rattle.driver_link.specs.Settled.{Has}

-- all places of a trace are of calls before this one
abbrev pub AllBelow : ℕ → List Send → Type 0
AllBelow made trace = (send : Send) (at : ℕ) (write : PlacedWrite) → Has trace send → slice_get (writes_of send) at ≡ Some write → write.place.call < made
