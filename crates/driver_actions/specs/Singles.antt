-- A single write: an operation whose error takes the form of a single write's.
use Rattle.std.specs.Prelude.{◌≡◌, Result, Ok, Err}
use Rattle.driver_error.specs.declared.error.Error.{Error}
use Rattle.driver_error.specs.Conversions.{Converts}

-- an Ok stays, and an error of many inserts becomes one of a single write
abbrev pub BecomesSingle : {A : Type 0} → Result A Error → Result A Error → Type 0
BecomesSingle (Ok output) result = result ≡ Ok output
BecomesSingle (Err error) (Ok output) = ⊥
BecomesSingle (Err error) (Err now) = Converts error now
