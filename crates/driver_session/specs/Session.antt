-- What a lent session holds, and its next number.
use Rattle.std.specs.Prelude.{◌≡◌, ◌≢◌, ℕ, ℤ, pos, ◌+ℤ◌, ◌≤ℤ◌, Bool, List, codes, ◌⊎◌, Result, Ok, Err}
use Rattle.driver_error.specs.declared.error.Error.{Error}
use Rattle.driver_error.specs.declared.kind.ErrorKind.TheVariants.{Internal, Memory}
use Rattle.driver_error.specs.Error.{IsAlone}
use Rattle.driver_error.specs.LabelTexts.{no_labels}

-- an id, the last transaction number that was used, the time of the last use in milliseconds, and
-- whether the network failed under it
pub record Session : Type 0 where
  pub id : List ℕ
  pub number : ℤ
  pub last_use : ℕ
  pub dirty : Bool

-- the greatest transaction number
abbrev pub last_number : ℤ
last_number = pos 9223372036854775807

-- what the error of a session says whose number is the last one
unfoldable pub number_at_its_end : List ℕ
number_at_its_end = codes "transaction number is at its end"

-- the session's number is the greatest, and the error says so and nothing else
pub record IsAtItsEnd (session : Session) (error : Error) : Type 0 where
  pub last : session.number ≡ last_number
  pub is : IsAlone (Internal number_at_its_end) no_labels error

-- a session gives its next number, which it then has, unless its number is the greatest; an error says so, or that there was no
-- memory to say it, and changes nothing
abbrev pub Numbers : Session → Session → Result ℤ Error → Type 0
Numbers old now (Ok number) = (old.number ≢ last_number) × (number ≡ (old.number +ℤ pos 1)) × (now ≡ record old { number = number })
Numbers old now (Err error) = (now ≡ old) × (old.number ≡ last_number) × (IsAlone Memory no_labels error ⊎ IsAtItsEnd old error)

-- the session has its next number
abbrev pub Raises : Session → Session → Type 0
Raises session back = back.number ≡ (session.number +ℤ pos 1)

-- the session has its number still, or its next one
abbrev pub MayRaise : Session → Session → Type 0
MayRaise session back = (session.number ≤ℤ back.number) × (back.number ≤ℤ (session.number +ℤ pos 1))
