-- What reading a whole input and writing a whole text leave.
use Rattle.std.specs.Prelude.{◌≡◌, ℕ, ◌<◌, ◌≤◌, List, length, take, Option, Result, Ok, Err}
use Rattle.driver_link.specs.Streams.{Consumes, IsAtEnd, Appends}
use Rattle.driver_link.specs.Faults.{RoseByOne}
use Rattle.script_run.specs.declared.streams.ReadFault.{ReadFault}
use Rattle.script_run.specs.declared.streams.ReadFault.TheVariants.{Failed, TooLarge, Memory}

-- all that was left was read, and it was no more than a limit
pub record ReadToEnd (limit : ℕ) (left left_now : Option (List ℕ)) (bytes : List ℕ) : Type 0 where
  pub read : Consumes left left_now bytes
  pub ended : IsAtEnd left_now
  pub fits : length bytes ≤ limit

-- more than a limit was read
pub record ReadMore (limit : ℕ) (left left_now : Option (List ℕ)) : Type 0 where
  pub bytes : List ℕ
  pub read : Consumes left left_now bytes
  pub large : limit < length bytes

-- a read failed, and no more than a limit was read before
pub record ReadFailed (limit : ℕ) (left left_now : Option (List ℕ)) (before now : ℕ) : Type 0 where
  pub bytes : List ℕ
  pub read : Consumes left left_now bytes
  pub fits : length bytes ≤ limit
  pub rose : RoseByOne before now

-- how reading a whole input ends; the count of failed reads stands where none failed
abbrev pub EndsReading : ℕ → Option (List ℕ) → Option (List ℕ) → ℕ → ℕ → Result (List ℕ) ReadFault → Type 0
EndsReading limit left left_now before now (Ok bytes) = ReadToEnd limit left left_now bytes × (now ≡ before)
EndsReading limit left left_now before now (Err Failed) = ReadFailed limit left left_now before now
EndsReading limit left left_now before now (Err TooLarge) = ReadMore limit left left_now × (now ≡ before)
EndsReading limit left left_now before now (Err Memory) = now ≡ before

-- a front of the bytes was taken
abbrev pub TookFront : Option (List ℕ) → Option (List ℕ) → List ℕ → Type 0
TookFront old now bytes = (count : ℕ) × Appends old now (take count bytes)
