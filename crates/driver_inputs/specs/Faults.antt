-- Why values and documents are refused, one by one, and the first of such refusals in the order of the tests.
use Rattle.std.specs.Prelude.{◌≡◌, ℕ, List, [], ◌∷◌, length, Option, None, Some, Result, Ok, Err, if◌then◌else◌}
use Rattle.std.specs.declared.alloc.AllocError.{AllocError}
use Rattle.bson_lite.specs.declared.bson.Bson.{Bson}
use Rattle.bson_lite.specs.declared.bson.ObjectId.{ObjectId}
use Rattle.bson_lite.specs.declared.document.Pair.{Pair}
use Rattle.bson_lite.specs.declared.fault.EncodeFault.{EncodeFault}
use Rattle.bson_lite.specs.declared.fault.EncodeFault.TheVariants.{TooDeep, TooLong, ZeroByte}
use Rattle.bson_lite.specs.Fields.{with_id}
use Rattle.bson_lite.specs.Spelling.{refusal_within, zero_within}
use Rattle.driver_error.specs.declared.error.Error.{Error}
use Rattle.driver_error.specs.declared.kind.ErrorKind.TheVariants as kind
use Rattle.driver_error.specs.Conversions.{IsMade}
use Rattle.driver_error.specs.Error.{IsAlone}
use Rattle.driver_error.specs.LabelTexts.{no_labels}
use Rattle.driver_inputs.specs.Inputs.{is_deep, is_long}

-- a fault that is tested before one of too great a length
abbrev pub before_length : Option EncodeFault → Option EncodeFault
before_length (Some TooDeep) = Some TooDeep
before_length (Some ZeroByte) = Some ZeroByte
before_length other = Some TooLong

-- a fault that is tested before one of a zero byte
abbrev pub before_zero : Option EncodeFault → Option EncodeFault
before_zero (Some TooDeep) = Some TooDeep
before_zero other = Some ZeroByte

-- of two faults the one that is tested first
abbrev pub first_of : Option EncodeFault → Option EncodeFault → Option EncodeFault
first_of (Some TooDeep) other = Some TooDeep
first_of (Some ZeroByte) other = before_zero other
first_of (Some TooLong) other = before_length other
first_of other found = found

-- the fault of a value by itself
abbrev pub value_fault : Bson → Option EncodeFault
value_fault value = if is_deep value then Some TooDeep else (if zero_within value then Some ZeroByte else None)

-- the first fault of values
abbrev pub values_fault : List Bson → Option EncodeFault
values_fault [] = None
values_fault (value ∷ values) = first_of (value_fault value) (values_fault values)

-- the fault of a document that is too long
abbrev pub length_fault : List (Pair Bson) → Option EncodeFault
length_fault document = if is_long document then Some TooLong else None

-- an argument is refused with this message, or there is no memory for the error
pub record IsArgumentError (why : Option (List ℕ)) (error : Error) : Type 0 where
  pub text : List ℕ
  pub refused : why ≡ Some text
  pub is : IsMade (kind.InvalidArgument text) no_labels error

-- an argument is not refused, or there is an error
abbrev pub JudgesArgument : Option (List ℕ) → Option Error → Type 0
JudgesArgument why None = why ≡ None
JudgesArgument why (Some error) = IsArgumentError why error

-- why a caller's document is refused by itself once it has an id, or none where it is not, whichever id that is
abbrev pub RefusesDocument : List (Pair Bson) → Option EncodeFault → Type 0
RefusesDocument document why = (id : ObjectId) → length id.bytes ≡ 12 → refusal_within 96 (with_id id document) ≡ why

-- the error of a fault that was looked for, or of want of memory; none where there is no fault
abbrev pub ErrorOfFault : Result (Option EncodeFault) AllocError → Option Error → Type 0
ErrorOfFault (Ok None) result = result ≡ None
ErrorOfFault (Ok (Some fault)) None = ⊥
ErrorOfFault (Ok (Some fault)) (Some error) = IsAlone (kind.BsonSerialization fault) no_labels error
ErrorOfFault (Err refused) None = ⊥
ErrorOfFault (Err refused) (Some error) = IsAlone kind.Memory no_labels error
