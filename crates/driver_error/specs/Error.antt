-- What an error holds, read one level at a time.
use Rattle.std.specs.Prelude.{◌≡◌, ℕ, ℤ, List, Option, None}
use Rattle.bson_lite.specs.declared.fault.EncodeFault.{EncodeFault}
use Rattle.bson_lite.specs.declared.fault.EncodeFault.TheVariants as fault
use Rattle.driver_error.specs.declared.error.Error.{Error, out-Error, roll-Error}
use Rattle.driver_error.specs.declared.kind.ErrorKind as declared
use Rattle.driver_error.specs.declared.kind.ErrorKind.TheVariants as kind
use Rattle.driver_error.specs.LabelTexts.{LabelSet}

-- the kind of an error; an error of a file among them holds errors
abbrev pub ErrorKind : Type 0
ErrorKind = declared.ErrorKind Error

abbrev pub kind_of : Error → ErrorKind
kind_of error = (out-Error error).kind

-- the labels of the error alone
abbrev pub labels_of : Error → LabelSet
labels_of error = (out-Error error).labels

abbrev pub wire_version_of : Error → Option ℤ
wire_version_of error = (out-Error error).wire_version

-- the error that caused it
abbrev pub source_of : Error → Option Error
source_of error = (out-Error error).source

-- the bytes of the reply that spelled it
abbrev pub response_of : Error → Option (List ℕ)
response_of error = (out-Error error).server_response

-- an error with this kind and these labels, and nothing else
pub record IsAlone (kind : ErrorKind) (labels : LabelSet) (error : Error) : Type 0 where
  pub kind_is : kind_of error ≡ kind
  pub labels_are : labels_of error ≡ labels
  pub no_version : wire_version_of error ≡ None
  pub no_source : source_of error ≡ None
  pub no_response : response_of error ≡ None

-- the same error but for its labels
pub record KeepsAllButLabels (old now : Error) : Type 0 where
  pub kind : kind_of now ≡ kind_of old
  pub version : wire_version_of now ≡ wire_version_of old
  pub source : source_of now ≡ source_of old
  pub response : response_of now ≡ response_of old

-- the same error with this source
pub record HasSource (source : Option Error) (old now : Error) : Type 0 where
  pub kind : kind_of now ≡ kind_of old
  pub labels : labels_of now ≡ labels_of old
  pub version : wire_version_of now ≡ wire_version_of old
  pub source_is : source_of now ≡ source
  pub response : response_of now ≡ response_of old

-- the same error of a connection with this wire version
pub record HasVersion (version : Option ℤ) (old now : Error) : Type 0 where
  pub kind : kind_of now ≡ kind_of old
  pub labels : labels_of now ≡ labels_of old
  pub version_is : wire_version_of now ≡ version
  pub source : source_of now ≡ source_of old
  pub response : response_of now ≡ response_of old

-- the same error as this reply spelled it
pub record HasResponse (response : Option (List ℕ)) (old now : Error) : Type 0 where
  pub kind : kind_of now ≡ kind_of old
  pub labels : labels_of now ≡ labels_of old
  pub version : wire_version_of now ≡ wire_version_of old
  pub source : source_of now ≡ source_of old
  pub response_is : response_of now ≡ response

-- the same error of another kind
unfoldable pub with_kind : ErrorKind → Error → Error
with_kind why error = roll-Error (record (out-Error error) { kind = why })

-- the kind of an error that a fault of encoding becomes
abbrev pub kind_of_fault : EncodeFault → ErrorKind
kind_of_fault fault.Memory = kind.Memory
kind_of_fault fault.TooDeep = kind.BsonSerialization fault.TooDeep
kind_of_fault fault.ZeroByte = kind.BsonSerialization fault.ZeroByte
kind_of_fault fault.TooLong = kind.BsonSerialization fault.TooLong
