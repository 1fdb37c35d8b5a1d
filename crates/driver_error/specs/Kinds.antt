-- What the kind of an error holds for its error.
use Rattle.std.specs.Prelude.{ℕ, ℤ, List, [], Option, None, Some}
use Rattle.driver_error.specs.declared.kind.ErrorKind.TheVariants as kind
use Rattle.driver_error.specs.declared.write.WriteConcernError.{WriteConcernError}
use Rattle.driver_error.specs.declared.write.WriteFailure.{WriteFailure}
use Rattle.driver_error.specs.declared.write.WriteFailure.TheVariants as failure
use Rattle.driver_error.specs.Error.{ErrorKind}

-- the write concern error that a single write failed of
abbrev pub concern_of_failure : WriteFailure → Option WriteConcernError
concern_of_failure (failure.WriteConcernError concern) = Some concern
concern_of_failure (failure.WriteError error) = None

-- the write concern error inside an insert of many documents or a single write
abbrev pub concern_error_of : ErrorKind → Option WriteConcernError
concern_error_of (kind.InsertMany error) = error.write_concern_error
concern_error_of (kind.Write failure) = concern_of_failure failure
concern_error_of _ = None

abbrev pub labels_of_concern : Option WriteConcernError → List (List ℕ)
labels_of_concern None = []
labels_of_concern (Some concern) = concern.labels

-- the labels of that write concern error
abbrev pub inner_labels : ErrorKind → List (List ℕ)
inner_labels why = labels_of_concern (concern_error_of why)

abbrev pub code_of_concern : Option WriteConcernError → Option ℤ
code_of_concern None = None
code_of_concern (Some concern) = Some concern.code

-- the code of a command error or of that write concern error; codes of write errors never count
abbrev pub own_code : ErrorKind → Option ℤ
own_code (kind.Command error) = Some error.code
own_code why = code_of_concern (concern_error_of why)

-- the backoff in milliseconds that came with a command error
abbrev pub backoff_of : ErrorKind → Option ℕ
backoff_of (kind.Command error) = error.base_backoff
backoff_of _ = None

-- the caller's own text
abbrev pub custom_text : ErrorKind → Option (List ℕ)
custom_text (kind.Custom text) = Some text
custom_text _ = None
