-- What one error becomes in another form.
use Rattle.std.specs.Prelude.{◌≡◌, ℕ, List, [], ◌∷◌, ◌++◌, codes, Option, None, Some, ◌⊎◌}
use Rattle.driver_error.specs.declared.error.Error.{Error}
use Rattle.driver_error.specs.declared.kind.ErrorKind.TheVariants as kind
use Rattle.driver_error.specs.declared.write.IndexedWriteError.{IndexedWriteError}
use Rattle.driver_error.specs.declared.write.InsertManyError.{InsertManyError}
use Rattle.driver_error.specs.declared.write.WriteConcernError.{WriteConcernError}
use Rattle.driver_error.specs.declared.write.WriteError.{WriteError}
use Rattle.driver_error.specs.declared.write.WriteFailure.{WriteFailure}
use Rattle.driver_error.specs.declared.write.WriteFailure.TheVariants as failure
use Rattle.driver_error.specs.Error.{ErrorKind, IsAlone, kind_of, labels_of}
use Rattle.driver_error.specs.Kinds.{inner_labels}
use Rattle.driver_error.specs.LabelTexts.{LabelSet, no_labels, label_set}

-- an error with this kind and these labels and nothing else, or want of memory
abbrev pub IsMade : ErrorKind → LabelSet → Error → Type 0
IsMade why labels error = IsAlone why labels error ⊎ IsAlone kind.Memory no_labels error

-- an error of this kind, with these labels and those of a write concern error inside
abbrev pub IsNew : ErrorKind → List (List ℕ) → Error → Type 0
IsNew why labels error = IsMade why (label_set (inner_labels why ++ labels)) error

-- a write error without its index
abbrev pub without_index : IndexedWriteError → WriteError
without_index error = record { code = error.code; code_name = error.code_name; message = error.message; details = error.details }

-- the failure of a write concern, if there is one
abbrev pub concern_failure : Option WriteConcernError → Option WriteFailure
concern_failure None = None
concern_failure (Some concern) = Some (failure.WriteConcernError concern)

-- the first of the write errors, else the write concern error
abbrev pub first_failure : Option (List IndexedWriteError) → Option WriteConcernError → Option WriteFailure
first_failure None concern = concern_failure concern
first_failure (Some []) concern = concern_failure concern
first_failure (Some (error ∷ errors)) concern = Some (failure.WriteError (without_index error))

-- why one of many inserts failed
abbrev pub single_failure : InsertManyError → Option WriteFailure
single_failure error = first_failure error.write_errors error.write_concern_error

-- the message where nothing failed
unfoldable pub no_failure_text : List ℕ
no_failure_text = codes "error missing write errors and write concern errors"

-- an error of a single write with these labels, or of a reply that tells of no failure
abbrev pub IsSingle : Option WriteFailure → LabelSet → Error → Type 0
IsSingle (Some failure) labels error = IsAlone (kind.Write failure) labels error
IsSingle None labels error = IsMade (kind.InvalidResponse no_failure_text) no_labels error

-- an error of many inserts becomes one of a single write, and all others stay
abbrev pub ConvertsKind : ErrorKind → Error → Error → Type 0
ConvertsKind (kind.InsertMany failures) error now = IsSingle (single_failure failures) (labels_of error) now
ConvertsKind _ error now = now ≡ error

abbrev pub Converts : Error → Error → Type 0
Converts error now = ConvertsKind (kind_of error) error now
