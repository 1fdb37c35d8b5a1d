-- An error and those below it: its source, that one's source, and so on.
use Rattle.std.specs.Prelude.{ℕ, ℤ, suc, zero, Bool, List, [], ◌∷◌, Option, None, Some}
use Rattle.std.specs.List.{list_any}
use Rattle.driver_error.specs.declared.error.Error.{Error, fold-Error}
use Rattle.driver_error.specs.Error.{kind_of, labels_of, source_of}
use Rattle.driver_error.specs.Kinds.{own_code}
use Rattle.driver_error.specs.LabelTexts.{has_label}

-- one more than below, or none
abbrev pub one_more : Option ℕ → ℕ
one_more None = 0
one_more (Some below) = suc below

-- how many errors stand below this one
abbrev pub depth : Error → ℕ
depth = fold-Error ℕ (λ layer. one_more layer.source)

-- what a list of the errors below is, of the source
abbrev pub of_source : (Error → List Error) → Option Error → List Error
of_source below None = []
of_source below (Some source) = below source

-- an error and so many of those below it
abbrev pub down : ℕ → Error → List Error
down zero error = error ∷ []
down (suc count) error = error ∷ of_source (down count) (source_of error)

-- an error and all those below it
unfoldable pub chain : Error → List Error
chain error = down (depth error) error

-- this error or one below it has the label
abbrev pub contains_label : List ℕ → Error → Bool
contains_label label error = list_any (λ one. has_label (labels_of one) label) (chain error)

-- the first of two
abbrev pub first_code : Option ℤ → Option ℤ → Option ℤ
first_code None later = later
first_code (Some code) later = Some code

-- the first code of these
abbrev pub first_of : List Error → Option ℤ
first_of [] = None
first_of (error ∷ errors) = first_code (own_code (kind_of error)) (first_of errors)

-- the code of an error: its own, else its source's
abbrev pub sdam_code : Error → Option ℤ
sdam_code error = first_of (chain error)
