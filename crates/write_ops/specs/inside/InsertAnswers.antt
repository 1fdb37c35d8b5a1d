-- The parts of reading the reply to an insert, as its functions say them.
use Rattle.std.specs.Prelude.{◌≡◌, ℕ, Bool, true, ◌&&◌, not, nat_eq, List, [], ◌∷◌, map, ◌⊎◌, Result, Ok, Err}
use Rattle.std.specs.FinMap as finite
use Rattle.std.specs.List.{list_any}
use Rattle.std.specs.Ordering.{nat_cmp}
use Rattle.bson_lite.specs.declared.bson.Bson.{Bson}
use Rattle.driver_error.specs.declared.error.Error.{Error}
use Rattle.driver_error.specs.declared.kind.ErrorKind.TheVariants as kind
use Rattle.server_answers.specs.declared.results.InsertManyResult.{InsertManyResult}
use Rattle.driver_error.specs.declared.write.IndexedWriteError.{IndexedWriteError}
use Rattle.driver_error.specs.declared.write.InsertManyError.{InsertManyError}
use Rattle.driver_error.specs.Error.{kind_of}
use Rattle.write_ops.specs.declared.insert.InsertReply.{InsertReply}
use Rattle.write_ops.specs.declared.own_document.OwnDocument.{OwnDocument}
use Rattle.write_ops.specs.InsertAnswers.{AnswersFound, errors_there}

-- the indexes of write errors
abbrev pub indexes_of : List IndexedWriteError → List ℕ
indexes_of errors = map (λ error. error.index) errors

-- a number is one of these
abbrev pub stands_in : List ℕ → ℕ → Bool
stands_in numbers number = list_any (λ other. nat_eq other number) numbers

-- no number stands twice
unfoldable pub distinct : List ℕ → Bool
distinct [] = true
distinct (number ∷ numbers) = not (stands_in numbers number) && distinct numbers

-- the failures that a reply tells of, with these ids
abbrev pub failures_with : finite.FinMap nat_cmp Bson → InsertReply → InsertManyError
failures_with ids reply = record { write_errors = errors_there reply.errors; write_concern_error = reply.concern; inserted_ids = ids }

-- the fields of a reply are answered so, unless memory runs out
abbrev pub AnswersFields : Bool → List OwnDocument → InsertReply → Result InsertManyResult Error → Type 0
AnswersFields ordered documents reply (Ok output) = AnswersFound ordered documents reply (Ok output)
AnswersFields ordered documents reply (Err error) = (kind_of error ≡ kind.Memory) ⊎ AnswersFound ordered documents reply (Err error)
