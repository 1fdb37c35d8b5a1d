-- What the ends of batches tell of the caller's documents: ids and write errors by the indexes of the caller's list, the last write
-- concern error, labels, and whether some failed; batches in order; and batches that all went in.
use Rattle.std.specs.Prelude.{◌≡◌, ℕ, ◌+◌, ◌<◌, ◌≤◌, Bool, true, false, ◌&&◌, List, [], ◌∷◌, ◌++◌, map, take, drop, Option, None, Some, Result, Ok, Err}
use Rattle.std.specs.FinMap as finite
use Rattle.std.specs.List.{list_any}
use Rattle.std.specs.Option.{option_or}
use Rattle.std.specs.Ordering.{nat_cmp}
use Rattle.bson_lite.specs.declared.bson.Bson.{Bson}
use Rattle.driver_error.specs.declared.error.Error.{Error}
use Rattle.driver_error.specs.declared.kind.ErrorKind.TheVariants as kind
use Rattle.server_answers.specs.declared.results.InsertManyResult.{InsertManyResult}
use Rattle.driver_error.specs.declared.write.IndexedWriteError.{IndexedWriteError}
use Rattle.driver_error.specs.declared.write.WriteConcernError.{WriteConcernError}
use Rattle.driver_error.specs.Error.{ErrorKind, kind_of, labels_of}
use Rattle.driver_error.specs.LabelTexts.{has_label}
use Rattle.write_ops.specs.declared.own_document.OwnDocument.{OwnDocument}
use Rattle.write_ops.specs.InsertAnswers.{all_ids}
use Rattle.many_actions.specs.BatchPlans.{AllDone}
use Rattle.many_actions.specs.Batches.{BatchEnd, is_of_documents, tells_documents}
use Rattle.many_actions.specs.ManyAnswers.{count_of, listed_errors, moved_error}

-- the ids in the kind of an error; one that tells of no documents has none
abbrev pub ids_of_kind : ErrorKind → finite.FinMap nat_cmp Bson
ids_of_kind (kind.InsertMany failures) = failures.inserted_ids
ids_of_kind _ = finite.empty

-- the ids that an end tells, by the indexes of its own batch
abbrev pub ids_of_end : Result InsertManyResult Error → finite.FinMap nat_cmp Bson
ids_of_end (Ok output) = output.inserted_ids
ids_of_end (Err error) = ids_of_kind (kind_of error)

-- the write errors in the kind of an error
abbrev pub errors_of_kind : ErrorKind → List IndexedWriteError
errors_of_kind (kind.InsertMany failures) = listed_errors failures.write_errors
errors_of_kind _ = []

-- the write errors that an end tells, by the indexes of its own batch
abbrev pub errors_of_end : Result InsertManyResult Error → List IndexedWriteError
errors_of_end (Ok output) = []
errors_of_end (Err error) = errors_of_kind (kind_of error)

-- the write errors of all ends in their order, each by the index of the caller's list
abbrev pub all_errors : List BatchEnd → List IndexedWriteError
all_errors [] = []
all_errors (end ∷ ends) = map (moved_error end.first) (errors_of_end end.result) ++ all_errors ends

-- the write concern error in the kind of an error; one that tells of no documents has none
abbrev pub concern_of_kind : ErrorKind → Option WriteConcernError
concern_of_kind (kind.InsertMany failures) = failures.write_concern_error
concern_of_kind _ = None

-- the write concern error that an end tells
abbrev pub concern_of_end : Result InsertManyResult Error → Option WriteConcernError
concern_of_end (Ok output) = None
concern_of_end (Err error) = concern_of_kind (kind_of error)

-- the write concern error of the last end that tells one
abbrev pub last_concern : List BatchEnd → Option WriteConcernError
last_concern [] = None
last_concern (end ∷ ends) = option_or (last_concern ends) (concern_of_end end.result)

-- an end is an error that tells of its documents
abbrev pub tells_failures : Result InsertManyResult Error → Bool
tells_failures (Ok output) = false
tells_failures (Err error) = tells_documents (kind_of error)

-- one of the ends is such an error
abbrev pub some_failed : List BatchEnd → Bool
some_failed ends = list_any (λ (end : BatchEnd). tells_failures end.result) ends

-- an end is such an error with this label
abbrev pub tells_label : List ℕ → Result InsertManyResult Error → Bool
tells_label label (Ok output) = false
tells_label label (Err error) = tells_documents (kind_of error) && has_label (labels_of error) label

-- one of the ends is such an error with this label
abbrev pub some_labelled : List ℕ → List BatchEnd → Bool
some_labelled label ends = list_any (λ (end : BatchEnd). tells_label label end.result) ends

-- ends one behind another, from an index on: each begins at or behind where the one before it ended
abbrev pub AreInOrder : ℕ → List BatchEnd → Type 0
AreInOrder index [] = Unit {0}
AreInOrder index (end ∷ ends) = (index ≤ end.first) × AreInOrder (end.first + count_of end.statements) ends

-- an end that is one of its documents tells the id of the document which has this index in the caller's list
pub record TellsId (index : ℕ) (id : Bson) (end : BatchEnd) : Type 0 where
  pub at : ℕ
  pub within : at < count_of end.statements
  pub moved : index ≡ end.first + at
  pub told : finite.get (ids_of_end end.result) at ≡ Some id
  pub of_documents : is_of_documents end.result ≡ true

-- a batch that begins at this index went in: it is answered with the ids of its own documents, and the rest behind it is so
pub record WentIn (Later : ℕ → List OwnDocument → Type 0) (index : ℕ) (own : List OwnDocument) (end : BatchEnd) : Type 0 where
  pub begins : end.first ≡ index
  pub count : ℕ
  pub fixed : end.statements ≡ Some count
  pub answers : end.result ≡ Ok (all_ids (take count own))
  pub rest : Later (index + count) (drop count own)

-- batches one after another, from an index to the end of the documents, all went in
abbrev pub AllWentIn : ℕ → List OwnDocument → List BatchEnd → Type 0
AllWentIn index own [] = own ≡ []
AllWentIn index own (end ∷ ends) = WentIn (λ later left. AllWentIn later left ends) index own end

-- each end is Ok
abbrev pub AllOk : List BatchEnd → Type 0
AllOk ends = AllDone ends
