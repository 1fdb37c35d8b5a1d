-- What an insert of many documents is answered with: the fold of the ends of its batches.
use Rattle.std.specs.Prelude.{◌≡◌, ℕ, zero, suc, ◌+◌, true, false, List, [], ◌∷◌, ◌++◌, map, Option, None, Some, Result, Ok, Err, ◌⊎◌}
use Rattle.std.specs.FinMap as finite
use Rattle.std.specs.Ordering.{nat_cmp}
use Rattle.bson_lite.specs.declared.bson.Bson.{Bson}
use Rattle.driver_error.specs.declared.error.Error.{Error}
use Rattle.driver_error.specs.declared.kind.ErrorKind.TheVariants as kind
use Rattle.server_answers.specs.declared.results.InsertManyResult.{InsertManyResult}
use Rattle.driver_error.specs.declared.write.IndexedWriteError.{IndexedWriteError}
use Rattle.driver_error.specs.declared.write.InsertManyError.{InsertManyError}
use Rattle.driver_error.specs.declared.write.WriteConcernError.{WriteConcernError}
use Rattle.driver_error.specs.Conversions.{IsMade}
use Rattle.driver_error.specs.Error.{ErrorKind, kind_of, labels_of}
use Rattle.driver_error.specs.LabelTexts.{LabelSet, in_order, no_labels, with_labels}
use Rattle.write_ops.specs.InsertAnswers.{errors_there}
use Rattle.write_ops.specs.InsertSpec.{id_beside}
use Rattle.many_actions.specs.declared.gathered.Gathered.{Gathered}
use Rattle.many_actions.specs.Batches.{BatchEnd, is_of_documents}

-- nothing was told before the first batch. What batches told so far are the ids of the documents that went in and the write errors,
-- under the indexes of the caller's list, the last write concern error, all labels, and whether one of them told of a failure
abbrev pub nothing_gathered : Gathered
nothing_gathered = record { inserted_ids = finite.empty; errors = []; concern = None; labels = no_labels; failed = false }

-- the ids of so many documents of a batch, put under the indexes of the caller's list, where the first of them has this one
abbrev pub put_ids : ℕ → ℕ → finite.FinMap nat_cmp Bson → finite.FinMap nat_cmp Bson → finite.FinMap nat_cmp Bson
put_ids first zero ids all = all
put_ids first (suc count) ids all = id_beside (first + count) (finite.get ids count) (put_ids first count ids all)

-- a write error under the index of the caller's list
abbrev pub moved_error : ℕ → IndexedWriteError → IndexedWriteError
moved_error first error = record error { index = first + error.index }

-- the write errors that are told, if there are some
abbrev pub listed_errors : Option (List IndexedWriteError) → List IndexedWriteError
listed_errors None = []
listed_errors (Some errors) = errors

-- a write concern error, else the one before
abbrev pub later_concern : Option WriteConcernError → Option WriteConcernError → Option WriteConcernError
later_concern before None = before
later_concern before (Some concern) = Some concern

-- how many documents a batch has, none where that was not fixed
abbrev pub count_of : Option ℕ → ℕ
count_of None = 0
count_of (Some count) = count

-- the failures of a batch beside what was told before
abbrev pub with_failures : Gathered → ℕ → ℕ → LabelSet → InsertManyError → Gathered
with_failures so_far first count labels failures = record {
  inserted_ids = put_ids first count failures.inserted_ids so_far.inserted_ids;
  errors = so_far.errors ++ map (moved_error first) (listed_errors failures.write_errors);
  concern = later_concern so_far.concern failures.write_concern_error;
  labels = with_labels so_far.labels (in_order labels);
  failed = true;
}

-- the same by the kind of an error; one that tells of no documents adds nothing
abbrev pub with_kind : Gathered → ℕ → ℕ → LabelSet → ErrorKind → Gathered
with_kind so_far first count labels (kind.InsertMany failures) = with_failures so_far first count labels failures
with_kind so_far first count labels _ = so_far

-- what a batch came to, of so many documents, beside what was told before
abbrev pub with_result : Gathered → ℕ → ℕ → Result InsertManyResult Error → Gathered
with_result so_far first count (Ok output) = record so_far { inserted_ids = put_ids first count output.inserted_ids so_far.inserted_ids }
with_result so_far first count (Err error) = with_kind so_far first count (labels_of error) (kind_of error)

-- the fold of the ends of batches
abbrev pub gathered : Gathered → List BatchEnd → Gathered
gathered so_far [] = so_far
gathered so_far (end ∷ ends) = gathered (with_result so_far end.first (count_of end.statements) end.result) ends

-- the failures of a call, as batches told them
abbrev pub gathered_failures : Gathered → InsertManyError
gathered_failures told = record { write_errors = errors_there told.errors; write_concern_error = told.concern; inserted_ids = told.inserted_ids }

-- what was told is answered: the ids of all documents, or an error of the failures with all labels, and nothing else in it
abbrev pub TellsGathered : Gathered → Result InsertManyResult Error → Type 0
TellsGathered told (Ok output) = (told.failed ≡ false) × (output ≡ record { inserted_ids = told.inserted_ids })
TellsGathered told (Err error) = (told.failed ≡ true) × IsMade (kind.InsertMany (gathered_failures told)) told.labels error

-- each end is one of documents
abbrev pub AllOfDocuments : List BatchEnd → Type 0
AllOfDocuments [] = Unit {0}
AllOfDocuments (end ∷ ends) = (is_of_documents end.result ≡ true) × AllOfDocuments ends

-- the last end is this other error
abbrev pub EndsAlone : List BatchEnd → Error → Type 0
EndsAlone [] error = ⊥
EndsAlone (end ∷ []) error = (end.result ≡ Err error) × (is_of_documents end.result ≡ false)
EndsAlone (end ∷ ends) error = EndsAlone ends error

-- a call is answered by the ends of its batches: with an error that tells of no documents alone, which was the last, else with what
-- they told together; or memory ran out
abbrev pub AnswersMany : List BatchEnd → Result InsertManyResult Error → Type 0
AnswersMany ends (Ok output) = AllOfDocuments ends × TellsGathered (gathered nothing_gathered ends) (Ok output)
AnswersMany ends (Err error) =
    (kind_of error ≡ kind.Memory) ⊎ (EndsAlone ends error ⊎ (AllOfDocuments ends × TellsGathered (gathered nothing_gathered ends) (Err error)))
