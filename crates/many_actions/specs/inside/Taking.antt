-- What it says that the end of a batch was taken beside those before it, or was not, and that what was told is answered.
use Rattle.std.specs.Prelude.{◌≡◌, ℕ, true, false, Result, Ok, Err, ◌⊎◌}
use Rattle.driver_error.specs.declared.error.Error.{Error}
use Rattle.driver_error.specs.declared.kind.ErrorKind.TheVariants as kind
use Rattle.server_answers.specs.declared.results.InsertManyResult.{InsertManyResult}
use Rattle.driver_error.specs.Conversions.{IsNew}
use Rattle.driver_error.specs.Error.{IsAlone}
use Rattle.driver_error.specs.LabelTexts.{in_order, no_labels}
use Rattle.many_actions.specs.declared.gathered.Gathered.{Gathered}
use Rattle.many_actions.specs.Batches.{is_of_documents}
use Rattle.many_actions.specs.ManyAnswers.{TellsGathered, gathered_failures, with_result}

-- the end of a batch of so many documents was taken, and it is one of its documents
abbrev pub Takes : Gathered → Gathered → ℕ → ℕ → Result InsertManyResult Error → Type 0
Takes before now first count end = (now ≡ with_result before first count end) × (is_of_documents end ≡ true)

-- it was not: there was no memory, and the error tells of nothing else, or it is this error, which tells of no documents
abbrev pub StopsWith : Result InsertManyResult Error → Error → Type 0
StopsWith end error = IsAlone kind.Memory no_labels error ⊎ ((end ≡ Err error) × (is_of_documents end ≡ false))

-- what was told is answered, where an error has the labels that were told and those of the write concern error inside
abbrev pub AnswersTold : Gathered → Result InsertManyResult Error → Type 0
AnswersTold told (Ok output) = TellsGathered told (Ok output)
AnswersTold told (Err error) = (told.failed ≡ true) × IsNew (kind.InsertMany (gathered_failures told)) (in_order told.labels) error
