-- An insert of many documents as batches one after another: what each is, and after which end the next is begun.
use Rattle.std.specs.Prelude.{ℕ, Bool, true, false, List, None, Result, Ok, Err, if◌then◌else◌}
use Rattle.driver_error.specs.declared.error.Error.{Error}
use Rattle.driver_error.specs.declared.kind.ErrorKind.TheVariants as kind
use Rattle.server_answers.specs.declared.results.InsertManyResult.{InsertManyResult}
use Rattle.driver_error.specs.Error.{ErrorKind, kind_of}
use Rattle.driver_options.specs.declared.write_options.InsertManyOptions.{InsertManyOptions}
use Rattle.driver_ops.specs.declared.target.OperationTarget.{OperationTarget}
use Rattle.driver_ops.specs.Inserts.{insert_is_ordered}
use Rattle.write_ops.specs.declared.own_document.OwnDocument.{OwnDocument}
use Rattle.write_ops.specs.InsertSpec.{insert_spec, statements_fixed}
use Rattle.driver_attempt.specs.Moment.{Moment}
use Rattle.many_actions.specs.BatchPlans.{BatchPlan, EndsBehind, GoesOnBehind, MakesAllPlanned, MakesPlanned, PlannedEnd}
pub use Rattle.many_actions.specs.BatchPlans.{places_from, rest_of}

-- how a batch ended: the index of its first document in the caller's list, how many documents its command has, where that was
-- fixed, and what its operation came to
abbrev pub BatchEnd : Type 0
BatchEnd = PlannedEnd InsertManyResult

-- a kind of error tells of the documents of a batch: some failed, or their write concern was not met
abbrev pub tells_documents : ErrorKind → Bool
tells_documents (kind.InsertMany failures) = true
tells_documents _ = false

-- an end is one of its documents: all went in, or the error tells of them
abbrev pub is_of_documents : Result InsertManyResult Error → Bool
is_of_documents (Ok output) = true
is_of_documents (Err error) = tells_documents (kind_of error)

-- an end after which the next batch is begun: all went in, or the insert is unordered and the error tells of its documents
abbrev pub goes_on : Bool → Result InsertManyResult Error → Bool
goes_on ordered (Ok output) = true
goes_on ordered (Err error) = if ordered then false else tells_documents (kind_of error)

-- a batch is the insert of the documents that are left; of one document a command has one statement, whether it was built or not
abbrev pub insert_plan : OperationTarget → InsertManyOptions → BatchPlan OwnDocument InsertManyResult
insert_plan target options = record {
  spec = λ index own. insert_spec target index own options;
  fixed = λ own. statements_fixed own None;
  goes_on = goes_on (insert_is_ordered options);
}

-- the insert of the documents that remain of a caller's list, of which there are some, was executed, with two sends of one command
-- at most, and ended with its cause: of the first build that is Ok depends how many of them are in it
abbrev pub MakesBatch : OperationTarget → InsertManyOptions → ℕ → ℕ → List OwnDocument → Moment → Moment → BatchEnd → Type 0
MakesBatch target options call index own before now end = MakesPlanned (insert_plan target options) call index own before now end

-- the rest of a call was done: the batch told how many documents it has, and what remains behind them is so
abbrev pub GoesOn : (ℕ → List OwnDocument → Type 0) → Bool → ℕ → List OwnDocument → BatchEnd → Type 0
GoesOn Rest ordered index own end = GoesOnBehind (goes_on ordered) Rest index own end

-- no further batch was begun
abbrev pub StopsBehind : Bool → List BatchEnd → Moment → Moment → BatchEnd → Type 0
StopsBehind ordered ends mid now end = EndsBehind (goes_on ordered) ends mid now end

-- batches one after another, each begun at the first document that is left and on what the one before left, as long as there are
-- documents and the batch before lets it go on; memory may run out between two of them
abbrev pub MakesBatches : Type 0 → OperationTarget → InsertManyOptions → ℕ → ℕ → List OwnDocument → List BatchEnd → Moment → Moment → Type 0
MakesBatches short target options call index own ends before now = MakesAllPlanned short (insert_plan target options) call index own ends before now
