-- The write errors that were read in the machine's own reply to a bulk write, and in its pages, are those of statements that failed.
use Rattle.std.proofs.Common.{◌≡◌, ℕ, ◌+◌, List, [], ◌∷◌, refl, sym, ap, ◌∙◌, inl, inr}
use Rattle.std.specs.Prelude.{ℤ, Option, Some, ◌⊎◌, slice_get}
use Rattle.std.specs.FinMap as finite
use Rattle.std.specs.Ordering.{nat_cmp}
use Rattle.bson_lite.specs.declared.bson.Bson.{Bson}
use Rattle.driver_error.specs.declared.error.Error.{Error}
use Rattle.driver_error.specs.declared.kind.ErrorKind.TheVariants as kind
use Rattle.driver_error.specs.declared.write.BulkWriteError.{BulkWriteError}
use Rattle.driver_error.specs.declared.write.WriteError.{WriteError}
use Rattle.driver_error.specs.Error.{kind_of}
use Rattle.driver_link.specs.declared.machine.PlacedWrite.{PlacedWrite}
use Rattle.driver_link.specs.declared.machine.Statement.{Statement}
use Rattle.driver_link.specs.declared.machine.Statement.TheVariants.{Kept, Ran, Failed}
use Rattle.driver_link.specs.Settled.{Has}
use Rattle.driver_link.proofs.Lists.{none_is_some}
use Rattle.bulk_ops.specs.declared.bulk_reply.OpOutcome.{OpOutcome}
use Rattle.bulk_ops.specs.declared.bulk_reply.OpOutcome.TheVariants as came
use Rattle.bulk_ops.specs.declared.bulk_reply.OpResult.{OpResult}
use Rattle.bulk_ops.specs.BulkAnswers.{BulkBatch, with_error, with_errors}
use Rattle.bulk_ops.specs.lawful.ResultRows.{IsRowRead, error_spelled}
use Rattle.bulk_ops.specs.lawful.ToldResults.{AreWritten}
use Rattle.bulk_ops.proofs.FailedReads.{TellsRead, failures_are}
use Rattle.bulk_ops.proofs.PartialTold.{insert_either}

-- a write error at an index is that of the statement at a position which failed, the first statement at an index
pub record IsOfFailed (first : ℕ) (writes : List PlacedWrite) (done : List Statement) (index : ℕ) (error : WriteError) : Type 0 where
  pub at : ℕ
  pub write : PlacedWrite
  pub code : ℤ
  pub in_writes : slice_get writes at ≡ Some write
  pub in_done : slice_get done at ≡ Some (Failed code)
  pub index_is : index ≡ first + at
  pub is : error ≡ error_spelled code

-- a write error at an index is that of a result
record IsOfResult (first : ℕ) (results : List OpResult) (index : ℕ) (error : WriteError) : Type 0 where
  told : OpResult
  has : Has results told
  index_is : index ≡ first + told.index
  failed : told.outcome ≡ came.Failed error

-- what is found with that of one result is this, or was there before
one_error : (at : ℕ) (outcome : OpOutcome) (errors : finite.FinMap nat_cmp WriteError) (index : ℕ) (error : WriteError) → finite.get (with_error at outcome errors) index ≡ Some error
    → ((index ≡ at) × (outcome ≡ came.Failed error)) ⊎ (finite.get errors index ≡ Some error)
one_error at (came.Failed found) errors index error is = elim (insert_either errors at found index error is) [
  | inl here ↦ inl (here.0, ap (λ (e : WriteError). came.Failed e) here.1)
  | inr before ↦ inr before
]
one_error at (came.Counted n modified upserted) errors index error is = inr is

-- and with those of all results
all_errors : (first : ℕ) (results : List OpResult) (errors : finite.FinMap nat_cmp WriteError) (index : ℕ) (error : WriteError) → finite.get (with_errors first results errors) index ≡ Some error
    → IsOfResult first results index error ⊎ (finite.get errors index ≡ Some error)
unfolding with_errors
all_errors first [] errors index error is = inr is
all_errors first (told ∷ results) errors index error is = elim (all_errors first results (with_error (first + told.index) told.outcome errors) index error is) [
  | inl later ↦ inl (record { told = later.told; has = inr later.has; index_is = later.index_is; failed = later.failed })
  | inr before ↦ elim (one_error (first + told.index) told.outcome errors index error before) [
    | inl here ↦ inl (record { told = told; has = inl refl; index_is = here.0; failed = here.1 })
    | inr earlier ↦ inr earlier
  ]
]

-- an outcome is of one kind, and has one error
never_both : (n modified : ℕ) (upserted : Option Bson) (error : WriteError) → ◌≡◌ {A = OpOutcome} (came.Counted n modified upserted) (came.Failed error) → ⊥
never_both n modified upserted error is = cc

same_error : (one other : WriteError) → ◌≡◌ {A = OpOutcome} (came.Failed one) (came.Failed other) → one ≡ other
same_error one other is = cc

-- a result that failed is that of a statement that did
failed_statement : (first : ℕ) (writes : List PlacedWrite) (done : List Statement) (told : OpResult) (index : ℕ) (error : WriteError) (at : ℕ) (write : PlacedWrite) (statement : Statement)
    → slice_get writes at ≡ Some write → slice_get done at ≡ Some statement → IsRowRead at write.written.kind statement told → index ≡ first + told.index → told.outcome ≡ came.Failed error
    → IsOfFailed first writes done index error
failed_statement first writes done told index error at write (Kept result) in_writes in_done read index_is failed =
    absurd (never_both read.found read.changed result.upserted error (sym (ap (λ (t : OpResult). t.outcome) read.is) ∙ failed))
failed_statement first writes done told index error at write (Ran result) in_writes in_done read index_is failed =
    absurd (never_both read.found read.changed result.upserted error (sym (ap (λ (t : OpResult). t.outcome) read.is) ∙ failed))
failed_statement first writes done told index error at write (Failed code) in_writes in_done read index_is failed = record {
  at = at;
  write = write;
  code = code;
  in_writes = in_writes;
  in_done = in_done;
  index_is = index_is ∙ ap (λ (t : OpResult). first + t.index) read;
  is = same_error error (error_spelled code) (sym failed ∙ ap (λ (t : OpResult). t.outcome) read);
}

-- so is each write error of an error that was read
pub error_told : {R : Type 0} (batch : BulkBatch R) (session : Option (List ℕ)) (number : Option ℤ) (writes : List PlacedWrite) (written : AreWritten batch.ops writes) (done : List Statement) (error : Error)
    → TellsRead batch session number writes done error → (failures : BulkWriteError) → kind_of error ≡ kind.BulkWrite failures
    → (index : ℕ) (found : WriteError) → finite.get failures.write_errors index ≡ Some found → IsOfFailed batch.first writes done index found
error_told batch session number writes written done error tells failures is index found has =
    let errors = ap (λ (f : BulkWriteError). finite.get f.write_errors index) (failures_are batch session number writes written done error tells failures is) in
    elim (all_errors batch.first tells.read.results finite.empty index found (sym errors ∙ has)) [
      | inl of_result ↦
          let row = tells.is_read.of_rows of_result.told of_result.has in
          failed_statement batch.first writes done of_result.told index found row.at row.write row.statement row.in_writes row.in_done row.read of_result.index_is of_result.failed
      | inr none ↦ absurd (none_is_some found (sym (finite.get-empty nat_cmp index) ∙ none))
    ]
