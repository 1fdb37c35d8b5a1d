-- The result of a bulk write that is made of the machine's results documents is the one that the entries of its writes tell.
use Rattle.std.proofs.Common.{◌≡◌, ℕ, zero, suc, ◌+◌, Bool, true, false, List, [], ◌∷◌, drop, take, refl, sym, ap, subst, ◌∙◌, arith, add-zero}
use Rattle.std.specs.Prelude.{ℤ, pos, nat_abs, Option, Some, slice_get, if◌then◌else◌}
use Rattle.bson_lite.specs.declared.bson.Bson.{Bson}
use Rattle.bulk_outcomes.specs.BulkResults.{ResultSpec}
use Rattle.driver_options.specs.declared.models.WriteModel.{WriteModel}
use Rattle.driver_options.specs.declared.models.WriteModel.TheVariants.{InsertOne, UpdateOne, UpdateMany, ReplaceOne, DeleteOne, DeleteMany}
use Rattle.driver_link.specs.declared.machine.Counted.{Counted}
use Rattle.driver_link.specs.declared.machine.Entry.{Entry}
use Rattle.driver_link.specs.declared.machine.Place.{Place}
use Rattle.driver_link.specs.declared.machine.PlacedWrite.{PlacedWrite}
use Rattle.driver_link.specs.declared.machine.Statement.{Statement}
use Rattle.driver_link.specs.declared.machine.Statement.TheVariants.{Kept, Ran, Failed}
use Rattle.driver_link.specs.declared.machine.WriteKind.{WriteKind}
use Rattle.driver_link.specs.declared.machine.WriteKind.TheVariants as kind
use Rattle.driver_link.specs.declared.machine.Written.{Written}
use Rattle.driver_link.specs.Statements.{entry_of, has_failed}
use Rattle.driver_ops.specs.Served.{entries_counted}
use Rattle.driver_ops.specs.lawful.InsertRead.{differ}
use Rattle.bulk_ops.specs.declared.bulk_reply.OpOutcome.{OpOutcome}
use Rattle.bulk_ops.specs.declared.bulk_reply.OpOutcome.TheVariants as came
use Rattle.bulk_ops.specs.declared.bulk_reply.OpResult.{OpResult}
use Rattle.bulk_fronts.specs.declared.own_op.OpWork.{OpWork}
use Rattle.bulk_fronts.specs.declared.own_op.OpWork.TheVariants as work
use Rattle.bulk_fronts.specs.declared.own_op.OwnOp.{OwnOp}
use Rattle.bulk_ops.specs.BulkAnswers.{BulkBatch, with_op, with_outcome, with_results, with_work}
use Rattle.bulk_ops.specs.BulkEntries.{entries_told, kept_told, kind_told}
use Rattle.bulk_fronts.specs.BulkOps.{AreOps, id_told, model_writes, model_written, work_of}
use Rattle.bulk_ops.specs.lawful.ResultRows.{AreRowsRead, IsCountedRead}

-- what an op does is what its write does
abbrev pub DoesWrite : OpWork → Written → Type 0
DoesWrite (work.Insert id) written = (written.kind ≡ kind.Insert) × (id ≡ id_told written.document)
DoesWrite work.Update written = written.kind ≡ kind.Update
DoesWrite work.Delete written = written.kind ≡ kind.Delete

model_does : (model : WriteModel) → DoesWrite (work_of model) (model_written model)
model_does (InsertOne model) = (refl, refl)
model_does (UpdateOne model) = refl
model_does (UpdateMany model) = refl
model_does (ReplaceOne model) = refl
model_does (DeleteOne model) = refl
model_does (DeleteMany model) = refl

-- each write is that of the op at its place
abbrev pub AreWritten : List OwnOp → List PlacedWrite → Type 0
AreWritten ops [] = Unit {0}
AreWritten [] (write ∷ writes) = ⊥
AreWritten (own ∷ ops) (write ∷ writes) = DoesWrite own.work write.written × AreWritten ops writes

-- so it is of a front of models
pub models_written : (count : ℕ) (models : List WriteModel) (own : List OwnOp) (places : List Place) → AreOps models own
    → AreWritten (take count own) (model_writes (take count models) (take count places))
models_written zero models own places are = tt
models_written (suc count) [] own places are = tt
models_written (suc count) (model ∷ models) [] places are = absurd are
models_written (suc count) (model ∷ models) (one ∷ own) [] are = tt
models_written (suc count) (model ∷ models) (one ∷ own) (place ∷ places) are =
    (subst (λ does. DoesWrite does (model_written model)) (sym are.0.work) (model_does model), models_written count models own places are.1)

-- what is left of a list begins with the element at the place
pub drop_head : {A : Type 0} (at : ℕ) (list : List A) (one : A) (rest : List A) → drop at list ≡ one ∷ rest → slice_get list at ≡ Some one
drop_head {A = A} zero [] one rest is = absurd (let e : ◌≡◌ {A = List A} [] (one ∷ rest) = is in cc)
drop_head zero (first ∷ list) one rest is = let same : first ≡ one = cc is in ap (λ x. Some x) same
drop_head {A = A} (suc at) [] one rest is = absurd (let e : ◌≡◌ {A = List A} [] (one ∷ rest) = is in cc)
drop_head (suc at) (first ∷ list) one rest is = drop_head at list one rest is

drop_more : {A : Type 0} (at : ℕ) (list : List A) (one : A) (rest : List A) → drop at list ≡ one ∷ rest → drop (suc at) list ≡ rest
drop_more {A = A} zero [] one rest is = absurd (let e : ◌≡◌ {A = List A} [] (one ∷ rest) = is in cc)
drop_more zero (first ∷ list) one rest is = cc is
drop_more {A = A} (suc at) [] one rest is = absurd (let e : ◌≡◌ {A = List A} [] (one ∷ rest) = is in cc)
drop_more (suc at) (first ∷ list) one rest is = drop_more at list one rest is

next_place : (at : ℕ) → at + 1 ≡ suc at
next_place at = omega arith

-- a result with that of one write, by what its op does and by its entry
work_told : {R : Type 0} (tells : ResultSpec R) (does : OpWork) (written : Written) (entry : Entry) (index found changed : ℕ) (now : R) → DoesWrite does written
    → entry.written ≡ written → entry.result.n ≡ pos found → (written.kind ≡ kind.Update → entry.result.modified ≡ pos changed)
    → with_work tells does index found changed entry.result.upserted now ≡ kind_told tells written.kind index entry now
work_told tells (work.Insert id) written entry index found changed now does is found_is changed_is =
    ap (λ (known : Bson). tells.with_insert now index (record { inserted_id = known })) (does.1 ∙ ap (λ (w : Written). id_told w.document) (sym is))
    ∙ ap (λ (which : WriteKind). kind_told tells which index entry now) (sym does.0)
work_told tells work.Update written entry index found changed now does is found_is changed_is =
    let n = sym found_is in
    let modified = sym (changed_is does) in
    (λ i. tells.with_update now index (record { matched_count = nat_abs (n i); modified_count = nat_abs (modified i); upserted_id = entry.result.upserted }))
    ∙ ap (λ (which : WriteKind). kind_told tells which index entry now) (sym does)
work_told tells work.Delete written entry index found changed now does is found_is changed_is =
    ap (λ (count : ℤ). tells.with_delete now index (record { deleted_count = nat_abs count })) (sym found_is)
    ∙ ap (λ (which : WriteKind). kind_told tells which index entry now) (sym does)

module _ {R : Type 0} (batch : BulkBatch R) (session : Option (List ℕ)) (number : Option ℤ) where
  -- where counts alone are kept nothing is added
  pub outcome_passed : batch.tells.only_errors ≡ true → (index : ℕ) (told : OpOutcome) (now : R) → with_outcome batch index told now ≡ now
  outcome_passed only index (came.Failed error) now = refl
  outcome_passed only index (came.Counted found changed upserted) now =
      ap (λ (b : Bool). if b then now else with_op batch.tells (slice_get batch.ops index) (batch.first + index) found changed upserted now) only

  results_passed : batch.tells.only_errors ≡ true → (results : List OpResult) (now : R) → with_results batch results now ≡ now
  unfolding with_results
  results_passed only [] now = refl
  results_passed only (told ∷ results) now =
      ap (with_results batch results) (outcome_passed only told.index told.outcome now) ∙ results_passed only results now

  -- else the result of each op that did not fail
  outcome_kept : batch.tells.only_errors ≡ false → (at : ℕ) (does : WriteKind) (n modified : ℤ) (upserted : Option Bson) (told : OpResult) (own : OwnOp) (now : R)
      → slice_get batch.ops at ≡ Some own → (counted : IsCountedRead at does n modified upserted told)
      → with_outcome batch told.index told.outcome now ≡ with_work batch.tells own.work (batch.first + at) counted.found counted.changed upserted now
  outcome_kept keeps at does n modified upserted told own now there counted =
      ap (λ (one : OpResult). with_outcome batch one.index one.outcome now) counted.is
      ∙ ap (λ (b : Bool). if b then now else with_op batch.tells (slice_get batch.ops at) (batch.first + at) counted.found counted.changed upserted now) keeps
      ∙ ap (λ (found : Option OwnOp). with_op batch.tells found (batch.first + at) counted.found counted.changed upserted now) there

  pub step_told : batch.tells.only_errors ≡ false → (at : ℕ) (write : PlacedWrite) (result : Counted) (told : OpResult) (own : OwnOp) (now : R)
      → slice_get batch.ops at ≡ Some own → DoesWrite own.work write.written → IsCountedRead at write.written.kind result.n result.modified result.upserted told
      → with_outcome batch told.index told.outcome now ≡ kind_told batch.tells write.written.kind (batch.first + at) (entry_of session number write result) now
  step_told keeps at write result told own now there does counted =
      outcome_kept keeps at write.written.kind result.n result.modified result.upserted told own now there counted
      ∙ work_told batch.tells own.work write.written (entry_of session number write result) (batch.first + at) counted.found counted.changed now does refl counted.found_is counted.changed_is

  -- behind the first ops
  next_index : (at : ℕ) → batch.first + (at + 1) ≡ batch.first + at + 1
  next_index at = omega arith

  results_told : batch.tells.only_errors ≡ false → (at : ℕ) (writes : List PlacedWrite) (done : List Statement) (results : List OpResult) (left : List OwnOp) (now : R)
      → AreRowsRead at writes done results → has_failed done ≡ false → drop at batch.ops ≡ left → AreWritten left writes
      → with_results batch results now ≡ entries_told batch.tells (batch.first + at) (entries_counted session number writes done) now
  unfolding with_results entries_told
  results_told keeps at [] done results left now read unfailed left_is written = ap (λ (found : List OpResult). with_results batch found now) read
  results_told keeps at (write ∷ writes) [] results left now read unfailed left_is written = ap (λ (found : List OpResult). with_results batch found now) read
  results_told keeps at (write ∷ writes) (statement ∷ done) [] left now read unfailed left_is written = absurd read
  results_told keeps at (write ∷ writes) (statement ∷ done) (told ∷ results) [] now read unfailed left_is written = absurd written
  results_told keeps at (write ∷ writes) (Kept result ∷ done) (told ∷ results) (own ∷ left) now read unfailed left_is written =
      ap (with_results batch results) (step_told keeps at write result told own now (drop_head at batch.ops own left left_is) written.0 read.0)
      ∙ results_told keeps (at + 1) writes done results left (kind_told batch.tells write.written.kind (batch.first + at) (entry_of session number write result) now) read.1 unfailed
      (ap (λ (k : ℕ). drop k batch.ops) (next_place at) ∙ drop_more at batch.ops own left left_is) written.1
      ∙ ap (λ (index : ℕ). entries_told batch.tells index (entries_counted session number writes done)
      (kind_told batch.tells write.written.kind (batch.first + at) (entry_of session number write result) now)) (next_index at)
  results_told keeps at (write ∷ writes) (Ran result ∷ done) (told ∷ results) (own ∷ left) now read unfailed left_is written =
      ap (with_results batch results) (step_told keeps at write result told own now (drop_head at batch.ops own left left_is) written.0 read.0)
      ∙ results_told keeps (at + 1) writes done results left (kind_told batch.tells write.written.kind (batch.first + at) (entry_of session number write result) now) read.1 unfailed
      (ap (λ (k : ℕ). drop k batch.ops) (next_place at) ∙ drop_more at batch.ops own left left_is) written.1
      ∙ ap (λ (index : ℕ). entries_told batch.tells index (entries_counted session number writes done)
      (kind_told batch.tells write.written.kind (batch.first + at) (entry_of session number write result) now)) (next_index at)
  results_told keeps at (write ∷ writes) (Failed code ∷ done) (told ∷ results) (own ∷ left) now read unfailed left_is written = absurd (differ (sym unfailed))

  -- so in both kinds of results
  pub kept_are_told : (writes : List PlacedWrite) (done : List Statement) (results : List OpResult) (now : R) → AreRowsRead 0 writes done results → has_failed done ≡ false
      → AreWritten batch.ops writes → with_results batch results now ≡ kept_told batch.tells batch.first (entries_counted session number writes done) now
  kept_are_told writes done results now read unfailed written =
      elim (batch.tells.only_errors)
      as (λ (b : Bool). batch.tells.only_errors ≡ b → with_results batch results now ≡ (if b then now else entries_told batch.tells batch.first (entries_counted session number writes done) now)) [
        | true ↦ λ only. results_passed only results now
        | false ↦ λ keeps.
            results_told keeps 0 writes done results batch.ops now read unfailed refl written
            ∙ ap (λ (index : ℕ). entries_told batch.tells index (entries_counted session number writes done) now) (add-zero batch.first)
      ] refl
