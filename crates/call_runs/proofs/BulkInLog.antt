-- What an Ok of a bulk write says of the log: its writes are the caller's own, each is done, and the log spells its answer.
use Rattle.std.proofs.Common.{◌≡◌, ℕ, zero, suc, ◌+◌, Bool, true, false, List, [], ◌∷◌, refl, sym, ap, subst, ◌∙◌, inl, inr, arith}
use Rattle.std.specs.Prelude.{Option, None, Some, IsSome, slice_get}
use Rattle.std.specs.Option.{option_and_then, option_map}
use Rattle.bulk_outcomes.specs.BulkResults.{ResultSpec}
use Rattle.driver_options.specs.declared.models.WriteModel.{WriteModel}
use Rattle.driver_options.specs.declared.write_options.BulkWriteOptions.{BulkWriteOptions}
use Rattle.driver_link.specs.declared.machine.Entry.{Entry}
use Rattle.driver_link.specs.declared.machine.PlacedWrite.{PlacedWrite}
use Rattle.driver_link.specs.Once.{Once}
use Rattle.driver_link.specs.Settled.{Has}
use Rattle.driver_link.proofs.Lists.{none_is_some}
use Rattle.bulk_fronts.specs.BulkOps.{model_written}
use Rattle.many_actions.proofs.BatchWrites.{place_in}
use Rattle.bulk_actions.specs.BulkTold.{AreEntriesOf, HasToldAll}
use Rattle.bulk_actions.specs.OwnModels.{IsOwnModel}
use Rattle.call_runs.proofs.LogEntries.{entry_found, stands_has}
use Rattle.call_runs.proofs.SpelledAnswers.{joined}
use Rattle.driver_inputs.specs.declared.call.Call.{Call}
use Rattle.driver_inputs.specs.declared.call.Call.TheVariants.{BulkWrite}
use Rattle.driver_inputs.specs.Calls.{Done, HasPlace, OwnAt, bulk_answer, call_result, entries_in_log, entry_at, result_of, write_at, write_in}

module _ (call : ℕ) (log : List Entry) where
  -- the entries of models that stand are those that the log tells
  entries_spelled : Once log → (index : ℕ) (models : List WriteModel) (entries : List Entry) → AreEntriesOf models call index entries → ((entry : Entry) → Has entries entry → Has log entry)
      → entries_in_log call index models log ≡ Some entries
  entries_spelled once index [] [] are stand = refl
  entries_spelled once index [] (entry ∷ entries) are stand = absurd are
  entries_spelled once index (model ∷ models) [] are stand = absurd are
  entries_spelled once index (model ∷ models) (entry ∷ entries) are stand =
      let here : entry_at (place_in call index) log ≡ Some entry = entry_found (place_in call index) log entry once (stand entry (inl refl)) are.0.place in
      let rest = entries_spelled once (index + 1) models entries are.1 (λ other has. stand other (inr has)) in
      ap (λ found. joined found (entries_in_log call (index + 1) models log)) here ∙ ap (joined (Some entry)) rest

  -- each of them stands in the place of its index
  stands_at : (index : ℕ) (models : List WriteModel) (entries : List Entry) (position : ℕ) (model : WriteModel) → AreEntriesOf models call index entries → ((entry : Entry) → Has entries entry → Has log entry)
      → slice_get models position ≡ Some model → HasPlace (place_in call (index + position)) log
  stands_at index [] entries position model are stand is = absurd (none_is_some model is)
  stands_at index (first ∷ models) [] position model are stand is = absurd are
  stands_at index (first ∷ models) (entry ∷ entries) zero model are stand is =
      let on : index ≡ index + 0 = omega arith in
      stands_has (place_in call (index + 0)) log entry (stand entry (inl refl)) (are.0.place ∙ ap (place_in call) on)
  stands_at index (first ∷ models) (entry ∷ entries) (suc position) model are stand is =
      let on : index + 1 + position ≡ index + suc position = omega arith in
      subst (λ n. HasPlace (place_in call n) log) on (stands_at (index + 1) models entries position model are.1 (λ other has. stand other (inr has)) is)

-- a bulk write in a list of calls
module _ (calls : List Call) (call : ℕ) (models : List WriteModel) (options : BulkWriteOptions) (verbose : Bool) (at : slice_get calls call ≡ Some (BulkWrite models options verbose)) where
  -- its write at an index
  write_bulk_is : (index : ℕ) → write_at calls (place_in call index) ≡ option_map model_written (slice_get models index)
  unfolding write_at
  write_bulk_is index = ap (λ made. option_and_then (λ m. write_in m index) made) at

  -- a write of it is the caller's own
  pub bulk_own : (write : PlacedWrite) → IsOwnModel models call write → OwnAt (write_at calls write.place) write.written
  bulk_own write own =
      let place_is : write.place ≡ place_in call write.place.index = ap (λ c. place_in c write.place.index) own.of_call in
      subst (λ p. OwnAt (write_at calls p) write.written) (sym place_is)
      (subst (λ given. OwnAt given write.written) (sym (write_bulk_is write.place.index))
      (subst (λ found. OwnAt (option_map model_written found) write.written) (sym own.given) own.own))

  -- its answer, which a log tells
  module _ {R : Type 0} (tells : ResultSpec R) (log : List Entry) (output : R) (told : HasToldAll tells models call log output) where
    -- each of its writes is done
    by_found : (index : ℕ) (found : Option WriteModel) → slice_get models index ≡ found → IsSome (option_map model_written found) → HasPlace (place_in call index) log
    by_found index None is there = absurd (let e : ◌≡◌ {A = Bool} false true = there in cc)
    by_found index (Some model) is there =
        let on : 0 + index ≡ index = omega arith in
        subst (λ n. HasPlace (place_in call n) log) on (stands_at call log 0 models told.entries index model told.are told.stand is)

    pub bulk_done : Done calls call log
    bulk_done = λ index there. by_found index (slice_get models index) refl (subst (λ w. IsSome w) (write_bulk_is index) there)

    -- and the log spells the answer of its entries
    pub bulk_result : Once log → call_result calls call log ≡ Some (bulk_answer verbose told.entries)
    unfolding call_result
    bulk_result once =
        ap (λ made. option_and_then (λ m. result_of m call log) made) at
        ∙ ap (option_map (bulk_answer verbose)) (entries_spelled call log once 0 models told.entries told.are told.stand)
