-- The result of a bulk write that failed is told by the entries of the statements that counted.
use Rattle.std.proofs.Common.{◌≡◌, ℕ, zero, suc, ◌+◌, Bool, true, false, cond, List, [], ◌∷◌, eqb-true, refl, sym, ap, subst, ◌∙◌, inl, inr, arith}
use Rattle.std.specs.Prelude.{ℤ, Option, None, Some, ◌⊎◌, slice_get, if◌then◌else◌}
use Rattle.std.specs.Cmp.{nat_cmp_total, unsigned_ties}
use Rattle.std.specs.FinMap as finite
use Rattle.std.specs.Ordering.{eq_by_cmp, nat_cmp}
use Rattle.std.proofs.Math.IntN.{+ℤ_idl}
use Rattle.server_answers.specs.declared.results.PartialBulkWriteResult.{PartialBulkWriteResult}
use Rattle.server_answers.specs.declared.results.PartialBulkWriteResult.TheVariants as partly
use Rattle.server_answers.specs.declared.results.VerboseBulkWriteResult.{VerboseBulkWriteResult}
use Rattle.bulk_outcomes.specs.BulkResults.{ResultSpec, no_counts}
use Rattle.driver_error.specs.Counts.{Counts, added, five}
use Rattle.bulk_outcomes.specs.PartialResults.{IsOfNoWrite, MakesPartial, partial_counted, partial_delete, partial_insert, partial_update}
use Rattle.driver_link.specs.declared.machine.Counted.{Counted}
use Rattle.driver_link.specs.declared.machine.Entry.{Entry}
use Rattle.driver_link.specs.declared.machine.PlacedWrite.{PlacedWrite}
use Rattle.driver_link.specs.declared.machine.Statement.{Statement}
use Rattle.driver_link.specs.declared.machine.Statement.TheVariants.{Kept, Ran, Failed}
use Rattle.driver_link.specs.declared.machine.WriteKind.{WriteKind}
use Rattle.driver_link.specs.declared.machine.WriteKind.TheVariants as does
use Rattle.driver_link.specs.Replies.{result_of}
use Rattle.driver_link.specs.Settled.{Has}
use Rattle.driver_link.specs.Statements.{entry_of}
use Rattle.driver_link.proofs.Lists.{none_is_some, some_is_some}
use Rattle.driver_ops.specs.Served.{entries_counted, entry_counted}
use Rattle.bulk_ops.specs.declared.bulk_reply.OpResult.{OpResult}
use Rattle.bulk_fronts.specs.declared.own_op.OwnOp.{OwnOp}
use Rattle.bulk_ops.specs.BulkAnswers.{BulkBatch, with_outcome, with_results}
use Rattle.bulk_ops.specs.BulkEntries.{counts_by, delete_told, entries_told, insert_told, kept_told, kind_told, update_told}
use Rattle.bulk_ops.specs.PartialEntries.{AllTold, IndexedEntry, IsToldAt, TellsSome, at_entry, entries_in}
use Rattle.bulk_ops.specs.lawful.ResultRows.{IsCountedRead, IsRowRead}
use Rattle.bulk_ops.specs.lawful.ToldResults.{AreWritten, DoesWrite, outcome_passed, step_told}
use Rattle.bulk_ops.proofs.ReadRows.{AreOfRows}

-- ---- entries with their indexes
-- entries one after another, the first at an index
abbrev pub with_indexes : ℕ → List Entry → List IndexedEntry
with_indexes index [] = []
with_indexes index (entry ∷ entries) = at_entry index entry ∷ with_indexes (index + 1) entries

pub without_indexes : (index : ℕ) (entries : List Entry) → entries_in (with_indexes index entries) ≡ entries
without_indexes index [] = refl
without_indexes index (entry ∷ entries) = ap (λ (rest : List Entry). entry ∷ rest) (without_indexes (index + 1) entries)

-- the entries of the writes whose statements counted, the first write at an index
abbrev pub counted_at : Option (List ℕ) → Option ℤ → ℕ → PlacedWrite → Option Counted → List IndexedEntry → List IndexedEntry
counted_at session number index write (Some result) rest = at_entry index (entry_of session number write result) ∷ rest
counted_at session number index write None rest = rest

abbrev pub indexed_counted : Option (List ℕ) → Option ℤ → ℕ → List PlacedWrite → List Statement → List IndexedEntry
indexed_counted session number index [] done = []
indexed_counted session number index (write ∷ writes) [] = []
indexed_counted session number index (write ∷ writes) (statement ∷ done) =
    counted_at session number index write (result_of statement) (indexed_counted session number (index + 1) writes done)

one_counted : (session : Option (List ℕ)) (number : Option ℤ) (index : ℕ) (write : PlacedWrite) (counted : Option Counted) (rest : List IndexedEntry) (entries : List Entry) → entries_in rest ≡ entries
    → entries_in (counted_at session number index write counted rest) ≡ entry_counted session number write counted entries
one_counted session number index write (Some result) rest entries is = ap (λ (more : List Entry). entry_of session number write result ∷ more) is
one_counted session number index write None rest entries is = is

pub entries_of_counted : (session : Option (List ℕ)) (number : Option ℤ) (index : ℕ) (writes : List PlacedWrite) (done : List Statement)
    → entries_in (indexed_counted session number index writes done) ≡ entries_counted session number writes done
entries_of_counted session number index [] done = refl
entries_of_counted session number index (write ∷ writes) [] = refl
entries_of_counted session number index (write ∷ writes) (statement ∷ done) =
    one_counted session number index write (result_of statement) (indexed_counted session number (index + 1) writes done) (entries_counted session number writes done)
    (entries_of_counted session number (index + 1) writes done)

-- such an entry is among those of others behind another write
counted_behind : (session : Option (List ℕ)) (number : Option ℤ) (index : ℕ) (write : PlacedWrite) (counted : Option Counted) (rest : List IndexedEntry) (one : IndexedEntry) → Has rest one
    → Has (counted_at session number index write counted rest) one
counted_behind session number index write (Some result) rest one has = inr has
counted_behind session number index write None rest one has = has

-- the entry of a statement that counted is among them, at the index of its write
pub counted_among : (session : Option (List ℕ)) (number : Option ℤ) (index : ℕ) (writes : List PlacedWrite) (done : List Statement) (at : ℕ) (write : PlacedWrite) (statement : Statement) (result : Counted)
    → slice_get writes at ≡ Some write → slice_get done at ≡ Some statement → result_of statement ≡ Some result
    → Has (indexed_counted session number index writes done) (at_entry (index + at) (entry_of session number write result))
counted_among session number index [] done at write statement result is also counts = absurd (none_is_some write is)
counted_among session number index (first ∷ writes) [] at write statement result is also counts = absurd (none_is_some statement also)
counted_among session number index (first ∷ writes) (told ∷ done) zero write statement result is also counts =
    let rest = indexed_counted session number (index + 1) writes done in
    let on : index ≡ index + 0 = omega arith in
    let here : result_of told ≡ Some result = ap result_of (some_is_some told statement also) ∙ counts in
    let same : first ≡ write = some_is_some first write is in
    subst (λ (o : Option Counted). Has (counted_at session number index first o rest) (at_entry (index + 0) (entry_of session number write result))) (sym here)
    (inl (λ i. at_entry (on i) (entry_of session number (same i) result)))
counted_among session number index (first ∷ writes) (told ∷ done) (suc at) write statement result is also counts =
    let on : index + 1 + at ≡ index + suc at = omega arith in
    subst (λ (n : ℕ). Has (counted_at session number index first (result_of told) (indexed_counted session number (index + 1) writes done)) (at_entry n (entry_of session number write result))) on
    (counted_behind session number index first (result_of told) (indexed_counted session number (index + 1) writes done) (at_entry (index + 1 + at) (entry_of session number write result))
    (counted_among session number (index + 1) writes done at write statement result is also counts))

-- ---- results that are told
-- what is found in a map with one value more is that, or was there before
pub insert_either : {V : Type 0} (m : finite.FinMap nat_cmp V) (k : ℕ) (put : V) (q : ℕ) (v : V) → finite.get (finite.insert m k put) q ≡ Some v → ((q ≡ k) × (put ≡ v)) ⊎ (finite.get m q ≡ Some v)
insert_either {V = V} m k put q v is = by_test (eq_by_cmp nat_cmp q k) refl (sym (finite.get-insert nat_cmp_total m k put q) ∙ is)
  where
    by_test : (tied : Bool) → eq_by_cmp nat_cmp q k ≡ tied → cond tied (Some put) (finite.get m q) ≡ Some v → ((q ≡ k) × (put ≡ v)) ⊎ (finite.get m q ≡ Some v)
    by_test true same at = inl (eqb-true q k (unsigned_ties q k ∙ same), some_is_some put v at)
    by_test false other at = inr at

module _ (indexed : List IndexedEntry) where
  -- one value more that an entry tells
  one_more : {V : Type 0} (which : WriteKind) (tells : Entry → V) (m : finite.FinMap nat_cmp V) (index : ℕ) (entry : Entry) → Has indexed (at_entry index entry) → entry.written.kind ≡ which
      → AllTold which tells indexed m → AllTold which tells indexed (finite.insert m index (tells entry))
  one_more which tells m index entry among kind_is all = λ q value is. elim (insert_either m index (tells entry) q value is) [
    | inl here ↦ subst (λ (n : ℕ). IsToldAt which tells indexed n value) (sym here.0) (record { entry = entry; among = among; kind_is = kind_is; told = sym here.1 })
    | inr before ↦ all q value before
  ]

  -- and a result with it
  insert_more : (found : PartialBulkWriteResult) (index : ℕ) (entry : Entry) → Has indexed (at_entry index entry) → entry.written.kind ≡ does.Insert → TellsSome indexed found
      → TellsSome indexed (partial_insert found index (insert_told entry.written.document))
  insert_more (partly.Summary counts) index entry among kind_is told = told
  insert_more (partly.Verbose results) index entry among kind_is told = record {
    counts = told.counts;
    results = record {
      inserts = one_more does.Insert (λ e. insert_told e.written.document) results.insert_results index entry among kind_is told.results.inserts;
      updates = told.results.updates;
      deletes = told.results.deletes;
    };
  }

  update_more : (found : PartialBulkWriteResult) (index : ℕ) (entry : Entry) → Has indexed (at_entry index entry) → entry.written.kind ≡ does.Update → TellsSome indexed found
      → TellsSome indexed (partial_update found index (update_told entry.result))
  update_more (partly.Summary counts) index entry among kind_is told = told
  update_more (partly.Verbose results) index entry among kind_is told = record {
    counts = told.counts;
    results = record {
      inserts = told.results.inserts;
      updates = one_more does.Update (λ e. update_told e.result) results.update_results index entry among kind_is told.results.updates;
      deletes = told.results.deletes;
    };
  }

  delete_more : (found : PartialBulkWriteResult) (index : ℕ) (entry : Entry) → Has indexed (at_entry index entry) → entry.written.kind ≡ does.Delete → TellsSome indexed found
      → TellsSome indexed (partial_delete found index (delete_told entry.result))
  delete_more (partly.Summary counts) index entry among kind_is told = told
  delete_more (partly.Verbose results) index entry among kind_is told = record {
    counts = told.counts;
    results = record {
      inserts = told.results.inserts;
      updates = told.results.updates;
      deletes = one_more does.Delete (λ e. delete_told e.result) results.delete_results index entry among kind_is told.results.deletes;
    };
  }

  -- no count and others
  none_added : (counts : Counts) → added no_counts counts ≡ counts
  none_added counts = λ i. five
      (+ℤ_idl counts.inserted_count i)
      (+ℤ_idl counts.matched_count i)
      (+ℤ_idl counts.modified_count i)
      (+ℤ_idl counts.upserted_count i)
      (+ℤ_idl counts.deleted_count i)

  -- the counts of the entries are told, and no result of a write
  counts_alone : (found : PartialBulkWriteResult) → IsOfNoWrite found → TellsSome indexed (partial_counted found (counts_by (entries_in indexed)))
  counts_alone (partly.Summary counts) none = record {
    counts = ap (λ (c : Counts). added c (counts_by (entries_in indexed))) none ∙ none_added (counts_by (entries_in indexed));
    results = tt;
  }
  counts_alone (partly.Verbose results) none = record {
    counts = ap (λ (r : VerboseBulkWriteResult). added r.summary (counts_by (entries_in indexed))) none ∙ none_added (counts_by (entries_in indexed));
    results = record {
      inserts = λ q value is. absurd (none_is_some value (sym (finite.get-empty nat_cmp q) ∙ ap (λ (r : VerboseBulkWriteResult). finite.get r.insert_results q) (sym none) ∙ is));
      updates = λ q value is. absurd (none_is_some value (sym (finite.get-empty nat_cmp q) ∙ ap (λ (r : VerboseBulkWriteResult). finite.get r.update_results q) (sym none) ∙ is));
      deletes = λ q value is. absurd (none_is_some value (sym (finite.get-empty nat_cmp q) ∙ ap (λ (r : VerboseBulkWriteResult). finite.get r.delete_results q) (sym none) ∙ is));
    };
  }

  module _ {R : Type 0} (tells : ResultSpec R) (laws : MakesPartial tells) where
    -- a result that is made so is told
    abbrev pub Tells : R → Type 0
    Tells now = TellsSome indexed (tells.partial now)

    begins_told : (counts : Counts) → counts ≡ counts_by (entries_in indexed) → Tells (tells.counted tells.nothing counts)
    begins_told counts is =
        subst (λ (c : Counts). Tells (tells.counted tells.nothing c)) (sym is)
        (subst (TellsSome indexed) (sym (laws.counted tells.nothing (counts_by (entries_in indexed)))) (counts_alone (tells.partial tells.nothing) laws.begins))

    -- with what an entry tells
    entry_more : (which : WriteKind) (index : ℕ) (entry : Entry) (now : R) → entry.written.kind ≡ which → Has indexed (at_entry index entry) → Tells now → Tells (kind_told tells which index entry now)
    entry_more does.Insert index entry now kind_is among told =
        subst (TellsSome indexed) (sym (laws.inserted now index (insert_told entry.written.document))) (insert_more (tells.partial now) index entry among kind_is told)
    entry_more does.Update index entry now kind_is among told =
        subst (TellsSome indexed) (sym (laws.updated now index (update_told entry.result))) (update_more (tells.partial now) index entry among kind_is told)
    entry_more does.Delete index entry now kind_is among told =
        subst (TellsSome indexed) (sym (laws.deleted now index (delete_told entry.result))) (delete_more (tells.partial now) index entry among kind_is told)
    entry_more does.FindAndModify index entry now kind_is among told = told

    -- with what all of some entries tell
    entries_more : (index : ℕ) (entries : List Entry) (now : R) → ((one : IndexedEntry) → Has (with_indexes index entries) one → Has indexed one) → Tells now → Tells (entries_told tells index entries now)
    unfolding entries_told
    entries_more index [] now among told = told
    entries_more index (entry ∷ entries) now among told =
        entries_more (index + 1) entries (kind_told tells entry.written.kind index entry now) (λ one has. among one (inr has))
        (entry_more entry.written.kind index entry now refl (among (at_entry index entry) (inl refl)) told)

    kept_more : (index : ℕ) (entries : List Entry) (now : R) → ((one : IndexedEntry) → Has (with_indexes index entries) one → Has indexed one) → Tells now → Tells (kept_told tells index entries now)
    kept_more index entries now among told =
        elim (tells.only_errors) as (λ (only : Bool). Tells (if only then now else entries_told tells index entries now)) [ true ↦ told | false ↦ entries_more index entries now among told ]

-- the output of a bulk write that was done is told by the entries of its writes
pub output_told : {R : Type 0} (tells : ResultSpec R) → MakesPartial tells → (index : ℕ) (entries : List Entry) (output : R)
    → output ≡ kept_told tells index entries (tells.counted tells.nothing (counts_by entries)) → TellsSome (with_indexes index entries) (tells.partial output)
output_told tells laws index entries output is =
    let indexed = with_indexes index entries in
    subst (λ o. TellsSome indexed (tells.partial o)) (sym is)
    (kept_more indexed tells laws index entries (tells.counted tells.nothing (counts_by entries)) (λ one has. has)
    (begins_told indexed tells laws (counts_by entries) (ap counts_by (sym (without_indexes index entries)))))

-- ---- results that were read
-- each write is that of its op
written_at : (ops : List OwnOp) (writes : List PlacedWrite) (at : ℕ) (write : PlacedWrite) → AreWritten ops writes → slice_get writes at ≡ Some write
    → (own : OwnOp) × ((slice_get ops at ≡ Some own) × DoesWrite own.work write.written)
written_at ops [] at write written is = absurd (none_is_some write is)
written_at [] (first ∷ writes) at write written is = absurd written
written_at (own ∷ ops) (first ∷ writes) zero write written is = (own, (refl, subst (λ (w : PlacedWrite). DoesWrite own.work w.written) (some_is_some first write is) written.0))
written_at (own ∷ ops) (first ∷ writes) (suc at) write written is = written_at ops writes at write written.1 is

module _ {R : Type 0} (batch : BulkBatch R) (laws : MakesPartial batch.tells) (session : Option (List ℕ)) (number : Option ℤ) (writes : List PlacedWrite) (written : AreWritten batch.ops writes)
    (done : List Statement) where
  abbrev pub indexed_done : List IndexedEntry
  indexed_done = indexed_counted session number batch.first writes done

  -- a result that was read tells what the entry of its statement does
  counted_more : (at : ℕ) (write : PlacedWrite) (statement : Statement) (result : Counted) (told : OpResult) (now : R) → slice_get writes at ≡ Some write → slice_get done at ≡ Some statement
      → result_of statement ≡ Some result → IsCountedRead at write.written.kind result.n result.modified result.upserted told → TellsSome indexed_done (batch.tells.partial now)
      → TellsSome indexed_done (batch.tells.partial (with_outcome batch told.index told.outcome now))
  counted_more at write statement result told now is also counts read holds = by_kept batch.tells.only_errors refl
    where
      by_kept : (only : Bool) → batch.tells.only_errors ≡ only → TellsSome indexed_done (batch.tells.partial (with_outcome batch told.index told.outcome now))
      by_kept true only = subst (λ o. TellsSome indexed_done (batch.tells.partial o)) (sym (outcome_passed batch session number only told.index told.outcome now)) holds
      by_kept false keeps =
          let own = written_at batch.ops writes at write written is in
          let entry = entry_of session number write result in
          subst (λ o. TellsSome indexed_done (batch.tells.partial o)) (sym (step_told batch session number keeps at write result told own.0 now own.1.0 own.1.1 read))
          (entry_more indexed_done batch.tells laws write.written.kind (batch.first + at) entry now refl
          (counted_among session number batch.first writes done at write statement result is also counts) holds)

  row_more : (told : OpResult) (now : R) (at : ℕ) (write : PlacedWrite) (statement : Statement) → slice_get writes at ≡ Some write → slice_get done at ≡ Some statement → IsRowRead at write.written.kind statement told
      → TellsSome indexed_done (batch.tells.partial now) → TellsSome indexed_done (batch.tells.partial (with_outcome batch told.index told.outcome now))
  row_more told now at write (Kept result) is also read holds = counted_more at write (Kept result) result told now is also refl read holds
  row_more told now at write (Ran result) is also read holds = counted_more at write (Ran result) result told now is also refl read holds
  row_more told now at write (Failed code) is also read holds =
      subst (λ (t : OpResult). TellsSome indexed_done (batch.tells.partial (with_outcome batch t.index t.outcome now))) (sym read) holds

  rows_more : (results : List OpResult) (now : R) → AreOfRows writes done results → TellsSome indexed_done (batch.tells.partial now) → TellsSome indexed_done (batch.tells.partial (with_results batch results now))
  unfolding with_results
  rows_more [] now of_rows holds = holds
  rows_more (told ∷ results) now of_rows holds =
      let here = of_rows told (inl refl) in
      rows_more results (with_outcome batch told.index told.outcome now) (λ other has. of_rows other (inr has))
      (row_more told now here.at here.write here.statement here.in_writes here.in_done here.read holds)

  -- so what was read of the machine's reply and its results is told by the entries of the statements that counted
  pub results_told : (counts : Counts) (results : List OpResult) → counts ≡ counts_by (entries_counted session number writes done) → AreOfRows writes done results
      → TellsSome indexed_done (batch.tells.partial (with_results batch results (batch.tells.counted batch.tells.nothing counts)))
  results_told counts results is of_rows =
      rows_more results (batch.tells.counted batch.tells.nothing counts) of_rows
      (begins_told indexed_done batch.tells laws counts (is ∙ ap counts_by (sym (entries_of_counted session number batch.first writes done))))
