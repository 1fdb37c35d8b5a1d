-- The result of a bulk write that failed by the entries of writes that stand: not all of these need have a result in it.
use Rattle.std.specs.Prelude.{◌≡◌, ℕ, ◌+◌, ◌≤◌, List, [], ◌∷◌, Some}
use Rattle.std.specs.FinMap as finite
use Rattle.std.specs.Ordering.{nat_cmp}
use Rattle.server_answers.specs.declared.results.PartialBulkWriteResult.{PartialBulkWriteResult}
use Rattle.server_answers.specs.declared.results.PartialBulkWriteResult.TheVariants as partly
use Rattle.server_answers.specs.declared.results.VerboseBulkWriteResult.{VerboseBulkWriteResult}
use Rattle.driver_error.specs.BulkErrors.{partial_counts}
use Rattle.driver_link.specs.declared.machine.Entry.{Entry}
use Rattle.driver_link.specs.declared.machine.WriteKind.{WriteKind}
use Rattle.driver_link.specs.declared.machine.WriteKind.TheVariants as does
use Rattle.driver_link.specs.Settled.{Has}
use Rattle.bulk_ops.specs.BulkEntries.{counts_by, delete_told, insert_told, update_told}

-- an entry, with the index of its write in the caller's list
pub record IndexedEntry : Type 0 where
  pub index : ℕ
  pub entry : Entry

-- an entry at an index
abbrev pub at_entry : ℕ → Entry → IndexedEntry
at_entry index entry = record { index = index; entry = entry }

-- the entries alone
abbrev pub entries_in : List IndexedEntry → List Entry
entries_in [] = []
entries_in (one ∷ more) = one.entry ∷ entries_in more

-- the indexes rise, the first from a limit on
abbrev pub IndexesRise : ℕ → List IndexedEntry → Type 0
IndexesRise limit [] = Unit {0}
IndexesRise limit (one ∷ more) = (limit ≤ one.index) × IndexesRise (one.index + 1) more

-- the result of a write at an index is what its entry tells, which is among these and is of a write of a kind
pub record IsToldAt {V : Type 0} (which : WriteKind) (tells : Entry → V) (indexed : List IndexedEntry) (index : ℕ) (value : V) : Type 0 where
  pub entry : Entry
  pub among : Has indexed (at_entry index entry)
  pub kind_is : entry.written.kind ≡ which
  pub told : value ≡ tells entry

-- so is each that is found in a map
abbrev pub AllTold : {V : Type 0} → WriteKind → (Entry → V) → List IndexedEntry → finite.FinMap nat_cmp V → Type 0
AllTold {V} which tells indexed found = (index : ℕ) (value : V) → finite.get found index ≡ Some value → IsToldAt which tells indexed index value

-- the results of inserts, updates and deletes are so
pub record AreTold (indexed : List IndexedEntry) (results : VerboseBulkWriteResult) : Type 0 where
  pub inserts : AllTold does.Insert (λ entry. insert_told entry.written.document) indexed results.insert_results
  pub updates : AllTold does.Update (λ entry. update_told entry.result) indexed results.update_results
  pub deletes : AllTold does.Delete (λ entry. delete_told entry.result) indexed results.delete_results

-- a summary has no results of writes
abbrev pub ResultsAreTold : List IndexedEntry → PartialBulkWriteResult → Type 0
ResultsAreTold indexed (partly.Summary counts) = Unit {0}
ResultsAreTold indexed (partly.Verbose results) = AreTold indexed results

-- the result of a bulk write that failed is told by entries: the counts are their sums, and each result of a write is that of its entry
pub record TellsSome (indexed : List IndexedEntry) (found : PartialBulkWriteResult) : Type 0 where
  pub counts : partial_counts found ≡ counts_by (entries_in indexed)
  pub results : ResultsAreTold indexed found
