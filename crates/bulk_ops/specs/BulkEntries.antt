-- The output of a bulk write by the entries of its writes.
use Rattle.std.specs.Prelude.{◌≡◌, ℕ, ◌+◌, ℤ, pos, ◌+ℤ◌, List, [], ◌∷◌, is_none, is_some, nat_abs, if◌then◌else◌}
use Rattle.bson_lite.specs.declared.bson.Bson.{Bson}
use Rattle.bson_lite.specs.declared.document.Pair.{Pair}
use Rattle.server_answers.specs.declared.results.DeleteResult.{DeleteResult}
use Rattle.server_answers.specs.declared.results.InsertOneResult.{InsertOneResult}
use Rattle.server_answers.specs.declared.results.SummaryBulkWriteResult.{SummaryBulkWriteResult}
use Rattle.server_answers.specs.declared.results.UpdateResult.{UpdateResult}
use Rattle.bulk_outcomes.specs.BulkResults.{ResultSpec}
use Rattle.driver_link.specs.declared.machine.Counted.{Counted}
use Rattle.driver_link.specs.declared.machine.Entry.{Entry}
use Rattle.driver_link.specs.declared.machine.WriteKind.{WriteKind}
use Rattle.driver_link.specs.declared.machine.WriteKind.TheVariants as does
use Rattle.driver_link.specs.Replies.{is_kind}
use Rattle.bulk_fronts.specs.BulkOps.{id_told}

-- the sum of a number over the entries of writes of one kind
abbrev pub sum_of_kind : WriteKind → (Entry → ℤ) → List Entry → ℤ
sum_of_kind which number [] = pos 0
sum_of_kind which number (entry ∷ entries) =
    (if is_kind which entry.written.kind then number entry else pos 0) +ℤ sum_of_kind which number entries

-- what an update matched: nothing where it put a document in
abbrev pub matched_by : Entry → ℤ
matched_by entry = if is_none entry.result.upserted then entry.result.n else pos 0

-- how many documents it put in
abbrev pub upserted_by : Entry → ℤ
upserted_by entry = if is_some entry.result.upserted then pos 1 else pos 0

-- the counts of a bulk write by the entries of its writes
abbrev pub counts_by : List Entry → SummaryBulkWriteResult
counts_by entries = record {
  inserted_count = sum_of_kind does.Insert (λ entry. entry.result.n) entries;
  matched_count = sum_of_kind does.Update matched_by entries;
  modified_count = sum_of_kind does.Update (λ entry. entry.result.modified) entries;
  upserted_count = sum_of_kind does.Update upserted_by entries;
  deleted_count = sum_of_kind does.Delete (λ entry. entry.result.n) entries;
}

-- the result of an insert: the id of the document
abbrev pub insert_told : List (Pair Bson) → InsertOneResult
insert_told document = record { inserted_id = id_told document }

-- of an update: what it counted, the documents that it found also beside the id of one that it put in
abbrev pub update_told : Counted → UpdateResult
update_told result = record { matched_count = nat_abs result.n; modified_count = nat_abs result.modified; upserted_id = result.upserted }

-- and of a delete
abbrev pub delete_told : Counted → DeleteResult
delete_told result = record { deleted_count = nat_abs result.n }

-- a result with that of one more write at an index
abbrev pub kind_told : {R : Type 0} → ResultSpec R → WriteKind → ℕ → Entry → R → R
kind_told tells does.Insert index entry now = tells.with_insert now index (insert_told entry.written.document)
kind_told tells does.Update index entry now = tells.with_update now index (update_told entry.result)
kind_told tells does.Delete index entry now = tells.with_delete now index (delete_told entry.result)
kind_told tells does.FindAndModify index entry now = now

-- a result with those of writes, by their entries, the first at an index
unfoldable pub entries_told : {R : Type 0} → ResultSpec R → ℕ → List Entry → R → R
entries_told tells index [] now = now
entries_told tells index (entry ∷ entries) now = entries_told tells (index + 1) entries (kind_told tells entry.written.kind index entry now)

-- the same where results of writes are kept
abbrev pub kept_told : {R : Type 0} → ResultSpec R → ℕ → List Entry → R → R
kept_told tells index entries now = if tells.only_errors then now else entries_told tells index entries now

-- the output of a bulk write is told by the entries of its writes: their counts, and the result of each at its index, the first
-- write at the index where the batch begins
abbrev pub TellsBulk : {R : Type 0} → ResultSpec R → ℕ → List Entry → R → Type 0
TellsBulk tells first entries output = output ≡ kept_told tells first entries (tells.counted tells.nothing (counts_by entries))
