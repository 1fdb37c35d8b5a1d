-- The writes of a list of calls by their places, and what the log says of a call.
use Rattle.std.specs.Prelude.{◌≡◌, ℕ, ◌+◌, Bool, true, false, ◌==◌, ◌&&◌, List, [], ◌∷◌, length, Option, None, Some, ◌⊎◌, slice_get, if◌then◌else◌, IsSome}
use Rattle.std.specs.FinMap as finite
use Rattle.std.specs.Option.{option_and_then, option_map}
use Rattle.std.specs.Ordering.{nat_cmp}
use Rattle.bson_lite.specs.declared.bson.Bson.{Bson}
use Rattle.bson_lite.specs.declared.bson.ObjectId.{ObjectId}
use Rattle.bson_lite.specs.declared.document.Pair.{Pair}
use Rattle.bson_lite.specs.declared.namespace.Namespace.{Namespace}
use Rattle.bson_lite.specs.Fields.{value_of, id_key, with_id}
use Rattle.bulk_outcomes.specs.BulkResults.{ResultSpec, summary_spec, verbose_spec}
use Rattle.driver_options.specs.declared.models.WriteModel.{WriteModel}
use Rattle.driver_link.specs.declared.machine.Entry.{Entry}
use Rattle.driver_link.specs.declared.machine.Place.{Place}
use Rattle.driver_link.specs.declared.machine.WriteKind.{WriteKind}
use Rattle.driver_link.specs.declared.machine.WriteKind.TheVariants as kind
use Rattle.driver_link.specs.declared.machine.Written.{Written}
use Rattle.statement_ops.specs.CountAnswers.{deleted_by, updated_by}
use Rattle.statement_ops.specs.FoundAnswers.{found_by}
use Rattle.bulk_ops.specs.BulkEntries.{counts_by, kept_told}
use Rattle.bulk_fronts.specs.BulkOps.{model_written}
use Rattle.driver_inputs.specs.declared.call.Answer.{Answer}
use Rattle.driver_inputs.specs.declared.call.Answer.TheVariants as answer
use Rattle.driver_inputs.specs.declared.call.Call.{Call}
use Rattle.driver_inputs.specs.declared.call.Call.TheVariants.{BulkWrite, InsertMany, Single}
use Rattle.driver_inputs.specs.declared.call.SingleAnswer.{SingleAnswer}
use Rattle.driver_inputs.specs.declared.call.SingleAnswer.TheVariants.{Deleted, Found, Inserted, Updated}
use Rattle.driver_inputs.specs.declared.single_write.SingleWrite.{SingleWrite}
use Rattle.driver_inputs.specs.Forms.{form_of, written_in}

-- a single write as it was given
abbrev pub written : SingleWrite → Written
written write = written_in (form_of write)

-- the insert of a document as it was given
abbrev pub given_insert : Namespace → List (Pair Bson) → Written
given_insert namespace document = record { kind = kind.Insert; namespace = namespace; document = document }

-- the write of a call at an index
abbrev pub write_in : Call → ℕ → Option Written
write_in (Single write) index = if index == 0 then Some (written write) else None
write_in (InsertMany namespace documents options) index = option_map (given_insert namespace) (slice_get documents index)
write_in (BulkWrite models options verbose) index = option_map model_written (slice_get models index)

-- the write that the caller gave at a place
unfoldable pub write_at : List Call → Place → Option Written
write_at calls place = option_and_then (λ call. write_in call place.index) (slice_get calls place.call)

-- a document that has an id as it was given, or else with one object id of twelve bytes put first
pub record GetsId (given sent : List (Pair Bson)) : Type 0 where
  pub id : ObjectId
  pub twelve : length id.bytes ≡ 12
  pub is : sent ≡ with_id id given

-- what a write of a kind carries is what was given, to the last field; only an insert's document gets an id where it has none
abbrev pub IsOwnDocument : WriteKind → List (Pair Bson) → List (Pair Bson) → Type 0
IsOwnDocument kind.Insert given sent = GetsId given sent
IsOwnDocument other given sent = sent ≡ given

-- a write that was sent is the one given
pub record IsOwn (given sent : Written) : Type 0 where
  pub kind : sent.kind ≡ given.kind
  pub namespace : sent.namespace ≡ given.namespace
  pub document : IsOwnDocument given.kind given.document sent.document

-- a write was given at this place, and the one that was sent is that one
abbrev pub OwnAt : Option Written → Written → Type 0
OwnAt None sent = ⊥
OwnAt (Some given) sent = IsOwn given sent

-- each entry is the caller's own write
abbrev pub Mine : List Call → List Entry → Type 0
Mine calls [] = Unit {0}
Mine calls (entry ∷ log) = OwnAt (write_at calls entry.place) entry.written × Mine calls log

-- an entry has this place
abbrev pub HasPlace : Place → List Entry → Type 0
HasPlace place [] = ⊥
HasPlace place (entry ∷ log) = (entry.place ≡ place) ⊎ HasPlace place log

-- each write of a call stands in the log
abbrev pub Done : List Call → ℕ → List Entry → Type 0
Done calls call log =
    (index : ℕ) → IsSome (write_at calls (record { call = call; index = index })) → HasPlace (record { call = call; index = index }) log

-- two places are the same
abbrev pub same_place : Place → Place → Bool
same_place a b = (a.call == b.call) && (a.index == b.index)

-- the entry at a place
unfoldable pub entry_at : Place → List Entry → Option Entry
entry_at place [] = None
entry_at place (entry ∷ log) = if same_place entry.place place then Some entry else entry_at place log

-- the id of the document in an entry
abbrev pub entry_id : Entry → Option Bson
entry_id entry = value_of id_key entry.written.document

-- what the entry of a write of a kind answers
abbrev pub answer_by : WriteKind → Entry → Option SingleAnswer
answer_by kind.Insert entry = option_map (λ id. Inserted (record { inserted_id = id })) (entry_id entry)
answer_by kind.Update entry = option_map (λ result. Updated result) (updated_by entry.result)
answer_by kind.Delete entry = option_map (λ result. Deleted result) (deleted_by entry.result)
answer_by kind.FindAndModify entry = option_map (λ found. Found found) (found_by entry.result)

-- an id at an index beside others, where there is one
abbrev pub put_id : ℕ → Option Bson → Option (finite.FinMap nat_cmp Bson) → Option (finite.FinMap nat_cmp Bson)
put_id index (Some id) (Some ids) = Some (finite.insert ids index id)
put_id index id ids = None

-- the ids of the documents of a call in the log, by their indexes, from one on: none where an entry is missing
abbrev pub ids_in_log : ℕ → ℕ → List (List (Pair Bson)) → List Entry → Option (finite.FinMap nat_cmp Bson)
ids_in_log call index [] log = Some finite.empty
ids_in_log call index (document ∷ documents) log =
    put_id index (option_and_then entry_id (entry_at (record { call = call; index = index }) log)) (ids_in_log call (index + 1) documents log)

-- the entries of the writes of models in the log, by their places, from an index on: none where one of them is missing
abbrev pub entries_in_log : ℕ → ℕ → List WriteModel → List Entry → Option (List Entry)
entries_in_log call index [] log = Some []
entries_in_log call index (model ∷ models) log =
    option_and_then (λ entry. option_map (λ rest. entry ∷ rest) (entries_in_log call (index + 1) models log))
    (entry_at (record { call = call; index = index }) log)

-- the result of a bulk write by the entries of its writes, in order: their counts, and in a verbose one the result of each at
-- its index
abbrev pub bulk_by : {R : Type 0} → ResultSpec R → List Entry → R
bulk_by tells entries = kept_told tells 0 entries (tells.counted tells.nothing (counts_by entries))

-- the answer of a bulk write by these entries: the counts alone, or with the result of each write
abbrev pub bulk_answer : Bool → List Entry → Answer
bulk_answer false entries = answer.Summary (bulk_by summary_spec entries)
bulk_answer true entries = answer.Verbose (bulk_by verbose_spec entries)

-- the answer of a call that the log spells
abbrev pub result_of : Call → ℕ → List Entry → Option Answer
result_of (Single write) call log =
    option_map (λ given. answer.Single given) (option_and_then (answer_by (written write).kind) (entry_at (record { call = call; index = 0 }) log))
result_of (InsertMany namespace documents options) call log =
    option_map (λ ids. answer.Many (record { inserted_ids = ids })) (ids_in_log call 0 documents log)
result_of (BulkWrite models options verbose) call log = option_map (bulk_answer verbose) (entries_in_log call 0 models log)

-- the answer of the call at a number that the log spells
unfoldable pub call_result : List Call → ℕ → List Entry → Option Answer
call_result calls call log = option_and_then (λ made. result_of made call log) (slice_get calls call)
