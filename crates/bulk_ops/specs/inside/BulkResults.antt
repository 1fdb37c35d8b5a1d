-- What is kept of the results of a bulk write as they come, as the functions that read them say it.
use Rattle.std.specs.Prelude.{◌≡◌, ℕ, suc, ◌-◌, ◌<◌, ◌==◌, ◌⊎◌, pos, Bool, true, false, nat_le, nat_lt, List, [], ◌∷◌, ◌++◌, length, take, Option, None, Some, Result, Ok, Err, if◌then◌else◌}
use Rattle.std.specs.List.{list_all}
use Rattle.std.specs.Ordering.{int_eq}
use Rattle.std.specs.FinMap as finite
use Rattle.driver_error.specs.declared.error.Error.{Error}
use Rattle.driver_error.specs.declared.kind.ErrorKind.TheVariants as kind
use Rattle.bulk_outcomes.specs.BulkResults.{ResultSpec}
use Rattle.driver_error.specs.Error.{kind_of}
use Rattle.driver_options.specs.declared.write_options.BulkWriteOptions.{BulkWriteOptions}
use Rattle.driver_ops.specs.declared.operation.Reading.{Reading}
use Rattle.driver_ops.specs.Operations.{OnPage, Page}
use Rattle.bulk_ops.specs.declared.bulk_reply.BulkReply.{BulkReply}
use Rattle.bulk_ops.specs.declared.bulk_reply.OpOutcome.{OpOutcome}
use Rattle.bulk_ops.specs.declared.bulk_reply.OpOutcome.TheVariants.{Counted, Failed}
use Rattle.bulk_ops.specs.declared.bulk_reply.OpResult.{OpResult}
use Rattle.bulk_ops.specs.declared.bulk_reply.ResultsPage.{ResultsPage}
use Rattle.bulk_ops.specs.declared.bulk_results.BulkProgress.{BulkProgress}
use Rattle.bulk_ops.specs.declared.bulk_results.FailedOps.{FailedOps}
use Rattle.bulk_ops.specs.declared.bulk_results.FailedOps.TheVariants as failed
use Rattle.bulk_ops.specs.declared.op_batch.OpBatch.{OpBatch}
use Rattle.bulk_ops.specs.declared.bulk_results.Paged.{Paged}
use Rattle.bulk_ops.specs.declared.bulk_results.Paged.TheVariants as paged
use Rattle.bulk_ops.specs.declared.bulk_results.Paged.TheVariants.{Open}
use Rattle.bulk_ops.specs.declared.bulk_results.PageFault.TheVariants as fault
use Rattle.bulk_ops.specs.declared.bulk_results.PageVerdict.{PageVerdict}
use Rattle.bulk_ops.specs.declared.bulk_results.PageVerdict.TheVariants.{Breaks, Last, LeavesOpen}
use Rattle.bulk_ops.specs.declared.bulk_results.SeenResults.{SeenResults}
use Rattle.bulk_fronts.specs.declared.own_op.OwnOp.{OwnOp}
use Rattle.bulk_ops.specs.BulkAnswers.{BulkBatch, BulkRead, EndsBulk, ReadsBulk, further_read, read_open, result_read, rules_of, with_errors, with_results}
use Rattle.bulk_ops.specs.BulkRules.{ResultRules, are_all_seen, are_placed, are_within, failed_indexes, is_seen, open_verdict, unseen, verdict}
use Rattle.bulk_ops.specs.BulkSpec.{batch_read}
use Rattle.bulk_ops.specs.inside.SeenFlags.{flag_at}

-- the batch that a function is handed, with what its results are made of
abbrev pub batch_told : {R : Type 0} → ResultSpec R → OpBatch → BulkBatch R
batch_told tells batch = record { ops = batch.ops.now; first = batch.first; ordered = batch.ordered; tells = tells }

-- its rules
abbrev pub rules_told : OpBatch → Bool → ResultRules
rules_told batch only_errors = record { ops = length batch.ops.now; ordered = batch.ordered; only_errors = only_errors }

-- the higher of two indexes, of which the first may be missing
abbrev pub higher : Option ℕ → ℕ → ℕ
higher None index = index
higher (Some highest) index = if nat_lt index highest then highest else index

-- no index is higher than this one
abbrev pub within : Option ℕ → ℕ → Bool
within None index = true
within (Some highest) index = nat_le highest index

-- the ops that failed, by their indexes
abbrev pub failed_told : List ℕ → FailedOps
failed_told [] = failed.None
failed_told (index ∷ []) = failed.One index
failed_told indexes = failed.More

-- the same with one more
abbrev pub one_more_failed : FailedOps → ℕ → FailedOps
one_more_failed failed.None index = failed.One index
one_more_failed other index = failed.More

-- how many errors are yet to come, or none where more came than were counted
abbrev pub left_of : ℕ → ℕ → Option ℕ
left_of counted came = if nat_lt counted came then None else Some (counted - came)

-- the same once one more came
abbrev pub one_error_less : Option ℕ → Option ℕ
one_error_less None = None
one_error_less (Some left) = if nat_lt 0 left then Some (left - 1) else None

-- what is noted once a result of an op that had none came, whose flag was set: whether the op failed, and the highest index
abbrev pub noted_with : SeenResults → ℕ → OpOutcome → SeenResults
noted_with seen index (Failed error) = record seen {
  highest = Some (higher seen.highest index);
  failed = one_more_failed seen.failed index;
  errors_left = one_error_less seen.errors_left;
}
noted_with seen index (Counted n modified upserted) = record seen { highest = Some (higher seen.highest index) }

-- no error is yet to come, and none came too many
abbrev pub none_left : Option ℕ → Bool
none_left None = false
none_left (Some left) = left == 0

-- the result of an op at an index came
abbrev pub has_seen : SeenResults → ℕ → Bool
has_seen seen index = flag_at seen.flags.items index

-- what is noted of results, by how many errors the reply counts
pub record IsSeen (errors : ℕ) (results : List OpResult) (seen : SeenResults) : Type 0 where
  pub indexes : (index : ℕ) → has_seen seen index ≡ is_seen results index
  pub highest : (index : ℕ) → list_all (λ result. nat_le result.index index) results ≡ within seen.highest index
  pub failed : seen.failed ≡ failed_told (failed_indexes results)
  pub left : seen.errors_left ≡ left_of errors (length (failed_indexes results))

-- results are noted, each of which is of an op of the batch; behind others that were all placed so are these
pub record NotesPlaced (ops : ℕ) (old new : SeenResults) (results : List OpResult) : Type 0 where
  pub within : are_within ops results ≡ true
  pub seen : (errors : ℕ) (earlier : List OpResult) → IsSeen errors earlier old → are_placed ops earlier ≡ true → IsSeen errors (earlier ++ results) new
  pub placed : (errors : ℕ) (earlier : List OpResult) → IsSeen errors earlier old → are_placed ops earlier ≡ true → are_placed ops (earlier ++ results) ≡ true

-- the results of a page were noted behind others, where they are all placed; else it is told that they are not
abbrev pub NotesResults : ℕ → SeenResults → SeenResults → List OpResult → Bool → Type 0
NotesResults ops old new results true = NotesPlaced ops old new results
NotesResults ops old new results false =
    (errors : ℕ) (earlier : List OpResult) → IsSeen errors earlier old → are_placed ops earlier ≡ true → are_placed ops (earlier ++ results) ≡ false

-- an ordered batch stopped at the op that failed, by what is noted
abbrev pub order_of : FailedOps → Option ℕ → Bool
order_of failed.None highest = true
order_of (failed.One index) highest = within highest index
order_of failed.More highest = false

abbrev pub keeps_order_seen : Bool → SeenResults → Bool
keeps_order_seen false seen = true
keeps_order_seen true seen = order_of seen.failed seen.highest

-- the ops that have a result at the end, by those that failed
abbrev pub ops_by : Bool → ℕ → FailedOps → ℕ
ops_by true ops (failed.One index) = suc index
ops_by ordered ops failed = ops

-- no result is missing at the end, by what is noted
abbrev pub complete_seen : OpBatch → Bool → SeenResults → Bool
complete_seen batch only_errors seen =
    if only_errors then true else are_all_seen (ops_by batch.ordered (length batch.ops.now) seen.failed) (has_seen seen)

-- what the end of the pages comes to by it
abbrev pub closing_seen : OpBatch → Bool → SeenResults → PageVerdict
closing_seen batch only_errors seen =
    if none_left seen.errors_left
    then (if complete_seen batch only_errors seen then Last else Breaks fault.Missing)
    else Breaks fault.Miscounted

-- what a page comes to whose results were all noted
abbrev pub seen_verdict : OpBatch → Bool → Bool → ResultsPage → SeenResults → PageVerdict
seen_verdict batch only_errors first page seen =
    if keeps_order_seen batch.ordered seen
    then (if int_eq page.cursor (pos 0) then closing_seen batch only_errors seen else open_verdict first page.results)
    else Breaks fault.Disordered

-- the verdict on a page behind results that were placed, which are noted then with its own, unless one of these is misplaced
pub record JudgesPage (batch : OpBatch) (only_errors first : Bool) (old new : SeenResults) (page : ResultsPage) (found : PageVerdict) : Type 0 where
  pub is : (errors : ℕ) (earlier : List OpResult) → IsSeen errors earlier old → are_placed (length batch.ops.now) earlier ≡ true
      → found ≡ verdict (rules_told batch only_errors) errors first earlier page
  pub notes : (found ≡ Breaks fault.Misplaced → ⊥) → NotesPlaced (length batch.ops.now) old new page.results

-- what is kept of the reply and of results is what was read of a batch's answer
pub record IsTaken {R : Type 0} (batch : BulkBatch R) (read : BulkRead) (progress : BulkProgress R) : Type 0 where
  pub errors : progress.errors ≡ read.reply.errors
  pub concern : progress.concern ≡ read.reply.concern
  pub labels : progress.labels ≡ read.reply.labels
  pub result : progress.result ≡ result_read batch read
  pub write_errors : progress.write_errors ≡ with_errors batch.first read.results finite.empty

-- and all its results are placed, and noted
pub record IsProgress {R : Type 0} (batch : BulkBatch R) (read : BulkRead) (progress : BulkProgress R) : Type 0 where
  pub taken : IsTaken batch read progress
  pub seen : IsSeen read.reply.errors read.results progress.seen
  pub placed : are_placed (length batch.ops) read.results ≡ true

-- a reply of which no result was read yet
abbrev pub begun : BulkReply → BulkRead
begun reply = record { reply = reply; results = [] }

-- results of ops were taken, in order, and nothing else changed
pub record TakesResults {R : Type 0} (batch : BulkBatch R) (old new : BulkProgress R) (results : List OpResult) : Type 0 where
  pub result : new.result ≡ with_results batch results old.result
  pub write_errors : new.write_errors ≡ with_errors batch.first results old.write_errors
  pub rest : new ≡ record old { result = new.result; write_errors = new.write_errors }

-- a page came to this behind what was read: it was taken where it breaks no rule
abbrev pub ReadsPage : {R : Type 0} → BulkBatch R → BulkRead → Bool → ResultsPage → Paged → BulkProgress R → Type 0
ReadsPage batch read first page (Open cursor namespace) now =
    (verdict (rules_of batch) read.reply.errors first read.results page ≡ LeavesOpen) × (cursor ≡ page.cursor) × (namespace ≡ page.namespace)
    × IsProgress batch (further_read read page) now
ReadsPage batch read first page paged.Last now =
    (verdict (rules_of batch) read.reply.errors first read.results page ≡ Last) × IsTaken batch (further_read read page) now
ReadsPage batch read first page (paged.Breaks fault) now =
    (verdict (rules_of batch) read.reply.errors first read.results page ≡ Breaks fault) × IsTaken batch read now

-- the same of a page behind the reply, whatever was read before it and is kept
abbrev pub ReadsBehind : {R : Type 0} → BulkBatch R → BulkProgress R → BulkProgress R → ResultsPage → Paged → Type 0
ReadsBehind batch old now page paged = (read : BulkRead) → IsProgress batch read old → ReadsPage batch read false page paged now

-- the end of what was read, unless memory runs out
abbrev pub EndsOrLacks : {R : Type 0} → BulkBatch R → BulkRead → Result (Reading R) Error → Type 0
EndsOrLacks batch read (Ok reading) = EndsBulk batch read (Ok reading)
EndsOrLacks batch read (Err error) = (kind_of error ≡ kind.Memory) ⊎ EndsBulk batch read (Err error)

-- the pages that were read of the answer to a batch of so many ops, and what is kept of them
pub record HasReadPages {R : Type 0} (batch : BulkBatch R) (progress : BulkProgress R) (pages : List Page) : Type 0 where
  pub read : BulkRead
  pub is : read_open batch pages ≡ Some read
  pub kept : IsProgress batch read progress

-- how many ops a batch has: as many as are fixed, or all
abbrev pub ops_in : Option ℕ → List OwnOp → ℕ
ops_in None own = length own
ops_in (Some statements) own = statements

-- the same of the batch of these ops, where something is kept
abbrev pub HasReadBulk : {R : Type 0} → ResultSpec R → ℕ → List OwnOp → BulkWriteOptions → Option ℕ → Option (BulkProgress R) → List Page → Type 0
HasReadBulk tells first own options fixed None pages = ⊥
HasReadBulk tells first own options fixed (Some progress) pages = HasReadPages (batch_read tells first own options (ops_in fixed own)) progress pages

-- how many ops of that batch have no result yet, where something is kept
abbrev pub left_unseen : {R : Type 0} → List OwnOp → Option ℕ → Option (BulkProgress R) → ℕ
left_unseen own fixed None = 0
left_unseen own fixed (Some progress) = unseen (length (take (ops_in fixed own) own)) (has_seen progress.seen)

-- something is kept, which is what was read in these pages
abbrev pub KeepsPages : {R : Type 0} → BulkBatch R → Option (BulkProgress R) → List Page → Type 0
KeepsPages batch None pages = ⊥
KeepsPages batch (Some progress) pages = HasReadPages batch progress pages

-- what pages come to, and what is kept of them where another page is behind them
pub record AnswersPages {R : Type 0} (batch : BulkBatch R) (pages : List Page) (kept : Option (BulkProgress R)) (answer : Result (Reading R) Error) : Type 0 where
  pub reads : ReadsBulk batch pages answer
  pub keeps : OnPage answer (KeepsPages batch kept pages)

-- fewer ops have no result yet
abbrev pub FewerUnseen : {R : Type 0} → ℕ → BulkProgress R → Option (BulkProgress R) → Type 0
FewerUnseen ops old None = ⊥
FewerUnseen ops old (Some now) = unseen ops (has_seen now.seen) < unseen ops (has_seen old.seen)
