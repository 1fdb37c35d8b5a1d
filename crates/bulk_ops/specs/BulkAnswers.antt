-- What the pages of the answer to a bulk write come to.
use Rattle.std.specs.Prelude.{◌≡◌, ℕ, ◌+◌, ◌==◌, Bool, true, false, not, ◌&&◌, nat_lt, List, [], ◌∷◌, ◌++◌, length, Option, None, Some, is_none, slice_get, ◌⊎◌, Result, Ok, Err, if◌then◌else◌}
use Rattle.std.specs.List.{list_any}
use Rattle.std.specs.Option.{option_and_then}
use Rattle.std.specs.Ordering.{nat_cmp}
use Rattle.std.specs.FinMap as finite
use Rattle.bson_lite.specs.declared.bson.Bson.{Bson}
use Rattle.bson_lite.specs.declared.document.Pair.{Pair}
use Rattle.bson_lite.specs.Spelling.{Spells}
use Rattle.driver_error.specs.declared.error.Error.{Error}
use Rattle.driver_error.specs.declared.kind.ErrorKind.TheVariants as kind
use Rattle.server_answers.specs.declared.results.PartialBulkWriteResult.{PartialBulkWriteResult}
use Rattle.driver_error.specs.declared.write.BulkWriteError.{BulkWriteError}
use Rattle.driver_error.specs.declared.write.WriteConcernError.{WriteConcernError}
use Rattle.driver_error.specs.declared.write.WriteError.{WriteError}
use Rattle.bulk_outcomes.specs.BulkResults.{ResultSpec}
use Rattle.driver_error.specs.Error.{HasResponse, HasSource, IsAlone, kind_of}
use Rattle.driver_error.specs.LabelTexts.{label_set, no_labels}
use Rattle.driver_ops.specs.declared.operation.Reading.{Reading}
use Rattle.driver_ops.specs.declared.operation.Reading.TheVariants.{Done, Page as Further}
use Rattle.driver_ops.specs.Operations.{Page}
use Rattle.bulk_ops.specs.declared.bulk_reply.BulkReply.{BulkReply}
use Rattle.bulk_ops.specs.declared.bulk_reply.OpOutcome.{OpOutcome}
use Rattle.bulk_ops.specs.declared.bulk_reply.OpOutcome.TheVariants.{Counted, Failed}
use Rattle.bulk_ops.specs.declared.bulk_reply.OpResult.{OpResult}
use Rattle.bulk_ops.specs.declared.bulk_reply.ResultsPage.{ResultsPage}
use Rattle.bulk_ops.specs.declared.bulk_results.PageVerdict.{PageVerdict}
use Rattle.bulk_ops.specs.declared.bulk_results.PageVerdict.TheVariants.{Breaks, Last, LeavesOpen}
use Rattle.bulk_fronts.specs.declared.own_op.OpWork.{OpWork}
use Rattle.bulk_fronts.specs.declared.own_op.OpWork.TheVariants as work
use Rattle.bulk_fronts.specs.declared.own_op.OwnOp.{OwnOp}
use Rattle.bulk_ops.specs.BulkPages.{bulk_reply, next_page, odd_bulk_text, odd_page_text}
use Rattle.bulk_ops.specs.BulkRules.{ResultRules, failed_indexes, fault_text, verdict}

-- the batch whose answer is read: its ops, the index of the first of them in the caller's list, whether it stops at the first
-- that fails, and what its results are made of
pub record BulkBatch (R : Type 0) : Type 0 where
  pub ops : List OwnOp
  pub first : ℕ
  pub ordered : Bool
  pub tells : ResultSpec R

-- the rules of its results
abbrev pub rules_of : {R : Type 0} → BulkBatch R → ResultRules
rules_of batch = record { ops = length batch.ops; ordered = batch.ordered; only_errors = batch.tells.only_errors }

-- what was read with its cursor open: the reply, and the results of all pages so far, in order
pub record BulkRead : Type 0 where
  pub reply : BulkReply
  pub results : List OpResult

-- the reply with its results, and one more page behind what was read
abbrev pub first_read : BulkReply → BulkRead
first_read reply = record { reply = reply; results = reply.page.results }

abbrev pub further_read : BulkRead → ResultsPage → BulkRead
further_read read page = record read { results = read.results ++ page.results }

-- what the reply comes to by the rules, and what a further page does
abbrev pub first_verdict : {R : Type 0} → BulkBatch R → BulkReply → PageVerdict
first_verdict batch reply = verdict (rules_of batch) reply.errors true [] reply.page

abbrev pub further_verdict : {R : Type 0} → BulkBatch R → BulkRead → ResultsPage → PageVerdict
further_verdict batch read page = verdict (rules_of batch) read.reply.errors false read.results page

-- it is read where it leaves its cursor open
abbrev pub where_open : PageVerdict → BulkRead → Option BulkRead
where_open LeavesOpen read = Some read
where_open other read = None

-- what was read in pages, the newest first, each of which left its cursor open
unfoldable pub read_open : {R : Type 0} → BulkBatch R → List Page → Option BulkRead
read_open batch [] = None
read_open batch (Err failure ∷ pages) = None
read_open batch (Ok reply ∷ []) = option_and_then (λ found. where_open (first_verdict batch found) (first_read found)) (bulk_reply reply)
read_open batch (Ok reply ∷ earlier ∷ pages) =
    option_and_then (λ read. option_and_then (λ page. where_open (further_verdict batch read page) (further_read read page)) (next_page reply))
    (read_open batch (earlier ∷ pages))

-- a result with that of one op at its index, by what the op does and what it counted
abbrev pub with_work : {R : Type 0} → ResultSpec R → OpWork → ℕ → ℕ → ℕ → Option Bson → R → R
with_work tells (work.Insert id) index n modified upserted now = tells.with_insert now index (record { inserted_id = id })
with_work tells work.Update index n modified upserted now =
    tells.with_update now index (record { matched_count = n; modified_count = modified; upserted_id = upserted })
with_work tells work.Delete index n modified upserted now = tells.with_delete now index (record { deleted_count = n })

-- the same of the op at an index of the batch, where there is one
abbrev pub with_op : {R : Type 0} → ResultSpec R → Option OwnOp → ℕ → ℕ → ℕ → Option Bson → R → R
with_op tells None index n modified upserted now = now
with_op tells (Some own) index n modified upserted now = with_work tells own.work index n modified upserted now

-- a result with that of one results document: an op that failed has none, and where counts alone are kept none is kept
abbrev pub with_outcome : {R : Type 0} → BulkBatch R → ℕ → OpOutcome → R → R
with_outcome batch index (Failed error) now = now
with_outcome batch index (Counted n modified upserted) now =
    if batch.tells.only_errors then now
    else with_op batch.tells (slice_get batch.ops index) (batch.first + index) n modified upserted now

-- a result with those of results documents, in order
unfoldable pub with_results : {R : Type 0} → BulkBatch R → List OpResult → R → R
with_results batch [] now = now
with_results batch (result ∷ results) now = with_results batch results (with_outcome batch result.index result.outcome now)

-- the result of what was read: the counts of the reply, and what the results documents tell
abbrev pub result_read : {R : Type 0} → BulkBatch R → BulkRead → R
result_read batch read = with_results batch read.results (batch.tells.counted batch.tells.nothing read.reply.counts)

-- write errors with that of one results document, at an index of the caller's list
abbrev pub with_error : ℕ → OpOutcome → finite.FinMap nat_cmp WriteError → finite.FinMap nat_cmp WriteError
with_error index (Failed error) errors = finite.insert errors index error
with_error index (Counted n modified upserted) errors = errors

-- write errors with those of results documents, in order, the first op at an index of the caller's list
unfoldable pub with_errors : ℕ → List OpResult → finite.FinMap nat_cmp WriteError → finite.FinMap nat_cmp WriteError
with_errors first [] errors = errors
with_errors first (result ∷ results) errors = with_errors first results (with_error (first + result.index) result.outcome errors)

-- the write concern error as a list
abbrev pub concerns : Option WriteConcernError → List WriteConcernError
concerns None = []
concerns (Some concern) = concern ∷ []

-- the first op of the batch
abbrev pub is_first : ℕ → Bool
is_first index = index == 0

-- some write succeeded: of an ordered batch where no error was read, or none is of its first op; of another where the reply
-- counts fewer errors than there are ops
abbrev pub stands_partial : {R : Type 0} → BulkBatch R → BulkRead → Bool
stands_partial batch read =
    if batch.ordered then not (list_any is_first (failed_indexes read.results)) else nat_lt read.reply.errors (length batch.ops)

-- what succeeded, where something did
abbrev pub partial_read : {R : Type 0} → BulkBatch R → BulkRead → Option PartialBulkWriteResult
partial_read batch read = if stands_partial batch read then Some (batch.tells.partial (result_read batch read)) else None

-- the failures that were read, under the caller's indexes
abbrev pub failures_read : {R : Type 0} → BulkBatch R → BulkRead → BulkWriteError
failures_read batch read = record {
  write_concern_errors = concerns read.reply.concern;
  write_errors = with_errors batch.first read.results finite.empty;
  partial_result = partial_read batch read;
}

-- none failed
abbrev pub are_none : List ℕ → Bool
are_none [] = true
are_none (failed ∷ rest) = false

-- nothing failed in what was read
abbrev pub is_clean : BulkRead → Bool
is_clean read = are_none (failed_indexes read.results) && is_none read.reply.concern

-- the error of what was read: its failures, with the labels of the reply, and nothing else
abbrev pub IsReadError : {R : Type 0} → BulkBatch R → BulkRead → Error → Type 0
IsReadError batch read error = IsAlone (kind.BulkWrite (failures_read batch read)) (label_set read.reply.labels) error

-- the same error with a failed page as its source
pub record IsPageError {R : Type 0} (batch : BulkBatch R) (read : BulkRead) (source error : Error) : Type 0 where
  pub bare : Error
  pub is : IsReadError batch read bare
  pub caused : HasSource (Some source) bare error

-- the bytes of a page as a response; a document without a spelling, which no page that came is, has none
abbrev pub IsResponse : List (Pair Bson) → Option (List ℕ) → Type 0
IsResponse page (Some bytes) = Spells page bytes
IsResponse page None = (bytes : List ℕ) → Spells page bytes → ⊥

-- a page does not do, and the error says why, with the page as its response
pub record IsOddPage (page : List (Pair Bson)) (text : List ℕ) (error : Error) : Type 0 where
  pub response : Option (List ℕ)
  pub responds : IsResponse page response
  pub bare : Error
  pub alone : IsAlone (kind.InvalidResponse text) no_labels bare
  pub kept : HasResponse response bare error

-- a page that does not do is the source of the error of what was read before it
pub record FailsAtPage {R : Type 0} (batch : BulkBatch R) (read : BulkRead) (page : List (Pair Bson)) (text : List ℕ) (error : Error) : Type 0 where
  pub source : Error
  pub odd : IsOddPage page text source
  pub is : IsPageError batch read source error

-- where all pages were read: the result, where nothing failed, else the error
abbrev pub EndsBulk : {R : Type 0} → BulkBatch R → BulkRead → Result (Reading R) Error → Type 0
EndsBulk batch read (Ok (Done output)) = (is_clean read ≡ true) × (output ≡ result_read batch read)
EndsBulk batch read (Ok (Further cursor namespace)) = ⊥
EndsBulk batch read (Err error) = (is_clean read ≡ false) × IsReadError batch read error

-- a page with an open cursor is asked on for by that, under its namespace
abbrev pub GoesOn : {R : Type 0} → ResultsPage → Result (Reading R) Error → Type 0
GoesOn page result = result ≡ Ok (Further page.cursor page.namespace)

-- what the reply comes to by its verdict: a broken rule is an InvalidResponse and nothing else
abbrev pub OpensBy : {R : Type 0} → PageVerdict → BulkBatch R → BulkReply → Result (Reading R) Error → Type 0
OpensBy LeavesOpen batch reply result = GoesOn reply.page result
OpensBy Last batch reply result = EndsBulk batch (first_read reply) result
OpensBy (Breaks fault) batch reply (Ok reading) = ⊥
OpensBy (Breaks fault) batch reply (Err error) = IsAlone (kind.InvalidResponse (fault_text fault)) no_labels error

-- the same by its fields
abbrev pub OpensBulk : {R : Type 0} → BulkBatch R → Option BulkReply → Result (Reading R) Error → Type 0
OpensBulk batch None (Ok reading) = ⊥
OpensBulk batch None (Err error) = IsAlone (kind.InvalidResponse odd_bulk_text) no_labels error
OpensBulk batch (Some reply) result = OpensBy (first_verdict batch reply) batch reply result

-- what a further page comes to by its verdict: one that breaks a rule is the source of the error of what was read before it
abbrev pub GoesOnBy : {R : Type 0} → PageVerdict → BulkBatch R → BulkRead → List (Pair Bson) → ResultsPage → Result (Reading R) Error → Type 0
GoesOnBy LeavesOpen batch read reply page result = GoesOn page result
GoesOnBy Last batch read reply page result = EndsBulk batch (further_read read page) result
GoesOnBy (Breaks fault) batch read reply page (Ok reading) = ⊥
GoesOnBy (Breaks fault) batch read reply page (Err error) = FailsAtPage batch read reply (fault_text fault) error

-- the same by its fields
abbrev pub GoesOnBulk : {R : Type 0} → BulkBatch R → BulkRead → List (Pair Bson) → Option ResultsPage → Result (Reading R) Error → Type 0
GoesOnBulk batch read reply None (Ok reading) = ⊥
GoesOnBulk batch read reply None (Err error) = FailsAtPage batch read reply odd_page_text error
GoesOnBulk batch read reply (Some page) result = GoesOnBy (further_verdict batch read page) batch read reply page result

-- a page that did not come is the source of the error of what was read before it
abbrev pub StopsAtPage : {R : Type 0} → BulkBatch R → Option BulkRead → Error → Result (Reading R) Error → Type 0
StopsAtPage batch None failure result = ⊥
StopsAtPage batch (Some read) failure (Ok reading) = ⊥
StopsAtPage batch (Some read) failure (Err error) = IsPageError batch read failure error

-- a page comes behind others that were read and left their cursor open
abbrev pub ComesBehind : {R : Type 0} → BulkBatch R → Option BulkRead → List (Pair Bson) → Result (Reading R) Error → Type 0
ComesBehind batch None reply result = ⊥
ComesBehind batch (Some read) reply result = GoesOnBulk batch read reply (next_page reply) result

-- what pages come to, the newest first
abbrev pub AnswersBulk : {R : Type 0} → BulkBatch R → List Page → Result (Reading R) Error → Type 0
AnswersBulk batch [] result = ⊥
AnswersBulk batch (Err failure ∷ pages) result = StopsAtPage batch (read_open batch pages) failure result
AnswersBulk batch (Ok reply ∷ []) result = OpensBulk batch (bulk_reply reply) result
AnswersBulk batch (Ok reply ∷ earlier ∷ pages) result = ComesBehind batch (read_open batch (earlier ∷ pages)) reply result

-- there was no memory for the newest page
abbrev pub LacksMemory : List Page → Type 0
LacksMemory (Err failure ∷ pages) = kind_of failure ≡ kind.Memory
LacksMemory pages = ⊥

-- pages are read so, unless memory runs out; a page that failed for want of memory is that alone
abbrev pub ReadsBulk : {R : Type 0} → BulkBatch R → List Page → Result (Reading R) Error → Type 0
ReadsBulk batch pages (Ok reading) = AnswersBulk batch pages (Ok reading)
ReadsBulk batch pages (Err error) = (kind_of error ≡ kind.Memory) ⊎ ((LacksMemory pages → ⊥) × AnswersBulk batch pages (Err error))
