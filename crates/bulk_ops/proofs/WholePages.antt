-- Over statements of which none failed, and none counted a negative number, the machine's reply to a bulk write and the page behind it
-- are read as they are: they break no rule, and the last of them ends the answer without an error.
use Rattle.std.proofs.Common.{◌≡◌, ℕ, zero, suc, ◌+◌, ◌<◌, ◌≤◌, ◌==◌, Bool, true, false, cond, List, [], ◌∷◌, ◌++◌, length, filter, not, ◌&&◌, ◌||◌, nat_lt, lt-ltb, ltb-true, ltb-false, eq-eqb, ne_eqb, length-append, refl, sym, ap, subst, ◌∙◌, inl, arith}
use Rattle.std.specs.Prelude.{ℤ, pos, negsuc, ◌≤ℤ◌, ◌+ℤ◌, count_by, Option, None, Some, is_none, Result, Ok, Err, if◌then◌else◌}
use Rattle.std.specs.Option.{option_and_then, option_map}
use Rattle.std.specs.Ordering.{int_eq}
use Rattle.std.proofs.lemmas.Bool.{or_from}
use Rattle.std.proofs.lemmas.Int.{ints}
use Rattle.std.proofs.lemmas.List.{append-nil}
use Rattle.std.proofs.lemmas.List.Sums.{sum_by-cons}
use denote.Hole.Carrier.{out}
use Rattle.bson_lite.specs.declared.bson.Bson.{Bson}
use Rattle.bson_lite.specs.declared.bson.Bson as bson
use Rattle.bson_lite.specs.declared.namespace.Namespace.{Namespace}
use Rattle.bson_lite.specs.Fields.{value_of}
use Rattle.bson_lite.specs.Spelling.{Spells}
use Rattle.driver_error.specs.declared.error.Error.{Error}
use Rattle.driver_error.specs.declared.kind.ErrorKind.TheVariants as error
use Rattle.driver_error.specs.Error.{kind_of}
use Rattle.server_answers.specs.declared.results.SummaryBulkWriteResult.{SummaryBulkWriteResult}
use Rattle.wire_keys.specs.declared.keys.TheConstants.{BULK_NAMESPACE, CURSOR, FIRST_BATCH, N_DELETED, N_ERRORS, N_INSERTED, N_MATCHED, N_MODIFIED, N_UPSERTED, NEXT_BATCH}
use Rattle.driver_link.specs.declared.machine.Counted.{Counted}
use Rattle.driver_link.specs.declared.machine.PlacedWrite.{PlacedWrite}
use Rattle.driver_link.specs.declared.machine.SendCommand.TheVariants as command
use Rattle.driver_link.specs.declared.machine.Statement.{Statement}
use Rattle.driver_link.specs.declared.machine.Statement.TheVariants.{Kept, Ran, Failed}
use Rattle.driver_link.specs.declared.machine.WriteKind.{WriteKind}
use Rattle.driver_link.specs.declared.machine.WriteKind.TheVariants as kind
use Rattle.driver_link.specs.Commands.{needed, optional_value}
use Rattle.driver_link.specs.Cursors.{Reply, cursor_number, first_page, pages_left, row, rows}
use Rattle.driver_link.specs.Replies.{is_kind, kept_where, page_reply_of, results_of_kind, sum_of, write_reply}
use Rattle.driver_link.specs.Statements.{is_failed}
use Rattle.driver_link.specs.Writes.{cut}
use Rattle.driver_link.proofs.Forms.{text_is}
use Rattle.driver_link.proofs.Lists.{some_is_some}
use Rattle.driver_ops.specs.declared.operation.Reading.{Reading}
use Rattle.driver_ops.specs.declared.operation.Reading.TheVariants.{Page as Further}
use Rattle.driver_ops.specs.Readings.{labels_in, natural, natural_of}
use Rattle.driver_ops.specs.Responses.{ReadsResponse, done, said}
use Rattle.driver_ops.specs.WriteReplies.{reply_concern_error}
use Rattle.driver_ops.specs.GetMores.{at_namespace, kill_spec}
use Rattle.driver_ops.specs.lawful.InsertRead.{differ}
use Rattle.driver_ops.proofs.PlainReading.{only_memory}
use Rattle.bulk_ops.specs.declared.bulk_reply.BulkReply.{BulkReply}
use Rattle.bulk_ops.specs.declared.bulk_reply.OpOutcome.{OpOutcome}
use Rattle.bulk_ops.specs.declared.bulk_reply.OpOutcome.TheVariants as came
use Rattle.bulk_ops.specs.declared.bulk_reply.OpResult.{OpResult}
use Rattle.bulk_ops.specs.declared.bulk_reply.ResultsPage.{ResultsPage}
use Rattle.bulk_ops.specs.declared.bulk_results.PageFault.TheVariants as fault
use Rattle.bulk_ops.specs.declared.bulk_results.PageVerdict.{PageVerdict}
use Rattle.bulk_ops.specs.declared.bulk_results.PageVerdict.TheVariants.{Breaks, Last, LeavesOpen}
use Rattle.bulk_ops.specs.BulkAnswers.{AnswersBulk, BulkBatch, ComesBehind, GoesOnBulk, GoesOnBy, OpensBulk, OpensBy, are_none, first_read, first_verdict, is_clean, rules_of}
use Rattle.bulk_ops.specs.BulkLawful.{none_is_left, opened_read, pages_whole}
use Rattle.bulk_ops.specs.BulkPages.{bulk_namespace, bulk_reply, counts_in, cursor_namespace, next_page, op_result_of, op_results, page_in}
use Rattle.bulk_ops.specs.BulkRules.{ResultRules, are_all_seen, are_apart, are_complete, are_placed, are_within, closing_verdict, failed_indexes, has_failed_outcome, is_failure, is_of, is_seen, keep_order, none_behind, open_verdict, ops_told, verdict}
use Rattle.bulk_ops.specs.NaturalCounts.{IsNatural}
use Rattle.bulk_ops.specs.lawful.BulkReplies.{count_of, count_read, counts_chain, counts_with, cursor_document, deleted_in, fields_with, inserted_in, matched_in, modified_in, page_chain, page_parts, page_with, upserted_in}
use Rattle.bulk_ops.specs.lawful.ResultRows.{as_values, at_index, consed, counted_row, counted_with, modified_found, number_read, row_read}

-- ---- statements that count
-- a statement did not fail, and counted no negative number
abbrev pub CountsNatural : Statement → Type 0
CountsNatural (Kept result) = IsNatural result
CountsNatural (Ran result) = IsNatural result
CountsNatural (Failed code) = ⊥

-- so it is of each
abbrev pub AllNatural : List Statement → Type 0
AllNatural [] = Unit {0}
AllNatural (statement ∷ ran) = CountsNatural statement × AllNatural ran

below : (count : ℕ) → pos 0 ≤ℤ negsuc count → ⊥
below count within = omega (arith, ints)

-- ---- what is read of their documents
-- what an op counted is no failure
outcome_some : (does : WriteKind) (n modified : ℤ) (upserted : Option Bson) → pos 0 ≤ℤ n → pos 0 ≤ℤ modified
    → (outcome : OpOutcome) × ((counted_with (Some upserted) (modified_found does modified) (natural n) ≡ Some outcome) × (has_failed_outcome outcome ≡ false))
outcome_some does (negsuc n) modified upserted some more = absurd (below n some)
outcome_some kind.Update (pos n) (negsuc modified) upserted some more = absurd (below modified more)
outcome_some kind.Update (pos n) (pos modified) upserted some more = (came.Counted n modified upserted, (refl, refl))
outcome_some kind.Insert (pos n) modified upserted some more = (came.Counted n 0 upserted, (refl, refl))
outcome_some kind.Delete (pos n) modified upserted some more = (came.Counted n 0 upserted, (refl, refl))
outcome_some kind.FindAndModify (pos n) modified upserted some more = (came.Counted n 0 upserted, (refl, refl))

-- a result is that of the op at an index, which did not fail
record IsResultOf (at : ℕ) (document : Reply) : Type 0 where
  told : OpResult
  is : op_result_of (bson.Document document) ≡ Some told
  index : told.index ≡ at
  unfailed : is_failure told ≡ false

counted_result : (at : ℕ) (does : WriteKind) (result : Counted) → IsNatural result → IsResultOf at (counted_row at does result.n result.modified result.upserted)
counted_result at does result counts =
    let outcome = outcome_some does result.n result.modified result.upserted counts.0 counts.1 in record {
      told = at_index at outcome.0;
      is = row_read at does result.n result.modified result.upserted ∙ ap (option_map (at_index at)) outcome.1.0;
      index = refl;
      unfailed = outcome.1.1;
    }

row_result : (at : ℕ) (does : WriteKind) (statement : Statement) → CountsNatural statement → IsResultOf at (row at does statement)
row_result at does (Kept result) counts = counted_result at does result counts
row_result at does (Ran result) counts = counted_result at does result counts
row_result at does (Failed code) counts = absurd counts

-- results of ops one after another, from an index on, of which none failed
abbrev FollowOn : ℕ → List OpResult → Type 0
FollowOn at [] = Unit {0}
FollowOn at (told ∷ results) = ((told.index ≡ at) × (is_failure told ≡ false)) × FollowOn (at + 1) results

-- documents are read so
record AreRead (at : ℕ) (documents : List Reply) : Type 0 where
  results : List OpResult
  is : op_results (as_values documents) ≡ Some results
  follow : FollowOn at results
  long : length results ≡ length documents

rows_are : (at : ℕ) (writes : List PlacedWrite) (ran : List Statement) → AllNatural ran → AreRead at (rows at writes ran)
unfolding op_results rows
rows_are at [] ran all = record { results = []; is = refl; follow = tt; long = refl }
rows_are at (write ∷ writes) [] all = record { results = []; is = refl; follow = tt; long = refl }
rows_are at (write ∷ writes) (statement ∷ ran) all =
    let one = row_result at write.written.kind statement all.0 in
    let rest = rows_are (at + 1) writes ran all.1 in record {
      results = one.told ∷ rest.results;
      is = ap (option_and_then (λ result. option_map (λ more. result ∷ more) (op_results (as_values (rows (at + 1) writes ran))))) one.is
          ∙ ap (option_map (λ more. one.told ∷ more)) rest.is;
      follow = ((one.index, one.unfailed), rest.follow);
      long = ap suc rest.long;
    }

-- what two lists of documents are read as together is what each is read as
record Parted (xs ys : List Reply) (results : List OpResult) : Type 0 where
  front : List OpResult
  rest : List OpResult
  front_is : op_results (as_values xs) ≡ Some front
  rest_is : op_results (as_values ys) ≡ Some rest
  whole : results ≡ front ++ rest

parted : (xs ys : List Reply) (results : List OpResult) → op_results (as_values (xs ++ ys)) ≡ Some results → Parted xs ys results
unfolding op_results
parted [] ys results is = record { front = []; rest = results; front_is = refl; rest_is = is; whole = refl }
parted (x ∷ xs) ys results is =
    let found = consed (op_result_of (bson.Document x)) (op_results (as_values (xs ++ ys))) results is in
    let behind = parted xs ys found.more found.rest_is in record {
      front = found.told ∷ behind.front;
      rest = behind.rest;
      front_is = ap (option_and_then (λ result. option_map (λ more. result ∷ more) (op_results (as_values xs)))) found.first_is
          ∙ ap (option_map (λ more. found.told ∷ more)) behind.front_is;
      rest_is = behind.rest_is;
      whole = found.is ∙ ap (λ more. found.told ∷ more) behind.whole;
    }

follow_front : (at : ℕ) (xs ys : List OpResult) → FollowOn at (xs ++ ys) → FollowOn at xs
follow_front at [] ys follow = tt
follow_front at (x ∷ xs) ys follow = (follow.0, follow_front (at + 1) xs ys follow.1)

-- ---- they break no rule
both : (a b : Bool) → a ≡ true → b ≡ true → (a && b) ≡ true
both a b first second = ap (λ t. t && b) first ∙ second

within_all : (ops at : ℕ) (results : List OpResult) → FollowOn at results → at + length results ≤ ops → are_within ops results ≡ true
within_all ops at [] follow fits = refl
within_all ops at (told ∷ results) follow fits =
    let index : told.index ≡ at = follow.0.0 in
    both (nat_lt told.index ops) (are_within ops results) (lt-ltb told.index ops (omega (arith, index, fits))) (within_all ops (at + 1) results follow.1 (omega (arith, fits)))

unseen_before : (at index : ℕ) (results : List OpResult) → FollowOn at results → index < at → is_seen results index ≡ false
unseen_before at index [] follow before = refl
unseen_before at index (told ∷ results) follow before =
    let here : told.index ≡ at = follow.0.0 in
    or_from (is_of index told) (is_seen results index) (ne_eqb told.index index (λ same. omega (arith, here, same, before))) (unseen_before (at + 1) index results follow.1 (omega (arith, before)))

apart_all : (at : ℕ) (results : List OpResult) → FollowOn at results → are_apart results ≡ true
unfolding are_apart
apart_all at [] follow = refl
apart_all at (told ∷ results) follow =
    let here : told.index ≡ at = follow.0.0 in
    both (not (is_seen results told.index)) (are_apart results) (ap not (unseen_before (at + 1) told.index results follow.1 (omega (arith, here)))) (apart_all (at + 1) results follow.1)

none_failed : (at : ℕ) (results : List OpResult) → FollowOn at results → failed_indexes results ≡ []
unfolding failed_indexes
none_failed at [] follow = refl
none_failed at (told ∷ results) follow =
    ap (λ (b : Bool). if b then told.index ∷ failed_indexes results else failed_indexes results) follow.0.1 ∙ none_failed (at + 1) results follow.1

further_on : (at index found : ℕ) → found ≡ at → at ≤ index → (found ≡ index → ⊥) → at + 1 ≤ index
further_on at index found here from differs = elim (nat_lt at index) as (λ (b : Bool). nat_lt at index ≡ b → at + 1 ≤ index) [
  | true ↦ λ less. (let strict = ltb-true at index less in omega (arith, strict))
  | false ↦ λ less. (let over = ltb-false at index less in absurd (differs (omega (arith, here, from, over))))
] refl

seen_at : (at index : ℕ) (results : List OpResult) → FollowOn at results → at ≤ index → index < at + length results → is_seen results index ≡ true
seen_at at index [] follow from until = absurd (omega (arith, from, until))
seen_at at index (told ∷ results) follow from until = by_index (seen_at (at + 1) index results follow.1) (told.index == index) refl
  where
    by_index : (at + 1 ≤ index → index < at + 1 + length results → is_seen results index ≡ true) → (same : Bool) → (told.index == index) ≡ same → is_seen (told ∷ results) index ≡ true
    by_index later true is = ap (λ (b : Bool). b || is_seen results index) is
    by_index later false is =
        let further = further_on at index told.index follow.0.0 from (λ same. differ (sym is ∙ eq-eqb told.index index same)) in
        ap (λ (b : Bool). b || is_seen results index) is ∙ later further (omega (arith, until))

all_seen : (ops : ℕ) (seen : ℕ → Bool) → ((index : ℕ) → index < ops → seen index ≡ true) → are_all_seen ops seen ≡ true
unfolding are_all_seen
all_seen zero seen each = refl
all_seen (suc ops) seen each = both (seen ops) (are_all_seen ops seen) (each ops (omega arith)) (all_seen ops seen (λ index less. each index (omega (arith, less))))

ordered_none : (ordered : Bool) (results : List OpResult) → failed_indexes results ≡ [] → keep_order ordered results ≡ true
ordered_none true results none = ap (λ indexes. none_behind indexes results) none
ordered_none false results none = refl

ops_none : (ordered : Bool) (ops : ℕ) → ops_told ordered ops [] ≡ ops
ops_none true ops = refl
ops_none false ops = refl

module _ (rules : ResultRules) (results : List OpResult) (follow : FollowOn 0 results) where
  placed : length results ≤ rules.ops → are_placed rules.ops results ≡ true
  placed fits = both (are_within rules.ops results) (are_apart results) (within_all rules.ops 0 results follow (omega (arith, fits))) (apart_all 0 results follow)

  complete : length results ≡ rules.ops → are_complete rules results ≡ true
  complete long =
      let none = none_failed 0 results follow in
      let each : are_all_seen (ops_told rules.ordered rules.ops (failed_indexes results)) (is_seen results) ≡ true
      = ap (λ indexes. are_all_seen (ops_told rules.ordered rules.ops indexes) (is_seen results)) none ∙ ap (λ ops. are_all_seen ops (is_seen results)) (ops_none rules.ordered rules.ops)
      ∙ all_seen rules.ops (is_seen results) (λ index less. seen_at 0 index results follow (omega arith) (omega (arith, less, long))) in
      elim (rules.only_errors)
      as (λ (only : Bool). (if only then true else are_all_seen (ops_told rules.ordered rules.ops (failed_indexes results)) (is_seen results)) ≡ true) [ true ↦ refl | false ↦ each ]

  closing : length results ≡ rules.ops → (errors : ℕ) → errors ≡ 0 → closing_verdict rules errors results ≡ Last
  closing long errors none_counted =
      let none : length (failed_indexes results) ≡ errors = ap (λ (indexes : List ℕ). length indexes) (none_failed 0 results follow) ∙ sym none_counted in
      ap (λ (b : Bool). if b then (if are_complete rules results then Last else Breaks fault.Missing) else Breaks fault.Miscounted) (eq-eqb (length (failed_indexes results)) errors none)
      ∙ ap (λ (b : Bool). if b then Last else Breaks fault.Missing) (complete long)

-- a verdict by its tests
judged : (placed ordered ended : Bool) (closing going : PageVerdict) → placed ≡ true → ordered ≡ true
    → (if placed then (if ordered then (if ended then closing else going) else Breaks fault.Disordered) else Breaks fault.Misplaced) ≡ (if ended then closing else going)
judged placed ordered ended closing going is_placed is_ordered =
    ap (λ (b : Bool). if b then (if ordered then (if ended then closing else going) else Breaks fault.Disordered) else Breaks fault.Misplaced) is_placed
    ∙ ap (λ (b : Bool). if b then (if ended then closing else going) else Breaks fault.Disordered) is_ordered

-- the page that has the last of them ends the answer
last_is : (rules : ResultRules) (errors : ℕ) (first : Bool) (earlier : List OpResult) (page : ResultsPage) → FollowOn 0 (earlier ++ page.results) → length (earlier ++ page.results) ≡ rules.ops → errors ≡ 0
    → int_eq page.cursor (pos 0) ≡ true → verdict rules errors first earlier page ≡ Last
unfolding verdict
last_is rules errors first earlier page follow long none ended =
    let results = earlier ++ page.results in
    judged (are_placed rules.ops results) (keep_order rules.ordered results) (int_eq page.cursor (pos 0)) (closing_verdict rules errors results) (open_verdict first page.results)
    (placed rules results follow (omega (arith, long))) (ordered_none rules.ordered results (none_failed 0 results follow))
    ∙ ap (λ (b : Bool). if b then closing_verdict rules errors results else open_verdict first page.results) ended ∙ closing rules results follow long errors none

-- one before it leaves its cursor open
open_is : (rules : ResultRules) (errors : ℕ) (page : ResultsPage) → FollowOn 0 page.results → length page.results ≤ rules.ops → int_eq page.cursor (pos 0) ≡ false
    → verdict rules errors true [] page ≡ LeavesOpen
unfolding verdict
open_is rules errors page follow fits going =
    judged (are_placed rules.ops page.results) (keep_order rules.ordered page.results) (int_eq page.cursor (pos 0)) (closing_verdict rules errors page.results) (open_verdict true page.results)
    (placed rules page.results follow fits) (ordered_none rules.ordered page.results (none_failed 0 page.results follow))
    ∙ ap (λ (b : Bool). if b then closing_verdict rules errors page.results else open_verdict true page.results) going

-- ---- the fields of the reply
-- results of which each is natural
abbrev EachNatural : List Counted → Type 0
EachNatural [] = Unit {0}
EachNatural (result ∷ results) = IsNatural result × EachNatural results

joins_natural : (counts : Bool) (result : Counted) (results : List Counted) → IsNatural result → EachNatural results → EachNatural (kept_where counts (Some result) results)
joins_natural true result results one rest = (one, rest)
joins_natural false result results one rest = rest

kind_natural : (which : WriteKind) (writes : List PlacedWrite) (ran : List Statement) → AllNatural ran → EachNatural (results_of_kind which writes ran)
unfolding results_of_kind
kind_natural which [] ran all = tt
kind_natural which (write ∷ writes) [] all = tt
kind_natural which (write ∷ writes) (Kept result ∷ ran) all =
    joins_natural (is_kind which write.written.kind) result (results_of_kind which writes ran) all.0 (kind_natural which writes ran all.1)
kind_natural which (write ∷ writes) (Ran result ∷ ran) all =
    joins_natural (is_kind which write.written.kind) result (results_of_kind which writes ran) all.0 (kind_natural which writes ran all.1)
kind_natural which (write ∷ writes) (Failed code ∷ ran) all = absurd all.0

filter_natural : (passes : Counted → Bool) (results : List Counted) → EachNatural results → EachNatural (filter passes results)
filter_natural passes [] each = tt
filter_natural passes (result ∷ results) each = by_test (passes result) (filter_natural passes results each.1)
  where
    by_test : (test : Bool) → EachNatural (filter passes results) → EachNatural (cond test (result ∷ filter passes results) (filter passes results))
    by_test true rest = (each.0, rest)
    by_test false rest = rest

sum_up : (a b : ℤ) → pos 0 ≤ℤ a → pos 0 ≤ℤ b → pos 0 ≤ℤ (a +ℤ b)
sum_up a b first second = omega (arith, ints)

count_up : (count : ℕ) → pos 0 ≤ℤ pos count
count_up count = omega (arith, ints)

found_natural : (results : List Counted) → EachNatural results → pos 0 ≤ℤ sum_of (λ (result : Counted). result.n) results
unfolding sum_of
found_natural [] each = count_up 0
found_natural (result ∷ results) each = sum_up result.n (sum_of (λ (r : Counted). r.n) results) each.0.0 (found_natural results each.1)

changed_natural : (results : List Counted) → EachNatural results → pos 0 ≤ℤ sum_of (λ (result : Counted). result.modified) results
unfolding sum_of
changed_natural [] each = count_up 0
changed_natural (result ∷ results) each = sum_up result.modified (sum_of (λ (r : Counted). r.modified) results) each.0.1 (changed_natural results each.1)

count_some : (n : ℤ) → pos 0 ≤ℤ n → (count : ℤ) × (count_of n ≡ Some count)
count_some (pos count) within = (pos count, refl)
count_some (negsuc count) within = absurd (below count within)

no_errors : (ran : List Statement) → AllNatural ran → count_by is_failed ran ≡ 0
no_errors [] all = refl
no_errors (Kept result ∷ ran) all =
    let rest = no_errors ran all.1 in
    let step : count_by is_failed (Kept result ∷ ran) ≡ 0 + count_by is_failed ran = sum_by-cons (λ (s : Statement). cond (is_failed s) 1 0) (Kept result) ran in
    omega (arith, step, rest)
no_errors (Ran result ∷ ran) all =
    let rest = no_errors ran all.1 in
    let step : count_by is_failed (Ran result ∷ ran) ≡ 0 + count_by is_failed ran = sum_by-cons (λ (s : Statement). cond (is_failed s) 1 0) (Ran result) ran in
    omega (arith, step, rest)
no_errors (Failed code ∷ ran) all = absurd all.0

-- the namespace that the machine's cursors are asked for under
namespace_cut : cut BULK_NAMESPACE.now ≡ Some bulk_namespace
unfolding cut
namespace_cut = refl

namespace_read : (batch : List ℕ) (number : ℕ) (page : List Reply) → cursor_namespace (cursor_document batch number page) ≡ Some bulk_namespace
unfolding cursor_namespace needed
namespace_read batch number page = ap (option_and_then cut) (text_is BULK_NAMESPACE.now) ∙ namespace_cut

-- a page whose documents are read
page_is : (batch : List ℕ) (number : ℕ) (page : List Reply) (reply : Reply) (results : List OpResult)
    → value_of batch (cursor_document batch number page) ≡ Some (bson.Array (as_values page)) → value_of CURSOR.now reply ≡ Some (bson.Document (cursor_document batch number page))
    → op_results (as_values page) ≡ Some results → page_in batch reply ≡ Some (page_with (pos number) bulk_namespace results)
page_is batch number page reply results there at read =
    page_parts batch number page reply there at
    ∙ ap (λ found. page_chain found (cursor_namespace (cursor_document batch number page)) (Some (pos number))) read
    ∙ ap (λ found. page_chain (Some results) found (Some (pos number))) (namespace_read batch number page)

-- ---- the reply
module _ (page : Option ℕ) (cursors : List (Option (List Reply))) (writes : List PlacedWrite) (statements : List Statement) (all : AllNatural statements) where
  abbrev pub reply : Reply
  reply = write_reply command.BulkWrite page None cursors writes statements

  abbrev documents : List Reply
  documents = rows 0 writes statements

  -- its command was done
  pub reply_done : said reply ≡ done
  unfolding said write_reply bson.out-Bson out
  reply_done = refl

  errors_read : needed natural_of N_ERRORS.now reply ≡ Some 0
  unfolding write_reply needed
  errors_read = number_read (pos (count_by is_failed statements)) ∙ ap (λ (count : ℕ). Some count) (no_errors statements all)

  concern_read : reply_concern_error reply ≡ Some None
  unfolding write_reply optional_value
  concern_read = refl

  labels_read : labels_in reply ≡ Some []
  unfolding write_reply labels_in optional_value
  labels_read = refl

  counts_some : (counts : SummaryBulkWriteResult) × (counts_in reply ≡ Some counts)
  unfolding write_reply counts_in
  counts_some =
      let updates = kind_natural kind.Update writes statements all in
      let inserted = count_some (inserted_in writes statements) (found_natural (results_of_kind kind.Insert writes statements) (kind_natural kind.Insert writes statements all)) in
      let matched = count_some (matched_in writes statements) (found_natural _ (filter_natural (λ (result : Counted). is_none result.upserted) (results_of_kind kind.Update writes statements) updates)) in
      let modified = count_some (modified_in writes statements) (changed_natural (results_of_kind kind.Update writes statements) updates) in
      let upserted = count_some (upserted_in writes statements) (count_up _) in
      let deleted = count_some (deleted_in writes statements) (found_natural (results_of_kind kind.Delete writes statements) (kind_natural kind.Delete writes statements all)) in
      let inserted_is = count_read reply N_INSERTED.now (inserted_in writes statements) refl ∙ inserted.1 in
      let matched_is = count_read reply N_MATCHED.now (matched_in writes statements) refl ∙ matched.1 in
      let modified_is = count_read reply N_MODIFIED.now (modified_in writes statements) refl ∙ modified.1 in
      let upserted_is = count_read reply N_UPSERTED.now (upserted_in writes statements) refl ∙ upserted.1 in
      let deleted_is = count_read reply N_DELETED.now (deleted_in writes statements) refl ∙ deleted.1 in (
        counts_with inserted.0 matched.0 modified.0 upserted.0 deleted.0,
        (λ i. counts_chain (deleted_is i) (upserted_is i) (modified_is i) (matched_is i) (inserted_is i)),
      )

  page_read : (results : List OpResult) → op_results (as_values (first_page page documents)) ≡ Some results
      → page_in FIRST_BATCH.now reply ≡ Some (page_with (pos (cursor_number (pages_left page documents) cursors)) bulk_namespace results)
  unfolding write_reply
  page_read results read = page_is FIRST_BATCH.now (cursor_number (pages_left page documents) cursors) (first_page page documents) reply results refl refl read

  -- the fields as they are read
  reply_with : (results : List OpResult) → op_results (as_values (first_page page documents)) ≡ Some results
      → bulk_reply reply ≡ Some (fields_with 0 counts_some.0 None [] (page_with (pos (cursor_number (pages_left page documents) cursors)) bulk_namespace results))
  unfolding bulk_reply
  reply_with results read =
      let counts_are = counts_some.1 in
      let page_are = page_read results read in
      λ i. option_and_then (λ errors.
      option_and_then (λ counts.
      option_and_then (λ concern.
      option_and_then (λ labels.
      option_map (λ found. fields_with errors counts concern labels found)
      (page_are i)) (labels_read i)) (concern_read i)) (counts_are i)) (errors_read i)

  -- ---- what a batch reads in it
  module _ {R : Type 0} (batch : BulkBatch R) (whole : length documents ≡ length batch.ops) where
    -- what all documents are read as
    results_all : AreRead 0 documents
    results_all = rows_are 0 writes statements all

    parts : Parted (first_page page documents) (pages_left page documents) results_all.results
    parts =
        parted (first_page page documents) (pages_left page documents) results_all.results
        (ap (λ found. op_results (as_values found)) (pages_whole page documents) ∙ results_all.is)

    abbrev found : BulkReply
    found = fields_with 0 counts_some.0 None [] (page_with (pos (cursor_number (pages_left page documents) cursors)) bulk_namespace parts.front)

    found_is : bulk_reply reply ≡ Some found
    found_is = reply_with parts.front parts.front_is

    follow_all : FollowOn 0 (parts.front ++ parts.rest)
    follow_all = subst (FollowOn 0) parts.whole results_all.follow

    long_all : length (parts.front ++ parts.rest) ≡ length batch.ops
    long_all = ap (λ (results : List OpResult). length results) (sym parts.whole) ∙ results_all.long ∙ whole

    follow_first : FollowOn 0 parts.front
    follow_first = follow_front 0 parts.front parts.rest follow_all

    long_first : length parts.front ≤ length batch.ops
    long_first = let all_long = long_all in let both_long = length-append parts.front parts.rest in omega (arith, all_long, both_long)

    -- nothing is left of a reply that has no cursor
    rest_none : int_eq found.page.cursor (pos 0) ≡ true → parts.rest ≡ []
    unfolding op_results
    rest_none ended = by_left (pages_left page documents) (none_is_left (pages_left page documents) cursors ended) parts.rest_is
      where
        by_left : (left : List Reply) → left ≡ [] → op_results (as_values left) ≡ Some parts.rest → parts.rest ≡ []
        by_left [] none read = sym (some_is_some [] parts.rest read)
        by_left (one ∷ left) none read = absurd (let e : ◌≡◌ {A = List Reply} (one ∷ left) [] = none in cc)

    first_last : int_eq found.page.cursor (pos 0) ≡ true → first_verdict batch found ≡ Last
    first_last ended =
        let same : parts.front ++ parts.rest ≡ parts.front = ap (λ rest. parts.front ++ rest) (rest_none ended) ∙ append-nil parts.front in
        last_is (rules_of batch) 0 true [] found.page follow_first (ap (λ (results : List OpResult). length results) (sym same) ∙ long_all) refl ended

    first_open : int_eq found.page.cursor (pos 0) ≡ false → first_verdict batch found ≡ LeavesOpen
    first_open going = open_is (rules_of batch) 0 found.page follow_first long_first going

    -- what was read tells of no failure
    clean : (results : List OpResult) → FollowOn 0 results → is_clean (record { reply = found; results = results }) ≡ true
    clean results follow = ap (λ indexes. are_none indexes && true) (none_failed 0 results follow)

    -- no error is read in it
    pub no_first_error : (error : Error) → AnswersBulk batch (Ok reply ∷ []) (Err error) → ⊥
    no_first_error error answers = by_ended (int_eq found.page.cursor (pos 0)) refl (subst (λ fields. OpensBulk batch fields (Err error)) found_is answers)
      where
        by_ended : (ended : Bool) → int_eq found.page.cursor (pos 0) ≡ ended → OpensBy (first_verdict batch found) batch found (Err error) → ⊥
        by_ended true is opens =
            let last = subst (λ judged. OpensBy judged batch found (Err error)) (first_last is) opens in differ (sym last.0 ∙ clean parts.front follow_first)
        by_ended false is opens =
            let goes = subst (λ judged. OpensBy judged batch found (Err error)) (first_open is) opens in
            let e : ◌≡◌ {A = Result (Reading R) Error} (Err error) (Ok (Further found.page.cursor found.page.namespace)) = goes in cc

    -- where it leaves its cursor open
    pub record IsLeftOpen (cursor : ℤ) (namespace : Namespace) : Type 0 where
      pub cursor_is : cursor ≡ pos (cursor_number (pages_left page documents) cursors)
      pub namespace_is : namespace ≡ bulk_namespace
      pub going : int_eq cursor (pos 0) ≡ false

    pub left_open : (cursor : ℤ) (namespace : Namespace) → AnswersBulk batch (Ok reply ∷ []) (Ok (Further cursor namespace)) → IsLeftOpen cursor namespace
    left_open cursor namespace answers = by_ended (int_eq found.page.cursor (pos 0)) refl (subst (λ fields. OpensBulk batch fields (Ok (Further cursor namespace))) found_is answers)
      where
        by_ended : (ended : Bool) → int_eq found.page.cursor (pos 0) ≡ ended → OpensBy (first_verdict batch found) batch found (Ok (Further cursor namespace)) → IsLeftOpen cursor namespace
        by_ended true is opens = absurd (subst (λ judged. OpensBy judged batch found (Ok (Further cursor namespace))) (first_last is) opens)
        by_ended false is opens =
            let goes = subst (λ judged. OpensBy judged batch found (Ok (Further cursor namespace))) (first_open is) opens in
            let e : ◌≡◌ {A = Result (Reading R) Error} (Ok (Further cursor namespace)) (Ok (Further found.page.cursor found.page.namespace)) = goes in
            let cursor_is : cursor ≡ found.page.cursor = cc e in
            let namespace_is : namespace ≡ found.page.namespace = cc e in
            record { cursor_is = cursor_is; namespace_is = namespace_is; going = ap (λ c. int_eq c (pos 0)) cursor_is ∙ is }

    -- ---- the page behind it, of all that was left
    abbrev next : Reply
    next = page_reply_of None (Some (pages_left page documents))

    next_is : next_page next ≡ Some (page_with (pos 0) bulk_namespace parts.rest)
    next_is = page_is NEXT_BATCH.now 0 (pages_left page documents) next parts.rest refl refl parts.rest_is

    -- no error is read in both
    pub no_second_error : int_eq (pos (cursor_number (pages_left page documents) cursors)) (pos 0) ≡ false → (error : Error) → AnswersBulk batch (Ok next ∷ Ok reply ∷ []) (Err error) → ⊥
    no_second_error going error answers =
        let last_page = page_with (pos 0) bulk_namespace parts.rest in
        let comes = subst (λ read. ComesBehind batch read next (Err error)) (opened_read batch reply found found_is (first_open going)) answers in
        let goes = subst (λ fields. GoesOnBulk batch (first_read found) next fields (Err error)) next_is comes in
        let last = last_is (rules_of batch) 0 false parts.front last_page follow_all long_all refl refl in
        let ends = subst (λ judged. GoesOnBy judged batch (first_read found) next last_page (Err error)) last goes in
        differ (sym ends.0 ∙ clean (parts.front ++ parts.rest) follow_all)

-- the command of a page was done
pub page_done : (left : List Reply) → said (page_reply_of None (Some left)) ≡ done
unfolding said bson.out-Bson out
page_done left = refl

-- of a reply whose command was done no error is read but want of memory
pub done_memory : (bytes : List ℕ) (reply : Reply) → said reply ≡ done → Spells reply bytes → (failure : Error) → ReadsResponse bytes (Err failure) → kind_of failure ≡ error.Memory
done_memory bytes reply says spelled failure reads =
    only_memory (kill_spec (at_namespace bulk_namespace) (pos 0)) 0 bytes reply says spelled (λ other never. absurd never) failure (inl reads)
